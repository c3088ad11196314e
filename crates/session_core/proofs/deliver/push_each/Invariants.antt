use Rattle.std.proofs.Common.{◌≡◌, ◌++◌, map, drop}
use Rattle.session_core.specs.Access.{shown_by}
use Rattle.session_core.specs.Deliveries.{hosts_sent, hosts_told}
use Rattle.session_core.specs.News.{messages_of, StayPlaced}
use Rattle.session_core.proofs.deliver.push_each.Given as goal

abbrev pub invariant-loop-name : goal.invariant-loop-name
invariant-loop-name g l = record {
  sent : messages_of l.fn.out.items ++ hosts_sent (shown_by g.C.Copies l.copies) l.domain l.fn.tellings (map (λ n. n.now) l.names) ≡ messages_of l.out.items ++ hosts_sent (shown_by g.C.Copies l.copies) l.domain l.tellings (map (λ n. n.now) (drop l.name-index l.names));
  placed : StayPlaced (shown_by g.C.Copies l.copies) l.fn.out.items l.out.items;
  told : hosts_told (shown_by g.C.Copies l.copies) l.domain l.fn.tellings (map (λ n. n.now) l.names) ≡ hosts_told (shown_by g.C.Copies l.copies) l.domain l.tellings (map (λ n. n.now) (drop l.name-index l.names));
}
