use Rattle.std.proofs.Common.{◌≡◌, ◌++◌, drop}
use Rattle.session_core.specs.Access.{shown_by}
use Rattle.session_core.specs.Deliveries.{outcomes_sent}
use Rattle.session_core.specs.News.{messages_of, StayPlaced}
use Rattle.session_core.proofs.deliver.push_outcomes.Given as goal

abbrev pub invariant-loop-waiting : goal.invariant-loop-waiting
invariant-loop-waiting g l = record {
  sent : messages_of l.fn.out.items ++ outcomes_sent (shown_by g.C.Copies l.copies) l.list ≡ messages_of l.out.items ++ outcomes_sent (shown_by g.C.Copies l.copies) (drop l.waiting-index l.list);
  placed : StayPlaced (shown_by g.C.Copies l.copies) l.fn.out.items l.out.items;
}
