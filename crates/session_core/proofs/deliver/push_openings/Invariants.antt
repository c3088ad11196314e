use Rattle.std.proofs.Common.{◌≡◌, ◌++◌, drop}
use Rattle.std.specs.List.{AllByRecursion}
use Rattle.session_core.specs.Access.{shown_by}
use Rattle.session_core.specs.Current.{IsWholeTo}
use Rattle.session_core.specs.Deliveries.{openings_sent}
use Rattle.session_core.specs.News.{messages_of, StayPlaced}
use Rattle.session_core.proofs.deliver.push_openings.Given as goal

abbrev pub invariant-loop-opening : goal.invariant-loop-opening
invariant-loop-opening g l = record {
  sent : messages_of l.fn.out.items ++ openings_sent (shown_by g.C.Copies l.copies) l.user l.list ≡ messages_of l.out.items ++ openings_sent (shown_by g.C.Copies l.copies) l.user (drop l.opening-index l.list);
  placed : StayPlaced (shown_by g.C.Copies l.copies) l.fn.out.items l.out.items;
  whole : AllByRecursion (IsWholeTo (shown_by g.C.Copies l.copies) l.user) (drop l.opening-index l.list) → AllByRecursion (IsWholeTo (shown_by g.C.Copies l.copies) l.user) l.list;
}
