use Rattle.std.proofs.Common.{◌≡◌, ◌++◌, map, drop}
use Rattle.wavelet_shelf.specs.Shelves.{hosted_of}
use Rattle.session_core.specs.News.{messages_of}
use Rattle.pipe_machine.specs.Lines.{sent_to, lines_of}
use Rattle.hosted_copies.specs.Shown.{shown_in}
use Rattle.pipe_machine.specs.Updates.{IsLast}
use Rattle.pipe_machine.proofs.deliver.deliver_to.Given as goal

abbrev pub invariant-loop-item : goal.invariant-loop-item
invariant-loop-item g l = record {
  sent : l.fn.out.items ++ lines_of (map (sent_to l.seat.name) (messages_of l.item-items)) ≡ l.out.items ++ lines_of (map (sent_to l.seat.name) (messages_of (drop l.item-index l.item-items)));
  last : IsLast (shown_in (hosted_of l.shelf)) l.last;
}
