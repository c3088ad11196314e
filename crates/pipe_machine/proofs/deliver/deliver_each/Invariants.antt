use Rattle.std.proofs.Common.{◌≡◌, ◌++◌, map, take, drop}
use Rattle.std.specs.List.{All}
use Rattle.wavelet_shelf.specs.Shelves.{hosted_of}
use Rattle.pipe_machine.specs.Due.{AreToldFrom, AreTheDue, reach}
use Rattle.pipe_machine.specs.Lines.{lines_of}
use Rattle.pipe_machine.specs.Runs.{seats_in}
use Rattle.hosted_copies.specs.Shown.{shown_in}
use Rattle.pipe_machine.specs.Seats.{seats_sent, seats_after, IsPlain}
use Rattle.pipe_machine.specs.Updates.{IsLast}
use Rattle.pipe_machine.proofs.deliver.deliver_each.Given as goal

abbrev pub invariant-loop-place : goal.invariant-loop-place
invariant-loop-place g l = record {
  sent : l.fn.out.items ++ lines_of (seats_sent (shown_in (hosted_of l.shelf)) (seats_in l.fn.runs)) ≡ l.out.items ++ lines_of (seats_sent (shown_in (hosted_of l.shelf)) (drop (reach 0 (take l.place-index l.places)) (seats_in l.runs)));
  after : seats_after (shown_in (hosted_of l.shelf)) (seats_in l.fn.runs) ≡ take (reach 0 (take l.place-index l.places)) (seats_in l.runs) ++ seats_after (shown_in (hosted_of l.shelf)) (drop (reach 0 (take l.place-index l.places)) (seats_in l.runs));
  due : AreTheDue (shown_in (hosted_of l.shelf)) (reach 0 (take l.place-index l.places)) (drop l.place-index l.places) (seats_in l.runs);
  told : AreToldFrom (shown_in (hosted_of l.shelf)) 0 (reach 0 (take l.place-index l.places)) (seats_in l.runs);
  last : IsLast (shown_in (hosted_of l.shelf)) l.last;
  names : map (λ s. s.name) (seats_in l.runs) ≡ map (λ s. s.name) (seats_in l.fn.runs);
  plain : All (λ s. IsPlain s.session) (seats_in l.runs);
}
