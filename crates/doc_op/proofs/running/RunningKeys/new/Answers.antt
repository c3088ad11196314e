use Rattle.std.proofs.Common.{◌≡◌, Bool, false, ap, sym, subst}
use Rattle.doc_items.specs.Maps.{Key, Map, strings}
use Rattle.doc_items.specs.Changes.{none_running}
use Rattle.doc_op.specs.Running.{Follows, on_at}
use Rattle.doc_op.proofs.Switches.{follows-none, off-none}
use Rattle.doc_op.proofs.running.RunningKeys.new.Goals as goal

pub returns-clause-none : goal.returns-clause-none
returns-clause-none c = subst (λ (m : Map Bool). Follows none_running m) (ap strings (sym c.new.ensures.empty)) follows-none

pub returns-clause-off : goal.returns-clause-off
returns-clause-off c = subst (λ (m : Map Bool). (q : Key) → on_at m q ≡ false) (ap strings (sym c.new.ensures.empty)) off-none
