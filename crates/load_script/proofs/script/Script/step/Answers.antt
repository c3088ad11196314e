use Rattle.std.proofs.Common.{◌≡◌, Some, length, slice_get, refl, sym}
use Rattle.std.proofs.lemmas.Option.{slice_get_read}
use Rattle.delta_history.proofs.Finding.{lt_false}
use Rattle.load_script.specs.Scripts.{load_of}
use Rattle.load_script.proofs.Stepping.{on_ok, IsDrawn, stepped, stepped_past}
use Rattle.load_script.proofs.script.Script.step.Goals as goal

pub returns-in-Some : goal.returns-in-Some
returns-in-Some c =
    let l = load_of c.args.self.now in
    let items = c.args.self.now.followers.items in
    let who = c.below-who.result in
    let p = c.in-Some.follower.now in
    let item = c.in-Some.ensures.item in
    let got : slice_get items who ≡ Some p = slice_get_read items (length items) who p refl item.3.0 item.1 in
    let drawn : IsDrawn c.args.time who c.below-who.new.self c.below.new.self c.below.result c.of-choice.result l items = record { list = refl; is_who = c.below-who.ensures.value; first = c.below-who.ensures.next; number = c.below.ensures.value; is_choice = c.of-choice.ensures; second = c.below.ensures.next } in
    on_ok c.turn.result _ _ (λ e. stepped c.args.time who c.below-who.new.self c.below.new.self c.below.result c.of-choice.result l items p c.turn.new.follower c.turn.new.draws c.turn.new.host drawn got e) c.turn.ensures

pub returns-in-None : goal.returns-in-None
returns-in-None c =
    let l = load_of c.args.self.now in
    let items = c.args.self.now.followers.items in
    let who = c.below-who.result in
    let drawn : IsDrawn c.args.time who c.below-who.new.self c.below.new.self c.below.result c.of-choice.result l items = record { list = refl; is_who = c.below-who.ensures.value; first = c.below-who.ensures.next; number = c.below.ensures.value; is_choice = c.of-choice.ensures; second = c.below.ensures.next } in
    stepped_past c.args.time who c.below-who.new.self c.below.new.self c.below.result c.of-choice.result l items drawn (lt_false who (length items) (sym c.in-None.ensures.item.0))
