use Rattle.std.proofs.Common.{◌≡◌, Some, length, slice_get, refl, sym, ap, add-one}
use Rattle.std.proofs.lemmas.Option.{slice_get_read}
use Rattle.delta_history.proofs.Finding.{lt_false}
use Rattle.load_script.specs.Loads.{settles}
use Rattle.load_script.specs.Scripts.{load_of}
use Rattle.load_script.proofs.Stepping.{on_ok, moved_there, moved_past}
use Rattle.load_script.proofs.script.Script.settle_one.Goals as goal

pub returns-in-Some : goal.returns-in-Some
returns-in-Some c =
    let l = load_of c.args.self.now in
    let items = c.args.self.now.followers.items in
    let p = c.in-Some.follower.now in
    let item = c.in-Some.ensures.item in
    let got : slice_get items c.args.who ≡ Some p = slice_get_read items (length items) c.args.who p refl item.3.0 item.1 in
    let ran = rw add-one at c.settle.ensures in
    on_ok c.settle.result _ _ (λ e. moved_there c.args.who (λ m. (l.draws, settles c.args.count m)) l items p c.settle.new.follower l.draws c.settle.new.host refl got (ap (λ m. (l.draws, m)) e)) ran

pub returns-in-None : goal.returns-in-None
returns-in-None c =
    let l = load_of c.args.self.now in
    let items = c.args.self.now.followers.items in
    sym (moved_past c.args.who (λ m. (l.draws, settles c.args.count m)) l items refl (lt_false c.args.who (length items) (sym c.in-None.ensures.item.0)))
