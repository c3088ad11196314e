use Rattle.std.proofs.Common.{◌≡◌, Some, length, slice_get, refl, sym, ap}
use Rattle.std.proofs.lemmas.Option.{slice_get_read}
use Rattle.delta_history.proofs.Finding.{lt_false}
use Rattle.load_script.specs.Loads.{founding}
use Rattle.load_script.specs.Scripts.{load_of}
use Rattle.load_script.proofs.Stepping.{on_ok, moved_there, moved_past}
use Rattle.load_script.proofs.script.Script.found_first.Goals as goal

pub returns-in-Some : goal.returns-in-Some
returns-in-Some c =
    let l = load_of c.args.self.now in
    let items = c.args.self.now.followers.items in
    let p = c.in-Some.follower.now in
    let item = c.in-Some.ensures.item in
    let got : slice_get items 0 ≡ Some p = slice_get_read items (length items) 0 p refl item.3.0 item.1 in
    on_ok c.found.result _ _ (λ e. moved_there 0 (λ m. (l.draws, founding m)) l items p c.found.new.follower l.draws c.found.new.host refl got (ap (λ m. (l.draws, m)) e)) c.found.ensures

pub returns-in-None : goal.returns-in-None
returns-in-None c =
    let l = load_of c.args.self.now in
    let items = c.args.self.now.followers.items in
    sym (moved_past 0 (λ m. (l.draws, founding m)) l items refl (lt_false 0 (length items) (sym c.in-None.ensures.item.0)))
