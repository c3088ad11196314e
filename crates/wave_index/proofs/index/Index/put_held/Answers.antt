use Rattle.std.proofs.Common.{◌≡◌, ◌++◌, List, None, Some, sym, ap, subst, ◌∙◌, append-nil}
use Rattle.std.specs.FinMap as finite
use Rattle.wave_index.specs.Taken.{Histories, AreNamed}
use Rattle.wave_index.specs.declared.answers.Hit.{Hit}
use Rattle.wave_index.proofs.Entries.{get-entries, lent}
use Rattle.wave_index.proofs.Keeping.{get_as, ok_to, own_counts}
use Rattle.wave_index.proofs.Taken.{named_get}
use Rattle.wave_index.proofs.index.Index.put_held.Goals as goal

pub put_held-requires : goal.put_held-requires
put_held-requires c w d =
    let m = c.args.self.now in
    let named = subst (λ (z : Histories). AreNamed z) c.self.view_is c.self.invariant.named in
    let there = lent c.self.inside.wavelets m c.args.name.now c.in-Some.wavelet.now c.self.view_is c.in-Some.ensures.value in
    c.requires w c.in-Some.wavelet.now.name d ∙ own_counts m c.args.name.now c.in-Some.wavelet.now there (named_get m c.args.name.now c.in-Some.wavelet.now named there) w d

pub returns-in-Some : goal.returns-in-Some
returns-in-Some c =
    let m = c.args.self.now in
    let there = lent c.self.inside.wavelets m c.args.name.now c.in-Some.wavelet.now c.self.view_is c.in-Some.ensures.value in
    ok_to c.put_held.result (λ h. h ∙ ap (λ (l : List Hit). c.args.hits.now.items ++ l) (sym (get_as m c.args.user.now c.args.word.now c.args.name.now (Some c.in-Some.wavelet.now) there))) c.put_held.ensures

pub returns-in-None : goal.returns-in-None
returns-in-None c =
    let m = c.args.self.now in
    let none : finite.get m c.args.name.now ≡ None = sym (ap (λ (n : Histories). finite.get n c.args.name.now) c.self.view_is) ∙ get-entries c.self.inside.wavelets c.args.name.now ∙ sym c.in-None.ensures.value in
    sym (append-nil c.args.hits.now.items) ∙ ap (λ (l : List Hit). c.args.hits.now.items ++ l) (sym (get_as m c.args.user.now c.args.word.now c.args.name.now None none))
