use Rattle.std.proofs.Common.{◌≡◌, ◌+◌, ℕ, IfSome, slice_get, sym, ap, subst, ◌∙◌}
use Rattle.std.specs.List.{AllByRecursion}
use Rattle.wavelet_shelf.specs.Entries.{faults_in}
use Rattle.wavelet_shelf.specs.Parts.{fault_sums, IsPart, IsLike}
use Rattle.wavelet_shelf.specs.Shelves.{fault_sum}
use Rattle.wavelet_shelf.proofs.Parting.{all_fit, are_parts, taken_back}
use Rattle.wavelet_shelf.proofs.shelf.Shelf.divide.Goals as goal

pub spread-requires-clause-fit : goal.spread-requires-clause-fit
spread-requires-clause-fit g c =
    let s = c.args.self in
    all_fit s.folder s.containers.map.entries c.as_mut_slice.result.now s.fit (subst (AllByRecursion (IsLike s.folder)) (sym c.as_mut_slice.ensures.value) c.in_ok-parts.ensures.like)

pub returns-clause-parts : goal.returns-clause-parts
returns-clause-parts g c =
    let s = c.args.self in
    let lent = c.as_mut_slice.result.now in
    let items = c.in_ok-parts.parts.items in
    subst (λ l. (i : ℕ) → IfSome (slice_get l i) (IsPart s i)) (sym (taken_back c.in_ok-parts.parts.len c.spread.new.shelves items c.in_ok-parts.parts.ok.0 (c.spread.ensures.sixteen ∙ sym c.in_ok-parts.ensures.sixteen)))
    (are_parts s lent c.spread.new.shelves (subst (AllByRecursion (IsLike s.folder)) (sym c.as_mut_slice.ensures.value) c.in_ok-parts.ensures.like) c.in_ok-spread.ensures.parts)

pub returns-clause-counted : goal.returns-clause-counted
returns-clause-counted g c =
    let s = c.args.self in
    let items = c.in_ok-parts.parts.items in
    let before = ap fault_sums c.as_mut_slice.ensures.value ∙ c.in_ok-parts.ensures.counted in
    subst (λ l. fault_sums l ≡ fault_sum s) (sym (taken_back c.in_ok-parts.parts.len c.spread.new.shelves items c.in_ok-parts.parts.ok.0 (c.spread.ensures.sixteen ∙ sym c.in_ok-parts.ensures.sixteen)))
    (c.in_ok-spread.ensures.parts.counted ∙ ap (λ m. m + faults_in s.containers.map.entries) before)
