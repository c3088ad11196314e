use Rattle.std.proofs.Common.{sym, ap, subst, ◌∙◌}
use Rattle.std.specs.FinMap as finite
use Rattle.wave_index.specs.Counts.{counts_in}
use Rattle.wave_index.specs.Taken.{Histories, AreNamed}
use Rattle.wave_index.proofs.Keeping.{counts_alike, no_histories}
use Rattle.wave_index.proofs.Taken.{named_none}
use Rattle.wave_index.proofs.index.Index.new.Goals as goal

pub invariant_of-result : goal.invariant_of-result
invariant_of-result c =
    let empty = ap finite.from_entries c.new.ensures.empty in
    record {
      named = subst (λ (m : Histories). AreNamed m) (sym empty) named_none;
      words = counts_alike c.new-2.result.places (λ w n d. 0) (counts_in (finite.from_entries c.new.result.entries)) (λ w n d. no_histories w n d ∙ ap (λ (m : Histories). counts_in m w n d) (sym empty)) c.new-2.ensures;
    }
