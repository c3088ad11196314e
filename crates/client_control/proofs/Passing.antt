-- The loop over the entries that are taken past operations.
--     onto done r            what is done, in front of what the rest gives
--     IsRebasing             so much of the entries is done
use Rattle.std.proofs.Common.{◌≡◌, List, [], ◌∷◌, ◌++◌, map, Option, None, Some, refl, sym, ap, ◌∙◌, append_assoc, append-nil, option_and_then}
use Rattle.std.specs.List.{All}
use Rattle.std.specs.Option.{option_map}
use Rattle.std.proofs.lemmas.List.Elements.{All-cons, All-nil, All-append}
use Rattle.wavelet_op.specs.Acts.{Act, meanings, AreNormal, AreStructuredActs}
use Rattle.wavelet_op.specs.declared.op.WaveletOp.{WaveletOp}
use Rattle.wavelet_op.specs.declared.pair.OpsPair.{OpsPair}
use Rattle.wavelet_op.proofs.Passes.{split_first}
use Rattle.delta_history.proofs.Points.{and_then_is}
use Rattle.follower_rules.specs.Receiving.{past, rebase}
use Rattle.client_control.specs.declared.past.Rebased.{Rebased}
use Rattle.client_control.specs.Steps.{AreStructured, IsPair, IsRebased}

abbrev pub Outcome : Type 0
Outcome = Option (List (List Act) × List Act)

abbrev pub onto : List (List Act) → Outcome → Outcome
onto done None = None
onto done (Some r) = Some (done ++ r.0, r.1)

pub record IsRebasing (entries : List (List WaveletOp)) (ops : List WaveletOp) (done : List (List WaveletOp)) (left : List WaveletOp) (rest : List (List WaveletOp)) : Type 0 where
  pub is : rebase (map meanings entries) (meanings ops) ≡ onto (map meanings done) (rebase (map meanings rest) (meanings left))
  pub normal : All AreNormal done
  pub rest_structured : AreStructured rest
  pub left_structured : AreStructuredActs (meanings left)

onto_none : (r : Outcome) → r ≡ onto [] r
onto_none None = refl
onto_none (Some r) = refl

pub rebasing_start : (entries : List (List WaveletOp)) (ops : List WaveletOp) → AreStructured entries → AreStructuredActs (meanings ops) → IsRebasing entries ops [] ops entries
rebasing_start entries ops s t = record { is = onto_none (rebase (map meanings entries) (meanings ops)); normal = All-nil AreNormal; rest_structured = s; left_structured = t }

onto_more : (done : List (List Act)) (x : List Act) (r : Outcome) → onto done (option_map (λ r. (x ∷ r.0, r.1)) r) ≡ onto (done ++ x ∷ []) r
onto_more done x None = refl
onto_more done x (Some r) = ap (λ z. Some (z, r.1)) (sym (append_assoc done (x ∷ []) r.0))

map_more : (done : List (List WaveletOp)) (x : List WaveletOp) → map meanings (done ++ x ∷ []) ≡ map meanings done ++ meanings x ∷ []
map_more [] x = refl
map_more (d ∷ done) x = ap (λ z. meanings d ∷ z) (map_more done x)

pub rebasing_step : (entries : List (List WaveletOp)) (ops : List WaveletOp) (done : List (List WaveletOp)) (left entry : List WaveletOp) (rest : List (List WaveletOp)) (p : OpsPair) → IsRebasing entries ops done left (entry ∷ rest) → IsPair entry left p → IsRebasing entries ops (done ++ p.later ∷ []) p.earlier rest
rebasing_step entries ops done left entry rest p h k =
    let stepped : rebase (map meanings (entry ∷ rest)) (meanings left) ≡ option_map (λ r. (meanings p.later ∷ r.0, r.1)) (rebase (map meanings rest) (meanings p.earlier)) = and_then_is (past (meanings entry) (meanings left)) (λ q. option_map (λ r. (q.0 ∷ r.0, r.1)) (rebase (map meanings rest) q.1)) (meanings p.later, meanings p.earlier) k.is in
    record {
      is = h.is ∙ ap (onto (map meanings done)) stepped ∙ onto_more (map meanings done) (meanings p.later) (rebase (map meanings rest) (meanings p.earlier)) ∙ ap (λ z. onto z (rebase (map meanings rest) (meanings p.earlier))) (sym (map_more done p.later));
      normal = All-append AreNormal done (p.later ∷ []) h.normal (All-cons AreNormal p.later [] k.later_normal (All-nil AreNormal));
      rest_structured = (split_first (λ o. AreStructuredActs (meanings o)) entry rest h.rest_structured).1;
      left_structured = k.earlier_structured;
    }

pub rebasing_asks : (entries : List (List WaveletOp)) (ops : List WaveletOp) (done : List (List WaveletOp)) (left entry : List WaveletOp) (rest : List (List WaveletOp)) → IsRebasing entries ops done left (entry ∷ rest) → AreStructuredActs (meanings entry)
rebasing_asks entries ops done left entry rest h = (split_first (λ o. AreStructuredActs (meanings o)) entry rest h.rest_structured).0

pub rebasing_none : (entries : List (List WaveletOp)) (ops : List WaveletOp) (done : List (List WaveletOp)) (left entry : List WaveletOp) (rest : List (List WaveletOp)) → IsRebasing entries ops done left (entry ∷ rest) → past (meanings entry) (meanings left) ≡ None → rebase (map meanings entries) (meanings ops) ≡ None
rebasing_none entries ops done left entry rest h k = h.is ∙ ap (λ o. onto (map meanings done) (option_and_then (λ q. option_map (λ r. (q.0 ∷ r.0, r.1)) (rebase (map meanings rest) q.1)) o)) k

pub rebasing_end : (entries : List (List WaveletOp)) (ops : List WaveletOp) (p : Rebased) → IsRebasing entries ops p.entries.items p.left [] → IsRebased entries ops p
rebasing_end entries ops p h = record { is = h.is ∙ ap (λ z. Some (z, meanings p.left)) (append-nil (map meanings p.entries.items)); normal = h.normal }
