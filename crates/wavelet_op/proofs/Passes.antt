-- One operation on its way through others, one step after the other.
--     IsPassing l0 es0 n l passed rest      what is to come, with what was passed in front of it, is the whole
use Rattle.std.proofs.Common.{◌≡◌, ℕ, ◌+◌, List, [], ◌∷◌, ◌++◌, length, Result, Ok, Err, refl, sym, ap, ◌∙◌, arith, append_assoc, length-append, append-nil}
use Rattle.std.specs.List.{All}
use Rattle.std.proofs.lemmas.List.Elements.{All-cons, All-nil, All-append, All-from_recursion, recursion_from_All}
use Rattle.wavelet_op.specs.Acts.{Act, IsStructuredAct}
use Rattle.wavelet_op.specs.Grids.{and_next, earlier_front, at_index, pass_one}
use Rattle.wavelet_op.specs.Results.{Refuses}
use Rattle.wavelet_op.specs.declared.fault.WaveletFault.{WaveletFault}
use Rattle.wavelet_op.specs.declared.fault.WaveletFault.TheVariants.{OpInvalid, CountTooLarge, Conflict, DontFit, Memory}
use Rattle.wavelet_op.proofs.Crossings.{structured_step}
use Rattle.wavelet_op.specs.Passing.{act_held, acts_held, IsSettled, earlier_fronts, IsCrossed, IsPassed}
use Rattle.wavelet_op.specs.Transform.{Refusal, bounded}
use Rattle.wavelet_op.specs.declared.held.Held.{Held}

pub record IsPassing (l0 : Act) (es0 : List Act) (n : ℕ) (l : Held) (passed rest : List Held) : Type 0 where
  pub is : pass_one bounded l0 es0 ≡ earlier_fronts (acts_held passed) (pass_one bounded (act_held l) (acts_held rest))
  pub later_structured : IsStructuredAct (act_held l)
  pub rest_structured : All IsStructuredAct (acts_held rest)
  pub later_settled : IsSettled l
  pub passed_settled : All IsSettled passed
  pub rest_settled : All IsSettled rest
  pub long : length passed + length rest ≡ n

-- ---- refusals

pub refuses_along : {X Y : Type 0} (r : Result X Refusal) (s : Result Y Refusal) (k : ℕ) (f : WaveletFault) → ((e : Refusal) → r ≡ Err e → s ≡ Err e) → Refuses (at_index k r) f → Refuses (at_index k s) f
refuses_along r s k (OpInvalid j) g h = h
refuses_along (Ok x) s k CountTooLarge g h = absurd (let e = h.1 in cc)
refuses_along (Err e) s k CountTooLarge g h = (h.0, ap (at_index k) (g e refl) ∙ cc (h.1))
refuses_along (Ok x) s k (Conflict j) g h = absurd (cc)
refuses_along (Err e) s k (Conflict j) g h = ap (at_index k) (g e refl) ∙ cc h
refuses_along r s k (DontFit place) g h = h
refuses_along r s k Memory g h = h

-- ---- one step

pub split_first : {A : Type 0} (P : A → Type 0) (x : A) (xs : List A) → All P (x ∷ xs) → P x × All P xs
split_first P x xs h = let r = recursion_from_All P (x ∷ xs) h in (r.0, All-from_recursion P xs r.1)

fronts_front : {A E : Type 0} (xs : List A) (y : A) (r : Result (A × List A) E) → earlier_fronts xs (earlier_front y r) ≡ earlier_fronts (xs ++ y ∷ []) r
fronts_front xs y (Ok p) = ap (λ z. Ok (p.0, z)) (sym (append_assoc xs (y ∷ []) p.1))
fronts_front xs y (Err e) = refl

acts_more : (xs : List Held) (y : Held) → acts_held (xs ++ y ∷ []) ≡ acts_held xs ++ act_held y ∷ []
acts_more [] y = refl
acts_more (x ∷ xs) y = ap (λ z. act_held x ∷ z) (acts_more xs y)

pub passing_start : (l : Held) (es : List Held) → IsStructuredAct (act_held l) → All IsStructuredAct (acts_held es) → IsSettled l → All IsSettled es → IsPassing (act_held l) (acts_held es) (length es) l [] es
passing_start l es sl se tl te = record { is = none (pass_one bounded (act_held l) (acts_held es)); later_structured = sl; rest_structured = se; later_settled = tl; passed_settled = All-nil IsSettled; rest_settled = te; long = omega arith }
  where
    none : {A E : Type 0} (r : Result (A × List A) E) → r ≡ earlier_fronts [] r
    none (Ok p) = refl
    none (Err e) = refl

pub passing_step : (l0 : Act) (es0 : List Act) (n : ℕ) (l op mine theirs : Held) (passed rest : List Held) → IsPassing l0 es0 n l passed (op ∷ rest) → IsCrossed l op (mine, theirs) → IsPassing l0 es0 n mine (passed ++ theirs ∷ []) rest
passing_step l0 es0 n l op mine theirs passed rest h c =
    let s = split_first IsStructuredAct (act_held op) (acts_held rest) h.rest_structured in
    let t = split_first IsSettled op rest h.rest_settled in
    let w = structured_step (act_held l) (act_held op) (act_held mine, act_held theirs) h.later_structured s.0 c.is in
    record {
      is = h.is
          ∙ ap (λ r. earlier_fronts (acts_held passed) (and_next (λ p. earlier_front p.1 (pass_one bounded p.0 (acts_held rest))) r)) c.is
          ∙ fronts_front (acts_held passed) (act_held theirs) (pass_one bounded (act_held mine) (acts_held rest))
          ∙ ap (λ z. earlier_fronts z (pass_one bounded (act_held mine) (acts_held rest))) (sym (acts_more passed theirs));
      later_structured = w.0;
      rest_structured = s.1;
      later_settled = c.later_settled;
      passed_settled = All-append IsSettled passed (theirs ∷ []) h.passed_settled (All-cons IsSettled theirs [] c.earlier_settled (All-nil IsSettled));
      rest_settled = t.1;
      long = omega (arith, h.long, length-append passed (theirs ∷ []));
    }

pub passing_asks : (l0 : Act) (es0 : List Act) (n : ℕ) (l op : Held) (passed rest : List Held) → IsPassing l0 es0 n l passed (op ∷ rest) → IsStructuredAct (act_held op) × IsSettled op
passing_asks l0 es0 n l op passed rest h = ((split_first IsStructuredAct (act_held op) (acts_held rest) h.rest_structured).0, (split_first IsSettled op rest h.rest_settled).0)

pub passing_refused : (l0 : Act) (es0 : List Act) (n k : ℕ) (l op : Held) (passed rest : List Held) (f : WaveletFault) → IsPassing l0 es0 n l passed (op ∷ rest) → Refuses (at_index k (bounded (act_held l) (act_held op))) f → Refuses (at_index k (pass_one bounded l0 es0)) f
passing_refused l0 es0 n k l op passed rest f h r = refuses_along (bounded (act_held l) (act_held op)) (pass_one bounded l0 es0) k f (λ e is. h.is ∙ ap (λ q. earlier_fronts (acts_held passed) (and_next (λ p. earlier_front p.1 (pass_one bounded p.0 (acts_held rest))) q)) is) r

pub passing_end : (l0 : Held) (es0 : List Held) (l : Held) (passed : List Held) → IsPassing (act_held l0) (acts_held es0) (length es0) l passed [] → IsPassed l0 es0 l passed
passing_end l0 es0 l passed h = record {
  is = h.is ∙ ap (λ z. Ok (act_held l, z)) (append-nil (acts_held passed));
  later_settled = h.later_settled;
  earlier_settled = h.passed_settled;
  long = omega (arith, h.long);
}
