-- Edits and as many undos lead back.
--     short_entry          an entry that isn't too long stands in front
--     undos_take_back      the law
use Rattle.std.proofs.Common.{◌≡◌, ◌≤◌, ◌-◌, ℕ, zero, suc, cond, List, [], ◌∷◌, length, take, refl, sym, ap, ap₂, subst, ◌∙◌, arith, take_all, Some, option_and_then}
use Rattle.std.specs.Option.{option_map}
use Rattle.doc_op.proofs.Applying.{mapped}
use Rattle.wavelet_op.specs.Acts.{Act}
use Rattle.wavelet_op.specs.Laws.{IsWhole}
use Rattle.wavelet_op.specs.States.{State, run}
use Rattle.wavelet_op.proofs.Partial.{and_then_some}
use Rattle.wavelet_op.proofs.Wholes.{states_hold}
use Rattle.wavelet_state.specs.Inverses.{inverse_acts}
use Rattle.wavelet_state.proofs.Inverses.{acts_back_law}
use Rattle.client_control.proofs.Kept.{true_le}
use Rattle.undo_control.proofs.Keeping.{take_few}
use Rattle.undo_control.specs.Chains.{max_entries, ChainOf, with_entry, edited, undone, edited_all}
use Rattle.undo_control.specs.Laws.{UndosTakeBack}

abbrev chain : State → List (List Act) → ChainOf
chain s entries = record { state = s; entries = entries }

pub short_entry : (back : List Act) (entries : List (List Act)) → length back ≤ 1000 → with_entry back entries ≡ back ∷ take 99 entries
short_entry back entries h = ap (λ b. cond b (take max_entries (back ∷ entries)) []) (true_le (length back) 1000 h)

module _ {X : Type 0} where
  take_less : (n k : ℕ) (xs : List X) → n ≤ k → take n (take k xs) ≡ take n xs
  take_less zero k xs h = refl
  take_less (suc n) zero xs h = absurd (omega (arith, h))
  take_less (suc n) (suc k) [] h = refl
  take_less (suc n) (suc k) (x ∷ xs) h = ap (λ ys. x ∷ ys) (take_less n k xs (omega (arith, h)))

-- one undo more
undo_one : (s t : State) (back : List Act) (rest : List (List Act)) → run t back ≡ Some s → undone (chain t (back ∷ rest)) ≡ Some (chain s rest)
undo_one s t back rest e = ap (option_map (λ u. chain u rest)) e

pub undos_take_back : UndosTakeBack
undos_take_back c d [] w few n short e = sym e ∙ ap (λ es. Some (chain c.state es)) (sym (take_all 100 c.entries few))
undos_take_back c d (acts ∷ more) w few n short e =
    let x = and_then_some (edited c acts) (λ b. edited_all b more) d e in
    let back = inverse_acts c.state acts in
    let y = mapped (λ t. chain t (with_entry back c.entries)) (run c.state acts) x.0 x.1 in
    let m = length more in
    let state : x.0.state ≡ y.value = ap (λ (z : ChainOf). z.state) (sym y.gives) in
    let entries : x.0.entries ≡ back ∷ take 99 c.entries = ap (λ (z : ChainOf). z.entries) (sym y.gives) ∙ short_entry back c.entries short.0 in
    let whole = subst IsWhole (sym state) (states_hold c.state y.value acts w y.had) in
    let small = subst (λ (es : List (List Act)). length es ≤ 100) (sym entries) (omega (arith, take_few 99 c.entries)) in
    let rest = undos_take_back x.0 d more whole small (omega (arith, n)) (short.1 x.0 x.1) x.2 in
    let one : 100 - m ≡ suc (99 - m) = omega (arith, n) in
    let last : 99 - m ≡ 100 - suc m = omega (arith, n) in
    let front : take (100 - m) x.0.entries ≡ back ∷ take (99 - m) c.entries =
    ap (take (100 - m)) entries ∙ ap (λ k. take k (back ∷ take 99 c.entries)) one ∙ ap (λ es. back ∷ es) (take_less (99 - m) 99 c.entries (omega arith)) in
    ap (option_and_then undone) (rest ∙ ap₂ (λ s es. Some (chain s es)) state front)
    ∙ undo_one c.state y.value back (take (99 - m) c.entries) (acts_back_law c.state y.value acts w y.had)
    ∙ ap (λ k. Some (chain c.state (take k c.entries))) last
