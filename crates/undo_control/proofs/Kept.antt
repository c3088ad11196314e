-- A chain, as its code keeps it, after each call.
--     some_match                      what is said of an optional value that is there
--     new_kept                        at the start
--     edit_takes, edit_empties        after an edit of one's own: with one entry more, or with none
--     change_takes                    after a change made by others
--     undo_takes                      after an undo
--     change_none                     where the entries can't pass a change
--     all_structured                  what is valid in turn is structured
--     is_past                         the entries as the follower's call gives them
--     as_entry, no_entry              whether what takes an edit back is an entry
use Rattle.std.proofs.Common.{◌≡◌, ◌⊎◌, inl, inr, ◌≤◌, ◌<◌, ℕ, suc, Bool, true, false, cond, ◌&&◌, List, [], ◌∷◌, ◌++◌, map, length, take, refl, sym, ap, ap₂, subst, ◌∙◌, arith, Option, None, Some, IsSome, is_some, true≢false, nat_le, MatchOption, option_and_then}
use Rattle.std.specs.Option.{option_map, option_map_or}
use Rattle.std.proofs.lemmas.Bool.{and_parts}
use Rattle.std.proofs.lemmas.List.{take-map, length-map, length-append}
use Rattle.std.proofs.lemmas.List.Elements.{All-cons, All-nil, All-take}
use Rattle.doc_op.proofs.Applying.{no_value, same_Some, mapped}
use Rattle.wavelet_op.proofs.Partial.{and_then_some}
use Rattle.wavelet_op.proofs.Passes.{split_first}
use Rattle.wavelet_op.specs.Acts.{Act, Idle, Adds, Removes, Sets, Mutates, meaning, meanings, AreNormal, AreStructuredActs}
use Rattle.wavelet_op.specs.Deltas.{is_count}
use Rattle.wavelet_op.specs.States.{State, role_of, apply_act, run}
use Rattle.wavelet_op.specs.declared.op.WaveletOp.{WaveletOp}
use Rattle.wavelet_op.specs.declared.role.Role.{Role}
use Rattle.wavelet_op.specs.declared.role.Role.TheVariants.{Full, ReadOnly}
use Rattle.wavelet_state.specs.Inverses.{readded, inverse_act, inverse_acts}
use Rattle.delta_history.proofs.Points.{and_then_is}
use Rattle.follower_rules.specs.Followers.{run_all}
use Rattle.follower_rules.specs.Receiving.{past, rebase}
use Rattle.client_control.proofs.Kept.{true_le}
use Rattle.client_control.proofs.Pending.{run_structured, entries_structured}
use Rattle.client_control.specs.Steps.{AreStructured, IsRebased}
use Rattle.client_control.specs.declared.past.Rebased.{Rebased}
use Rattle.undo_control.specs.Chains.{max_entries, ChainOf, with_entry, edited, changed, undone, IsCrowded}
use Rattle.undo_control.specs.Parts.{Chain, chain, chain_of, IsKept, IsPast}
use Rattle.undo_control.proofs.Crowding.{change_is_taken}
use Rattle.undo_control.proofs.Keeping.{some_value, take_few, kept_turn, rebase_long, change_keeps, undo_keeps}

pub new_kept : (s : State) (entries : List (List WaveletOp)) → entries ≡ [] → IsKept (chain s entries)
new_kept s entries e = subst (λ es. IsKept (chain s es)) (sym e) (record { in_turn = refl; few = omega arith; normal = All-nil AreNormal })

pub some_match : {X : Type 0} (P : Type 0) (Q : X → Type 0) (o : Option X) (x : X) → o ≡ Some x → MatchOption o P Q → Q x
some_match P Q o x e h = subst (λ z. MatchOption z P Q) e h

-- ---- an edit

readded_some : (a : List ℕ) (o : Option Role) → 1 ≤ length (readded a o)
readded_some a None = omega arith
readded_some a (Some Full) = omega arith
readded_some a (Some ReadOnly) = omega arith

inverse_some : (s : State) (a : Act) → 1 ≤ length (inverse_act s a)
inverse_some s Idle = omega arith
inverse_some s (Adds a) = omega arith
inverse_some s (Removes a) = readded_some a (role_of s a)
inverse_some s (Sets a old new) = omega arith
inverse_some s (Mutates d acts) = omega arith

inverses_some : (s t : State) (a : Act) (more : List Act) → run s (a ∷ more) ≡ Some t → 1 ≤ length (inverse_acts s (a ∷ more))
inverses_some s t a more e =
    let x = and_then_some (apply_act s a) (λ u. run u more) t e in
    subst (λ (o : Option State). 1 ≤ length (option_map_or (λ u. inverse_acts u more ++ inverse_act s a) o [])) (sym x.1)
    (omega (arith, inverse_some s a, length-append (inverse_acts x.0 more) (inverse_act s a)))

some_acts : (s t : State) (ops : List WaveletOp) → 0 < length ops → run s (meanings ops) ≡ Some t → 1 ≤ length (inverse_acts s (meanings ops))
some_acts s t [] h e = absurd (omega (arith, h))
some_acts s t (o ∷ ops) h e = inverses_some s t (meaning o) (meanings ops) e

small_count : (n : ℕ) → 1 ≤ n → is_count n ≡ false → nat_le n 1000 ≡ false
small_count n h e = sym (ap (λ b. b && nat_le n 1000) (true_le 1 n h)) ∙ e

-- the entries with one more in front
entry_more : (back : List WaveletOp) (old : List (List WaveletOp)) → with_entry (meanings back) (map meanings old) ≡ cond (nat_le (length back) 1000) (map meanings (take max_entries (back ∷ old))) []
entry_more back old = ap (λ n. cond (nat_le n 1000) (take max_entries (map meanings (back ∷ old))) []) (length-map back meaning) ∙ ap (λ es. cond (nat_le (length back) 1000) es []) (take-map meanings max_entries (back ∷ old))

edit_with : (s t : State) (ops back : List WaveletOp) (old new : List (List WaveletOp)) (b : Bool) → nat_le (length back) 1000 ≡ b → run s (meanings ops) ≡ Some t → meanings back ≡ inverse_acts s (meanings ops)
    → map meanings new ≡ cond b (map meanings (take max_entries (back ∷ old))) [] → edited (chain_of (chain s old)) (meanings ops) ≡ Some (chain_of (chain t new))
edit_with s t ops back old new b n e i g =
    ap (option_map (λ u. record { state = u; entries = with_entry (inverse_acts s (meanings ops)) (map meanings old) })) e
    ∙ ap (λ es. Some (record { state = t; entries = es })) (ap (λ acts. with_entry acts (map meanings old)) (sym i) ∙ entry_more back old ∙ ap (λ c. cond c (map meanings (take max_entries (back ∷ old))) []) n ∙ sym g)

pub record IsEdited (s t : State) (ops : List WaveletOp) (old new : List (List WaveletOp)) : Type 0 where
  pub is : edited (chain_of (chain s old)) (meanings ops) ≡ Some (chain_of (chain t new))
  pub kept : IsKept (chain t new)

pub edit_takes : (s t : State) (ops back : List WaveletOp) (old new : List (List WaveletOp)) → IsKept (chain s old) → run s (meanings ops) ≡ Some t → meanings back ≡ inverse_acts s (meanings ops) → run t (meanings back) ≡ Some s → AreNormal back
    → is_count (length back) ≡ true → new ≡ take max_entries (back ∷ old) → IsEdited s t ops old new
edit_takes s t ops back old new k e i goes normal n g =
    let small = (and_parts (nat_le 1 (length back)) (nat_le (length back) 1000) n).1 in
    record {
      is = edit_with s t ops back old new true small e i (ap (map meanings) g);
      kept = subst (λ es. IsKept (chain t es)) (sym g) (record {
        in_turn = subst (λ es. IsSome (run_all t es)) (take-map meanings max_entries (back ∷ old)) (kept_turn s t (meanings back) (map meanings old) true goes k.in_turn);
        few = take_few max_entries (back ∷ old);
        normal = All-take AreNormal max_entries (back ∷ old) (All-cons AreNormal back old normal k.normal);
      });
    }

pub as_entry : (back entry : List WaveletOp) (o : Option (List WaveletOp)) (b : Bool) → o ≡ cond b (Some back) None → o ≡ Some entry → (b ≡ true) × (entry ≡ back)
as_entry back entry o true e h = (refl, same_Some (sym h ∙ e))
as_entry back entry o false e h = no_value (sym e ∙ h)

pub no_entry : (back : List WaveletOp) (o : Option (List WaveletOp)) (b : Bool) → o ≡ cond b (Some back) None → o ≡ None → b ≡ false
no_entry back o true e h = no_value (sym h ∙ e)
no_entry back o false e h = refl

pub edit_empties : (s t : State) (ops back : List WaveletOp) (old new : List (List WaveletOp)) → 0 < length ops → run s (meanings ops) ≡ Some t → meanings back ≡ inverse_acts s (meanings ops)
    → is_count (length back) ≡ false → new ≡ [] → IsEdited s t ops old new
edit_empties s t ops back old new some e i n g =
    let many = subst (λ acts. 1 ≤ length acts) (sym i) (some_acts s t ops some e) in
    let long = subst (λ k. 1 ≤ k) (length-map back meaning) many in
    record {
      is = edit_with s t ops back old new false (small_count (length back) long n) e i (ap (map meanings) g);
      kept = new_kept t new g;
    }

-- ---- a change

-- the chain after a change, of the state that it leads to
abbrev after_change : ChainOf → List Act → State → Option ChainOf
after_change c acts t = option_map (λ z. record { state = t; entries = z.0 }) (rebase c.entries acts)

pub change_is : (s t : State) (acts : List Act) (old new : List (List WaveletOp)) → run s acts ≡ Some t → IsPast (chain_of (chain s old)) acts new → changed (chain_of (chain s old)) acts ≡ Some (chain_of (chain t new))
change_is s t acts old new e p = and_then_is (run s acts) (after_change (chain_of (chain s old)) acts) t e ∙ ap (λ (o : Option (List (List Act) × List Act)). option_map (λ z. record { state = t; entries = z.0 }) o) p.is

pub change_kept : (s t : State) (acts : List Act) (old new : List (List WaveletOp)) → IsKept (chain s old) → run s acts ≡ Some t → IsPast (chain_of (chain s old)) acts new → IsKept (chain t new)
change_kept s t acts old new k e p = record {
  in_turn = change_keeps (chain_of (chain s old)) (chain_of (chain t new)) acts k.in_turn (change_is s t acts old new e p);
  few = subst (λ n. n ≤ max_entries) (sym (sym (length-map new meanings) ∙ rebase_long (map meanings old) acts (map meanings new, p.left) p.is ∙ length-map old meanings)) k.few;
  normal = p.normal;
}

pub is_past : (c : Chain) (entries : List (List WaveletOp)) (ops copy : List WaveletOp) (o : Option Rebased) (p : Rebased) → o ≡ Some p
    → MatchOption o (rebase (map meanings entries) (meanings copy) ≡ None) (λ r. IsRebased entries copy r) → entries ≡ c.entries → copy ≡ ops → IsPast (chain_of c) (meanings ops) p.entries.items
is_past c entries ops copy o p e h k l =
    let r = subst (λ (z : Option Rebased). MatchOption z (rebase (map meanings entries) (meanings copy) ≡ None) (λ r. IsRebased entries copy r)) e h in
    record { left = meanings p.left; is = ap₂ (λ es acts. rebase (map meanings es) (meanings acts)) (sym k) (sym l) ∙ r.is; normal = r.normal }

-- where the operations aren't structured, or some entry doesn't pass them
pub change_none : (c : ChainOf) (acts : List Act) → (AreStructuredActs acts → ⊥) → changed c acts ≡ None
change_none c acts h = go (run c.state acts) refl
  where
    go : (o : Option State) → run c.state acts ≡ o → option_and_then (after_change c acts) o ≡ None
    go None e = refl
    go (Some t) e = absurd (h (run_structured c.state t acts e))

pub unpassed : (c : ChainOf) (acts : List Act) → rebase c.entries acts ≡ None → changed c acts ≡ None
unpassed c acts e = go (run c.state acts)
  where
    go : (o : Option State) → option_and_then (after_change c acts) o ≡ None
    go None = refl
    go (Some t) = ap (λ (o : Option (List (List Act) × List Act)). option_map (λ z. record { state = t; entries = z.0 }) o) e

-- what is refused though it is valid
pub unchanged : (c : Chain) (t : State) (acts : List Act) → IsKept c → run c.state acts ≡ Some t → changed (chain_of c) acts ≡ None → IsSome (run c.state acts) × IsCrowded (map meanings c.entries) acts
unchanged c t acts k e h = (ap is_some e, taken (change_is_taken (chain_of c) acts t k.in_turn e))
  where
    taken : ((d : ChainOf) × (changed (chain_of c) acts ≡ Some d)) ⊎ IsCrowded (map meanings c.entries) acts → IsCrowded (map meanings c.entries) acts
    taken (inl d) = absurd (true≢false (ap is_some (sym d.1 ∙ h)))
    taken (inr x) = x

pub all_structured : (s : State) (entries : List (List WaveletOp)) → IsKept (chain s entries) → AreStructured entries
all_structured s entries k = let u = some_value (run_all s (map meanings entries)) k.in_turn in entries_structured s u.0 entries u.1

-- ---- an undo

pub first_valid : (s : State) (first : List WaveletOp) (rest : List (List WaveletOp)) → IsKept (chain s (first ∷ rest)) → IsSome (run s (meanings first))
first_valid s first rest k = let u = some_value (run_all s (meanings first ∷ map meanings rest)) k.in_turn in ap is_some (and_then_some (run s (meanings first)) (λ z. run_all z (map meanings rest)) u.0 u.1).1

pub undo_is : (s t : State) (first : List WaveletOp) (rest : List (List WaveletOp)) → run s (meanings first) ≡ Some t → undone (chain_of (chain s (first ∷ rest))) ≡ Some (chain_of (chain t rest))
undo_is s t first rest e = ap (option_map (λ u. record { state = u; entries = map meanings rest })) e

pub undo_kept : (s t : State) (first : List WaveletOp) (rest : List (List WaveletOp)) → IsKept (chain s (first ∷ rest)) → run s (meanings first) ≡ Some t → IsKept (chain t rest)
undo_kept s t first rest k e = record {
  in_turn = undo_keeps (chain_of (chain s (first ∷ rest))) (chain_of (chain t rest)) k.in_turn (undo_is s t first rest e);
  few = omega (arith, k.few);
  normal = (split_first AreNormal first rest k.normal).1;
}
