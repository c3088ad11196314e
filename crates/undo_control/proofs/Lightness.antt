-- How many items entries insert.
--     light_act, light_back   what takes one act back, and what takes at most two back
--     light_entries           many entries
--     edit_is_light, change_is_light      the laws
--     change_long             a change leaves as many entries
use Rattle.std.proofs.Common.{◌≡◌, ℕ, ◌+◌, ◌*◌, ◌≤◌, Bool, true, false, cond, List, [], ◌∷◌, ◌++◌, length, take, Option, None, Some, sym, ap, subst, ◌∙◌, arith, nat_le}
use Rattle.std.specs.List.{All}
use Rattle.std.specs.Option.{option_map, option_map_or}
use Rattle.std.proofs.lemmas.List.Elements.{All-cons, All-nil, All-take}
use Rattle.doc_items.specs.Maps.{Key}
use Rattle.doc_op.proofs.Applying.{mapped, passed}
use Rattle.doc_op.specs.Apply.{apply}
use Rattle.op_invert.proofs.Lengths.{inverse_lengths}
use Rattle.wavelet_op.specs.Acts.{Act, Idle, Adds, Removes, Sets, Mutates, inserted_act, inserted}
use Rattle.wavelet_op.specs.States.{State, role_of, document_of, with_document, is_structured, mutate, apply_act, run}
use Rattle.wavelet_op.specs.declared.role.Role.{Role}
use Rattle.wavelet_op.specs.declared.role.Role.TheVariants.{Full, ReadOnly}
use Rattle.wavelet_op.proofs.Grids.{inserted_append}
use Rattle.wavelet_op.proofs.Partial.{and_then_some}
use Rattle.wavelet_op.proofs.Passes.{split_first}
use Rattle.wavelet_state.specs.Inverses.{readded, inverse_act, inverse_acts}
use Rattle.follower_rules.specs.Followers.{run_all, inserted_all}
use Rattle.follower_rules.specs.Laws.{IsSmall}
use Rattle.follower_rules.specs.Receiving.{rebase}
use Rattle.follower_rules.proofs.Room.{small_act}
use Rattle.undo_control.specs.Chains.{max_entries, ChainOf, with_entry, changed}
use Rattle.undo_control.specs.Laws.{IsLight, max_back, EditIsLight, ChangeIsLight}
use Rattle.undo_control.proofs.Keeping.{some_value, rebase_goes, rebase_long}

-- ---- what takes acts back

readded_light : (n : ℕ) (a : Key) (o : Option Role) → inserted (readded a o) ≤ n
unfolding inserted_act
readded_light n a None = omega arith
readded_light n a (Some Full) = omega arith
readded_light n a (Some ReadOnly) = omega arith

pub light_act : (n : ℕ) (s t : State) (a : Act) → IsSmall n s → apply_act s a ≡ Some t → inserted (inverse_act s a) ≤ n
unfolding apply_act inserted_act
light_act n s t Idle h e = omega arith
light_act n s t (Adds a) h e = omega arith
light_act n s t (Removes a) h e = readded_light n a (role_of s a)
light_act n s t (Sets a old new) h e = omega arith
light_act n s t (Mutates d acts) h e =
    let m = and_then_some (mutate acts (document_of s d)) (λ items. Some (with_document s d items)) t e in
    let a = (passed (is_structured acts) (apply acts (document_of s d)) m.0 m.1).rest in
    let l = inverse_lengths acts (document_of s d) m.0 a in
    omega (arith, l.bound, h d)

pub light_back : (n : ℕ) (s t : State) (acts : List Act) → IsSmall n s → run s acts ≡ Some t → length acts ≤ 2 → inserted (inverse_acts s acts) ≤ n + (n + inserted acts)
light_back n s t [] h e k = omega arith
light_back n s t (a ∷ []) h e k =
    let m = and_then_some (apply_act s a) (λ x. run x []) t e in
    let is : inserted (inverse_acts s (a ∷ [])) ≡ inserted (inverse_act s a) = ap (λ (o : Option State). inserted (option_map_or (λ u. inverse_acts u [] ++ inverse_act s a) o [])) m.1 in
    omega (arith, is, light_act n s m.0 a h m.1)
light_back n s t (a ∷ b ∷ []) h e k =
    let m = and_then_some (apply_act s a) (λ x. run x (b ∷ [])) t e in
    let o = and_then_some (apply_act m.0 b) (λ x. run x []) t m.2 in
    let first : inserted (inverse_acts s (a ∷ b ∷ [])) ≡ inserted (inverse_acts m.0 (b ∷ []) ++ inverse_act s a) = ap (λ (z : Option State). inserted (option_map_or (λ u. inverse_acts u (b ∷ []) ++ inverse_act s a) z [])) m.1 in
    let second : inserted (inverse_acts m.0 (b ∷ [])) ≡ inserted (inverse_act m.0 b) = ap (λ (z : Option State). inserted (option_map_or (λ u. inverse_acts u [] ++ inverse_act m.0 b) z [])) o.1 in
    omega (arith, first, second, inserted_append (inverse_acts m.0 (b ∷ [])) (inverse_act s a), light_act (n + inserted_act a) m.0 o.0 b (small_act n s m.0 a h m.1) o.1, light_act n s m.0 a h m.1)
light_back n s t (a ∷ b ∷ c ∷ more) h e k = absurd (omega (arith, k))

-- ---- entries

abbrev AreAtMost : ℕ → List (List Act) → Type 0
AreAtMost m es = All (λ e. inserted e ≤ m) es

pub light_entries : (es : List (List Act)) → All (λ e. inserted e ≤ max_back) es → inserted_all es ≤ length es * max_back
light_entries [] h = omega arith
light_entries (e ∷ es) h =
    let x = split_first (λ e. inserted e ≤ max_back) e es h in
    omega (arith, x.0, light_entries es x.1)

more_light : (m : ℕ) (back : List Act) (es : List (List Act)) (b : Bool) → inserted back ≤ m → AreAtMost m es → AreAtMost m (cond b (take max_entries (back ∷ es)) [])
more_light m back es true h k = All-take (λ e. inserted e ≤ m) max_entries (back ∷ es) (All-cons (λ e. inserted e ≤ m) back es h k)
more_light m back es false h k = All-nil (λ e. inserted e ≤ m)

pub edit_is_light : EditIsLight
edit_is_light n m c d acts small few room light e =
    let back = inverse_acts c.state acts in
    let x = mapped (λ t. record { state = t; entries = with_entry back c.entries }) (run c.state acts) d e in
    let b : inserted back ≤ m = omega (arith, light_back n c.state x.value acts small x.had few, room) in
    subst (IsLight m) x.gives (more_light m back c.entries (nat_le (length back) 1000) b light)

pub change_is_light : ChangeIsLight
change_is_light m c d acts k light e =
    let x = and_then_some (run c.state acts) (λ t. option_map (λ p. record { state = t; entries = p.0 }) (rebase c.entries acts)) d e in
    let y = mapped (λ (p : List (List Act) × List Act). record { state = x.0; entries = p.0 }) (rebase c.entries acts) d x.2 in
    let u = some_value (run_all c.state c.entries) k in
    let g = rebase_goes c.state x.0 u.0 c.entries acts y.value x.1 u.1 y.had in
    subst (IsLight m) y.gives (g.3 m light)

-- ---- how many

pub change_long : (c d : ChainOf) (acts : List Act) → changed c acts ≡ Some d → length d.entries ≡ length c.entries
change_long c d acts e =
    let x = and_then_some (run c.state acts) (λ t. option_map (λ p. record { state = t; entries = p.0 }) (rebase c.entries acts)) d e in
    let y = mapped (λ (p : List (List Act) × List Act). record { state = x.0; entries = p.0 }) (rebase c.entries acts) d x.2 in
    ap (λ (z : ChainOf). length z.entries) (sym y.gives) ∙ rebase_long c.entries acts y.value y.had
