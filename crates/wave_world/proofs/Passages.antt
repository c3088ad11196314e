-- Texts stay texts where acts pass each other and are compacted, and so acts have operations in normal form.
--     text_spelled          such acts have operations, of which they are the acts
--     grid_text, pass_text  acts past others, and through deltas
--     fitting_text, gather_text, rebase_text, over_text     what a follower makes of its entries
use Rattle.std.proofs.Common.{◌≡◌, ℕ, suc, Bool, true, false, cond, List, [], ◌∷◌, ◌++◌, Option, None, Some, Result, Ok, Err, refl, sym, ap, subst, ◌∙◌}
use Rattle.std.specs.Option.{option_map, option_map_or, ok_or}
use Rattle.std.specs.Result.{result_ok}
use Rattle.std.proofs.lemmas.List.Elements.{All-cons, All-nil}
use Rattle.doc_items.specs.Maps.{Key, same_text}
use Rattle.doc_op.specs.Actions.{Action}
use Rattle.doc_op.proofs.Applying.{no_value, same_Some, mapped}
use Rattle.doc_op.proofs.NormalForm.{same_actions, same_again}
use Rattle.op_compose.specs.Compose.{compose}
use Rattle.op_transform.specs.Transform.{transform}
use Rattle.wavelet_op.specs.Acts.{Act, Idle, Adds, Removes, Sets, Mutates, meanings, IsNormal}
use Rattle.wavelet_op.specs.Compacts.{Unfit, mutation, join, act_front, go_on, compact_by, compact}
use Rattle.wavelet_op.specs.Grids.{Lists, earlier_front, later_front, at_index, pass_one, grid_by, grid, pass}
use Rattle.wavelet_op.specs.Transform.{Both, Refusal, Clash, mutations, act_transform, exact}
use Rattle.wavelet_op.specs.declared.role.Role.{Role}
use Rattle.wavelet_op.proofs.Compacts.{bounded_compact_is_exact}
use Rattle.wavelet_op.proofs.Grids.{bounded_is_exact}
use Rattle.wavelet_op.proofs.Partial.{and_then_some, next_ok, ok_some}
use Rattle.delta_history.specs.Laws.{IsSpelled}
use Rattle.delta_history.specs.Verdicts.{op_of, ops_of}
use Rattle.follower_rules.specs.Receiving.{past, rebase}
use Rattle.follower_rules.specs.Submitting.{fitting, Gathered, gather_on, gather}
use Rattle.follower_rules.proofs.Gathers.{fitting_is}
use Rattle.wave_world.specs.Texts.{IsTextAct, AreTextActs, AreTextEntries}
use Rattle.wave_world.proofs.Texts.{text_writable, transform_text, compose_text}

-- ---- operations of acts

act_spelled : (a : Act) → IsTextAct a → (meanings (op_of a ∷ []) ≡ a ∷ []) × IsNormal (op_of a)
act_spelled Idle t = (refl, tt)
act_spelled (Adds a) t = (refl, tt)
act_spelled (Removes a) t = (refl, tt)
act_spelled (Sets a old new) t = (refl, tt)
act_spelled (Mutates d acts) t =
    let w = text_writable acts t in
    (ap (λ z. Mutates d z ∷ []) (same_actions acts w), sym (same_again acts w))

pub text_spelled : (acts : List Act) → AreTextActs acts → IsSpelled acts
text_spelled [] t = record { same = refl; normal = All-nil IsNormal }
text_spelled (a ∷ acts) t =
    let one = act_spelled a t.0 in
    let rest = text_spelled acts t.1 in
    record { same = λ i. one.0 i ++ rest.same i; normal = All-cons IsNormal (op_of a) (ops_of acts) one.1 rest.normal }

-- ---- lists in a row

pub texts_append : (xs ys : List Act) → AreTextActs xs → AreTextActs ys → AreTextActs (xs ++ ys)
texts_append [] ys t s = s
texts_append (x ∷ xs) ys t s = (t.0, texts_append xs ys t.1 s)

pub entries_append : (xs ys : List (List Act)) → AreTextEntries xs → AreTextEntries ys → AreTextEntries (xs ++ ys)
entries_append [] ys t s = s
entries_append (x ∷ xs) ys t s = (t.0, entries_append xs ys t.1 s)

-- ---- two acts

abbrev BothText : Both → Type 0
BothText p = IsTextAct p.0 × IsTextAct p.1

stay : (l e : Act) (p : Both) → IsTextAct l → IsTextAct e → Some (l, e) ≡ Some p → BothText p
stay l e p t s is = subst BothText (same_Some is) (t, s)

if_roles : (b : Bool) (o : Option Both) (l e : Act) (p : Both) → IsTextAct l → IsTextAct e → ((q : Both) → o ≡ Some q → BothText q) → cond b o (Some (l, e)) ≡ Some p → BothText p
if_roles true o l e p t s h is = h p is
if_roles false o l e p t s h is = stay l e p t s is

sets_sets : (a : Key) (old new old' new' : Role) (p : Both) (b : Bool) → cond b (Some (Sets a new' new, Idle)) None ≡ Some p → BothText p
sets_sets a old new old' new' p true is = subst BothText (same_Some is) (tt, tt)
sets_sets a old new old' new' p false is = no_value is

pub act_text : (l e : Act) (p : Both) → IsTextAct l → IsTextAct e → act_transform l e ≡ Some p → BothText p
unfolding act_transform
act_text (Mutates d x) (Mutates c y) p t s is = go (same_text d c) is
  where
    crossed : (r : Result (List Action × List Action) ℕ) → transform x y ≡ r → mutations d c r ≡ Some p → BothText p
    crossed (Ok q) e m = subst BothText (same_Some m) (transform_text x y q t s e)
    crossed (Err k) e m = no_value m

    go : (b : Bool) → cond b (mutations d c (transform x y)) (Some (Mutates d x, Mutates c y)) ≡ Some p → BothText p
    go true m = crossed (transform x y) refl m
    go false m = stay (Mutates d x) (Mutates c y) p t s m
act_text (Mutates d x) Idle p t s is = stay (Mutates d x) Idle p t s is
act_text (Mutates d x) (Adds b) p t s is = stay (Mutates d x) (Adds b) p t s is
act_text (Mutates d x) (Removes b) p t s is = stay (Mutates d x) (Removes b) p t s is
act_text (Mutates d x) (Sets b o n) p t s is = stay (Mutates d x) (Sets b o n) p t s is
act_text Idle e p t s is = stay Idle e p t s is
act_text (Adds a) (Mutates c y) p t s is = stay (Adds a) (Mutates c y) p t s is
act_text (Adds a) Idle p t s is = stay (Adds a) Idle p t s is
act_text (Adds a) (Adds b) p t s is = if_roles (same_text a b) _ (Adds a) (Adds b) p t s (λ q e. subst BothText (same_Some e) (tt, tt)) is
act_text (Adds a) (Removes b) p t s is = if_roles (same_text a b) _ (Adds a) (Removes b) p t s (λ q e. no_value e) is
act_text (Adds a) (Sets b o n) p t s is = if_roles (same_text a b) _ (Adds a) (Sets b o n) p t s (λ q e. no_value e) is
act_text (Removes a) (Mutates c y) p t s is = stay (Removes a) (Mutates c y) p t s is
act_text (Removes a) Idle p t s is = stay (Removes a) Idle p t s is
act_text (Removes a) (Adds b) p t s is = if_roles (same_text a b) _ (Removes a) (Adds b) p t s (λ q e. no_value e) is
act_text (Removes a) (Removes b) p t s is = if_roles (same_text a b) _ (Removes a) (Removes b) p t s (λ q e. subst BothText (same_Some e) (tt, tt)) is
act_text (Removes a) (Sets b o n) p t s is = if_roles (same_text a b) _ (Removes a) (Sets b o n) p t s (λ q e. subst BothText (same_Some e) (tt, tt)) is
act_text (Sets a o n) (Mutates c y) p t s is = stay (Sets a o n) (Mutates c y) p t s is
act_text (Sets a o n) Idle p t s is = stay (Sets a o n) Idle p t s is
act_text (Sets a o n) (Adds b) p t s is = if_roles (same_text a b) _ (Sets a o n) (Adds b) p t s (λ q e. no_value e) is
act_text (Sets a o n) (Removes b) p t s is = if_roles (same_text a b) _ (Sets a o n) (Removes b) p t s (λ q e. subst BothText (same_Some e) (tt, tt)) is
act_text (Sets a o n) (Sets b m k) p t s is = if_roles (same_text a b) _ (Sets a o n) (Sets b m k) p t s (λ q e. sets_sets a o n m k q _ e) is

-- ---- lists of acts

exact_text : (l e : Act) (p : Both) → IsTextAct l → IsTextAct e → exact l e ≡ Ok p → BothText p
unfolding exact
exact_text l e p t s is = go (act_transform l e) refl is
  where
    go : (o : Option Both) → act_transform l e ≡ o → ok_or o Clash ≡ Ok p → BothText p
    go None h m = absurd (cc)
    go (Some q) h m = act_text l e p t s (h ∙ ap result_ok m)

earlier_ok : (e : Act) (r : Result (Act × List Act) Refusal) (p : Act × List Act) → earlier_front e r ≡ Ok p → (q : Act × List Act) × (r ≡ Ok q) × ((q.0, e ∷ q.1) ≡ p)
earlier_ok e (Ok q) p is = (q, refl, same_Some (ap result_ok is))
earlier_ok e (Err k) p is = absurd (cc)

later_ok : (l : Act) (r : Result Lists (ℕ × Refusal)) (p : Lists) → later_front l r ≡ Ok p → (q : Lists) × (r ≡ Ok q) × ((l ∷ q.0, q.1) ≡ p)
later_ok l (Ok q) p is = (q, refl, same_Some (ap result_ok is))
later_ok l (Err k) p is = absurd (cc)

at_ok : {B : Type 0} (k : ℕ) (r : Result B Refusal) (x : B) → at_index k r ≡ Ok x → r ≡ Ok x
at_ok k (Ok y) x e = cc
at_ok k (Err j) x e = absurd (cc)

one_text : (l : Act) (es : List Act) (p : Act × List Act) → IsTextAct l → AreTextActs es → pass_one exact l es ≡ Ok p → IsTextAct p.0 × AreTextActs p.1
one_text l [] p t s is = subst (λ (z : Act × List Act). IsTextAct z.0 × AreTextActs z.1) (same_Some (ap result_ok is)) (t, tt)
one_text l (e ∷ es) p t s is =
    let x = next_ok (λ p. earlier_front p.1 (pass_one exact p.0 es)) (exact l e) p is in
    let two = exact_text l e x.0 t s.0 x.1 in
    let y = earlier_ok (x.0).1 (pass_one exact (x.0).0 es) p x.2 in
    let rest = one_text (x.0).0 es y.0 two.0 s.1 y.1 in
    subst (λ (z : Act × List Act). IsTextAct z.0 × AreTextActs z.1) y.2 (rest.0, (two.1, rest.1))

abbrev ListsText : Lists → Type 0
ListsText p = AreTextActs p.0 × AreTextActs p.1

lists_text : (k : ℕ) (ls es : List Act) (p : Lists) → AreTextActs ls → AreTextActs es → grid_by exact k ls es ≡ Ok p → ListsText p
lists_text k [] es p t s is = subst ListsText (same_Some (ap result_ok is)) (tt, s)
lists_text k (l ∷ ls) es p t s is =
    let x = next_ok (λ p. later_front p.0 (grid_by exact (suc k) ls p.1)) (at_index k (pass_one exact l es)) p is in
    let one = one_text l es x.0 t.0 s (at_ok k (pass_one exact l es) x.0 x.1) in
    let y = later_ok (x.0).0 (grid_by exact (suc k) ls (x.0).1) p x.2 in
    let rest = lists_text (suc k) ls (x.0).1 y.0 t.1 one.1 y.1 in
    subst ListsText y.2 ((one.0, rest.0), rest.1)

pub grid_text : (ls es : List Act) (p : Lists) → AreTextActs ls → AreTextActs es → grid ls es ≡ Some p → AreTextActs p.0 × AreTextActs p.1
grid_text ls es p t s is = lists_text 0 ls es p t s (ok_some (grid_by exact 0 ls es) p is)

pub pass_text : (acts acts' : List Act) (deltas : List (List Act)) → AreTextActs acts → AreTextEntries deltas → pass acts deltas ≡ Some acts' → AreTextActs acts'
pass_text acts acts' [] t s is = subst AreTextActs (same_Some is) t
pass_text acts acts' (d ∷ deltas) t s is =
    let m = and_then_some (grid acts d) (λ p. pass p.0 deltas) acts' is in
    pass_text (m.0).0 acts' deltas (grid_text acts d m.0 t s.0 m.1).0 s.1 m.2

-- ---- what a follower makes of its entries

pub past_text : (ls es : List Act) (p : Lists) → AreTextActs ls → AreTextActs es → past ls es ≡ Some p → AreTextActs p.0 × AreTextActs p.1
past_text ls es p t s is = grid_text ls es p t s (bounded_is_exact ls es p (ok_some _ p is))

pub rebase_text : (entries : List (List Act)) (acts : List Act) (p : List (List Act) × List Act) → AreTextEntries entries → AreTextActs acts → rebase entries acts ≡ Some p → AreTextEntries p.0
rebase_text [] acts p t s is = subst (λ (z : List (List Act) × List Act). AreTextEntries z.0) (same_Some is) tt
rebase_text (entry ∷ rest) acts p t s is =
    let m = and_then_some (past entry acts) (λ p. option_map (λ r. (p.0 ∷ r.0, r.1)) (rebase rest p.1)) p is in
    let one = past_text entry acts m.0 t.0 s m.1 in
    let r = mapped (λ (r : List (List Act) × List Act). ((m.0).0 ∷ r.0, r.1)) (rebase rest (m.0).1) p m.2 in
    let more = rebase_text rest (m.0).1 r.value t.1 one.1 r.had in
    subst (λ (z : List (List Act) × List Act). AreTextEntries z.0) r.gives (one.0, more)

joined_text : (a b c : Act) → IsTextAct a → IsTextAct b → join a b ≡ Some (Ok c) → IsTextAct c
unfolding join
joined_text (Mutates d f) (Mutates e g) c t s is = go (same_text d e) is
  where
    some : (r : Result (List Action) ℕ) → compose f g ≡ r → mutation d r ≡ Ok c → IsTextAct c
    some (Ok acts) h m = subst IsTextAct (same_Some (ap result_ok m)) (compose_text f g acts t s h)
    some (Err k) h m = absurd (cc)

    go : (b : Bool) → cond b (Some (mutation d (compose f g))) None ≡ Some (Ok c) → IsTextAct c
    go true m = some (compose f g) refl (same_Some m)
    go false m = no_value m
joined_text (Mutates d f) Idle c t s is = no_value is
joined_text (Mutates d f) (Adds b) c t s is = no_value is
joined_text (Mutates d f) (Removes b) c t s is = no_value is
joined_text (Mutates d f) (Sets b o n) c t s is = no_value is
joined_text Idle b c t s is = no_value is
joined_text (Adds a) b c t s is = no_value is
joined_text (Removes a) b c t s is = no_value is
joined_text (Sets a o n) b c t s is = no_value is

front_ok : (a : Act) (r : Result (List Act) Unfit) (fewer : List Act) → act_front a r ≡ Ok fewer → (more : List Act) × (r ≡ Ok more) × ((a ∷ more) ≡ fewer)
front_ok a (Ok more) fewer is = (more, refl, same_Some (ap result_ok is))
front_ok a (Err e) fewer is = absurd (cc)

compacted_text : (a : Act) (more fewer : List Act) → IsTextAct a → AreTextActs more → compact_by join a more ≡ Ok fewer → AreTextActs fewer
compacted_text a [] fewer t s is = subst AreTextActs (same_Some (ap result_ok is)) (t, tt)
compacted_text a (b ∷ more) fewer t s is = go (λ c u rest. compacted_text c more rest u s.1) (join a b) refl is
  where
    go : ((c : Act) → IsTextAct c → (rest : List Act) → compact_by join c more ≡ Ok rest → AreTextActs rest) → (o : Option (Result Act Unfit)) → join a b ≡ o → go_on a b (λ c. compact_by join c more) o ≡ Ok fewer → AreTextActs fewer
    go again None h m = (let r = front_ok a (compact_by join b more) fewer m in subst AreTextActs r.2 (t, again b s.0 r.0 r.1))
    go again (Some (Ok c)) h m = again c (joined_text a b c t s.0 h) fewer m
    go again (Some (Err e)) h m = absurd (cc)

compact_text : (acts fewer : List Act) → AreTextActs acts → compact acts ≡ Some fewer → AreTextActs fewer
compact_text [] fewer t is = subst AreTextActs (same_Some is) tt
compact_text (a ∷ more) fewer t is = compacted_text a more fewer t.0 t.1 (ok_some (compact_by join a more) fewer is)

pub fitting_text : (acts fewer : List Act) → AreTextActs acts → fitting acts ≡ Some fewer → AreTextActs fewer
fitting_text acts fewer t is = compact_text acts fewer t (bounded_compact_is_exact acts fewer (fitting_is acts fewer is).compacted)

abbrev GatheredText : Gathered → Type 0
GatheredText g = AreTextActs g.0 × AreTextEntries g.1

gathered_text : (raw acts : List Act) (rest : List (List Act)) → AreTextActs raw → AreTextActs acts → AreTextEntries rest → GatheredText (gather_on raw acts rest)
gathered_text raw acts [] r t s = (t, tt)
gathered_text raw acts (entry ∷ rest) r t s = go (fitting (raw ++ entry)) refl (λ more u. gathered_text (raw ++ entry) more rest both u s.1)
  where
    both : AreTextActs (raw ++ entry)
    both = texts_append raw entry r s.0

    go : (o : Option (List Act)) → fitting (raw ++ entry) ≡ o → ((more : List Act) → AreTextActs more → GatheredText (gather_on (raw ++ entry) more rest)) → GatheredText (option_map_or (λ more. gather_on (raw ++ entry) more rest) o (acts, entry ∷ rest))
    go None f again = (t, s)
    go (Some more) f again = again more (fitting_text (raw ++ entry) more both f)

pub gather_text : (entry : List Act) (rest : List (List Act)) (g : Gathered) → AreTextActs entry → AreTextEntries rest → gather entry rest ≡ Some g → GatheredText g
gather_text entry rest g t s e =
    let o = mapped (λ acts. gather_on entry acts rest) (fitting entry) g e in
    subst GatheredText o.gives (gathered_text entry o.value rest t (fitting_text entry o.value t o.had) s)
