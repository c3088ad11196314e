-- Acts that are valid at one state with few items have a transform with the bound on counts, too.
--     takes, gives            how many items an operation takes, and gives
--     small_act, small_run    documents grow by what is inserted
--     IsPast, past_room       two lists of acts, each past the other
use Rattle.std.proofs.Common.{◌≡◌, ℕ, suc, ◌+◌, ◌≤◌, Bool, true, false, cond, not, ◌||◌, nat_le, max, List, [], ◌∷◌, length, Option, None, Some, Ok, Err, refl, ap, subst, ◌∙◌, arith, le_refl, option_and_then}
use Rattle.std.specs.Option.{ok_or}
use Rattle.std.specs.Result.{result_ok}
use Rattle.std.proofs.lemmas.Bool.Decides.{nat_tests}
use Rattle.doc_items.specs.Limits.{max_count}
use Rattle.doc_items.specs.Maps.{Key, same_text}
use Rattle.doc_items.specs.declared.item.Item.{Item}
use Rattle.doc_op.specs.Actions.{Action, Keep, Ins, Del}
use Rattle.doc_op.specs.Apply.{keeps, kept, fits, apply}
use Rattle.doc_op.specs.Lengths.{input_len, output_len, inserted_len}
use Rattle.doc_op.proofs.Applying.{no_value, same_Some, mapped, passed, apply-length}
use Rattle.op_transform.specs.Results.{together}
use Rattle.wavelet_op.specs.Acts.{Act, Idle, Adds, Removes, Sets, Mutates, inserted_act, inserted}
use Rattle.wavelet_op.specs.States.{State, document_of, with_document, is_structured, mutate, on_role, added, removed, role_set, role_of, apply_act, run}
use Rattle.wavelet_op.specs.Transform.{Both, Clash, TooLarge, act_transform, is_within, exact, bounded}
use Rattle.wavelet_op.specs.Grids.{and_next, earlier_front, later_front, at_index, pass_one, grid_by, grid}
use Rattle.wavelet_op.specs.declared.role.Role.{Role}
use Rattle.wavelet_op.proofs.Grids.{bounded_is_exact}
use Rattle.wavelet_op.proofs.Maps.{same_text_is, different}
use Rattle.wavelet_op.proofs.Partial.{and_then_some}
use Rattle.wavelet_op.proofs.Squares.{act_square, document_there, document_elsewhere}
use Rattle.follower_rules.specs.Laws.{IsSmall}
use Rattle.follower_rules.specs.Receiving.{past}

-- ---- lengths

pub takes : (acts : List Action) (items out : List Item) → apply acts items ≡ Some out → input_len acts ≡ length items
takes [] [] out is = refl
takes [] (x ∷ items) out is = no_value is
takes (Ins x ∷ more) items out is =
    let m = mapped (λ (o : List Item). x ∷ o) (apply more items) out is in
    takes more items m.value m.had
takes (Keep u a ∷ more) [] out is = no_value is
takes (Keep u a ∷ more) (x ∷ items) out is =
    let t = passed (keeps u a x) _ out is in
    let m = mapped (λ (o : List Item). kept u a x ∷ o) (apply more items) out t.rest in
    let e = takes more items m.value m.had in
    omega (arith, e)
takes (Del c n ∷ more) [] out is = no_value is
takes (Del c n ∷ more) (x ∷ items) out is =
    let e = takes more items out (passed (fits c n x) _ out is).rest in
    omega (arith, e)

pub gives : (acts : List Action) → output_len acts ≤ input_len acts + inserted_len acts
gives [] = omega arith
gives (Keep u a ∷ rest) = omega (arith, gives rest)
gives (Ins x ∷ rest) = omega (arith, gives rest)
gives (Del c n ∷ rest) = omega (arith, gives rest)

mutation_takes : (acts : List Action) (items out : List Item) → mutate acts items ≡ Some out → input_len acts ≡ length items
mutation_takes acts items out is = takes acts items out (passed (is_structured acts) (apply acts items) out is).rest

mutation_gives : (acts : List Action) (items out : List Item) → mutate acts items ≡ Some out → length out ≤ length items + inserted_len acts
mutation_gives acts items out is =
    let a = (passed (is_structured acts) (apply acts items) out is).rest in
    let l = apply-length acts items out a in
    let t = takes acts items out a in
    omega (arith, l, t, gives acts)

-- ---- states

small_document : (n : ℕ) (s : State) (d : Key) (acts : List Action) (items : List Item) → IsSmall n s → mutate acts (document_of s d) ≡ Some items → IsSmall (n + inserted_len acts) (with_document s d items)
small_document n s d acts items h e q = go (same_text q d) refl
  where
    go : (b : Bool) → same_text q d ≡ b → length (document_of (with_document s d items) q) ≤ n + inserted_len acts
    go true b =
        let there : document_of (with_document s d items) q ≡ items = ap (document_of (with_document s d items)) (same_text_is q d b) ∙ document_there s d items in
        let l : length (document_of (with_document s d items) q) ≡ length items = ap length there in
        omega (arith, l, mutation_gives acts (document_of s d) items e, h d)
    go false b =
        let l : length (document_of (with_document s d items) q) ≡ length (document_of s q) = ap length (document_elsewhere s d q items (different q d b)) in
        omega (arith, l, h q)

small_role : (n : ℕ) (s t : State) (a : Key) (m : Option (Option Role)) → IsSmall n s → on_role s a m ≡ Some t → IsSmall (n + 0) t
small_role n s t a None h e = no_value e
small_role n s t a (Some r) h e = subst (IsSmall (n + 0)) (same_Some e) (λ d. omega (arith, h d))

pub small_act : (n : ℕ) (s t : State) (a : Act) → IsSmall n s → apply_act s a ≡ Some t → IsSmall (n + inserted_act a) t
unfolding apply_act inserted_act
small_act n s t Idle h e = subst (IsSmall (n + 0)) (same_Some e) (λ d. omega (arith, h d))
small_act n s t (Adds a) h e = small_role n s t a (added (role_of s a)) h e
small_act n s t (Removes a) h e = small_role n s t a (removed (role_of s a)) h e
small_act n s t (Sets a old new) h e = small_role n s t a (role_set old new (role_of s a)) h e
small_act n s t (Mutates d acts) h e =
    let m = and_then_some (mutate acts (document_of s d)) (λ items. Some (with_document s d items)) t e in
    subst (IsSmall (n + inserted_len acts)) (same_Some m.2) (small_document n s d acts m.0 h m.1)

pub small_run : (n : ℕ) (s t : State) (acts : List Act) → IsSmall n s → run s acts ≡ Some t → IsSmall (n + inserted acts) t
small_run n s t [] h e = subst (IsSmall (n + 0)) (same_Some e) (λ d. omega (arith, h d))
small_run n s t (a ∷ more) h e =
    let m = and_then_some (apply_act s a) (λ x. run x more) t e in
    let k = small_run (n + inserted_act a) m.0 t more (small_act n s m.0 a h m.1) m.2 in
    λ d. omega (arith, k d)

-- ---- two acts

or_right : (a b : Bool) → b ≡ true → (a || b) ≡ true
or_right true b e = refl
or_right false b e = e

true_le : (a b : ℕ) → a ≤ b → nat_le a b ≡ true
true_le a b h = grind (arith, nat_tests)

max_most : (a b n : ℕ) → a ≤ n → b ≤ n → max a b ≤ n
max_most a b n h k = omega arith

mutations_within : (n : ℕ) (s t u : State) (d c : Key) (x y : List Action) → IsSmall n s → n + (inserted_len x + inserted_len y) ≤ max_count → apply_act s (Mutates c y) ≡ Some t → apply_act s (Mutates d x) ≡ Some u → nat_le (together x y) max_count ≡ true
unfolding apply_act
mutations_within n s t u d c x y h r p q =
    let e = and_then_some (mutate y (document_of s c)) (λ items. Some (with_document s c items)) t p in
    let l = and_then_some (mutate x (document_of s d)) (λ items. Some (with_document s d items)) u q in
    let i = mutation_takes y (document_of s c) e.0 e.1 in
    let j = mutation_takes x (document_of s d) l.0 l.1 in
    let m : max (input_len x) (input_len y) ≤ n = max_most (input_len x) (input_len y) n (omega (arith, j, h d)) (omega (arith, i, h c)) in
    true_le _ _ (omega (arith, m, r))

acts_within : (n : ℕ) (s t u : State) (l e : Act) → IsSmall n s → n + (inserted_act l + inserted_act e) ≤ max_count → apply_act s e ≡ Some t → apply_act s l ≡ Some u → is_within l e ≡ true
unfolding is_within inserted_act
acts_within n s t u (Mutates d x) (Mutates c y) h r p q = or_right (not (same_text d c)) (nat_le (together x y) max_count) (mutations_within n s t u d c x y h r p q)
acts_within n s t u (Mutates d x) Idle h r p q = refl
acts_within n s t u (Mutates d x) (Adds a) h r p q = refl
acts_within n s t u (Mutates d x) (Removes a) h r p q = refl
acts_within n s t u (Mutates d x) (Sets a old new) h r p q = refl
acts_within n s t u Idle e h r p q = refl
acts_within n s t u (Adds a) e h r p q = refl
acts_within n s t u (Removes a) e h r p q = refl
acts_within n s t u (Sets a old new) e h r p q = refl

bounded_step : (l e : Act) (p : Both) → is_within l e ≡ true → act_transform l e ≡ Some p → bounded l e ≡ Ok p
unfolding bounded exact
bounded_step l e p w d = ap (λ b. cond b (ok_or (act_transform l e) Clash) (Err TooLarge)) w ∙ ap (λ o. ok_or o Clash) d

-- ---- lists

record IsOne (l : Act) (es : List Act) (t u : State) : Type 0 where
  later : Act
  earlier : List Act
  end : State
  defined : pass_one bounded l es ≡ Ok (later, earlier)
  later_goes : apply_act t later ≡ Some end
  earlier_goes : run u earlier ≡ Some end
  later_small : inserted_act later ≤ inserted_act l
  earlier_small : inserted earlier ≤ inserted es
  earlier_long : length earlier ≡ length es

one_room : (n : ℕ) (s : State) (l : Act) (es : List Act) (t u : State) → IsSmall n s → n + (inserted_act l + inserted es) ≤ max_count → run s es ≡ Some t → apply_act s l ≡ Some u → IsOne l es t u
one_room n s l [] t u h r p q = record {
  later = l;
  earlier = [];
  end = u;
  defined = refl;
  later_goes = subst (λ x. apply_act x l ≡ Some u) (same_Some p) q;
  earlier_goes = refl;
  later_small = le_refl _;
  earlier_small = le_refl _;
  earlier_long = refl;
}
one_room n s l (e ∷ es) t u h r p q =
    let m = and_then_some (apply_act s e) (λ x. run x es) t p in
    let sq = act_square s m.0 u l e m.1 q in
    let w = acts_within n s m.0 u l e h (omega (arith, r)) m.1 q in
    let step = bounded_step l e (sq.later', sq.earlier') w sq.defined in
    let rest = one_room (n + inserted_act e) m.0 sq.later' es t sq.end (small_act n s m.0 e h m.1) (omega (arith, r, sq.later_small)) m.2 sq.later_goes in
    record {
      later = rest.later;
      earlier = sq.earlier' ∷ rest.earlier;
      end = rest.end;
      defined = ap (and_next (λ p. earlier_front p.1 (pass_one bounded p.0 es))) step ∙ ap (earlier_front sq.earlier') rest.defined;
      later_goes = rest.later_goes;
      earlier_goes = ap (option_and_then (λ x. run x rest.earlier)) sq.earlier_goes ∙ rest.earlier_goes;
      later_small = omega (arith, sq.later_small, rest.later_small);
      earlier_small = omega (arith, sq.earlier_small, rest.earlier_small);
      earlier_long = ap suc rest.earlier_long;
    }

record IsGridBy (k : ℕ) (ls es : List Act) (t u : State) : Type 0 where
  later : List Act
  earlier : List Act
  end : State
  defined : grid_by bounded k ls es ≡ Ok (later, earlier)
  later_goes : run t later ≡ Some end
  earlier_goes : run u earlier ≡ Some end
  later_small : inserted later ≤ inserted ls
  earlier_small : inserted earlier ≤ inserted es
  later_long : length later ≡ length ls
  earlier_long : length earlier ≡ length es

lists_room : (n : ℕ) (s : State) (k : ℕ) (ls es : List Act) (t u : State) → IsSmall n s → n + (inserted ls + inserted es) ≤ max_count → run s es ≡ Some t → run s ls ≡ Some u → IsGridBy k ls es t u
lists_room n s k [] es t u h r p q = record {
  later = [];
  earlier = es;
  end = t;
  defined = refl;
  later_goes = refl;
  earlier_goes = subst (λ x. run x es ≡ Some t) (same_Some q) p;
  later_small = le_refl _;
  earlier_small = le_refl _;
  later_long = refl;
  earlier_long = refl;
}
lists_room n s k (l ∷ ls) es t u h r p q =
    let m = and_then_some (apply_act s l) (λ x. run x ls) u q in
    let one = one_room n s l es t m.0 h (omega (arith, r)) p m.1 in
    let rest = lists_room (n + inserted_act l) m.0 (suc k) ls one.earlier one.end u (small_act n s m.0 l h m.1) (omega (arith, r, one.earlier_small)) one.earlier_goes m.2 in
    record {
      later = one.later ∷ rest.later;
      earlier = rest.earlier;
      end = rest.end;
      defined = ap (λ r. and_next (λ p. later_front p.0 (grid_by bounded (suc k) ls p.1)) (at_index k r)) one.defined ∙ ap (later_front one.later) rest.defined;
      later_goes = ap (option_and_then (λ x. run x rest.later)) one.later_goes ∙ rest.later_goes;
      earlier_goes = rest.earlier_goes;
      later_small = omega (arith, one.later_small, rest.later_small);
      earlier_small = omega (arith, one.earlier_small, rest.earlier_small);
      later_long = ap suc rest.later_long;
      earlier_long = rest.earlier_long ∙ one.earlier_long;
    }

pub record IsPast (ls es : List Act) (t u : State) : Type 0 where
  pub later : List Act
  pub earlier : List Act
  pub end : State
  pub defined : past ls es ≡ Some (later, earlier)
  pub exactly : grid ls es ≡ Some (later, earlier)
  pub later_goes : run t later ≡ Some end
  pub earlier_goes : run u earlier ≡ Some end
  pub later_small : inserted later ≤ inserted ls
  pub earlier_small : inserted earlier ≤ inserted es
  pub later_long : length later ≡ length ls

pub past_room : (n : ℕ) (s : State) (ls es : List Act) (t u : State) → IsSmall n s → n + (inserted ls + inserted es) ≤ max_count → run s es ≡ Some t → run s ls ≡ Some u → IsPast ls es t u
past_room n s ls es t u h r p q =
    let x = lists_room n s 0 ls es t u h r p q in
    record {
      later = x.later;
      earlier = x.earlier;
      end = x.end;
      defined = ap result_ok x.defined;
      exactly = bounded_is_exact ls es (x.later, x.earlier) x.defined;
      later_goes = x.later_goes;
      earlier_goes = x.earlier_goes;
      later_small = x.later_small;
      earlier_small = x.earlier_small;
      later_long = x.later_long;
    }
