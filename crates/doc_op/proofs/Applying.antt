-- What applies, and what it leaves.
--     no_value, same_Some, mapped, passed     partial results
--     same_content-is                         the test of contents is a test of ≡
--     keeps_balance                           a structured operation keeps balance
--     apply-length                            as many items as the actions give
use Rattle.std.proofs.Common.{◌≡◌, ℕ, ◌+◌, Bool, true, false, cond, refl, sym, ap, subst, true≢false, Option, None, Some, is_some, List, [], ◌∷◌, length, arith}
use Rattle.std.specs.Option.{option_map, unwrap_or}
use Rattle.std.specs.Cmp.Lexicographic.{bytes_decides}
use Rattle.std.proofs.lemmas.Bool.{and_parts, eqb-true}
use Rattle.doc_items.specs.Balance.{level, Closes, BalancedFrom}
use Rattle.doc_items.specs.declared.item.Content.{Content}
use Rattle.doc_items.specs.declared.item.Content.TheVariants.{Character, Start, End}
use Rattle.doc_items.specs.declared.item.Item.{Item}
use Rattle.doc_items.proofs.Maps.{same_values-is}
use Rattle.doc_op.specs.Actions.{AttributeChange, Action, Keep, Ins, Del}
use Rattle.doc_op.specs.Lengths.{output_len}
use Rattle.doc_op.specs.Structure.{StructuredFrom}
use Rattle.doc_op.specs.Apply.{put_content, same_content, keeps, kept, fits, apply}

pub no_value : {A C : Type 0} {x : A} → None ≡ Some x → C
no_value e = absurd (true≢false (sym (ap is_some e)))

pub same_Some : {A : Type 0} {x y : A} → Some x ≡ Some y → x ≡ y
same_Some {x = x} e = ap (λ o. unwrap_or o x) e

pub record Mapped {A B : Type 0} (f : A → B) (o : Option A) (y : B) : Type 0 where
  pub value : A
  pub had : o ≡ Some value
  pub gives : f value ≡ y

pub mapped : {A B : Type 0} (f : A → B) (o : Option A) (y : B) → option_map f o ≡ Some y → Mapped f o y
mapped f None y e = no_value e
mapped f (Some z) y e = record { value = z; had = refl; gives = same_Some e }

pub record Passed {A : Type 0} (b : Bool) (o : Option A) (y : A) : Type 0 where
  pub test : b ≡ true
  pub rest : o ≡ Some y

pub passed : {A : Type 0} (b : Bool) (o : Option A) (y : A) → cond b o None ≡ Some y → Passed b o y
passed true o y e = record { test = refl; rest = e }
passed false o y e = no_value e

pub same_content-is : (c d : Content) → same_content c d ≡ true → c ≡ d
same_content-is (Character x) (Character y) e = ap Character (eqb-true x y e)
same_content-is (Start k m) (Start l n) e = let h = and_parts _ _ e in λ i. Start ((bytes_decides k l).0 h.0 i) (same_values-is m n h.1 i)
same_content-is End End e = refl
same_content-is (Character x) (Start l n) e = absurd (true≢false (sym e))
same_content-is (Character x) End e = absurd (true≢false (sym e))
same_content-is (Start k m) (Character y) e = absurd (true≢false (sym e))
same_content-is (Start k m) End e = absurd (true≢false (sym e))
same_content-is End (Character y) e = absurd (true≢false (sym e))
same_content-is End (Start l n) e = absurd (true≢false (sym e))

-- ---- balance: a result's height h, the document's g, and the operation's depths i and d

level_up : (x : Content) (h g i d : ℕ) → h + d ≡ g + i → d ≡ 0 → Closes x i → Closes x h × (level x h + d ≡ g + level x i)
level_up (Character x) h g i d e p k = (tt, e)
level_up (Start t m) h g i d e p k = (tt, omega arith)
level_up End h g i d e p k = (omega arith, omega arith)

level_same : (x : Content) (o : AttributeChange) (h g i d : ℕ) → h + d ≡ g + i → i ≡ 0 → d ≡ 0 → Closes x g → Closes (put_content o x) h × (level (put_content o x) h + d ≡ level x g + i)
level_same (Character x) o h g i d e p q k = (tt, e)
level_same (Start t m) o h g i d e p q k = (tt, omega arith)
level_same End o h g i d e p q k = (omega arith, omega arith)

level_down : (x : Content) (h g i d : ℕ) → h + d ≡ g + i → i ≡ 0 → Closes x d → Closes x g → h + level x d ≡ level x g + i
level_down (Character x) h g i d e p k l = e
level_down (Start t m) h g i d e p k l = omega arith
level_down End h g i d e p k l = omega arith

pub keeps_balance : (acts : List Action) (items out : List Item) (h g i d : ℕ) → h + d ≡ g + i → StructuredFrom i d acts → BalancedFrom g items → apply acts items ≡ Some out → BalancedFrom h out
keeps_balance [] [] out h g i d e s b is = subst (BalancedFrom h) (same_Some is) (omega arith)
keeps_balance [] (x ∷ items) out h g i d e s b is = no_value is
keeps_balance (Ins x ∷ more) items out h g i d e s b is =
    let m = mapped (λ (o : List Item). x ∷ o) (apply more items) out is in
    let n = level_up x.content h g i d e s.0 s.1 in
    subst (BalancedFrom h) m.gives (n.0, keeps_balance more items m.value (level x.content h) g (level x.content i) d n.1 s.2 b m.had)
keeps_balance (Keep u a ∷ more) [] out h g i d e s b is = no_value is
keeps_balance (Keep u a ∷ more) (x ∷ items) out h g i d e s b is =
    let t = passed (keeps u a x) _ out is in
    let m = mapped (λ (o : List Item). kept u a x ∷ o) (apply more items) out t.rest in
    let n = level_same x.content a h g i d e s.0 s.1 b.0 in
    subst (BalancedFrom h) m.gives (n.0, keeps_balance more items m.value (level (put_content a x.content) h) (level x.content g) i d n.1 s.2 b.1 m.had)
keeps_balance (Del c n ∷ more) [] out h g i d e s b is = no_value is
keeps_balance (Del c n ∷ more) (x ∷ items) out h g i d e s b is =
    let t = passed (fits c n x) _ out is in
    let same : c ≡ x.content = same_content-is c x.content (and_parts _ _ t.test).0 in
    let k = level_down c h g i d e s.0 s.1 (subst (λ y. Closes y g) (sym same) b.0) in
    keeps_balance more items out h (level x.content g) i (level c d) (subst (λ y. h + level c d ≡ level y g + i) same k) s.2 b.1 t.rest

-- ---- lengths

pub apply-length : (acts : List Action) (items out : List Item) → apply acts items ≡ Some out → length out ≡ output_len acts
apply-length [] [] out is = ap length (sym (same_Some is))
apply-length [] (x ∷ items) out is = no_value is
apply-length (Ins x ∷ more) items out is =
    let m = mapped (λ (o : List Item). x ∷ o) (apply more items) out is in
    let e = apply-length more items m.value m.had in
    rw (← m.gives) (omega (arith, e))
apply-length (Keep u a ∷ more) [] out is = no_value is
apply-length (Keep u a ∷ more) (x ∷ items) out is =
    let t = passed (keeps u a x) _ out is in
    let m = mapped (λ (o : List Item). kept u a x ∷ o) (apply more items) out t.rest in
    let e = apply-length more items m.value m.had in
    rw (← m.gives) (omega (arith, e))
apply-length (Del c n ∷ more) [] out is = no_value is
apply-length (Del c n ∷ more) (x ∷ items) out is = apply-length more items out (passed (fits c n x) _ out is).rest
