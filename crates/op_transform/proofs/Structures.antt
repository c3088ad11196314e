-- Both results of the transform of structured operations are structured.
use Rattle.std.proofs.Common.{Ok, ◌≡◌, ℕ, zero, suc, ◌+◌, ◌-◌, ◌<◌, ◌&&◌, sym, subst, List, [], ◌∷◌, arith}
use Rattle.std.proofs.lemmas.Bool.{and_parts}
use Rattle.doc_items.specs.Balance.{level, Closes}
use Rattle.doc_items.specs.Changes.{ChangeSet}
use Rattle.doc_items.specs.declared.item.Content.{Content}
use Rattle.doc_items.specs.declared.item.Content.TheVariants.{Character, Start, End}
use Rattle.doc_items.specs.declared.item.Item.{Item}
use Rattle.doc_op.specs.Actions.{AttributeChange, Names, Action, Keep, Ins, Del}
use Rattle.doc_op.specs.Apply.{put_content}
use Rattle.doc_op.specs.Structure.{StructuredFrom}
use Rattle.op_transform.specs.Crossing.{cross, over, under, attributes_cross, attributes_over, attributes_under, names_after, can_follow, delete_alike, delete_all, keep_all}
use Rattle.op_transform.specs.Transform.{Both, front, earlier_inserts, transform_from}
use Rattle.doc_op.proofs.Applying.{same_content-is}
use Rattle.op_transform.proofs.Outcomes.{no_ok, same_Ok, fronted, passed_ok}

-- the results' depths (la, lb) and (ec, ed) from the operations' depths (a, b) and (c, d): insertion, then deletion
pub record ResultDepths (a b c d la lb ec ed : ℕ) : Type 0 where
  pub la_free : d ≡ 0 → la ≡ a
  pub la_under : 0 < d → la ≡ 0
  pub lb_free : b ≡ 0 → lb ≡ 0
  pub lb_under : 0 < b → lb ≡ (b - d) + c
  pub ec_free : b ≡ 0 → ec ≡ c
  pub ec_under : 0 < b → ec ≡ 0
  pub ed_free : d ≡ 0 → ed ≡ 0
  pub ed_under : 0 < d → ed ≡ (d - b) + a

abbrev pub NoIns : List Action → Type 0
NoIns [] = Unit {0}
NoIns (Keep u a ∷ l) = Unit {0}
NoIns (Ins x ∷ l) = ⊥
NoIns (Del c n ∷ l) = Unit {0}

-- ---- how each row moves the depths

ins_free : (x : Content) (a b c la lb ec ed : ℕ) → ResultDepths a b c 0 la lb ec ed → b ≡ 0 → c ≡ 0 → Closes x a → Closes x la × ResultDepths (level x a) b c 0 (level x la) lb ec ed
ins_free (Character x) a b c la lb ec ed h p q k = (tt, grind arith)
ins_free (Start t m) a b c la lb ec ed h p q k = (tt, grind arith)
ins_free End a b c la lb ec ed h p q k = (grind arith, grind arith)

ins_under : (x : Content) (a b c d la lb ec ed : ℕ) → ResultDepths a b c (suc d) la lb ec ed → b ≡ 0 → c ≡ 0 → Closes x a → Closes x ed × ResultDepths (level x a) b c (suc d) la lb ec (level x ed)
ins_under (Character x) a b c d la lb ec ed h p q k = (tt, grind arith)
ins_under (Start t m) a b c d la lb ec ed h p q k = (tt, grind arith)
ins_under End a b c d la lb ec ed h p q k = (grind arith, grind arith)

earlier_free : (y : Content) (a c d la lb ec ed : ℕ) → ResultDepths a 0 c d la lb ec ed → a ≡ 0 → d ≡ 0 → Closes y c → Closes y ec × ResultDepths a 0 (level y c) d la lb (level y ec) ed
earlier_free (Character x) a c d la lb ec ed h p q k = (tt, grind arith)
earlier_free (Start t m) a c d la lb ec ed h p q k = (tt, grind arith)
earlier_free End a c d la lb ec ed h p q k = (grind arith, grind arith)

earlier_under : (y : Content) (a b c d la lb ec ed : ℕ) → ResultDepths a (suc b) c d la lb ec ed → a ≡ 0 → d ≡ 0 → Closes y c → Closes y lb × ResultDepths a (suc b) (level y c) d la (level y lb) ec ed
earlier_under (Character x) a b c d la lb ec ed h p q k = (tt, grind arith)
earlier_under (Start t m) a b c d la lb ec ed h p q k = (tt, grind arith)
earlier_under End a b c d la lb ec ed h p q k = (grind arith, grind arith)

del_right : (k : Content) (o : AttributeChange) (a b c d la lb ec ed : ℕ) → ResultDepths a b c d la lb ec ed → a ≡ 0 → b ≡ 0 → c ≡ 0 → Closes k d → Closes (put_content o k) ed × ResultDepths a b c (level k d) la lb ec (level (put_content o k) ed)
del_right (Character x) o a b c d la lb ec ed h p q r k = (tt, grind arith)
del_right (Start t m) o a b c d la lb ec ed h p q r k = (tt, grind arith)
del_right End o a b c d la lb ec ed h p q r k = (grind arith, grind arith)

del_left : (k : Content) (o : AttributeChange) (a b c d la lb ec ed : ℕ) → ResultDepths a b c d la lb ec ed → a ≡ 0 → c ≡ 0 → d ≡ 0 → Closes k b → Closes (put_content o k) lb × ResultDepths a (level k b) c d la (level (put_content o k) lb) ec ed
del_left (Character x) o a b c d la lb ec ed h p q r k = (tt, grind arith)
del_left (Start t m) o a b c d la lb ec ed h p q r k = (tt, grind arith)
del_left End o a b c d la lb ec ed h p q r k = (grind arith, grind arith)

del_both : (k : Content) (a b c d la lb ec ed : ℕ) → ResultDepths a b c d la lb ec ed → a ≡ 0 → c ≡ 0 → Closes k b → Closes k d → ResultDepths a (level k b) c (level k d) la lb ec ed
del_both (Character x) a b c d la lb ec ed h p q r k = grind arith
del_both (Start t m) a b c d la lb ec ed h p q r k = grind arith
del_both End a b c d la lb ec ed h p q r k = grind arith

-- ---- the rows

abbrev pub BothStructured : ℕ → ℕ → ℕ → ℕ → Both → Type 0
BothStructured la lb ec ed p = StructuredFrom la lb p.0 × StructuredFrom ec ed p.1

-- what holds of whatever the walk gives from here
abbrev pub Good : ℕ → ℕ → List Action → ℕ → ℕ → List Action → Type 0
Good a b l c d e = (z : ℕ) (la lb ec ed : ℕ) → ResultDepths a b c d la lb ec ed → (p : Both) → transform_from z b l d e ≡ Ok p → BothStructured la lb ec ed p

later_row : (x : Item) (a b c d : ℕ) (l e : List Action) → Good (level x.content a) b l c d e → b ≡ 0 → c ≡ 0 → Closes x.content a → Good a b (Ins x ∷ l) c d e
later_row x a b c zero l e rest p q k z la lb ec ed h pair is =
    let m = fronted (Ins x ∷ []) (keep_all ∷ []) (transform_from z b l 0 e) pair is in
    let n = ins_free x.content a b c la lb ec ed h p q k in
    let s = rest z (level x.content la) lb ec ed n.1 m.value m.had in
    subst (BothStructured la lb ec ed) m.gives ((omega arith, n.0, s.0), (omega arith, omega arith, s.1))
later_row x a b c (suc d) l e rest p q k z la lb ec ed h pair is =
    let m = fronted [] (delete_all x ∷ []) (transform_from z b l (suc d) e) pair is in
    let n = ins_under x.content a b c d la lb ec ed h p q k in
    let s = rest z la lb ec (level x.content ed) n.1 m.value m.had in
    subst (BothStructured la lb ec ed) m.gives (s.0, (omega arith, n.0, s.1))

-- where the walk's result is that of `earlier_inserts`
earlier_row : (y : Item) (a b c d : ℕ) (l e : List Action) → Good a b l (level y.content c) d e → a ≡ 0 → d ≡ 0 → Closes y.content c →
    (z la lb ec ed : ℕ) → ResultDepths a b c d la lb ec ed → (p : Both) → earlier_inserts b y (transform_from z b l d e) ≡ Ok p → BothStructured la lb ec ed p
earlier_row y a zero c d l e rest p q k z la lb ec ed h pair is =
    let m = fronted (keep_all ∷ []) (Ins y ∷ []) (transform_from z 0 l d e) pair is in
    let n = earlier_free y.content a c d la lb ec ed h p q k in
    let s = rest z la lb (level y.content ec) ed n.1 m.value m.had in
    subst (BothStructured la lb ec ed) m.gives ((omega arith, omega arith, s.0), (omega arith, n.0, s.1))
earlier_row y a (suc b) c d l e rest p q k z la lb ec ed h pair is =
    let m = fronted (delete_all y ∷ []) [] (transform_from z (suc b) l d e) pair is in
    let n = earlier_under y.content a b c d la lb ec ed h p q k in
    let s = rest z la (level y.content lb) ec ed n.1 m.value m.had in
    subst (BothStructured la lb ec ed) m.gives ((omega arith, n.0, s.0), s.1)

keep_row : (u w : ChangeSet) (o r : AttributeChange) (a b c d : ℕ) (l e : List Action) → Good a b l c d e → a ≡ 0 → b ≡ 0 → c ≡ 0 → d ≡ 0 → Good a b (Keep u o ∷ l) c d (Keep w r ∷ e)
keep_row u w o r a b c d l e rest p q f g z la lb ec ed h pair is =
    let t = passed_ok z (cross u w && attributes_cross o r) (front (Keep (over u w) (attributes_over o r) ∷ []) (Keep (under w u) (attributes_under r o) ∷ []) (transform_from (suc z) b l d e)) pair is in
    let m = fronted (Keep (over u w) (attributes_over o r) ∷ []) (Keep (under w u) (attributes_under r o) ∷ []) (transform_from (suc z) b l d e) pair t.rest in
    let s = rest (suc z) la lb ec ed h m.value m.had in
    subst (BothStructured la lb ec ed) m.gives ((omega arith, omega arith, s.0), (omega arith, omega arith, s.1))

keep_delete_row : (u : ChangeSet) (o : AttributeChange) (k : Content) (n : Names) (a b c d : ℕ) (l e : List Action) → Good a b l c (level k d) e → a ≡ 0 → b ≡ 0 → c ≡ 0 → Closes k d → Good a b (Keep u o ∷ l) c d (Del k n ∷ e)
keep_delete_row u o k n a b c d l e rest p q f g z la lb ec ed h pair is =
    let t = passed_ok z (can_follow k n u o) (front [] (Del (put_content o k) (names_after n u) ∷ []) (transform_from (suc z) b l (level k d) e)) pair is in
    let m = fronted [] (Del (put_content o k) (names_after n u) ∷ []) (transform_from (suc z) b l (level k d) e) pair t.rest in
    let v = del_right k o a b c d la lb ec ed h p q f g in
    let s = rest (suc z) la lb ec (level (put_content o k) ed) v.1 m.value m.had in
    subst (BothStructured la lb ec ed) m.gives (s.0, (omega arith, v.0, s.1))

delete_keep_row : (w : ChangeSet) (o : AttributeChange) (k : Content) (n : Names) (a b c d : ℕ) (l e : List Action) → Good a (level k b) l c d e → a ≡ 0 → c ≡ 0 → d ≡ 0 → Closes k b → Good a b (Del k n ∷ l) c d (Keep w o ∷ e)
delete_keep_row w o k n a b c d l e rest p q f g z la lb ec ed h pair is =
    let t = passed_ok z (can_follow k n w o) (front (Del (put_content o k) (names_after n w) ∷ []) [] (transform_from (suc z) (level k b) l d e)) pair is in
    let m = fronted (Del (put_content o k) (names_after n w) ∷ []) [] (transform_from (suc z) (level k b) l d e) pair t.rest in
    let v = del_left k o a b c d la lb ec ed h p q f g in
    let s = rest (suc z) la (level (put_content o k) lb) ec ed v.1 m.value m.had in
    subst (BothStructured la lb ec ed) m.gives ((omega arith, v.0, s.0), s.1)

delete_row : (j k : Content) (n o : Names) (a b c d : ℕ) (l e : List Action) → Good a (level j b) l c (level k d) e → a ≡ 0 → c ≡ 0 → Closes j b → Closes k d → Good a b (Del j n ∷ l) c d (Del k o ∷ e)
delete_row j k n o a b c d l e rest p q f g z la lb ec ed h pair is =
    let t = passed_ok z (delete_alike j n k o) (transform_from (suc z) (level j b) l (level k d) e) pair is in
    let e : j ≡ k = same_content-is j k (and_parts _ _ t.test).0 in
    let moved = del_both k a b c d la lb ec ed h p q (subst (λ x. Closes x b) e f) g in
    rest (suc z) la lb ec ed (subst (λ x. ResultDepths a (level x b) c (level k d) la lb ec ed) (sym e) moved) pair t.rest

end_row : (a b c d : ℕ) → a ≡ 0 → b ≡ 0 → c ≡ 0 → d ≡ 0 → Good a b [] c d []
end_row a b c d p q f g z la lb ec ed h pair is = subst (BothStructured la lb ec ed) (same_Ok is) ((omega arith, omega arith), (omega arith, omega arith))

-- ---- the walk

pub both_structured : (a b : ℕ) (l : List Action) (c d : ℕ) (e : List Action) → StructuredFrom a b l → StructuredFrom c d e → (0 < c → NoIns l) → Good a b l c d e
both_structured a b (Ins x ∷ l) c d e s t f = later_row x a b c d l e (both_structured (level x.content a) b l c d e s.2 t (λ h. absurd (f h))) s.0 (none c f) s.1
  where
    none : (c : ℕ) → (0 < c → ⊥) → c ≡ 0
    none c f = omega arith
both_structured a b [] c d [] s t f = end_row a b c d s.0 s.1 t.0 t.1
both_structured a b [] c d (Ins y ∷ e) s t f = earlier_row y a b c d [] e (both_structured a b [] (level y.content c) d e s t.2 (λ h. tt)) s.0 t.0 t.1
both_structured a b (Keep u o ∷ l) c d (Ins y ∷ e) s t f = earlier_row y a b c d (Keep u o ∷ l) e (both_structured a b (Keep u o ∷ l) (level y.content c) d e s t.2 (λ h. tt)) s.0 t.0 t.1
both_structured a b (Del k n ∷ l) c d (Ins y ∷ e) s t f = earlier_row y a b c d (Del k n ∷ l) e (both_structured a b (Del k n ∷ l) (level y.content c) d e s t.2 (λ h. tt)) s.0 t.0 t.1
both_structured a b (Keep u o ∷ l) c d (Keep w r ∷ e) s t f = keep_row u w o r a b c d l e (both_structured a b l c d e s.2 t.2 (λ h. absurd (omega arith))) s.0 s.1 t.0 t.1
both_structured a b (Keep u o ∷ l) c d (Del k n ∷ e) s t f = keep_delete_row u o k n a b c d l e (both_structured a b l c (level k d) e s.2 t.2 (λ h. absurd (omega arith))) s.0 s.1 t.0 t.1
both_structured a b (Del k n ∷ l) c d (Keep w o ∷ e) s t f = delete_keep_row w o k n a b c d l e (both_structured a (level k b) l c d e s.2 t.2 (λ h. absurd (omega arith))) s.0 t.0 t.1 s.1
both_structured a b (Del j n ∷ l) c d (Del k m ∷ e) s t f = delete_row j k n m a b c d l e (both_structured a (level j b) l c (level k d) e s.2 t.2 (λ h. absurd (omega arith))) s.0 t.0 s.1 t.1
both_structured a b [] c d (Keep w o ∷ e) s t f = λ z la lb ec ed h p is. no_ok is
both_structured a b [] c d (Del k n ∷ e) s t f = λ z la lb ec ed h p is. no_ok is
both_structured a b (Keep u o ∷ l) c d [] s t f = λ z la lb ec ed h p is. no_ok is
both_structured a b (Del k n ∷ l) c d [] s t f = λ z la lb ec ed h p is. no_ok is
