-- The composition of structured operations is structured.
use Rattle.std.proofs.Common.{◌≡◌, ℕ, ◌+◌, ◌-◌, ◌<◌, ◌&&◌, refl, sym, ap, subst, ◌∙◌, Some, List, [], ◌∷◌, Ok, arith}
use Rattle.std.proofs.lemmas.Bool.{and_parts}
use Rattle.doc_items.specs.Balance.{level, Closes}
use Rattle.doc_items.specs.Changes.{ChangeSet}
use Rattle.doc_items.specs.declared.item.Content.{Content}
use Rattle.doc_items.specs.declared.item.Content.TheVariants.{Character, Start, End}
use Rattle.doc_items.specs.declared.item.Item.{Item}
use Rattle.doc_op.specs.Actions.{AttributeChange, Names, Action, Keep, Ins, Del}
use Rattle.doc_op.specs.Structure.{StructuredFrom, Structured}
use Rattle.doc_op.specs.Apply.{put_content, keeps, kept, fits}
use Rattle.doc_op.proofs.Applying.{no_value, same_Some, mapped, passed, same_content-is}
use Rattle.op_compose.specs.Chains.{follows, then, names_before, attributes_back, attributes_follow, attributes_then, can_precede}
use Rattle.op_compose.specs.Compose.{compose, defined}
use Rattle.op_compose.proofs.Law.{whole, before, one_step, tested_step, dropped_step}

-- the result's depths (e, g) from the first's (a, b) and the second's (c, d): insertion, then deletion
pub record Depths (a b c d e g : ℕ) : Type 0 where
  pub ins : e ≡ c + (a - d)
  pub del : g ≡ b + (d - a)

abbrev pub NoDel : List Action → Type 0
NoDel [] = Unit {0}
NoDel (Keep u a ∷ l) = Unit {0}
NoDel (Ins x ∷ l) = Unit {0}
NoDel (Del c n ∷ l) = ⊥

abbrev pub Good : ℕ → ℕ → List Action → ℕ → ℕ → List Action → Type 0
Good a b f c d s = (e g : ℕ) → Depths a b c d e g → (k : List Action) → whole f s ≡ Some k → StructuredFrom e g k

move_b : (x : Content) (a b c d e g : ℕ) → Depths a b c d e g → a ≡ 0 → c ≡ 0 → Closes x b → Closes x g × Depths a (level x b) c d e (level x g)
move_b (Character x) a b c d e g h p q k = (tt, h)
move_b (Start t m) a b c d e g h p q k = (tt, record { ins = h.ins; del = let i = h.del in omega arith })
move_b End a b c d e g h p q k = (omega arith, record { ins = h.ins; del = omega arith })

move_c : (x : Content) (a b c d e g : ℕ) → Depths a b c d e g → d ≡ 0 → Closes x c → Closes x e × Depths a b (level x c) d (level x e) g
move_c (Character x) a b c d e g h p k = (tt, h)
move_c (Start t m) a b c d e g h p k = (tt, record { ins = omega arith; del = h.del })
move_c End a b c d e g h p k = (omega arith, record { ins = omega arith; del = h.del })

move_a : (x : Content) (o : AttributeChange) (a b c d e g : ℕ) → Depths a b c d e g → d ≡ 0 → Closes x a → Closes (put_content o x) e × Depths (level x a) b c d (level (put_content o x) e) g
move_a (Character x) o a b c d e g h p k = (tt, h)
move_a (Start t m) o a b c d e g h p k = (tt, record { ins = omega arith; del = omega arith })
move_a End o a b c d e g h p k = (omega arith, record { ins = omega arith; del = omega arith })

move_d : (x : Content) (o : AttributeChange) (a b c d e g : ℕ) → Depths a b c d e g → a ≡ 0 → Closes x d → Closes (put_content o x) g × Depths a b c (level x d) e (level (put_content o x) g)
move_d (Character x) o a b c d e g h p k = (tt, h)
move_d (Start t m) o a b c d e g h p k = (tt, record { ins = omega arith; del = omega arith })
move_d End o a b c d e g h p k = (omega arith, record { ins = omega arith; del = omega arith })

move_ad : (x : Content) (a b c d e g : ℕ) → Depths a b c d e g → Closes x a → Closes x d → Depths (level x a) b c (level x d) e g
move_ad (Character x) a b c d e g h p k = h
move_ad (Start t m) a b c d e g h p k = record { ins = omega arith; del = omega arith }
move_ad End a b c d e g h p k = record { ins = omega arith; del = omega arith }

none_left : (c : ℕ) → (0 < c → ⊥) → c ≡ 0
none_left c f = omega arith

deletes_row : (k : Content) (n : Names) (a b c d : ℕ) (f s : List Action) → Good a (level k b) f c d s → a ≡ 0 → c ≡ 0 → Closes k b → (e g : ℕ) → Depths a b c d e g → (r : List Action) → before (Del k n) (whole f s) ≡ Some r → StructuredFrom e g r
deletes_row k n a b c d f s rest p q t e g h r is =
    let m = mapped (λ (more : List Action). Del k n ∷ more) (whole f s) r is in
    let v = move_b k a b c d e g h p q t in
    let w = rest e (level k g) v.1 m.value m.had in
    subst (StructuredFrom e g) m.gives (omega arith, v.0, w)

inserts_row : (y : Item) (a b c d : ℕ) (f s : List Action) → Good a b f (level y.content c) d s → b ≡ 0 → d ≡ 0 → Closes y.content c → (e g : ℕ) → Depths a b c d e g → (r : List Action) → before (Ins y) (whole f s) ≡ Some r → StructuredFrom e g r
inserts_row y a b c d f s rest p q t e g h r is =
    let m = mapped (λ (more : List Action). Ins y ∷ more) (whole f s) r is in
    let v = move_c y.content a b c d e g h q t in
    let w = rest (level y.content e) g v.1 m.value m.had in
    subst (StructuredFrom e g) m.gives (omega arith, v.0, w)

insert_keep_row : (x : Item) (u : ChangeSet) (o : AttributeChange) (a b c d : ℕ) (f s : List Action) → Good (level x.content a) b f c d s → b ≡ 0 → d ≡ 0 → Closes x.content a → Good a b (Ins x ∷ f) c d (Keep u o ∷ s)
insert_keep_row x u o a b c d f s rest p q t e g h r is =
    let i = passed (keeps u o x) (before (Ins (kept u o x)) (whole f s)) r (sym (tested_step (keeps u o x) (Ins (kept u o x)) 1 (compose f s)) ∙ is) in
    let m = mapped (λ (more : List Action). Ins (kept u o x) ∷ more) (whole f s) r i.rest in
    let v = move_a x.content o a b c d e g h q t in
    let w = rest (level (put_content o x.content) e) g v.1 m.value m.had in
    subst (StructuredFrom e g) m.gives (omega arith, v.0, w)

insert_delete_row : (x : Item) (k : Content) (n : Names) (a b c d : ℕ) (f s : List Action) → Good (level x.content a) b f c (level k d) s → Closes x.content a → Closes k d → Good a b (Ins x ∷ f) c d (Del k n ∷ s)
insert_delete_row x k n a b c d f s rest p q e g h r is =
    let i = passed (fits k n x) (whole f s) r (sym (dropped_step (fits k n x) 1 (compose f s)) ∙ is) in
    let same : k ≡ x.content = same_content-is k x.content (and_parts _ _ i.test).0 in
    let v = move_ad x.content a b c d e g h p (subst (λ y. Closes y d) same q) in
    rest e g (subst (λ y. Depths (level x.content a) b c (level y d) e g) (sym same) v) r i.rest

keep_keep_depths : (w u : ChangeSet) (o l : AttributeChange) (a b c d : ℕ) (f s : List Action) → Good a b f c d s → a ≡ 0 → b ≡ 0 → c ≡ 0 → d ≡ 0 → Good a b (Keep w o ∷ f) c d (Keep u l ∷ s)
keep_keep_depths w u o l a b c d f s rest p q t v e g h r is =
    let i = passed (follows w u && attributes_follow o l) (before (Keep (then w u) (attributes_then o l)) (whole f s)) r (sym (tested_step (follows w u && attributes_follow o l) (Keep (then w u) (attributes_then o l)) 1 (compose f s)) ∙ is) in
    let m = mapped (λ (more : List Action). Keep (then w u) (attributes_then o l) ∷ more) (whole f s) r i.rest in
    subst (StructuredFrom e g) m.gives (omega arith, omega arith, rest e g h m.value m.had)

keep_delete_depths : (w : ChangeSet) (o : AttributeChange) (k : Content) (n : Names) (a b c d : ℕ) (f s : List Action) → Good a b f c (level k d) s → a ≡ 0 → b ≡ 0 → c ≡ 0 → Closes k d → Good a b (Keep w o ∷ f) c d (Del k n ∷ s)
keep_delete_depths w o k n a b c d f s rest p q t v e g h r is =
    let i = passed (can_precede k n w o) (before (Del (put_content (attributes_back o) k) (names_before n w)) (whole f s)) r (sym (tested_step (can_precede k n w o) (Del (put_content (attributes_back o) k) (names_before n w)) 1 (compose f s)) ∙ is) in
    let m = mapped (λ (more : List Action). Del (put_content (attributes_back o) k) (names_before n w) ∷ more) (whole f s) r i.rest in
    let x = move_d k (attributes_back o) a b c d e g h p v in
    let y = rest e (level (put_content (attributes_back o) k) g) x.1 m.value m.had in
    subst (StructuredFrom e g) m.gives (omega arith, x.0, y)

end_row : (a b c d : ℕ) → a ≡ 0 → b ≡ 0 → c ≡ 0 → d ≡ 0 → Good a b [] c d []
end_row a b c d p q t v e g h r is = subst (StructuredFrom e g) (same_Some is) (omega arith, omega arith)

structured_from : (a b : ℕ) (f : List Action) (c d : ℕ) (s : List Action) → StructuredFrom a b f → StructuredFrom c d s → (0 < c → NoDel f) → Good a b f c d s
structured_from a b (Del k n ∷ f) c d s p q h = λ e g m r is. deletes_row k n a b c d f s (structured_from a (level k b) f c d s p.2 q (λ x. absurd (h x))) p.0 (none_left c h) p.1 e g m r (sym (one_step (Del k n) 0 (compose f s)) ∙ is)
structured_from a b [] c d (Ins y ∷ s) p q h = λ e g m r is. inserts_row y a b c d [] s (structured_from a b [] (level y.content c) d s p q.2 (λ x. tt)) p.1 q.0 q.1 e g m r (sym (one_step (Ins y) 0 (compose [] s)) ∙ is)
structured_from a b (Ins x ∷ f) c d (Ins y ∷ s) p q h = λ e g m r is. inserts_row y a b c d (Ins x ∷ f) s (structured_from a b (Ins x ∷ f) (level y.content c) d s p q.2 (λ x. tt)) p.0 q.0 q.1 e g m r (sym (one_step (Ins y) 0 (compose (Ins x ∷ f) s)) ∙ is)
structured_from a b (Keep w o ∷ f) c d (Ins y ∷ s) p q h = λ e g m r is. inserts_row y a b c d (Keep w o ∷ f) s (structured_from a b (Keep w o ∷ f) (level y.content c) d s p q.2 (λ x. tt)) p.1 q.0 q.1 e g m r (sym (one_step (Ins y) 0 (compose (Keep w o ∷ f) s)) ∙ is)
structured_from a b (Ins x ∷ f) c d (Keep u o ∷ s) p q h = insert_keep_row x u o a b c d f s (structured_from (level x.content a) b f c d s p.2 q.2 (λ x. absurd (omega arith))) p.0 q.1 p.1
structured_from a b (Ins x ∷ f) c d (Del k n ∷ s) p q h = insert_delete_row x k n a b c d f s (structured_from (level x.content a) b f c (level k d) s p.2 q.2 (λ x. absurd (omega arith))) p.1 q.1
structured_from a b (Keep w o ∷ f) c d (Keep u l ∷ s) p q h = keep_keep_depths w u o l a b c d f s (structured_from a b f c d s p.2 q.2 (λ x. absurd (omega arith))) p.0 p.1 q.0 q.1
structured_from a b (Keep w o ∷ f) c d (Del k n ∷ s) p q h = keep_delete_depths w o k n a b c d f s (structured_from a b f c (level k d) s p.2 q.2 (λ x. absurd (omega arith))) p.0 p.1 q.0 q.1
structured_from a b [] c d [] p q h = end_row a b c d p.0 p.1 q.0 q.1
structured_from a b [] c d (Keep u o ∷ s) p q h = λ e g m k is. no_value is
structured_from a b [] c d (Del k n ∷ s) p q h = λ e g m r is. no_value is
structured_from a b (Ins x ∷ f) c d [] p q h = λ e g m k is. no_value is
structured_from a b (Keep w o ∷ f) c d [] p q h = λ e g m k is. no_value is

-- the composition of structured operations is structured
pub composed_structured : (f s c : List Action) → Structured f → Structured s → compose f s ≡ Ok c → Structured c
composed_structured f s c p q is = structured_from 0 0 f 0 0 s p q (λ (h : 0 < 0). absurd (omega arith)) 0 0 (record { ins = refl; del = refl }) c (ap defined is)
