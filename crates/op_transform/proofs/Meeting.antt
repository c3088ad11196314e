-- One induction over the walk of the transform, which uses the rows alone.
use Rattle.std.proofs.Common.{◌≡◌, ℕ, zero, suc, Bool, true, cond, ◌&&◌, refl, sym, ap, subst, ◌∙◌, None, Some, Ok, Err, List, [], ◌∷◌}
use Rattle.std.specs.Option.{option_map}
use Rattle.std.specs.FinMap.{empty}
use Rattle.doc_items.specs.Balance.{level}
use Rattle.doc_items.specs.Changes.{ChangeSet}
use Rattle.doc_items.specs.declared.item.Content.{Content}
use Rattle.doc_items.specs.declared.item.Item.{Item}
use Rattle.doc_op.specs.Actions.{AttributeChange, Unchanged, Names, Action, Keep, Ins, Del}
use Rattle.doc_op.specs.Apply.{keeps, kept, fits, names_of, put_content, apply}
use Rattle.op_transform.specs.Crossing.{cross, over, under, attributes_cross, attributes_over, attributes_under, names_after, can_follow, delete_alike, keep_all}
use Rattle.op_transform.specs.Transform.{Outcome, front, later_inserts, earlier_inserts, transform_from}
use Rattle.op_transform.specs.Square.{Meets}
use Rattle.doc_op.proofs.Applying.{no_value, same_Some, mapped, passed}
use Rattle.op_transform.proofs.Items.{keep_square, delete_after_keep, both_delete, keep_all-keeps, keep_all-kept, delete_all-fits}

-- ---- the rows, over what follows

module _ (r : Outcome) (dl de : List Item) (m : Meets r dl de) where
  guarded : (k : ℕ) (b : Bool) → b ≡ true → Meets (cond b r (Err k)) dl de
  guarded k b e = subst (λ x. Meets (cond x r (Err k)) dl de) (sym e) m

  both_keep : (u w : ChangeSet) (a o : AttributeChange) (il ie : Item) → keeps u a ie ≡ true → keeps w o il ≡ true → kept u a ie ≡ kept w o il → Meets (front (Keep u a ∷ []) (Keep w o ∷ []) r) (il ∷ dl) (ie ∷ de)
  both_keep u w a o il ie p q e = record {
    later = Keep u a ∷ m.later;
    earlier = Keep w o ∷ m.earlier;
    out = kept u a ie ∷ m.out;
    is = ap (front (Keep u a ∷ []) (Keep w o ∷ [])) m.is;
    later_applies = ap (λ b. cond b (option_map (λ out. kept u a ie ∷ out) (apply m.later de)) None) p ∙ ap (option_map (λ out. kept u a ie ∷ out)) m.later_applies;
    earlier_applies = ap (λ b. cond b (option_map (λ out. kept w o il ∷ out) (apply m.earlier dl)) None) q ∙ ap (option_map (λ out. kept w o il ∷ out)) m.earlier_applies ∙ ap (λ x. Some (x ∷ m.out)) (sym e);
  }

  right_delete : (c : Content) (n : Names) (i : Item) → fits c n i ≡ true → Meets (front [] (Del c n ∷ []) r) (i ∷ dl) de
  right_delete c n i p = record {
    later = m.later;
    earlier = Del c n ∷ m.earlier;
    out = m.out;
    is = ap (front [] (Del c n ∷ [])) m.is;
    later_applies = m.later_applies;
    earlier_applies = ap (λ b. cond b (apply m.earlier dl) None) p ∙ m.earlier_applies;
  }

  left_delete : (c : Content) (n : Names) (i : Item) → fits c n i ≡ true → Meets (front (Del c n ∷ []) [] r) dl (i ∷ de)
  left_delete c n i p = record {
    later = Del c n ∷ m.later;
    earlier = m.earlier;
    out = m.out;
    is = ap (front (Del c n ∷ []) []) m.is;
    later_applies = ap (λ b. cond b (apply m.later de) None) p ∙ m.later_applies;
    earlier_applies = m.earlier_applies;
  }

  -- an insertion of one side is kept or deleted by the other
  kept_whole : (i : Item) (acts : List Action) (items : List Item) → apply acts items ≡ Some m.out → apply (keep_all ∷ acts) (i ∷ items) ≡ Some (i ∷ m.out)
  kept_whole i acts items e =
      ap (λ b. cond b (option_map (λ out. kept empty Unchanged i ∷ out) (apply acts items)) None) (keep_all-keeps i)
      ∙ ap (option_map (λ out. kept empty Unchanged i ∷ out)) e
      ∙ ap (λ x. Some (x ∷ m.out)) (keep_all-kept i)

  insert_later : (d : ℕ) (x : Item) → Meets (later_inserts d x r) (x ∷ dl) de
  insert_later zero x = record {
    later = Ins x ∷ m.later;
    earlier = keep_all ∷ m.earlier;
    out = x ∷ m.out;
    is = ap (front (Ins x ∷ []) (keep_all ∷ [])) m.is;
    later_applies = ap (option_map (λ out. x ∷ out)) m.later_applies;
    earlier_applies = kept_whole x m.earlier dl m.earlier_applies;
  }
  insert_later (suc d) x = right_delete x.content (names_of x.notes) x (delete_all-fits x)

  insert_earlier : (b : ℕ) (y : Item) → Meets (earlier_inserts b y r) dl (y ∷ de)
  insert_earlier zero y = record {
    later = keep_all ∷ m.later;
    earlier = Ins y ∷ m.earlier;
    out = y ∷ m.out;
    is = ap (front (keep_all ∷ []) (Ins y ∷ [])) m.is;
    later_applies = kept_whole y m.later de m.later_applies;
    earlier_applies = ap (option_map (λ out. y ∷ out)) m.earlier_applies;
  }
  insert_earlier (suc b) y = left_delete y.content (names_of y.notes) y (delete_all-fits y)

-- what is left once both take an item
abbrev Rest : ℕ → ℕ → List Action → ℕ → List Action → List Item → Type 0
Rest k b ls d es items = (dl de : List Item) → apply ls items ≡ Some dl → apply es items ≡ Some de → Meets (transform_from k b ls d es) dl de

insert_later_row : (k : ℕ) (b : ℕ) (ls : List Action) (d : ℕ) (es : List Action) (x : Item) (items dl de : List Item) → Rest k b ls d es items →
    option_map (λ out. x ∷ out) (apply ls items) ≡ Some dl → apply es items ≡ Some de → Meets (later_inserts d x (transform_from k b ls d es)) dl de
insert_later_row k b ls d es x items dl de rest p q =
    let h = mapped (λ (out : List Item). x ∷ out) (apply ls items) dl p in
    subst (λ out. Meets (later_inserts d x (transform_from k b ls d es)) out de) h.gives (insert_later (transform_from k b ls d es) h.value de (rest h.value de h.had q) d x)

insert_earlier_row : (k : ℕ) (b : ℕ) (ls : List Action) (d : ℕ) (es : List Action) (y : Item) (items dl de : List Item) → Rest k b ls d es items →
    apply ls items ≡ Some dl → option_map (λ out. y ∷ out) (apply es items) ≡ Some de → Meets (earlier_inserts b y (transform_from k b ls d es)) dl de
insert_earlier_row k b ls d es y items dl de rest p q =
    let h = mapped (λ (out : List Item). y ∷ out) (apply es items) de q in
    subst (λ out. Meets (earlier_inserts b y (transform_from k b ls d es)) dl out) h.gives (insert_earlier (transform_from k b ls d es) dl h.value (rest dl h.value p h.had) b y)

keep_row : (k : ℕ) (b : ℕ) (ls : List Action) (d : ℕ) (es : List Action) (u w : ChangeSet) (a o : AttributeChange) (i : Item) (items dl de : List Item) → Rest (suc k) b ls d es items →
    apply (Keep u a ∷ ls) (i ∷ items) ≡ Some dl → apply (Keep w o ∷ es) (i ∷ items) ≡ Some de → Meets (transform_from k b (Keep u a ∷ ls) d (Keep w o ∷ es)) dl de
keep_row k b ls d es u w a o i items dl de rest p q =
    let hp = passed (keeps u a i) (option_map (λ (out : List Item). kept u a i ∷ out) (apply ls items)) dl p in
    let hq = passed (keeps w o i) (option_map (λ (out : List Item). kept w o i ∷ out) (apply es items)) de q in
    let mp = mapped (λ (out : List Item). kept u a i ∷ out) (apply ls items) dl hp.rest in
    let mq = mapped (λ (out : List Item). kept w o i ∷ out) (apply es items) de hq.rest in
    let s = keep_square u w a o i hp.test hq.test in
    let after = transform_from (suc k) b ls d es in
    subst (λ out. Meets (transform_from k b (Keep u a ∷ ls) d (Keep w o ∷ es)) out de) mp.gives
    (subst (λ out. Meets (transform_from k b (Keep u a ∷ ls) d (Keep w o ∷ es)) (kept u a i ∷ mp.value) out) mq.gives
    (guarded _ _ _
    (both_keep after mp.value mq.value (rest mp.value mq.value mp.had mq.had) (over u w) (under w u) (attributes_over a o) (attributes_under o a) (kept u a i) (kept w o i) s.later s.earlier s.meet)
    k (cross u w && attributes_cross a o) s.cross))

keep_delete_row : (k : ℕ) (b : ℕ) (ls : List Action) (d : ℕ) (es : List Action) (u : ChangeSet) (a : AttributeChange) (c : Content) (n : Names) (i : Item) (items dl de : List Item) → Rest (suc k) b ls (level c d) es items →
    apply (Keep u a ∷ ls) (i ∷ items) ≡ Some dl → apply (Del c n ∷ es) (i ∷ items) ≡ Some de → Meets (transform_from k b (Keep u a ∷ ls) d (Del c n ∷ es)) dl de
keep_delete_row k b ls d es u a c n i items dl de rest p q =
    let hp = passed (keeps u a i) (option_map (λ (out : List Item). kept u a i ∷ out) (apply ls items)) dl p in
    let hq = passed (fits c n i) (apply es items) de q in
    let mp = mapped (λ (out : List Item). kept u a i ∷ out) (apply ls items) dl hp.rest in
    let s = delete_after_keep u a c n i hp.test hq.test in
    subst (λ out. Meets (transform_from k b (Keep u a ∷ ls) d (Del c n ∷ es)) out de) mp.gives
    (guarded _ _ _
    (right_delete (transform_from (suc k) b ls (level c d) es) mp.value de (rest mp.value de mp.had hq.rest) (put_content a c) (names_after n u) (kept u a i) s.fit)
    k (can_follow c n u a) s.can)

delete_keep_row : (k : ℕ) (b : ℕ) (ls : List Action) (d : ℕ) (es : List Action) (w : ChangeSet) (o : AttributeChange) (c : Content) (n : Names) (i : Item) (items dl de : List Item) → Rest (suc k) (level c b) ls d es items →
    apply (Del c n ∷ ls) (i ∷ items) ≡ Some dl → apply (Keep w o ∷ es) (i ∷ items) ≡ Some de → Meets (transform_from k b (Del c n ∷ ls) d (Keep w o ∷ es)) dl de
delete_keep_row k b ls d es w o c n i items dl de rest p q =
    let hp = passed (fits c n i) (apply ls items) dl p in
    let hq = passed (keeps w o i) (option_map (λ (out : List Item). kept w o i ∷ out) (apply es items)) de q in
    let mq = mapped (λ (out : List Item). kept w o i ∷ out) (apply es items) de hq.rest in
    let s = delete_after_keep w o c n i hq.test hp.test in
    subst (λ out. Meets (transform_from k b (Del c n ∷ ls) d (Keep w o ∷ es)) dl out) mq.gives
    (guarded _ _ _
    (left_delete (transform_from (suc k) (level c b) ls d es) dl mq.value (rest dl mq.value hp.rest mq.had) (put_content o c) (names_after n w) (kept w o i) s.fit)
    k (can_follow c n w o) s.can)

delete_row : (k : ℕ) (b : ℕ) (ls : List Action) (d : ℕ) (es : List Action) (c p : Content) (n m : Names) (i : Item) (items dl de : List Item) → Rest (suc k) (level c b) ls (level p d) es items →
    apply (Del c n ∷ ls) (i ∷ items) ≡ Some dl → apply (Del p m ∷ es) (i ∷ items) ≡ Some de → Meets (transform_from k b (Del c n ∷ ls) d (Del p m ∷ es)) dl de
delete_row k b ls d es c p n m i items dl de rest h g =
    let hp = passed (fits c n i) (apply ls items) dl h in
    let hq = passed (fits p m i) (apply es items) de g in
    guarded _ _ _ (rest dl de hp.rest hq.rest) k (delete_alike c n p m) (both_delete c p n m i hp.test hq.test)

end_row : (dl de : List Item) → Some [] ≡ Some dl → Some [] ≡ Some de → Meets (Ok ([], [])) dl de
end_row dl de p q =
    subst (λ x. Meets (Ok ([], [])) x de) (same_Some p) (subst (λ x. Meets (Ok ([], [])) [] x) (same_Some q) (record { later = []; earlier = []; out = []; is = refl; later_applies = refl; earlier_applies = refl }))

-- ---- the walk

pub meets : (k : ℕ) (b : ℕ) (l : List Action) (d : ℕ) (e : List Action) (items dl de : List Item) → apply l items ≡ Some dl → apply e items ≡ Some de → Meets (transform_from k b l d e) dl de
meets k b (Ins x ∷ ls) d es items dl de p q = insert_later_row k b ls d es x items dl de (meets k b ls d es items) p q
meets k b [] d [] [] dl de p q = end_row dl de p q
meets k b [] d [] (i ∷ items) dl de p q = no_value p
meets k b [] d (Ins y ∷ es) items dl de p q = insert_earlier_row k b [] d es y items dl de (meets k b [] d es items) p q
meets k b (Keep u a ∷ ls) d (Ins y ∷ es) items dl de p q = insert_earlier_row k b (Keep u a ∷ ls) d es y items dl de (meets k b (Keep u a ∷ ls) d es items) p q
meets k b (Del c n ∷ ls) d (Ins y ∷ es) items dl de p q = insert_earlier_row k b (Del c n ∷ ls) d es y items dl de (meets k b (Del c n ∷ ls) d es items) p q
meets k b (Keep u a ∷ ls) d (Keep w o ∷ es) (i ∷ items) dl de p q = keep_row k b ls d es u w a o i items dl de (meets (suc k) b ls d es items) p q
meets k b (Keep u a ∷ ls) d (Del c n ∷ es) (i ∷ items) dl de p q = keep_delete_row k b ls d es u a c n i items dl de (meets (suc k) b ls (level c d) es items) p q
meets k b (Del c n ∷ ls) d (Keep w o ∷ es) (i ∷ items) dl de p q = delete_keep_row k b ls d es w o c n i items dl de (meets (suc k) (level c b) ls d es items) p q
meets k b (Del c n ∷ ls) d (Del z m ∷ es) (i ∷ items) dl de p q = delete_row k b ls d es c z n m i items dl de (meets (suc k) (level c b) ls (level z d) es items) p q
meets k b (Keep u a ∷ ls) d (Keep w o ∷ es) [] dl de p q = no_value p
meets k b (Keep u a ∷ ls) d (Del c n ∷ es) [] dl de p q = no_value p
meets k b (Del c n ∷ ls) d (Keep w o ∷ es) [] dl de p q = no_value p
meets k b (Del c n ∷ ls) d (Del z m ∷ es) [] dl de p q = no_value p
meets k b (Keep u a ∷ ls) d [] [] dl de p q = no_value p
meets k b (Keep u a ∷ ls) d [] (i ∷ items) dl de p q = no_value q
meets k b (Del c n ∷ ls) d [] [] dl de p q = no_value p
meets k b (Del c n ∷ ls) d [] (i ∷ items) dl de p q = no_value q
meets k b [] d (Keep w o ∷ es) [] dl de p q = no_value q
meets k b [] d (Keep w o ∷ es) (i ∷ items) dl de p q = no_value p
meets k b [] d (Del c n ∷ es) [] dl de p q = no_value q
meets k b [] d (Del c n ∷ es) (i ∷ items) dl de p q = no_value p
