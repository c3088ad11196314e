-- What is done to a range is an edit of the whole.
--     Takes acts gone new     the actions make of these items those, whatever comes after
--     made                    an operation of such a plan is the edit
use Rattle.std.proofs.Common.{◌≡◌, ◌≤◌, ◌+◌, ◌-◌, ℕ, cond, List, ◌++◌, length, take, drop, sym, ap, subst, ◌∙◌, arith, None, Some, is_none, append_assoc, drop-drop}
use Rattle.std.proofs.lemmas.List.{take-append-drop, length-drop}
use Rattle.doc_items.specs.declared.item.Item.{Item}
use Rattle.doc_op.specs.declared.component.Component.{Component}
use Rattle.doc_op.specs.Actions.{Action, actions}
use Rattle.doc_op.specs.Apply.{apply}
use Rattle.doc_op.specs.Normal.{normal_form}
use Rattle.doc_op.specs.Structure.{Structured}
use Rattle.doc_op.proofs.Structures.{structured_is_unbroken}
use Rattle.op_build.specs.Edits.{range, replaced}
use Rattle.op_build.specs.Plans.{retained, plan, IsEdit}
use Rattle.op_build.proofs.Kept.{all_stay, front_stays, kept_structured, retained_structured}

pub record Takes (acts : List Action) (gone new : List Item) : Type 0 where
  pub makes : (rest : List Action) (behind out : List Item) → apply rest behind ≡ Some out → apply (acts ++ rest) (gone ++ behind) ≡ Some (new ++ out)
  pub nests : (rest : List Action) → Structured rest → Structured (acts ++ rest)

module _ (items : List Item) (from count : ℕ) (acts : List Action) (new : List Item) where
  plan_makes : from + count ≤ length items → Takes acts (range items from count) new → apply (plan items from count acts) items ≡ Some (replaced items from count new)
  plan_makes h t =
      let behind = drop count (drop from items) in
      let last = retained (length items - (from + count)) in
      let past : behind ≡ drop (from + count) items = drop-drop count from items in
      let many : length behind ≡ length items - (from + count) = ap length past ∙ length-drop (from + count) items in
      let rest : apply last behind ≡ Some behind = subst (λ n. apply (retained n) behind ≡ Some behind) many (all_stay behind) in
      ap (λ a. apply a items) (append_assoc (retained from) acts last)
      ∙ front_stays from (acts ++ last) items (new ++ behind) (omega (arith, h))
      (ap (apply (acts ++ last)) (sym (take-append-drop count (drop from items))) ∙ t.makes last behind behind rest)
      ∙ ap (λ x. Some (take from items ++ (new ++ x))) past
      ∙ ap Some (sym (append_assoc (take from items) new (drop (from + count) items)))

  plan_nests : Takes acts (range items from count) new → Structured (plan items from count acts)
  plan_nests t =
      let last = retained (length items - (from + count)) in
      subst Structured (sym (append_assoc (retained from) acts last)) (kept_structured from (acts ++ last) (t.nests last (retained_structured (length items - (from + count)))))

  pub made : (op : List Component) → from + count ≤ length items → Takes acts (range items from count) new → actions op ≡ plan items from count acts → op ≡ normal_form (actions op)
      → IsEdit op (plan items from count acts) items (replaced items from count new)
  made op h t is n = record {
    is = is;
    normal = n ∙ ap normal_form is;
    structured = plan_nests t;
    makes =
        ap (λ b. cond (is_none b) (apply (actions op) items) None) (structured_is_unbroken op (subst Structured (sym is) (plan_nests t)))
        ∙ ap (λ a. apply a items) is ∙ plan_makes h t;
  }
