-- The test of structure on actions, and what two mutations of one document give.
--     is_structured-holds, holds-is_structured     the test
--     valid_is_mutate        of an operation's components the definition is that of documents
--     document_square        the square of two mutations
use Rattle.std.proofs.Common.{◌≡◌, true, false, cond, refl, sym, ap, ◌∙◌, true≢false, Option, None, Some, Ok, is_none, List, ◌≤◌}
use Rattle.std.specs.Option.{option_map_or}
use Rattle.std.proofs.lemmas.Bool.{and_parts, eqb-true}
use Rattle.doc_items.specs.declared.item.Item.{Item}
use Rattle.doc_op.specs.declared.component.Component.{Component}
use Rattle.doc_op.specs.Actions.{Action, actions}
use Rattle.doc_op.specs.Apply.{apply, valid}
use Rattle.doc_op.specs.Lengths.{inserted_len}
use Rattle.doc_op.specs.Structure.{ground, is_ground, depths_behind, Structured, first_break}
use Rattle.doc_op.proofs.Applying.{passed}
use Rattle.doc_op.proofs.Structures.{Structured-behind, behind-Structured, unbroken_is_structured, structured_is_unbroken}
use Rattle.op_transform.specs.Transform.{transform}
use Rattle.op_transform.proofs.Laws.{are_structured, square}
use Rattle.wavelet_op.specs.States.{is_structured, mutate}
use Rattle.wavelet_op.proofs.Inserted.{transform_small}
use Rattle.wavelet_op.proofs.Partial.{same_tests}

pub is_structured-holds : (acts : List Action) → is_structured acts ≡ true → Structured acts
is_structured-holds acts e = Structured-behind acts ground (elim (depths_behind ground acts) as (λ o. option_map_or is_ground o false ≡ true → o ≡ Some ground) [
  | None ↦ λ f. absurd (true≢false (sym f))
  | Some d ↦ λ f. let p = and_parts _ _ f in λ i. Some (record { inserted = eqb-true d.inserted 0 p.0 i; deleted = eqb-true d.deleted 0 p.1 i })
] e)

pub holds-is_structured : (acts : List Action) → Structured acts → is_structured acts ≡ true
holds-is_structured acts h = ap (λ o. option_map_or is_ground o false) (behind-Structured acts ground h)

none_is : {X : Type 0} (o : Option X) → is_none o ≡ true → o ≡ None
none_is None e = refl
none_is (Some x) e = absurd (true≢false (sym e))

pub valid_is_mutate : (cs : List Component) (items : List Item) → valid cs items ≡ mutate (actions cs) items
valid_is_mutate cs items = ap (λ b. cond b (apply (actions cs) items) None) (same_tests (is_none (first_break cs)) (is_structured (actions cs))
    (λ e. holds-is_structured (actions cs) (unbroken_is_structured cs (none_is (first_break cs) e)))
    (λ e. ap is_none (structured_is_unbroken cs (is_structured-holds (actions cs) e))))

pub mutates : (acts : List Action) (items out : List Item) → Structured acts → apply acts items ≡ Some out → mutate acts items ≡ Some out
mutates acts items out h e = ap (λ b. cond b (apply acts items) None) (holds-is_structured acts h) ∙ e

pub record IsDocumentSquare (l e : List Action) (after_earlier after_later : List Item) : Type 0 where
  pub later' : List Action
  pub earlier' : List Action
  pub end : List Item
  pub defined : transform l e ≡ Ok (later', earlier')
  pub later_goes : mutate later' after_earlier ≡ Some end
  pub earlier_goes : mutate earlier' after_later ≡ Some end
  pub later_small : inserted_len later' ≤ inserted_len l
  pub earlier_small : inserted_len earlier' ≤ inserted_len e

pub document_square : (document after_earlier after_later : List Item) (l e : List Action) → mutate e document ≡ Some after_earlier → mutate l document ≡ Some after_later → IsDocumentSquare l e after_earlier after_later
document_square document x y l e p q =
    let f = passed (is_structured e) (apply e document) x p in
    let g = passed (is_structured l) (apply l document) y q in
    let se : Structured e = is_structured-holds e f.test in
    let sl : Structured l = is_structured-holds l g.test in
    let m = square l e document y x sl se g.rest f.rest in
    let r = are_structured l e (m.0.later, m.0.earlier) sl se m.0.is in
    let n = transform_small l e (m.0.later, m.0.earlier) m.0.is in
    record {
      later' = m.0.later;
      earlier' = m.0.earlier;
      end = m.0.out;
      defined = m.0.is;
      later_goes = mutates m.0.later x m.0.out r.0 m.0.later_applies;
      earlier_goes = mutates m.0.earlier y m.0.out r.1 m.0.earlier_applies;
      later_small = n.0;
      earlier_small = n.1;
    }
