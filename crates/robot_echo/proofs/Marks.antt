-- The edit that `echo` answers with.
--     mark_is                its mark is one character
--     no_count, no_room      why it isn't made
--     marked_is              that it is made
use Rattle.std.proofs.Common.{◌≡◌, ◌+◌, ◌<◌, ℕ, List, [], ◌∷◌, length, Result, IfOk, refl, sym, ap, subst, arith}
use Rattle.std.specs.Str.{chars}
use Rattle.std.proofs.lemmas.Result.{IfOk-weaker}
use Rattle.doc_items.specs.Limits.{max_count}
use Rattle.doc_items.specs.Maps.{Key}
use Rattle.doc_items.specs.declared.item.Item.{Item}
use Rattle.doc_op.specs.declared.component.Component.{Component}
use Rattle.op_build.specs.Edits.{typed}
use Rattle.op_build.specs.Plans.{IsEdit, typing}
use Rattle.op_build.specs.Refusals.{IsInsertingRefused}
use Rattle.op_build.specs.declared.fault.BuildFault.{BuildFault}
use Rattle.op_build.specs.declared.fault.BuildFault.TheVariants.{ZeroCount, CountTooLarge}
use Rattle.wavelet_op.specs.declared.op.WaveletOp.TheVariants.{Mutate}
use Rattle.robot_host.specs.declared.reaction.Reaction.{Reaction}
use Rattle.robot_host.specs.declared.reaction.Reaction.TheVariants.{Edit}
use Rattle.robot_echo.specs.Echoes.{echo_name, mark, IsMarked}

pub mark_is : chars mark ≡ mark
unfolding chars
mark_is = refl

pub no_count : (e : BuildFault) (items : List Item) (n : ℕ) → e ≡ ZeroCount → IsInsertingRefused e items n (length (chars mark)) → ⊥
no_count e items n is h = let z : length (chars mark) ≡ 0 = subst (λ f. IsInsertingRefused f items n (length (chars mark))) is h in let one : length (chars mark) ≡ 1 = ap length mark_is in omega (arith, z, one)

pub no_room : (e : BuildFault) (items : List Item) (n : ℕ) → e ≡ CountTooLarge → IsInsertingRefused e items n (length (chars mark)) → max_count < length items + 1
no_room e items n is h = let z = subst (λ f. IsInsertingRefused f items n (length (chars mark))) is h in let one : length (chars mark) ≡ 1 = ap length mark_is in let w = z.2 in omega (arith, w, one)

pub marked_is : {E : Type 0} (r : Result Reaction E) (items : List Item) (own : Key) (op : List Component) (n : ℕ) → own ≡ echo_name → n ≡ length items → IsEdit op (typing items n (chars mark)) items (typed items n (chars mark)) → IfOk r (λ x. x ≡ Edit (Mutate own op ∷ [])) → IfOk r (IsMarked items)
marked_is r items own op n name end edit made =
    let at : IsEdit op (typing items (length items) mark) items (typed items (length items) mark) = subst (λ u. IsEdit op (typing items (length items) u) items (typed items (length items) u)) mark_is (subst (λ k. IsEdit op (typing items k (chars mark)) items (typed items k (chars mark))) end edit) in
    IfOk-weaker r (λ x. x ≡ Edit (Mutate own op ∷ [])) (IsMarked items) (λ x e. subst (IsMarked items) (sym e) (op, ap (λ z. Mutate z op ∷ []) name, at)) made
