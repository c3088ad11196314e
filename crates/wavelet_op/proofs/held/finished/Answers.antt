use Rattle.std.proofs.Common.{◌≡◌, ◌∷◌, ◌++◌, [], sym, subst, ap, ◌∙◌}
use Rattle.std.specs.List.{All}
use Rattle.std.specs.Vec.Iter.{into_iter_items}
use Rattle.wavelet_op.specs.Acts.{meanings, AreNormal}
use Rattle.wavelet_op.specs.Passing.{acts_held, IsSettled}
use Rattle.wavelet_op.proofs.Griddings.{finished_more, normal_more}
use Rattle.wavelet_op.proofs.Passes.{split_first}
use Rattle.wavelet_op.proofs.held.finished.Goals as goal

pub loop-op-preserved : goal.loop-op-preserved
loop-op-preserved c =
    let steps : into_iter_items c.loop-op.op-iterator ≡ c.in-Some.op ∷ into_iter_items c.next.new.self = c.in-Some.ensures.steps.0 in
    let new : c.push.new.self.items ≡ c.loop-op.ops.items ++ c.in_ok-op.op ∷ [] = c.in_ok-push.ensures.items in
    record {
      same = ap (λ z. meanings z ++ acts_held (into_iter_items c.next.new.self)) new ∙ finished_more _ c.loop-op.ops.items c.in_ok-op.op c.in-Some.op (into_iter_items c.next.new.self) (ap (λ z. meanings c.loop-op.ops.items ++ acts_held z) (sym steps) ∙ c.loop-op.invariant.same) c.in_ok-op.ensures.same;
      normal = subst AreNormal (sym new) (normal_more c.loop-op.ops.items c.in_ok-op.op c.loop-op.invariant.normal c.in_ok-op.ensures.normal);
      rest = (split_first IsSettled c.in-Some.op (into_iter_items c.next.new.self) (subst (All IsSettled) steps c.loop-op.invariant.rest)).1;
    }
