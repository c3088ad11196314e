use Rattle.std.proofs.Common.{◌≡◌, ◌+◌, length, sym, ap, subst, ◌∙◌}
use Rattle.std.proofs.lemmas.List.{length_push}
use Rattle.std.specs.List.{AllByRecursion}
use Rattle.wavelet_shelf.specs.Parts.{fault_sums, IsLike}
use Rattle.wavelet_shelf.proofs.Parting.{all_push, none_more}
use Rattle.wavelet_shelf.proofs.divide.others.Goals as goal

pub loop-preserved : goal.loop-preserved
loop-preserved g c =
    let items = c.loop.shelves.items in
    let shelf = c.in_ok-like.field-0 in
    let is = sym c.in_ok-push.ensures.items in
    let folder = c.args.folder.now in
    record {
      so_many = ap length c.in_ok-push.ensures.items ∙ length_push items shelf ∙ ap (λ n. n + 1) c.loop.invariant.so_many;
      like = subst (AllByRecursion (IsLike folder)) is (all_push (IsLike folder) items shelf c.loop.invariant.like c.in_ok-like.ensures.like);
      uncounted = subst (λ l. fault_sums l ≡ 0) is (none_more items shelf c.loop.invariant.uncounted c.in_ok-like.ensures.uncounted);
    }
