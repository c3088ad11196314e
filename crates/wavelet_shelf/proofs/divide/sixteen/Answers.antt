use Rattle.std.proofs.Common.{◌≡◌, ◌+◌, length, sym, ap, subst, ◌∙◌}
use Rattle.std.proofs.lemmas.List.{length_push}
use Rattle.std.specs.List.{AllByRecursion}
use Rattle.wavelet_shelf.specs.Parts.{fault_sums, IsLike}
use Rattle.wavelet_shelf.specs.Shelves.{folder_faults}
use Rattle.wavelet_shelf.proofs.Parting.{all_push, with_last}
use Rattle.wavelet_shelf.proofs.divide.sixteen.Goals as goal

pub returns-clause-sixteen : goal.returns-clause-sixteen
returns-clause-sixteen g c = ap length c.in_ok-push.ensures.items ∙ length_push c.in_ok-shelves.shelves.items c.over.result ∙ ap (λ n. n + 1) c.in_ok-shelves.ensures.fifteen

pub returns-clause-like : goal.returns-clause-like
returns-clause-like g c =
    subst (AllByRecursion (IsLike c.args.folder)) (sym c.in_ok-push.ensures.items) (all_push (IsLike c.args.folder) c.in_ok-shelves.shelves.items c.over.result c.in_ok-shelves.ensures.like c.over.ensures.like)

pub returns-clause-counted : goal.returns-clause-counted
returns-clause-counted g c =
    subst (λ l. fault_sums l ≡ folder_faults g.F.Folder.faults c.args.folder) (sym c.in_ok-push.ensures.items) (with_last c.in_ok-shelves.shelves.items c.over.result _ c.in_ok-shelves.ensures.uncounted c.over.ensures.counted)
