use Rattle.std.proofs.Common.{rules, ◌≡◌, true, false, slice_get, Some, None}
use Rattle.wavelet_shelf.specs.Walks.{histories_of, as_hosted}
use Rattle.hosted_copies.specs.Domains.{is_shown_by}
use Rattle.hosted_copies.proofs.Walking.{step_none, step_past, step_on}
use Rattle.hosted_copies.proofs.copies.HostedCopies.history.Goals as goal

pub returns-in_err-history : goal.returns-in_err-history
returns-in_err-history g c =
    let all = histories_of c.args.self.now.shelf.now in
    let none : slice_get all c.args.place ≡ None = search rules in
    search (rules, step_none c.args.self.now.domain.now all c.args.place none)

pub returns-then-is_shown_by : goal.returns-then-is_shown_by
returns-then-is_shown_by g c =
    let all = histories_of c.args.self.now.shelf.now in
    let h = as_hosted c.in_ok-history.history.now in
    let some : slice_get all c.args.place ≡ Some h = search rules in
    let shown : is_shown_by c.args.self.now.domain.now h ≡ true = search rules in
    step_on c.args.self.now.domain.now all c.args.place h some shown

pub returns-else-is_shown_by : goal.returns-else-is_shown_by
returns-else-is_shown_by g c =
    let all = histories_of c.args.self.now.shelf.now in
    let h = as_hosted c.in_ok-history.history.now in
    let some : slice_get all c.args.place ≡ Some h = search rules in
    let other : is_shown_by c.args.self.now.domain.now h ≡ false = search rules in
    step_past c.args.self.now.domain.now all c.args.place h some other
