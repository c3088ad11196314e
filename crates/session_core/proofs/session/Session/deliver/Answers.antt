use Rattle.std.proofs.Common.{subst}
use Rattle.std.specs.List.{AllByRecursion}
use Rattle.session_core.specs.Access.{Shown, shown_by}
use Rattle.session_core.specs.Current.{IsWholeTo}
use Rattle.session_core.proofs.Current.{sent_user}
use Rattle.session_core.proofs.session.Session.deliver.Goals as goal

pub returns-in_ok-out-in-User-clause-current : goal.returns-in_ok-out-in-User-clause-current
returns-in_ok-out-in-User-clause-current g c =
    let s : Shown = shown_by g.C.Copies c.args.copies.now in
    sent_user s c.in-User.user c.args.self.now c.settle.new.self c.settle-in-User.new.self c.in-User.is c.settle.ensures (subst (AllByRecursion (IsWholeTo s c.in-User.user)) c.as_slice-in-User.ensures c.in_ok-out-in-User.ensures.whole)
