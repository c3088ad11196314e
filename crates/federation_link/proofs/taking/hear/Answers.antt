use Rattle.std.proofs.Common.{sym, [], append-nil}
use Rattle.federation_link.specs.Takes.{heard}
use Rattle.federation_link.proofs.Unread.{unread}
use Rattle.federation_link.proofs.taking.hear.Goals as goal

pub returns-in-Err-Memory-clause-kept : goal.returns-in-Err-Memory-clause-kept
returns-in-Err-Memory-clause-kept g c = ([], (λ t. sym (append-nil _)), unread (heard c.args.bytes.now))
