use Rattle.std.proofs.Common.{◌≡◌, ℕ, Ok, IfOk, sym, ap, subst}
use Rattle.wave_messages.specs.Read.{read_of}
use Rattle.session_core.specs.Rules.{Taken, limit_of, taken_read}
use Rattle.session_core.proofs.session.Session.take_message.Goals as goal

pub returns-in-Ok-clause-ok : goal.returns-in-Ok-clause-ok
returns-in-Ok-clause-ok c =
    let s = c.args.self.now in
    let found : read_of c.args.bytes.now (limit_of s.party) ≡ Ok c.in-Ok.message = subst (λ (l : ℕ). read_of c.args.bytes.now l ≡ Ok c.in-Ok.message) c.limit_of.ensures c.in-Ok.ensures.ok in
    subst (λ (t : Taken). IfOk c.take.result (λ r. (c.take.new.self, r) ≡ t)) (sym (ap (taken_read s) found)) c.take.ensures.ok
