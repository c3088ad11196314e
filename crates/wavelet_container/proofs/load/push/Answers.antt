use Rattle.std.proofs.Common.{subst}
use Rattle.delta_history.specs.Pushes.{IsRefused}
use Rattle.wavelet_container.proofs.Loaded.{not_head, not_legal}
use Rattle.wavelet_container.proofs.load.push.Goals as goal

pub returns-in-Err-NotNext-clause-refused : goal.returns-in-Err-NotNext-clause-refused
returns-in-Err-NotNext-clause-refused c e =
    let why = subst (IsRefused c.args.history.now c.in_ok-delta.delta) c.in-Err-NotNext.field-0-is c.in-Err-NotNext.ensures.refused in
    not_head c.args.history.now c.args.bytes.now c.in_ok-delta.delta c.deltas-deltas.ensures.legal c.in_ok-delta.ensures.read why.0

pub returns-in-Err-NotLegal-clause-refused : goal.returns-in-Err-NotLegal-clause-refused
returns-in-Err-NotLegal-clause-refused c e =
    let why = subst (IsRefused c.args.history.now c.in_ok-delta.delta) c.in-Err-NotLegal.field-0-is c.in-Err-NotLegal.ensures.refused in
    not_legal c.args.history.now c.args.bytes.now c.in_ok-delta.delta c.deltas-deltas.ensures.legal c.in_ok-delta.ensures.read why.1
