use Rattle.std.proofs.Common.{◌≡◌, subst, ◌∙◌}
use Rattle.std.proofs.lemmas.Result.{on_ok_weaker}
use Rattle.wavelet_op.specs.Acts.{meanings}
use Rattle.undo_control.specs.Parts.{chain_of, IsRefusedChange}
use Rattle.client_control.specs.Parts.{follower_of}
use Rattle.client_session.specs.Seats.{fresh_chain}
use Rattle.client_session.proofs.Noting.{change_crowded}
use Rattle.client_session.proofs.chain.note_change.Goals as goal

pub returns-in-Err-CountTooLarge-clause-ok : goal.returns-in-Err-CountTooLarge-clause-ok
returns-in-Err-CountTooLarge-clause-ok c =
    let chain = chain_of c.args.chain.now in
    let acts = meanings c.args.ops.now in
    let why = subst (IsRefusedChange chain acts) c.in-Err-CountTooLarge.field-0-is c.in-Err-CountTooLarge.ensures.refused in
    on_ok_weaker c.begin-in-Err-CountTooLarge.result (λ (e : chain_of c.begin-in-Err-CountTooLarge.new.chain ≡ fresh_chain (follower_of c.args.follower.now)). e ∙ change_crowded (follower_of c.args.follower.now) chain acts why.1) c.begin-in-Err-CountTooLarge.ensures.ok
