use Rattle.std.proofs.Common.{IsSome, sym, subst}
use Rattle.std.specs.Result.{IfOk}
use Rattle.doc_op.specs.Actions.{actions}
use Rattle.wavelet_op.specs.Acts.{Mutates}
use Rattle.wavelet_op.specs.States.{apply_act}
use Rattle.client_edits.specs.Asked.{manifest_name, IsAnchoredAfter}
use Rattle.client_edits.proofs.Talking.{is_manifest, leads, inlined, not_inlined}
use Rattle.client_edits.proofs.conversations.reply_inline.Goals as goal

pub anchored-requires : goal.anchored-requires
anchored-requires c =
    let at = is_manifest c.args.screen.now _ c.in_ok-name.name c.in_ok-name.ensures c.document-manifest.ensures.value in
    subst (λ d. IsSome (apply_act c.args.screen.now (Mutates d (actions c.in-Ok.op)))) (sym c.in_ok-name.ensures)
    (leads c.args.screen.now manifest_name c.in-Ok.op _ (rw at at c.in-Ok.ensures.edit))

pub returns-in-Ok : goal.returns-in-Ok
returns-in-Ok c =
    let at = is_manifest c.args.screen.now _ c.in_ok-name.name c.in_ok-name.ensures c.document-manifest.ensures.value in
    inlined c.anchored.result c.args.screen.now c.args.spot.now c.args.thread.now c.args.new_blip.now c.in-Ok.op
    (rw (at, c.text.ensures.same, c.as_str.ensures, c.as_str-2.ensures) at c.in-Ok.ensures.edit, rw (at, c.as_str.ensures, c.as_str-2.ensures) at c.in-Ok.ensures.new)
    (subst (λ d. IfOk c.anchored.result (IsAnchoredAfter c.args.screen.now c.args.spot.now c.args.thread.now (Mutates d (actions c.in-Ok.op)))) c.in_ok-name.ensures c.anchored.ensures)

pub returns : goal.returns
returns c =
    let at = is_manifest c.args.screen.now _ c.in_ok-name.name c.in_ok-name.ensures c.document-manifest.ensures.value in
    not_inlined c.refused_talk.result c.args.screen.now c.args.spot.now c.args.thread.now c.args.new_blip.now c.in-Err.fault
    (rw (at, c.text.ensures.same, c.as_str.ensures, c.as_str-2.ensures) at c.in-Err.ensures.refused) c.refused_talk.ensures
