use Rattle.std.proofs.Common.{IsSome, sym, subst}
use Rattle.wavelet_op.specs.Acts.{meaning}
use Rattle.wavelet_op.specs.States.{apply_act}
use Rattle.client_edits.proofs.Talking.{led_anchor}
use Rattle.client_edits.proofs.conversations.anchored.Goals as goal

pub led-requires : goal.led-requires
led-requires c = subst (λ o. IsSome (apply_act c.args.screen.now (meaning o))) (sym c.in_ok-first.ensures) c.requires

pub returns : goal.returns
returns c = led_anchor c.place_anchor.result c.args.screen.now c.in_ok-after.after c.args.spot.now c.args.thread.now c.args.manifest.now c.args.op c.in_ok-first.first c.in_ok-first.ensures c.in_ok-after.ensures c.place_anchor.ensures
