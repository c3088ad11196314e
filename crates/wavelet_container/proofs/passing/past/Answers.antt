use Rattle.wavelet_op.specs.Acts.{meanings}
use Rattle.wavelet_container.proofs.Sizes.{structured_run}
use Rattle.wavelet_container.proofs.Ways.{past_is}
use Rattle.wavelet_container.proofs.Within.{no_refusal}
use Rattle.wavelet_container.proofs.passing.past.Goals as goal

pub transform_delta-requires-clause-later : goal.transform_delta-requires-clause-later
transform_delta-requires-clause-later c = structured_run c.requires.state c.requires.after (meanings c.args.ops.now) c.requires.goes

pub transform_delta-requires-clause-earlier : goal.transform_delta-requires-clause-earlier
transform_delta-requires-clause-earlier c = structured_run c.requires.state c.requires.after_earlier (meanings c.args.earlier.now) c.requires.earlier_goes

pub memory-requires : goal.memory-requires
memory-requires c = no_refusal (meanings c.args.ops.now) (meanings c.args.earlier.now) c.in-Err.fault c.requires c.in-Err.ensures.refused

pub returns-in-Ok : goal.returns-in-Ok
returns-in-Ok c = past_is c.args.ops.now c.args.earlier.now c.in-Ok.pair c.in-Ok.ensures.ok
