use Rattle.wave_world.proofs.Growth.{only_grows}
use Rattle.wave_world.proofs.Judgements.{kept_is_answered, refused_is_caused, follower_is_heard}
use Rattle.wave_world.proofs.Takings.{delta_is_taken, delta_is_absorbed}
use Rattle.wave_world.proofs.Versions.{world_converges}
use Rattle.wave_world.proofs.world_converges.Goals as goal

pub returns-clause-converged : goal.returns-clause-converged
returns-clause-converged c = world_converges

pub returns-clause-grows : goal.returns-clause-grows
returns-clause-grows c = only_grows

pub returns-clause-taken : goal.returns-clause-taken
returns-clause-taken c = delta_is_taken

pub returns-clause-absorbed : goal.returns-clause-absorbed
returns-clause-absorbed c = delta_is_absorbed

pub returns-clause-kept : goal.returns-clause-kept
returns-clause-kept c = kept_is_answered

pub returns-clause-refused : goal.returns-clause-refused
returns-clause-refused c = refused_is_caused

pub returns-clause-heard : goal.returns-clause-heard
returns-clause-heard c = follower_is_heard
