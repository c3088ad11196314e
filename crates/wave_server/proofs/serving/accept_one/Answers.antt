use Rattle.std.proofs.Common.{refl}
use Rattle.wave_server.proofs.Ending.{begins_self}
use Rattle.wave_server.proofs.serving.accept_one.Goals as goal

pub returns-in-Ok-Nothing-clause-own : goal.returns-in-Ok-Nothing-clause-own
returns-in-Ok-Nothing-clause-own g c = c.requires.own

pub returns-in-Ok-Nothing-clause-later : goal.returns-in-Ok-Nothing-clause-later
returns-in-Ok-Nothing-clause-later g c = begins_self c.args.passes.now

pub returns-in-Ok-Nothing-clause-ours : goal.returns-in-Ok-Nothing-clause-ours
returns-in-Ok-Nothing-clause-ours g c = c.requires.ours

pub returns-in-Ok-Nothing-clause-room : goal.returns-in-Ok-Nothing-clause-room
returns-in-Ok-Nothing-clause-room g c = c.requires.room

pub returns-in-Ok-Nothing-clause-started : goal.returns-in-Ok-Nothing-clause-started
returns-in-Ok-Nothing-clause-started g c = refl

pub returns-in-Ok-Nothing-clause-refused : goal.returns-in-Ok-Nothing-clause-refused
returns-in-Ok-Nothing-clause-refused g c = tt

pub returns-in-Ok-Nothing-clause-door : goal.returns-in-Ok-Nothing-clause-door
returns-in-Ok-Nothing-clause-door g c = tt

pub returns-in-Ok-Nothing-clause-spent : goal.returns-in-Ok-Nothing-clause-spent
returns-in-Ok-Nothing-clause-spent g c = (refl, tt)

pub returns-in-Err-Failed-clause-own : goal.returns-in-Err-Failed-clause-own
returns-in-Err-Failed-clause-own g c = c.requires.own

pub returns-in-Err-Failed-clause-later : goal.returns-in-Err-Failed-clause-later
returns-in-Err-Failed-clause-later g c = begins_self c.args.passes.now

pub returns-in-Err-Failed-clause-ours : goal.returns-in-Err-Failed-clause-ours
returns-in-Err-Failed-clause-ours g c = c.requires.ours

pub returns-in-Err-Failed-clause-room : goal.returns-in-Err-Failed-clause-room
returns-in-Err-Failed-clause-room g c = c.requires.room

pub returns-in-Err-Failed-clause-started : goal.returns-in-Err-Failed-clause-started
returns-in-Err-Failed-clause-started g c = tt

pub returns-in-Err-Memory-clause-own : goal.returns-in-Err-Memory-clause-own
returns-in-Err-Memory-clause-own g c = c.requires.own

pub returns-in-Err-Memory-clause-later : goal.returns-in-Err-Memory-clause-later
returns-in-Err-Memory-clause-later g c = begins_self c.args.passes.now

pub returns-in-Err-Memory-clause-ours : goal.returns-in-Err-Memory-clause-ours
returns-in-Err-Memory-clause-ours g c = c.requires.ours

pub returns-in-Err-Memory-clause-room : goal.returns-in-Err-Memory-clause-room
returns-in-Err-Memory-clause-room g c = c.requires.room

pub returns-in-Err-Memory-clause-started : goal.returns-in-Err-Memory-clause-started
returns-in-Err-Memory-clause-started g c = tt
