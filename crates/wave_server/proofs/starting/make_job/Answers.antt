use Rattle.wave_server.proofs.Ending.{begins_self}
use Rattle.wave_server.proofs.starting.make_job.Goals as goal

-- there is no room for a job more
pub returns-then-is_err : goal.returns-then-is_err
returns-then-is_err g c = record {
  own = c.requires.own;
  later = begins_self c.args.passes.now;
  jobs = c.reserve.ensures.jobs;
  ended = c.reserve.ensures.ended;
  room = tt;
  report = tt;
  ours = tt;
}

-- there is no memory to share the hub
pub returns-in_default : goal.returns-in_default
returns-in_default g c = record {
  own = c.share.ensures.own;
  later = c.share.ensures.later;
  jobs = c.reserve.ensures.jobs;
  ended = c.reserve.ensures.ended;
  room = tt;
  report = tt;
  ours = tt;
}

pub returns-clause-own : goal.returns-clause-own
returns-clause-own g c = c.share.ensures.own

pub returns-clause-later : goal.returns-clause-later
returns-clause-later g c = c.share.ensures.later
