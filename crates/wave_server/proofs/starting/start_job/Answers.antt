use Rattle.std.proofs.Common.{rules, arith, ◌≡◌, inr, refl, sym, subst, inl}
use Rattle.std.specs.Arc.{arc_value}
use denote.Param.Send.{sendable}
use Rattle.wave_server.specs.Running.{AreOurs}
use Rattle.wave_server.specs.declared.stop.Stop.TheVariants.{Refused, Memory}
use Rattle.wave_server.proofs.starting.start_job.Goals as goal

pub start-requires : goal.start-requires
start-requires g c = search (sendable, rules, c.requires.sends)

not_refused : Memory ≡ Refused → ⊥
not_refused e = cc

-- there is no memory for a job more
pub returns-in_default : goal.returns-in_default
returns-in_default g c = record {
  own = c.make_job.ensures.own;
  later = c.make_job.ensures.later;
  ours = subst (λ js. AreOurs (λ r. arc_value (g.P.Spawner.job_of r).hub) (arc_value c.args.hub.now) js) (sym c.make_job.ensures.jobs.0) c.requires.ours;
  started = c.make_job.ensures.jobs.1;
  room = λ k. omega (arith, c.requires.room k, c.make_job.ensures.jobs.1, c.make_job.ensures.ended.1, c.make_job.ensures.ended.2);
  ended = c.make_job.ensures.ended.0;
  refused = λ e. absurd (not_refused e);
  cause = inr refl;
  later_refused = omega arith;
  same = (refl, refl);
}

pub returns-in-Ok-clause-own : goal.returns-in-Ok-clause-own
returns-in-Ok-clause-own g c = c.make_job.ensures.own

pub returns-in-Ok-clause-later : goal.returns-in-Ok-clause-later
returns-in-Ok-clause-later g c = c.make_job.ensures.later

pub returns-in-Ok-clause-refused : goal.returns-in-Ok-clause-refused
returns-in-Ok-clause-refused g c = tt

pub returns-in-Ok-clause-cause : goal.returns-in-Ok-clause-cause
returns-in-Ok-clause-cause g c = tt

pub returns-in-Ok-clause-ended : goal.returns-in-Ok-clause-ended
returns-in-Ok-clause-ended g c = c.make_job.ensures.ended.0

pub returns-in-Err-clause-own : goal.returns-in-Err-clause-own
returns-in-Err-clause-own g c = c.make_job.ensures.own

pub returns-in-Err-clause-later : goal.returns-in-Err-clause-later
returns-in-Err-clause-later g c = c.make_job.ensures.later

pub returns-in-Err-clause-ours : goal.returns-in-Err-clause-ours
returns-in-Err-clause-ours g c = subst (λ js. AreOurs (λ r. arc_value (g.P.Spawner.job_of r).hub) (arc_value c.args.hub.now) js) (sym c.make_job.ensures.jobs.0) c.requires.ours

pub returns-in-Err-clause-started : goal.returns-in-Err-clause-started
returns-in-Err-clause-started g c = c.make_job.ensures.jobs.1

pub returns-in-Err-clause-room : goal.returns-in-Err-clause-room
returns-in-Err-clause-room g c k = omega (arith, c.requires.room k, c.make_job.ensures.jobs.1, c.make_job.ensures.ended.1, c.make_job.ensures.ended.2)

pub returns-in-Err-clause-ended : goal.returns-in-Err-clause-ended
returns-in-Err-clause-ended g c = c.make_job.ensures.ended.0

pub returns-in-Err-clause-cause : goal.returns-in-Err-clause-cause
returns-in-Err-clause-cause g c = inl refl
