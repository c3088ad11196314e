use Rattle.robot_host.specs.Hosts.{host_by}
use Rattle.shard_marks.specs.Passes.{marks_of}
use Rattle.wave_server.proofs.Attending.{ready_later}
use Rattle.wave_server.proofs.Ending.{begins_on}
use Rattle.wave_server.proofs.robots.attend_one.Goals as goal

pub returns-then-not-has_news-clause-ready : goal.returns-then-not-has_news-clause-ready
returns-then-not-has_news-clause-ready g c = ready_later c.args.hub.now.domain (marks_of c.args.passes.now) (marks_of c.has_news.new.passes) (host_by (λ b. (goal.Robot-dyn g (b.vtable, b.value)).calls b.value) c.args.robots.now) c.has_news.ensures.later c.requires.ready

pub turn_at-requires-clause-ready : goal.turn_at-requires-clause-ready
turn_at-requires-clause-ready g c = ready_later c.args.hub.now.domain (marks_of c.args.passes.now) (marks_of c.has_news.new.passes) (host_by (λ b. (goal.Robot-dyn g (b.vtable, b.value)).calls b.value) c.args.robots.now) c.has_news.ensures.later c.requires.ready

pub returns-in_err-length-clause-later : goal.returns-in_err-length-clause-later
returns-in_err-length-clause-later g c = begins_on c.args.passes.now c.has_news.new.passes c.turn_at.new.passes c.has_news.ensures.later c.turn_at.ensures.later

pub returns-in-Some-clause-later : goal.returns-in-Some-clause-later
returns-in-Some-clause-later g c = begins_on c.args.passes.now c.has_news.new.passes c.turn_at.new.passes c.has_news.ensures.later c.turn_at.ensures.later

pub returns-in-None-clause-later : goal.returns-in-None-clause-later
returns-in-None-clause-later g c = begins_on c.args.passes.now c.has_news.new.passes c.turn_at.new.passes c.has_news.ensures.later c.turn_at.ensures.later
