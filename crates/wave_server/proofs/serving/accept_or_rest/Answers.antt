use Rattle.std.proofs.Common.{◌∙◌, ◌≡◌, ◌≢◌, MatchBool, is_some, ap, sym, subst, arith}
use Rattle.std.specs.Arc.{arc_value}
use Rattle.shard_marks.specs.Passes.{marks_of}
use Rattle.std.proofs.lemmas.Bool.{false≢true}
use Rattle.wave_server.specs.declared.stop.Stop.TheVariants.{Spent}
use Rattle.session_hub.specs.Hubs.{server_of}
use Rattle.wave_server.proofs.Accepting.{came_one, came_none, came_last}
use Rattle.wave_server.proofs.Going.{going_same}
use Rattle.wave_server.proofs.serving.accept_or_rest.Goals as goal

pub returns-in-Ok-true-clause-going : goal.returns-in-Ok-true-clause-going
returns-in-Ok-true-clause-going g c before line put =
    going_same g.N.Link.Link (server_of (arc_value c.args.hub.now)) (marks_of c.args.passes.now) (marks_of c.accept_one.new.passes) c.accept_one.ensures.later
    _ _ put before _ _ line _ _ _ _ c.accept_one.ensures.spent.0 c.accept_one.ensures.ended.1 c.accept_one.ensures.line c.accept_one.ensures.ended.0

pub returns-in-Ok-true-clause-asked : goal.returns-in-Ok-true-clause-asked
returns-in-Ok-true-clause-asked g c = c.accept_one.ensures.asked

pub returns-in-Ok-false-clause-going : goal.returns-in-Ok-false-clause-going
returns-in-Ok-false-clause-going g c before line put =
    going_same g.N.Link.Link (server_of (arc_value c.args.hub.now)) (marks_of c.args.passes.now) (marks_of c.accept_one.new.passes) c.accept_one.ensures.later
    _ _ put before _ _ line _ _ _ _ c.accept_one.ensures.spent.0 (c.rest.ensures.same.2 ∙ c.accept_one.ensures.ended.1) (c.rest.ensures.counts.1 ∙ c.accept_one.ensures.line) c.accept_one.ensures.ended.0

pub returns-in-Ok-false-clause-asked : goal.returns-in-Ok-false-clause-asked
returns-in-Ok-false-clause-asked g c = λ t. c.rest.ensures.asked t ∙ c.accept_one.ensures.asked t

pub returns-in-Err-clause-going : goal.returns-in-Err-clause-going
returns-in-Err-clause-going g c before line put =
    going_same g.N.Link.Link (server_of (arc_value c.args.hub.now)) (marks_of c.args.passes.now) (marks_of c.accept_one.new.passes) c.accept_one.ensures.later
    _ _ put before _ _ line _ _ _ _ c.accept_one.ensures.spent.0 c.accept_one.ensures.ended.1 c.accept_one.ensures.line c.accept_one.ensures.ended.0

pub returns-in-Err-clause-asked : goal.returns-in-Err-clause-asked
returns-in-Err-clause-asked g c = c.accept_one.ensures.asked

pub returns-in-Ok-true-clause-own : goal.returns-in-Ok-true-clause-own
returns-in-Ok-true-clause-own g c = c.accept_one.ensures.own

pub returns-in-Ok-true-clause-later : goal.returns-in-Ok-true-clause-later
returns-in-Ok-true-clause-later g c = c.accept_one.ensures.later

pub returns-in-Ok-true-clause-ours : goal.returns-in-Ok-true-clause-ours
returns-in-Ok-true-clause-ours g c = c.accept_one.ensures.ours

pub returns-in-Ok-true-clause-out : goal.returns-in-Ok-true-clause-out
returns-in-Ok-true-clause-out g c = c.accept_one.ensures.out

pub returns-in-Ok-true-clause-room : goal.returns-in-Ok-true-clause-room
returns-in-Ok-true-clause-room g c = c.accept_one.ensures.room

pub returns-in-Ok-true-clause-most : goal.returns-in-Ok-true-clause-most
returns-in-Ok-true-clause-most g c = omega (arith, c.requires.most)

pub returns-in-Ok-true-clause-all : goal.returns-in-Ok-true-clause-all
returns-in-Ok-true-clause-all g c = λ e. absurd (false≢true e)

pub returns-in-Ok-true-clause-accepted : goal.returns-in-Ok-true-clause-accepted
returns-in-Ok-true-clause-accepted g c base h = came_one base _ _ _ _ c.in-Ok-true.field-0-test c.in-Ok-true.ensures.accepted h

pub returns-in-Ok-true-clause-spent : goal.returns-in-Ok-true-clause-spent
returns-in-Ok-true-clause-spent g c = ap is_some c.accept_one.ensures.spent.0 ∙ c.requires.spent

pub returns-in-Ok-true-clause-refused : goal.returns-in-Ok-true-clause-refused
returns-in-Ok-true-clause-refused g c = tt

pub returns-in-Ok-true-clause-door : goal.returns-in-Ok-true-clause-door
returns-in-Ok-true-clause-door g c = tt

pub returns-in-Ok-true-clause-counts : goal.returns-in-Ok-true-clause-counts
returns-in-Ok-true-clause-counts g c = c.accept_one.ensures.counts

pub returns-in-Ok-false-clause-own : goal.returns-in-Ok-false-clause-own
returns-in-Ok-false-clause-own g c = c.accept_one.ensures.own

pub returns-in-Ok-false-clause-later : goal.returns-in-Ok-false-clause-later
returns-in-Ok-false-clause-later g c = c.accept_one.ensures.later

pub returns-in-Ok-false-clause-ours : goal.returns-in-Ok-false-clause-ours
returns-in-Ok-false-clause-ours g c = c.accept_one.ensures.ours

pub returns-in-Ok-false-clause-out : goal.returns-in-Ok-false-clause-out
returns-in-Ok-false-clause-out g c = λ held fits. let then = c.accept_one.ensures.out held fits in omega (arith, then, c.rest.ensures.same.1)

pub returns-in-Ok-false-clause-room : goal.returns-in-Ok-false-clause-room
returns-in-Ok-false-clause-room g c = c.accept_one.ensures.room

pub returns-in-Ok-false-clause-most : goal.returns-in-Ok-false-clause-most
returns-in-Ok-false-clause-most g c = omega (arith, c.requires.most)

pub returns-in-Ok-false-clause-all : goal.returns-in-Ok-false-clause-all
returns-in-Ok-false-clause-all g c = λ e. absurd (false≢true e)

pub returns-in-Ok-false-clause-accepted : goal.returns-in-Ok-false-clause-accepted
returns-in-Ok-false-clause-accepted g c base h = came_none base _ _ _ _ _ c.in-Ok-false.field-0-test c.in-Ok-false.ensures.accepted c.rest.ensures.same.0 h

pub returns-in-Ok-false-clause-spent : goal.returns-in-Ok-false-clause-spent
returns-in-Ok-false-clause-spent g c = ap is_some c.accept_one.ensures.spent.0 ∙ c.requires.spent

pub returns-in-Ok-false-clause-refused : goal.returns-in-Ok-false-clause-refused
returns-in-Ok-false-clause-refused g c = tt

pub returns-in-Ok-false-clause-door : goal.returns-in-Ok-false-clause-door
returns-in-Ok-false-clause-door g c = tt

pub returns-in-Ok-false-clause-counts : goal.returns-in-Ok-false-clause-counts
returns-in-Ok-false-clause-counts g c = (c.accept_one.ensures.counts.0, omega (arith, c.accept_one.ensures.counts.1, c.rest.ensures.counts.0))

pub returns-in-Err-clause-own : goal.returns-in-Err-clause-own
returns-in-Err-clause-own g c = c.accept_one.ensures.own

pub returns-in-Err-clause-later : goal.returns-in-Err-clause-later
returns-in-Err-clause-later g c = c.accept_one.ensures.later

pub returns-in-Err-clause-ours : goal.returns-in-Err-clause-ours
returns-in-Err-clause-ours g c = c.accept_one.ensures.ours

pub returns-in-Err-clause-out : goal.returns-in-Err-clause-out
returns-in-Err-clause-out g c = c.accept_one.ensures.out

pub returns-in-Err-clause-room : goal.returns-in-Err-clause-room
returns-in-Err-clause-room g c = c.accept_one.ensures.room

pub returns-in-Err-clause-total : goal.returns-in-Err-clause-total
returns-in-Err-clause-total g c = tt

pub returns-in-Err-clause-most : goal.returns-in-Err-clause-most
returns-in-Err-clause-most g c = tt

pub returns-in-Err-clause-all : goal.returns-in-Err-clause-all
returns-in-Err-clause-all g c = tt

pub returns-in-Err-clause-accepted : goal.returns-in-Err-clause-accepted
returns-in-Err-clause-accepted g c base h = came_last base _ _ _ c.args.most c.in-Err.ensures.accepted c.requires.most h

pub returns-in-Err-clause-spent : goal.returns-in-Err-clause-spent
returns-in-Err-clause-spent g c = subst (λ b. MatchBool b (c.in-Err.stop ≡ Spent) (c.in-Err.stop ≢ Spent)) (sym (ap is_some c.accept_one.ensures.spent.0 ∙ c.requires.spent)) c.in-Err.ensures.spent.1

pub returns-in-Err-clause-refused : goal.returns-in-Err-clause-refused
returns-in-Err-clause-refused g c = c.in-Err.ensures.refused

pub returns-in-Err-clause-door : goal.returns-in-Err-clause-door
returns-in-Err-clause-door g c = c.in-Err.ensures.door

pub returns-in-Err-clause-counts : goal.returns-in-Err-clause-counts
returns-in-Err-clause-counts g c = c.accept_one.ensures.counts
