use Rattle.std.proofs.Common.{arith, ◌∙◌, ◌≡◌, ◌≢◌, MatchBool, refl, sym, subst}
use Rattle.std.specs.Arc.{arc_value}
use Rattle.std.proofs.lemmas.Bool.{false≢true}
use Rattle.shard_marks.specs.Passes.{marks_of}
use Rattle.session_hub.specs.Hubs.{server_of}
use Rattle.wave_server.specs.declared.stop.Stop.TheVariants.{Door, Memory, Refused, Spent}
use Rattle.wave_server.proofs.Accepting.{came_few, came_same, came_to}
use Rattle.wave_server.proofs.Ending.{begins_self}
use Rattle.wave_server.proofs.Going.{going_same}
use Rattle.wave_server.proofs.Rounds.{ok_of, went_spent, went_on, went_refused, went_door}
use Rattle.wave_server.proofs.serving.turn.Goals as goal

not_refused : Memory ≡ Refused → ⊥
not_refused e = cc

not_door : Memory ≡ Door → ⊥
not_door e = cc

not_spent : Memory ≡ Spent → ⊥
not_spent e = cc

-- no more links can be counted
pub returns-then-put-eq18446744073709551615 : goal.returns-then-put-eq18446744073709551615
returns-then-put-eq18446744073709551615 g c = record {
  own = c.requires.own;
  later = begins_self c.args.passes.now;
  ours = c.requires.ours;
  out = λ held fits. fits;
  room = c.requires.room;
  total = tt;
  most = tt;
  all = tt;
  accepted = λ base h. came_few base _ _ c.args.most c.requires.most h;
  spent = subst (λ b. MatchBool b (Memory ≡ Spent) (Memory ≢ Spent)) (sym c.requires.spent) not_spent;
  refused = λ e. absurd (not_refused e);
  door = λ e. absurd (not_door e);
  counts = (omega arith, omega arith);
  asked = λ t. refl;
  going = λ before line h. h;
}

-- a session has ended
pub returns-in-Some : goal.returns-in-Some
returns-in-Some g c = record {
  own = c.take_one.ensures.own;
  later = c.take_one.ensures.later;
  ours = c.take_one.ensures.ours;
  out = c.take_one.ensures.out;
  room = c.take_one.ensures.room;
  total = ok_of c.goes_on.result (λ k. c.take_one.ensures.total k ∙ c.requires.total k);
  most = ok_of c.goes_on.result c.requires.most;
  all = went_on _ _ c.goes_on.result c.goes_on.ensures;
  accepted = λ base h. came_to base _ _ _ c.args.most c.take_one.ensures.accepted c.requires.most c.goes_on.result h;
  spent = went_spent _ c.goes_on.result c.goes_on.ensures;
  refused = went_refused _ _ c.goes_on.result c.goes_on.ensures;
  door = went_door _ _ c.goes_on.result c.goes_on.ensures;
  counts = (omega (arith, c.take_one.ensures.refused), omega (arith, c.take_one.ensures.door));
  asked = c.take_one.ensures.asked;
  going = c.take_one.ensures.going;
}

-- a session more may begin
pub returns-then-started-most : goal.returns-then-started-most
returns-then-started-most g c = record {
  own = c.accept_or_rest.ensures.own;
  later = c.accept_or_rest.ensures.later;
  ours = c.accept_or_rest.ensures.ours;
  out = c.accept_or_rest.ensures.out;
  room = c.accept_or_rest.ensures.room;
  total = c.accept_or_rest.ensures.total;
  most = c.accept_or_rest.ensures.most;
  all = c.accept_or_rest.ensures.all;
  accepted = c.accept_or_rest.ensures.accepted;
  spent = c.accept_or_rest.ensures.spent;
  refused = c.accept_or_rest.ensures.refused;
  door = c.accept_or_rest.ensures.door;
  counts = c.accept_or_rest.ensures.counts;
  asked = c.accept_or_rest.ensures.asked;
  going = λ before line. c.accept_or_rest.ensures.going before line c.args.put.now;
}

-- it sleeps
pub returns : goal.returns
returns g c = record {
  own = c.requires.own;
  later = begins_self c.args.passes.now;
  ours = c.requires.ours;
  out = λ held fits. omega (arith, fits, c.rest.ensures.same.1);
  room = c.requires.room;
  total = c.requires.total;
  most = c.requires.most;
  all = λ e. absurd (false≢true e);
  accepted = λ base h. came_same base _ _ _ c.rest.ensures.same.0 h;
  spent = c.requires.spent;
  refused = tt;
  door = tt;
  counts = (omega arith, omega (arith, c.rest.ensures.counts.0));
  asked = c.rest.ensures.asked;
  going = λ before line.
      going_same g.N.Link.Link (server_of (arc_value c.args.hub.now)) (marks_of c.args.passes.now) (marks_of c.args.passes.now) (begins_self c.args.passes.now)
      _ _ c.args.put.now before _ _ line _ _ _ _ refl c.rest.ensures.same.2 c.rest.ensures.counts.1 refl;
}
