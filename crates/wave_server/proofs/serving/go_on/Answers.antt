use Rattle.std.proofs.Common.{rules, arith, ◌≡◌, ◌+◌, ◌≤◌, ◌∙◌, OnOk, is_some, sym, ap, subst, refl, true, vec_len, vec_capacity}
use Rattle.std.specs.Arc.{arc_value}
use Rattle.robot_host.specs.Hosts.{host_by}
use Rattle.peer_rounds.specs.Peers.{held}
use Rattle.peer_rounds.specs.Stands.{AreReady as PeersReady}
use Rattle.shard_marks.specs.Passes.{marks_of}
use Rattle.session_hub.specs.Hubs.{AreOfHub, server_of}
use Rattle.wave_server.specs.Counting.{WereAccepted}
use Rattle.wave_server.specs.Meeting.{HaveMet}
use Rattle.wave_server.specs.Robots.{AreReady, WereServed}
use Rattle.wave_server.specs.Running.{HasServed, IsGoing}
use Rattle.wave_server.proofs.Accepting.{came_from, came_same, came_few, came_to}
use Rattle.wave_server.proofs.Attending.{ready_later}
use Rattle.wave_server.proofs.Ending.{begins_on, begins_self, ours_none, ok_more}
use Rattle.wave_server.proofs.Going.{going_none, going_back, served_back}
use Rattle.wave_server.proofs.Meetings.{have_met, ready_asked}
use Rattle.wave_server.proofs.Rounds.{ok_of, never_refused, never_door}
use Rattle.wave_server.proofs.serving.go_on.Goals as goal

pub loop-init : goal.loop-init
loop-init g c = record {
  own = c.requires.own;
  later = begins_self c.args.passes.now;
  ready = c.requires.ready;
  ours = ours_none (λ r. arc_value (g.P.Spawner.job_of r).hub) (arc_value c.args.hub.now) c.args.jobs.now.items c.requires.idle.0;
  out = omega (arith, c.requires.idle.1, c.requires.unlinked);
  room = λ k. omega (arith, c.requires.empty.1, c.requires.idle.1);
  total = λ k. omega (arith, c.requires.empty.1, c.requires.idle.1);
  most_is = omega arith;
  spent = c.requires.empty.2;
  accepted = came_from (g.N.Net.accepted c.args.server.now.net) 0 refl;
  refused = omega arith;
  door = omega arith;
  dialled = c.requires.undialled;
  named = refl;
  going = going_none g.N.Link.Link (server_of (arc_value c.args.hub.now)) (marks_of c.args.passes.now) (is_some c.args.server.now.spent) (g.N.Net.back c.args.server.now.net) (g.N.Net.line c.args.server.now.net) c.args.server.now.ended.items c.requires.empty.0;
}

-- a turn

pub turn-requires-clause-sends : goal.turn-requires-clause-sends
turn-requires-clause-sends g c = c.requires.sends

pub turn-requires-clause-own : goal.turn-requires-clause-own
turn-requires-clause-own g c = c.loop.invariant.own

pub turn-requires-clause-ours : goal.turn-requires-clause-ours
turn-requires-clause-ours g c = c.loop.invariant.ours

pub turn-requires-clause-out : goal.turn-requires-clause-out
turn-requires-clause-out g c = let out = c.loop.invariant.out in omega (arith, out)

pub turn-requires-clause-room : goal.turn-requires-clause-room
turn-requires-clause-room g c = c.loop.invariant.room

pub turn-requires-clause-total : goal.turn-requires-clause-total
turn-requires-clause-total g c = c.loop.invariant.total

pub turn-requires-clause-most : goal.turn-requires-clause-most
turn-requires-clause-most g c = c.loop.invariant.most_is

pub turn-requires-clause-spent : goal.turn-requires-clause-spent
turn-requires-clause-spent g c = c.loop.invariant.spent

-- robots and peers have their turn

pub tend-requires-clause-ready : goal.tend-requires-clause-ready
tend-requires-clause-ready g c =
    let hub : c.deref-in-Ok-false.result.now ≡ arc_value c.args.hub.now = search (rules, c.deref-in-Ok-false.ensures) in
    let own : c.deref-in-Ok-false.result.now.domain ≡ (arc_value c.args.hub.now).domain = ap (λ h. h.domain) hub in
    subst (λ d. AreReady d (marks_of c.turn.new.passes) (host_by (λ b. (goal.Robot-dyn g (b.vtable, b.value)).calls b.value) c.loop.robots)) (sym own)
    (ready_later (arc_value c.args.hub.now).domain (marks_of c.loop.passes) (marks_of c.turn.new.passes) (host_by (λ b. (goal.Robot-dyn g (b.vtable, b.value)).calls b.value) c.loop.robots) c.turn.ensures.later c.loop.invariant.ready)

pub tend-requires-clause-held : goal.tend-requires-clause-held
tend-requires-clause-held g c = let out = c.turn.ensures.out (held c.loop.peers.list.items) c.loop.invariant.out in omega (arith, out)

pub tend-requires-clause-own : goal.tend-requires-clause-own
tend-requires-clause-own g c =
    let hub : c.deref-in-Ok-false.result.now ≡ arc_value c.args.hub.now = search (rules, c.deref-in-Ok-false.ensures) in
    subst (λ h. AreOfHub h c.turn.new.passes) (sym hub) c.turn.ensures.own

pub tend-requires-clause-unspent : goal.tend-requires-clause-unspent
tend-requires-clause-unspent g c = c.in-Ok-false.ensures.spent

pub loop-preserved : goal.loop-preserved
loop-preserved g c =
    let hub : c.deref-in-Ok-false.result.now ≡ arc_value c.args.hub.now = search (rules, c.deref-in-Ok-false.ensures) in
    let own : c.deref-in-Ok-false.result.now.domain ≡ (arc_value c.args.hub.now).domain = ap (λ h. h.domain) hub in
    let same = c.tend.ensures.same in
    let counts = c.tend.ensures.counts in
    let link = g.N.Link.Link in
    let v = server_of (arc_value c.args.hub.now) in
    let before = g.N.Net.back c.args.server.now.net in
    let line = g.N.Net.line c.args.server.now.net in
    let left = c.turn.new.server in
    let now = c.tend.new.server in
    let base = g.N.Net.accepted c.args.server.now.net in
    record {
      own = subst (λ h. AreOfHub h c.tend.new.passes) hub c.tend.ensures.own;
      later = begins_on c.args.passes.now c.loop.passes c.tend.new.passes c.loop.invariant.later (begins_on c.loop.passes c.turn.new.passes c.tend.new.passes c.turn.ensures.later c.tend.ensures.later);
      ready = subst (λ d. AreReady d (marks_of c.tend.new.passes) (host_by (λ b. (goal.Robot-dyn g (b.vtable, b.value)).calls b.value) c.tend.new.robots)) own c.in-Ok.ensures.ready;
      ours = c.turn.ensures.ours;
      out = let out = c.turn.ensures.out (held c.loop.peers.list.items) c.loop.invariant.out in omega (arith, out, c.tend.ensures.out);
      room = subst (λ e. c.args.keeps ≡ true → vec_len e + vec_len c.turn.new.jobs ≤ vec_capacity e) (sym same.0) c.turn.ensures.room;
      total = subst (λ e. c.args.keeps ≡ true → vec_len e + vec_len c.turn.new.jobs ≡ c.turn.new.started) (sym same.0) c.in-Ok-false.ensures.total;
      most_is = c.in-Ok-false.ensures.most;
      spent = c.in-Ok.ensures.spent;
      accepted = came_same base _ _ _ counts.1 (c.in-Ok-false.ensures.accepted base c.loop.invariant.accepted);
      refused = let spawner = ap (λ s. g.P.Spawner.refused s) same.1 in omega (arith, spawner, c.loop.invariant.refused, c.turn.ensures.counts.0);
      door = omega (arith, counts.0, c.loop.invariant.door, c.turn.ensures.counts.1);
      dialled = c.in-Ok.ensures.dialled (ready_asked g.N.Net.tells (g.N.Net.asked c.loop.server.net) (g.N.Net.asked left.net) c.loop.peers.list.items c.turn.ensures.asked c.loop.invariant.dialled);
      named = c.tend.ensures.named ∙ c.loop.invariant.named;
      going = subst (λ e. IsGoing link v (marks_of c.tend.new.passes) (is_some now.spent) c.tend.new.put before (g.N.Net.back now.net) line (g.N.Net.line now.net) e) (sym (ap (λ e. e.items) same.0))
          (going_back link v (marks_of c.turn.new.passes) (marks_of c.tend.new.passes) c.tend.ensures.later (is_some left.spent) (is_some now.spent) c.turn.new.put c.tend.new.put before (g.N.Net.back left.net) (g.N.Net.back now.net) line (g.N.Net.line left.net) (g.N.Net.line now.net) left.ended.items
          c.tend.ensures.back c.in-Ok.ensures.put c.tend.ensures.rises (λ none. c.in-Ok-false.ensures.spent) (c.turn.ensures.going before line c.loop.invariant.going));
    }

-- there was no turn left for one of them, or no memory

pub returns-in-Err-tend : goal.returns-in-Err-tend
returns-in-Err-tend g c =
    let hub : c.deref-in-Ok-false.result.now ≡ arc_value c.args.hub.now = search (rules, c.deref-in-Ok-false.ensures) in
    let link = g.N.Link.Link in
    let v = server_of (arc_value c.args.hub.now) in
    let before = g.N.Net.back c.args.server.now.net in
    let line = g.N.Net.line c.args.server.now.net in
    let base = g.N.Net.accepted c.args.server.now.net in
    let left = c.turn.new.server in
    let now = c.tend.new.server in
    let kinds = c.in-Err-tend.ensures.kinds in
    record {
      own = subst (λ h. AreOfHub h c.tend.new.passes) hub c.tend.ensures.own;
      later = begins_on c.args.passes.now c.loop.passes c.tend.new.passes c.loop.invariant.later (begins_on c.loop.passes c.turn.new.passes c.tend.new.passes c.turn.ensures.later c.tend.ensures.later);
      robots = tt;
      all = tt;
      accepted = came_few base _ _ c.args.most c.in-Ok-false.ensures.most (came_same base _ _ _ c.tend.ensures.counts.1 (c.in-Ok-false.ensures.accepted base c.loop.invariant.accepted));
      spent = c.in-Err-tend.ensures.spent;
      refused = λ e. absurd (kinds.0 e);
      door = λ e. absurd (kinds.1 e);
      served = subst (λ e. HasServed link v (marks_of c.tend.new.passes) (is_some now.spent) before (g.N.Net.back now.net) e) (sym (ap (λ e. e.items) c.tend.ensures.same.0))
          (served_back link v (marks_of c.turn.new.passes) (marks_of c.tend.new.passes) c.tend.ensures.later (is_some left.spent) (is_some now.spent) before (g.N.Net.back left.net) (g.N.Net.back now.net) left.ended.items
          c.tend.ensures.back (λ none. c.in-Ok-false.ensures.spent) (c.turn.ensures.going before line c.loop.invariant.going).served);
      met = tt;
      dialled = tt;
      named = c.tend.ensures.named ∙ c.loop.invariant.named;
      held = let out = c.turn.ensures.out (held c.loop.peers.list.items) c.loop.invariant.out in omega (arith, out, c.tend.ensures.out);
    }

-- all sessions have ended

pub settle_all-requires-clause-ready : goal.settle_all-requires-clause-ready
settle_all-requires-clause-ready g c =
    let hub : c.deref.result.now ≡ arc_value c.args.hub.now = search (rules, c.deref.ensures) in
    let own : c.deref.result.now.domain ≡ (arc_value c.args.hub.now).domain = ap (λ h. h.domain) hub in
    subst (λ d. AreReady d (marks_of c.turn.new.passes) (host_by (λ b. (goal.Robot-dyn g (b.vtable, b.value)).calls b.value) c.loop.robots)) (sym own)
    (ready_later (arc_value c.args.hub.now).domain (marks_of c.loop.passes) (marks_of c.turn.new.passes) (host_by (λ b. (goal.Robot-dyn g (b.vtable, b.value)).calls b.value) c.loop.robots) c.turn.ensures.later c.loop.invariant.ready)

pub settle_all-requires-clause-held : goal.settle_all-requires-clause-held
settle_all-requires-clause-held g c = let out = c.turn.ensures.out (held c.loop.peers.list.items) c.loop.invariant.out in omega (arith, out)

pub settle_all-requires-clause-own : goal.settle_all-requires-clause-own
settle_all-requires-clause-own g c =
    let hub : c.deref.result.now ≡ arc_value c.args.hub.now = search (rules, c.deref.ensures) in
    subst (λ h. AreOfHub h c.turn.new.passes) (sym hub) c.turn.ensures.own

pub settle_all-requires-clause-unspent : goal.settle_all-requires-clause-unspent
settle_all-requires-clause-unspent g c = c.in-Ok-true.ensures.spent

pub returns-in-Ok-true : goal.returns-in-Ok-true
returns-in-Ok-true g c =
    let hub : c.deref.result.now ≡ arc_value c.args.hub.now = search (rules, c.deref.ensures) in
    let own : c.deref.result.now.domain ≡ (arc_value c.args.hub.now).domain = ap (λ h. h.domain) hub in
    let same = c.settle_all.ensures.same in
    let counts = c.settle_all.ensures.counts in
    let link = g.N.Link.Link in
    let v = server_of (arc_value c.args.hub.now) in
    let before = g.N.Net.back c.args.server.now.net in
    let line = g.N.Net.line c.args.server.now.net in
    let left = c.turn.new.server in
    let now = c.settle_all.new.server in
    let r = c.settle_all.result in
    let going = c.turn.ensures.going before line c.loop.invariant.going in
    let dialled : PeersReady g.N.Net.tells (g.N.Net.asked left.net) c.loop.peers.list.items =
    ready_asked g.N.Net.tells (g.N.Net.asked c.loop.server.net) (g.N.Net.asked left.net) c.loop.peers.list.items c.turn.ensures.asked c.loop.invariant.dialled in
    let all = c.in-Ok-true.ensures.all c.in-Ok-true.field-0-test in
    let base = g.N.Net.accepted c.args.server.now.net in
    record {
      own = subst (λ h. AreOfHub h c.settle_all.new.passes) hub c.settle_all.ensures.own;
      later = begins_on c.args.passes.now c.loop.passes c.settle_all.new.passes c.loop.invariant.later (begins_on c.loop.passes c.turn.new.passes c.settle_all.new.passes c.turn.ensures.later c.settle_all.ensures.later);
      robots = subst (λ d. OnOk r (WereServed d (marks_of c.settle_all.new.passes) (host_by (λ b. (goal.Robot-dyn g (b.vtable, b.value)).calls b.value) c.settle_all.new.robots))) own c.settle_all.ensures.robots;
      all = ok_of r (all.0, ap vec_len same.0 ∙ all.1);
      accepted = came_to base _ _ c.args.most c.args.most counts.1 (omega arith) r (subst (WereAccepted base (g.N.Net.accepted left.net)) all.2 (c.in-Ok-true.ensures.accepted base c.loop.invariant.accepted));
      spent = c.settle_all.ensures.spent;
      refused = never_refused _ r c.settle_all.ensures.kinds;
      door = never_door _ r c.settle_all.ensures.kinds;
      served = subst (λ e. HasServed link v (marks_of c.settle_all.new.passes) (is_some now.spent) before (g.N.Net.back now.net) e) (sym (ap (λ e. e.items) same.0))
          (served_back link v (marks_of c.turn.new.passes) (marks_of c.settle_all.new.passes) c.settle_all.ensures.later (is_some left.spent) (is_some now.spent) before (g.N.Net.back left.net) (g.N.Net.back now.net) left.ended.items
          c.settle_all.ensures.back (λ none. c.in-Ok-true.ensures.spent) going.served);
      met = ok_more r (λ reached.
          subst (λ e. HaveMet link before (g.N.Net.back now.net) line (g.N.Net.line now.net) e c.settle_all.new.peers.list.items) (sym (ap (λ e. e.items) same.0))
          (have_met link v (marks_of c.turn.new.passes) (is_some left.spent) c.turn.new.put before (g.N.Net.back left.net) (g.N.Net.back now.net) line (g.N.Net.line left.net) (g.N.Net.line now.net) left.ended.items
          c.settle_all.new.peers.list.items c.settle_all.ensures.back c.settle_all.ensures.rises (reached dialled) going)) c.settle_all.ensures.reached;
      dialled = ok_more r (λ all_dialled. all_dialled dialled) c.settle_all.ensures.dialled;
      named = c.settle_all.ensures.named ∙ c.loop.invariant.named;
      held = let out = c.turn.ensures.out (held c.loop.peers.list.items) c.loop.invariant.out in omega (arith, out, c.settle_all.ensures.out);
    }

-- it stopped before

pub returns-in-Err : goal.returns-in-Err
returns-in-Err g c = record {
  own = c.turn.ensures.own;
  later = begins_on c.args.passes.now c.loop.passes c.turn.new.passes c.loop.invariant.later c.turn.ensures.later;
  robots = tt;
  all = tt;
  accepted = c.in-Err.ensures.accepted (g.N.Net.accepted c.args.server.now.net) c.loop.invariant.accepted;
  spent = c.in-Err.ensures.spent;
  refused = λ e. let rose = c.in-Err.ensures.refused e in omega (arith, rose, c.loop.invariant.refused);
  door = λ e. let rose = c.in-Err.ensures.door e in omega (arith, rose, c.loop.invariant.door);
  served = (c.turn.ensures.going (g.N.Net.back c.args.server.now.net) (g.N.Net.line c.args.server.now.net) c.loop.invariant.going).served;
  met = tt;
  dialled = tt;
  named = c.loop.invariant.named;
  held = let out = c.turn.ensures.out (held c.loop.peers.list.items) c.loop.invariant.out in omega (arith, out);
}
