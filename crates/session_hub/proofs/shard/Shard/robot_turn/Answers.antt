use Rattle.std.proofs.Common.{◌∷◌, ◌+◌, sym, subst, ◌∙◌}
use Rattle.robot_host.specs.Hosts.{host_by}
use Rattle.wavelet_shelf.specs.Walks.{as_hosted}
use Rattle.hosted_copies.specs.Domains.{hosted_from}
use Rattle.shard_marks.specs.Marks.{replayed}
use Rattle.session_hub.specs.Entries.{entries_of}
use Rattle.session_hub.proofs.RobotTurns.{IsUnderway, from_first, underway_begins, underway_past, underway_on, underway_ends, underway_cut, may_now}
use Rattle.session_hub.proofs.Turning.{on_err}
use Rattle.session_hub.proofs.shard.Shard.robot_turn.Goals as goal
use Rattle.session_hub.proofs.shard.Shard.robot_turn.Goals.{in-Some+in_ok-round-in-Some+else-is_some, in-None}

pub loop-place-init : goal.loop-place-init
loop-place-init g c =
    let s = c.args.self.now in
    underway_begins s.domain s.number (entries_of s) (hosted_from s.domain s.shelf 0) (host_by (λ b. (goal.Robot-dyn g (b.vtable, b.value)).calls b.value) c.args.host.now) (from_first s.domain s.shelf ∙ s.replay) c.requires

pub turn_over-requires : goal.turn_over-requires
turn_over-requires g c =
    let s = c.args.self.now in
    let d = s.domain in
    let all = replayed d s.number (entries_of s) in
    let rest = hosted_from d s.shelf (c.loop-place.place + 1) in
    let before = host_by (λ b. (goal.Robot-dyn g (b.vtable, b.value)).calls b.value) c.args.host.now in
    let now = host_by (λ b. (goal.Robot-dyn g (b.vtable, b.value)).calls b.value) c.loop-place.host in
    let h = c.in-Some.history.now in
    let u = underway_past d s.number all (hosted_from d s.shelf c.loop-place.place) before now c.loop-place.invariant (as_hosted h ∷ rest) c.in-Some.ensures in
    may_now d s.number all rest h before now u

pub returns-in_err-round-in-Some-clause-cut : goal.returns-in_err-round-in-Some-clause-cut
returns-in_err-round-in-Some-clause-cut g c =
    let s = c.args.self.now in
    let d = s.domain in
    let all = replayed d s.number (entries_of s) in
    let rest = hosted_from d s.shelf (c.loop-place.place + 1) in
    let before = host_by (λ b. (goal.Robot-dyn g (b.vtable, b.value)).calls b.value) c.args.host.now in
    let now = host_by (λ b. (goal.Robot-dyn g (b.vtable, b.value)).calls b.value) c.loop-place.host in
    let h = c.in-Some.history.now in
    let u = underway_past d s.number all (hosted_from d s.shelf c.loop-place.place) before now c.loop-place.invariant (as_hosted h ∷ rest) c.in-Some.ensures in
    on_err c.from_residual.result (underway_cut d s.number all rest h before now u (host_by (λ b. (goal.Robot-dyn g (b.vtable, b.value)).calls b.value) c.turn_over.new.host) c.in_err-round-in-Some.ensures.cut)

pub returns-then-is_some-clause-round : goal.returns-then-is_some-clause-round
returns-then-is_some-clause-round g c =
    let s = c.args.self.now in
    let d = s.domain in
    let all = replayed d s.number (entries_of s) in
    let rest = hosted_from d s.shelf (c.loop-place.place + 1) in
    let before = host_by (λ b. (goal.Robot-dyn g (b.vtable, b.value)).calls b.value) c.args.host.now in
    let now = host_by (λ b. (goal.Robot-dyn g (b.vtable, b.value)).calls b.value) c.loop-place.host in
    let h = c.in-Some.history.now in
    let u = underway_past d s.number all (hosted_from d s.shelf c.loop-place.place) before now c.loop-place.invariant (as_hosted h ∷ rest) c.in-Some.ensures in
    underway_ends d s.number all rest h before now u (host_by (λ b. (goal.Robot-dyn g (b.vtable, b.value)).calls b.value) c.turn_over.new.host) c.in_ok-round-in-Some.round.name c.in_ok-round-in-Some.round.edits.items (sym c.is_some.ensures ∙ c.if-is_some.true) c.in_ok-round-in-Some.ensures.round

pub loop-place-preserved : goal.loop-place-preserved
loop-place-preserved g c =
    let s = c.args.self.now in
    let d = s.domain in
    let all = replayed d s.number (entries_of s) in
    let rest = hosted_from d s.shelf (c.loop-place.place + 1) in
    let before = host_by (λ b. (goal.Robot-dyn g (b.vtable, b.value)).calls b.value) c.args.host.now in
    let now = host_by (λ b. (goal.Robot-dyn g (b.vtable, b.value)).calls b.value) c.loop-place.host in
    let left = hosted_from d s.shelf c.loop-place.place in
    elim c.match-history.branch as (λ _. IsUnderway d s.number all rest before (host_by (λ b. (goal.Robot-dyn g (b.vtable, b.value)).calls b.value) c.match-history.host)) [
      | in-Some+in_ok-round-in-Some+else-is_some w ↦
          let h = w.in-Some.history.now in
          let u = underway_past d s.number all left before now c.loop-place.invariant (as_hosted h ∷ rest) w.in-Some.ensures in
          subst (λ z. IsUnderway d s.number all rest before (host_by (λ b. (goal.Robot-dyn g (b.vtable, b.value)).calls b.value) z)) (sym w.host-is)
          (underway_on d s.number all rest h before now u (host_by (λ b. (goal.Robot-dyn g (b.vtable, b.value)).calls b.value) w.turn_over.new.host) w.in_ok-round-in-Some.round.name w.in_ok-round-in-Some.round.edits.items (sym w.is_some.ensures ∙ w.if-is_some.false) w.in_ok-round-in-Some.ensures.round)
      | in-None w ↦ subst (λ z. IsUnderway d s.number all rest before (host_by (λ b. (goal.Robot-dyn g (b.vtable, b.value)).calls b.value) z)) (sym w.host-is) (underway_past d s.number all left before now c.loop-place.invariant rest w.in-None.ensures)
    ]
