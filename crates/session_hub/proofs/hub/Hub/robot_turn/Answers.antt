use Rattle.std.proofs.Common.{◌≡◌, None, refl, sym, subst}
use Rattle.robot_host.specs.Hosts.{host_by}
use Rattle.turn_cells.specs.Cells.{seen_of}
use Rattle.shard_marks.specs.Looks.{IsLook}
use Rattle.shard_marks.specs.Passes.{marks_of}
use Rattle.session_hub.specs.Robots.{MayTurnAt, IsRoundAt, IsRoundCutAt, AreSettledAt}
use Rattle.session_hub.proofs.RobotTurns.{may_at, cut_may_at, settled_at, untouched_at, cut_untouched_at, later_may}
use Rattle.session_hub.proofs.Turning.{with_pass, turn_at, now_at, turned_at, look_at, own_after, unadded_at, seen_now, spent_exit, on_err}
use Rattle.session_hub.proofs.hub.Hub.robot_turn.Goals as goal

pub robot_turn-requires-clause-own : goal.robot_turn-requires-clause-own
robot_turn-requires-clause-own g c =
    let t = turn_at c.args.self.now c.args.passes.now c.args.shard c.args.shard c.index.result.now c.index_mut.result.now c.requires.own refl c.requires.shard c.index.ensures c.index_mut.ensures.value in
    t.own

pub robot_turn-requires-clause-may : goal.robot_turn-requires-clause-may
robot_turn-requires-clause-may g c =
    let t = turn_at c.args.self.now c.args.passes.now c.args.shard c.args.shard c.index.result.now c.index_mut.result.now c.requires.own refl c.requires.shard c.index.ensures c.index_mut.ensures.value in
    let d = c.args.self.now.domain in
    record { domain = d; number = c.args.shard; founded = t.founded; may = subst (λ o. MayTurnAt d c.args.shard (seen_of o) (host_by (λ b. (goal.Robot-dyn g (b.vtable, b.value)).calls b.value) c.args.host.now)) t.at c.requires.may }

pub returns-clause-own : goal.returns-clause-own
returns-clause-own g c =
    let t = turn_at c.args.self.now c.args.passes.now c.args.shard c.args.shard c.index.result.now c.index_mut.result.now c.requires.own refl c.requires.shard c.index.ensures c.index_mut.ensures.value in
    let q = c.robot_turn.new.pass in
    let qs = with_pass c.args.passes.now c.args.shard q in
    own_after c.args.passes.now qs c.args.shard c.index_mut.result.now q t.at (t.is q) c.args.self.now c.index.result.now c.requires.own t.cell c.robot_turn.ensures.own c.robot_turn.ensures.later

pub returns-clause-turned : goal.returns-clause-turned
returns-clause-turned g c =
    let t = turn_at c.args.self.now c.args.passes.now c.args.shard c.args.shard c.index.result.now c.index_mut.result.now c.requires.own refl c.requires.shard c.index.ensures c.index_mut.ensures.value in
    let q = c.robot_turn.new.pass in
    let qs = with_pass c.args.passes.now c.args.shard q in
    turned_at c.args.passes.now qs c.args.shard c.index_mut.result.now q t.at (t.is q) c.robot_turn.ensures.later c.robot_turn.ensures.looked

pub returns-clause-unadded : goal.returns-clause-unadded
returns-clause-unadded g c =
    let t = turn_at c.args.self.now c.args.passes.now c.args.shard c.args.shard c.index.result.now c.index_mut.result.now c.requires.own refl c.requires.shard c.index.ensures c.index_mut.ensures.value in
    let q = c.robot_turn.new.pass in
    let qs = with_pass c.args.passes.now c.args.shard q in
    unadded_at c.args.passes.now qs c.args.shard c.index_mut.result.now q t.at (t.is q) c.robot_turn.ensures.unadded

pub returns-in_err-length-clause-own : goal.returns-in_err-length-clause-own
returns-in_err-length-clause-own g c =
    let t = turn_at c.args.self.now c.args.passes.now c.args.shard c.args.shard c.index.result.now c.index_mut.result.now c.requires.own refl c.requires.shard c.index.ensures c.index_mut.ensures.value in
    let q = c.robot_turn.new.pass in
    let qs = with_pass c.args.passes.now c.args.shard q in
    own_after c.args.passes.now qs c.args.shard c.index_mut.result.now q t.at (t.is q) c.args.self.now c.index.result.now c.requires.own t.cell c.robot_turn.ensures.own c.robot_turn.ensures.later

pub returns-in_err-length-clause-turned : goal.returns-in_err-length-clause-turned
returns-in_err-length-clause-turned g c =
    let t = turn_at c.args.self.now c.args.passes.now c.args.shard c.args.shard c.index.result.now c.index_mut.result.now c.requires.own refl c.requires.shard c.index.ensures c.index_mut.ensures.value in
    let q = c.robot_turn.new.pass in
    let qs = with_pass c.args.passes.now c.args.shard q in
    turned_at c.args.passes.now qs c.args.shard c.index_mut.result.now q t.at (t.is q) c.robot_turn.ensures.later c.robot_turn.ensures.looked

pub returns-in_err-length-clause-unadded : goal.returns-in_err-length-clause-unadded
returns-in_err-length-clause-unadded g c =
    let t = turn_at c.args.self.now c.args.passes.now c.args.shard c.args.shard c.index.result.now c.index_mut.result.now c.requires.own refl c.requires.shard c.index.ensures c.index_mut.ensures.value in
    let q = c.robot_turn.new.pass in
    let qs = with_pass c.args.passes.now c.args.shard q in
    unadded_at c.args.passes.now qs c.args.shard c.index_mut.result.now q t.at (t.is q) c.robot_turn.ensures.unadded

pub returns-clause-look : goal.returns-clause-look
returns-clause-look g c =
    let t = turn_at c.args.self.now c.args.passes.now c.args.shard c.args.shard c.index.result.now c.index_mut.result.now c.requires.own refl c.requires.shard c.index.ensures c.index_mut.ensures.value in
    let q = c.robot_turn.new.pass in
    let qs = with_pass c.args.passes.now c.args.shard q in
    subst (λ w. IsLook c.args.shard (marks_of qs c.args.shard) w.look) (sym c.placed.ensures) (look_at c.args.passes.now qs c.args.shard c.index_mut.result.now q t.at (t.is q) (record { shard = c.args.shard; length = c.in_ok-length.length }) refl c.in_ok-length.ensures.length)

pub returns-clause-round : goal.returns-clause-round
returns-clause-round g c =
    let t = turn_at c.args.self.now c.args.passes.now c.args.shard c.args.shard c.index.result.now c.index_mut.result.now c.requires.own refl c.requires.shard c.index.ensures c.index_mut.ensures.value in
    let q = c.robot_turn.new.pass in
    let qs = with_pass c.args.passes.now c.args.shard q in
    let d = c.args.self.now.domain in
    let before = host_by (λ b. (goal.Robot-dyn g (b.vtable, b.value)).calls b.value) c.args.host.now in
    let after = host_by (λ b. (goal.Robot-dyn g (b.vtable, b.value)).calls b.value) c.robot_turn.new.host in
    subst (λ w. IsRoundAt d c.args.shard (marks_of qs c.args.shard) before after w.name w.edits.items) (sym c.placed.ensures) (seen_now c.args.passes.now qs c.args.shard c.index_mut.result.now q t.at (t.is q) (λ ms. IsRoundAt d c.args.shard ms before after c.in_ok-length.round.name c.in_ok-length.round.edits.items) (c.in_ok-length.ensures.round d c.args.shard t.founded))

pub returns-clause-settled : goal.returns-clause-settled
returns-clause-settled g c =
    let t = turn_at c.args.self.now c.args.passes.now c.args.shard c.args.shard c.index.result.now c.index_mut.result.now c.requires.own refl c.requires.shard c.index.ensures c.index_mut.ensures.value in
    let q = c.robot_turn.new.pass in
    let qs = with_pass c.args.passes.now c.args.shard q in
    let d = c.args.self.now.domain in
    let before = host_by (λ b. (goal.Robot-dyn g (b.vtable, b.value)).calls b.value) c.args.host.now in
    let after = host_by (λ b. (goal.Robot-dyn g (b.vtable, b.value)).calls b.value) c.robot_turn.new.host in
    let round = seen_now c.args.passes.now qs c.args.shard c.index_mut.result.now q t.at (t.is q) (λ ms. IsRoundAt d c.args.shard ms before after c.in_ok-length.round.name c.in_ok-length.round.edits.items) (c.in_ok-length.ensures.round d c.args.shard t.founded) in
    subst (λ w. w.name ≡ None → AreSettledAt d c.args.shard (marks_of qs c.args.shard) after) (sym c.placed.ensures) (settled_at d c.args.shard (marks_of qs c.args.shard) before after c.in_ok-length.round.name c.in_ok-length.round.edits.items round)

pub returns-clause-others : goal.returns-clause-others
returns-clause-others g c =
    let t = turn_at c.args.self.now c.args.passes.now c.args.shard c.args.shard c.index.result.now c.index_mut.result.now c.requires.own refl c.requires.shard c.index.ensures c.index_mut.ensures.value in
    let q = c.robot_turn.new.pass in
    let qs = with_pass c.args.passes.now c.args.shard q in
    let d = c.args.self.now.domain in
    let before = host_by (λ b. (goal.Robot-dyn g (b.vtable, b.value)).calls b.value) c.args.host.now in
    let after = host_by (λ b. (goal.Robot-dyn g (b.vtable, b.value)).calls b.value) c.robot_turn.new.host in
    let round = seen_now c.args.passes.now qs c.args.shard c.index_mut.result.now q t.at (t.is q) (λ ms. IsRoundAt d c.args.shard ms before after c.in_ok-length.round.name c.in_ok-length.round.edits.items) (c.in_ok-length.ensures.round d c.args.shard t.founded) in
    untouched_at d c.args.shard (marks_of qs c.args.shard) before after c.in_ok-length.round.name c.in_ok-length.round.edits.items round

pub returns-clause-may : goal.returns-clause-may
returns-clause-may g c =
    let t = turn_at c.args.self.now c.args.passes.now c.args.shard c.args.shard c.index.result.now c.index_mut.result.now c.requires.own refl c.requires.shard c.index.ensures c.index_mut.ensures.value in
    let q = c.robot_turn.new.pass in
    let qs = with_pass c.args.passes.now c.args.shard q in
    let d = c.args.self.now.domain in
    let before = host_by (λ b. (goal.Robot-dyn g (b.vtable, b.value)).calls b.value) c.args.host.now in
    let after = host_by (λ b. (goal.Robot-dyn g (b.vtable, b.value)).calls b.value) c.robot_turn.new.host in
    let round = seen_now c.args.passes.now qs c.args.shard c.index_mut.result.now q t.at (t.is q) (λ ms. IsRoundAt d c.args.shard ms before after c.in_ok-length.round.name c.in_ok-length.round.edits.items) (c.in_ok-length.ensures.round d c.args.shard t.founded) in
    may_at d c.args.shard (marks_of qs c.args.shard) before after c.in_ok-length.round.name c.in_ok-length.round.edits.items round (later_may d c.args.shard (marks_of c.args.passes.now c.args.shard) (marks_of qs c.args.shard) before (turned_at c.args.passes.now qs c.args.shard c.index_mut.result.now q t.at (t.is q) c.robot_turn.ensures.later c.robot_turn.ensures.looked).later c.requires.may)

pub returns-in_err-length-clause-cut : goal.returns-in_err-length-clause-cut
returns-in_err-length-clause-cut g c =
    let t = turn_at c.args.self.now c.args.passes.now c.args.shard c.args.shard c.index.result.now c.index_mut.result.now c.requires.own refl c.requires.shard c.index.ensures c.index_mut.ensures.value in
    let q = c.robot_turn.new.pass in
    let qs = with_pass c.args.passes.now c.args.shard q in
    let d = c.args.self.now.domain in
    let before = host_by (λ b. (goal.Robot-dyn g (b.vtable, b.value)).calls b.value) c.args.host.now in
    let after = host_by (λ b. (goal.Robot-dyn g (b.vtable, b.value)).calls b.value) c.robot_turn.new.host in
    on_err c.from_residual.result (seen_now c.args.passes.now qs c.args.shard c.index_mut.result.now q t.at (t.is q) (λ ms. IsRoundCutAt d c.args.shard ms before after) (c.in_err-length.ensures.cut d c.args.shard t.founded))

pub returns-in_err-length-clause-others : goal.returns-in_err-length-clause-others
returns-in_err-length-clause-others g c =
    let t = turn_at c.args.self.now c.args.passes.now c.args.shard c.args.shard c.index.result.now c.index_mut.result.now c.requires.own refl c.requires.shard c.index.ensures c.index_mut.ensures.value in
    let q = c.robot_turn.new.pass in
    let qs = with_pass c.args.passes.now c.args.shard q in
    let d = c.args.self.now.domain in
    let before = host_by (λ b. (goal.Robot-dyn g (b.vtable, b.value)).calls b.value) c.args.host.now in
    let after = host_by (λ b. (goal.Robot-dyn g (b.vtable, b.value)).calls b.value) c.robot_turn.new.host in
    let cut = seen_now c.args.passes.now qs c.args.shard c.index_mut.result.now q t.at (t.is q) (λ ms. IsRoundCutAt d c.args.shard ms before after) (c.in_err-length.ensures.cut d c.args.shard t.founded) in
    cut_untouched_at d c.args.shard (marks_of qs c.args.shard) before after cut

pub returns-in_err-length-clause-may : goal.returns-in_err-length-clause-may
returns-in_err-length-clause-may g c =
    let t = turn_at c.args.self.now c.args.passes.now c.args.shard c.args.shard c.index.result.now c.index_mut.result.now c.requires.own refl c.requires.shard c.index.ensures c.index_mut.ensures.value in
    let q = c.robot_turn.new.pass in
    let qs = with_pass c.args.passes.now c.args.shard q in
    let d = c.args.self.now.domain in
    let before = host_by (λ b. (goal.Robot-dyn g (b.vtable, b.value)).calls b.value) c.args.host.now in
    let after = host_by (λ b. (goal.Robot-dyn g (b.vtable, b.value)).calls b.value) c.robot_turn.new.host in
    let cut = seen_now c.args.passes.now qs c.args.shard c.index_mut.result.now q t.at (t.is q) (λ ms. IsRoundCutAt d c.args.shard ms before after) (c.in_err-length.ensures.cut d c.args.shard t.founded) in
    cut_may_at d c.args.shard (marks_of qs c.args.shard) before after cut (later_may d c.args.shard (marks_of c.args.passes.now c.args.shard) (marks_of qs c.args.shard) before (turned_at c.args.passes.now qs c.args.shard c.index_mut.result.now q t.at (t.is q) c.robot_turn.ensures.later c.robot_turn.ensures.looked).later c.requires.may)

pub returns-in_err-length-clause-spent : goal.returns-in_err-length-clause-spent
returns-in_err-length-clause-spent g c =
    let t = turn_at c.args.self.now c.args.passes.now c.args.shard c.args.shard c.index.result.now c.index_mut.result.now c.requires.own refl c.requires.shard c.index.ensures c.index_mut.ensures.value in
    let q = c.robot_turn.new.pass in
    let qs = with_pass c.args.passes.now c.args.shard q in
    let now = now_at c.args.passes.now qs c.args.shard c.index_mut.result.now q t.at (t.is q) in
    spent_exit qs c.args.shard q c.from_residual.result c.in_err-length.field-0.0 now c.from_residual.ensures.1 c.in_err-length.ensures.fault
