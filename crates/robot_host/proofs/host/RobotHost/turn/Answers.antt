use Rattle.std.proofs.Common.{◌≡◌, ◌∙◌, sym, ap, map, is_some, Some}
use Rattle.std.specs.Option.{option_copied_mut}
use Rattle.robot_host.specs.Hosts.{progress_in}
use Rattle.robot_host.specs.Robots.{robot_by}
use Rattle.robot_host.proofs.HostTurns.{always_err}
use Rattle.robot_host.proofs.HostSteps.{idle_turn, idle_may, idle_others, host_step, step_given, step_kept, step_through, step_may, step_others, turns_of, if_ok, sliced, turn_within}
use Rattle.delta_history.proofs.Indexes.{on_ok, on_err}
use Rattle.robot_host.proofs.host.RobotHost.turn.Goals as goal

pub returns-in_err-begin-clause-kept : goal.returns-in_err-begin-clause-kept
returns-in_err-begin-clause-kept g c = always_err _ (idle_turn _ _ _ _ c.args.history.now (ap (λ v. map (robot_by (λ b. (goal.Robot-dyn g (b.vtable, b.value)).calls b.value)) v.items) c.begin.ensures.seats) c.begin.ensures.same)

pub returns-in_err-begin-clause-shown : goal.returns-in_err-begin-clause-shown
returns-in_err-begin-clause-shown g c = idle_may _ _ _ _ c.args.history.now (ap (λ v. map (robot_by (λ b. (goal.Robot-dyn g (b.vtable, b.value)).calls b.value)) v.items) c.begin.ensures.seats) c.begin.ensures.same c.requires.may

pub returns-in_err-begin-clause-others : goal.returns-in_err-begin-clause-others
returns-in_err-begin-clause-others g c = idle_others _ _ _ _ c.args.history.now (ap (λ v. map (robot_by (λ b. (goal.Robot-dyn g (b.vtable, b.value)).calls b.value)) v.items) c.begin.ensures.seats) c.begin.ensures.same

pub turn-requires : goal.turn-requires
turn-requires g c =
    let was : progress_in c.begin.new.self.wavelets c.name-2.result.now ≡ Some c.in-Some.progress.now = sym c.get_mut.ensures.value ∙ ap option_copied_mut c.in-Some.is in
    let before = ap (map (robot_by (λ b. (goal.Robot-dyn g (b.vtable, b.value)).calls b.value))) (c.as_mut_slice.ensures.value ∙ ap (λ v. v.items) c.begin.ensures.seats) in
    record { within = turn_within _ _ c.args.self.now.wavelets c.begin.new.self.wavelets c.name-2.result.now c.args.history.now c.in-Some.progress.now before c.begin.ensures.same c.name-2.ensures was c.requires.may }

pub returns-clause-given : goal.returns-clause-given
returns-clause-given g c =
    let was : progress_in c.begin.new.self.wavelets c.name-2.result.now ≡ Some c.in-Some.progress.now = sym c.get_mut.ensures.value ∙ ap option_copied_mut c.in-Some.is in
    let up = (c.get_mut.follows.holds c.turn.new.self).3 (ap is_some was) in
    let turns = turns_of c.turn.result (λ v. v.items) c.in-Some.progress.now.edits.items c.turn.new.self.edits.items c.turn.ensures.given c.turn.ensures.kept in
    let before = ap (map (robot_by (λ b. (goal.Robot-dyn g (b.vtable, b.value)).calls b.value))) (c.as_mut_slice.ensures.value ∙ ap (λ v. v.items) c.begin.ensures.seats) in
    let after = sliced (robot_by (λ b. (goal.Robot-dyn g (b.vtable, b.value)).calls b.value)) c.begin.new.self.seats.len c.as_mut_slice.result.now c.turn.new.seats c.begin.new.self.seats.items c.begin.new.self.seats.ok.0 c.as_mut_slice.ensures.value turns.turns.length in
    let step = host_step _ _ _ _ c.args.self.now.wavelets c.begin.new.self.wavelets (c.get_mut.follows.lender c.turn.new.self) c.name-2.result.now c.args.history.now c.in-Some.progress.now c.turn.new.self before after c.begin.ensures.same c.name-2.ensures was up.0 in
    if_ok c.turn.result c.turn.ensures.given (λ x turned. step_given step turned)

pub returns-clause-through : goal.returns-clause-through
returns-clause-through g c =
    let was : progress_in c.begin.new.self.wavelets c.name-2.result.now ≡ Some c.in-Some.progress.now = sym c.get_mut.ensures.value ∙ ap option_copied_mut c.in-Some.is in
    let up = (c.get_mut.follows.holds c.turn.new.self).3 (ap is_some was) in
    let turns = turns_of c.turn.result (λ v. v.items) c.in-Some.progress.now.edits.items c.turn.new.self.edits.items c.turn.ensures.given c.turn.ensures.kept in
    let before = ap (map (robot_by (λ b. (goal.Robot-dyn g (b.vtable, b.value)).calls b.value))) (c.as_mut_slice.ensures.value ∙ ap (λ v. v.items) c.begin.ensures.seats) in
    let after = sliced (robot_by (λ b. (goal.Robot-dyn g (b.vtable, b.value)).calls b.value)) c.begin.new.self.seats.len c.as_mut_slice.result.now c.turn.new.seats c.begin.new.self.seats.items c.begin.new.self.seats.ok.0 c.as_mut_slice.ensures.value turns.turns.length in
    let step = host_step _ _ _ _ c.args.self.now.wavelets c.begin.new.self.wavelets (c.get_mut.follows.lender c.turn.new.self) c.name-2.result.now c.args.history.now c.in-Some.progress.now c.turn.new.self before after c.begin.ensures.same c.name-2.ensures was up.0 in
    on_ok c.turn.result c.turn.ensures.through (λ through. step_through step through)

pub returns-clause-kept : goal.returns-clause-kept
returns-clause-kept g c =
    let was : progress_in c.begin.new.self.wavelets c.name-2.result.now ≡ Some c.in-Some.progress.now = sym c.get_mut.ensures.value ∙ ap option_copied_mut c.in-Some.is in
    let up = (c.get_mut.follows.holds c.turn.new.self).3 (ap is_some was) in
    let turns = turns_of c.turn.result (λ v. v.items) c.in-Some.progress.now.edits.items c.turn.new.self.edits.items c.turn.ensures.given c.turn.ensures.kept in
    let before = ap (map (robot_by (λ b. (goal.Robot-dyn g (b.vtable, b.value)).calls b.value))) (c.as_mut_slice.ensures.value ∙ ap (λ v. v.items) c.begin.ensures.seats) in
    let after = sliced (robot_by (λ b. (goal.Robot-dyn g (b.vtable, b.value)).calls b.value)) c.begin.new.self.seats.len c.as_mut_slice.result.now c.turn.new.seats c.begin.new.self.seats.items c.begin.new.self.seats.ok.0 c.as_mut_slice.ensures.value turns.turns.length in
    let step = host_step _ _ _ _ c.args.self.now.wavelets c.begin.new.self.wavelets (c.get_mut.follows.lender c.turn.new.self) c.name-2.result.now c.args.history.now c.in-Some.progress.now c.turn.new.self before after c.begin.ensures.same c.name-2.ensures was up.0 in
    on_err c.turn.result c.turn.ensures.kept (λ turned. step_kept step turned)

pub returns-clause-shown : goal.returns-clause-shown
returns-clause-shown g c =
    let was : progress_in c.begin.new.self.wavelets c.name-2.result.now ≡ Some c.in-Some.progress.now = sym c.get_mut.ensures.value ∙ ap option_copied_mut c.in-Some.is in
    let up = (c.get_mut.follows.holds c.turn.new.self).3 (ap is_some was) in
    let turns = turns_of c.turn.result (λ v. v.items) c.in-Some.progress.now.edits.items c.turn.new.self.edits.items c.turn.ensures.given c.turn.ensures.kept in
    let before = ap (map (robot_by (λ b. (goal.Robot-dyn g (b.vtable, b.value)).calls b.value))) (c.as_mut_slice.ensures.value ∙ ap (λ v. v.items) c.begin.ensures.seats) in
    let after = sliced (robot_by (λ b. (goal.Robot-dyn g (b.vtable, b.value)).calls b.value)) c.begin.new.self.seats.len c.as_mut_slice.result.now c.turn.new.seats c.begin.new.self.seats.items c.begin.new.self.seats.ok.0 c.as_mut_slice.ensures.value turns.turns.length in
    let step = host_step _ _ _ _ c.args.self.now.wavelets c.begin.new.self.wavelets (c.get_mut.follows.lender c.turn.new.self) c.name-2.result.now c.args.history.now c.in-Some.progress.now c.turn.new.self before after c.begin.ensures.same c.name-2.ensures was up.0 in
    step_may step turns.turns c.requires.may

pub returns-clause-others : goal.returns-clause-others
returns-clause-others g c =
    let was : progress_in c.begin.new.self.wavelets c.name-2.result.now ≡ Some c.in-Some.progress.now = sym c.get_mut.ensures.value ∙ ap option_copied_mut c.in-Some.is in
    let up = (c.get_mut.follows.holds c.turn.new.self).3 (ap is_some was) in
    let turns = turns_of c.turn.result (λ v. v.items) c.in-Some.progress.now.edits.items c.turn.new.self.edits.items c.turn.ensures.given c.turn.ensures.kept in
    let before = ap (map (robot_by (λ b. (goal.Robot-dyn g (b.vtable, b.value)).calls b.value))) (c.as_mut_slice.ensures.value ∙ ap (λ v. v.items) c.begin.ensures.seats) in
    let after = sliced (robot_by (λ b. (goal.Robot-dyn g (b.vtable, b.value)).calls b.value)) c.begin.new.self.seats.len c.as_mut_slice.result.now c.turn.new.seats c.begin.new.self.seats.items c.begin.new.self.seats.ok.0 c.as_mut_slice.ensures.value turns.turns.length in
    let step = host_step _ _ _ _ c.args.self.now.wavelets c.begin.new.self.wavelets (c.get_mut.follows.lender c.turn.new.self) c.name-2.result.now c.args.history.now c.in-Some.progress.now c.turn.new.self before after c.begin.ensures.same c.name-2.ensures was up.0 in
    step_others step turns.turns
