use Rattle.std.proofs.Common.{rules, cond, not, ◌&&◌, ◌∷◌, map, sym, ap, subst, ◌≡◌, ◌∙◌, ◌-◌, suc, arith, reverse, length, take, is_some, slice_get, Some}
use Rattle.std.proofs.lemmas.Option.{slice_get_read}
use Rattle.wavelet_op.specs.States.{role_of}
use Rattle.delta_history.specs.Points.{start, replay}
use Rattle.robot_host.specs.Places.{AreNext}
use Rattle.robot_host.specs.Views.{is_among, view}
use Rattle.robot_host.proofs.Prefixes.{step_back, whole_taken}
use Rattle.robot_host.proofs.places.places_from.Goals as goal

pub loop-left-init : goal.loop-left-init
loop-left-init g c =
    let long : length c.deltas-deltas.result.now ≡ length c.args.history.now.deltas = ap length c.deltas-deltas.ensures.value in
    record {
      next = subst (λ z. AreNext (map (λ s. s.address) c.args.seats.now) c.args.address.now c.args.history.now (view (map (λ s. s.address) c.args.seats.now) c.args.address.now c.args.history.now (length c.deltas-deltas.result.now)) (reverse z)) (sym c.new-places.ensures.items) (ap (view (map (λ s. s.address) c.args.seats.now) c.args.address.now c.args.history.now) (sym long));
      here = λ p e. c.has-here.ensures ∙ ap (λ z. is_some (role_of z c.args.address.now)) c.state.ensures ∙ ap (λ z. is_some (role_of z.state c.args.address.now)) (whole_taken c.args.history.now p c.deltas-deltas.ensures.legal (ap (λ z. replay (start c.args.history.now.name) (take z c.args.history.now.deltas)) (sym long) ∙ e));
      above = let r = c.requires in omega (arith, r, long);
      within = omega (arith, long);
      same = c.deltas-deltas.ensures.value;
    }

pub loop-left-preserved : goal.loop-left-preserved
loop-left-preserved g c =
    let k = c.loop-left.left - 1 in
    let above = c.loop-left-test.true in
    let within = c.loop-left.invariant.within in
    let same : c.loop-left.left ≡ suc (c.loop-left.left - 1) = omega (arith, above) in
    let long : length c.deltas-deltas.result.now ≡ length c.args.history.now.deltas = ap length c.loop-left.invariant.same in
    let at : slice_get c.args.history.now.deltas k ≡ Some c.index-deltas-left.result = ap (λ z. slice_get z k) (sym c.loop-left.invariant.same) ∙ slice_get_read c.deltas-deltas.result.now (length c.args.history.now.deltas) k c.index-deltas-left.result (sym long) (omega (arith, above, within)) c.index-deltas-left.is in
    let back = step_back (map (λ s. s.address) c.args.seats.now) c.args.address.now c.args.history.now c.loop-left.left k c.index-deltas-left.result c.loop-left.here (reverse c.loop-left.places.items) same c.deltas-deltas.ensures.legal at c.loop-left.invariant.here c.loop-left.invariant.next in
    let put : reverse c.put_if.new.places.items ≡ cond c.is_shown.result (k ∷ reverse c.loop-left.places.items) (reverse c.loop-left.places.items) = search rules in
    let shown : c.is_shown.result ≡ (not (is_among c.index-deltas-left.result.id.author (map (λ s. s.address) c.args.seats.now)) && c.loop-left.here) = c.is_shown.ensures in
    record {
      next = subst (AreNext (map (λ s. s.address) c.args.seats.now) c.args.address.now c.args.history.now (view (map (λ s. s.address) c.args.seats.now) c.args.address.now c.args.history.now k)) (sym (put ∙ ap (λ b. cond b (k ∷ reverse c.loop-left.places.items) (reverse c.loop-left.places.items)) shown)) back.next;
      here = λ p e. c.was_participant-here.ensures ∙ back.was p e;
      above = omega (arith, above);
      within = omega (arith, within);
      same = c.loop-left.invariant.same;
    }

pub returns : goal.returns
returns g c =
    let end : c.loop-left.left ≡ c.args.from = let a = c.loop-left-test.false in let b = c.loop-left.invariant.above in omega (arith, a, b) in
    subst (λ z. AreNext (map (λ s. s.address) c.args.seats.now) c.args.address.now c.args.history.now (view (map (λ s. s.address) c.args.seats.now) c.args.address.now c.args.history.now z) (reverse c.loop-left.places.items)) end c.loop-left.invariant.next
