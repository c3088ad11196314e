use Rattle.std.proofs.Common.{◌≡◌, Bool, List, sym, subst}
use Rattle.annotation_track.specs.declared.spans.Span.{Span}
use Rattle.annotation_track.specs.Meets.{left, IsMet, IsMeeting, Goes}
use Rattle.annotation_track.proofs.meet.meet_tracks.Goals as goal

pub returns-then-not-branch : goal.returns-then-not-branch
returns-then-not-branch c =
    let went : IsMet c.args.first.now c.args.second.now c.step.new.one.items c.step.new.two.items =
    subst (λ (b : Bool). Goes b c.args.first.now c.args.second.now c.step.new.l c.step.new.r c.step.new.one.items c.step.new.two.items) c.if-not-branch.true (c.in_ok-step.ensures.goes c.args.first.now c.args.second.now c.meet.invariant) in
    subst (λ (x : List Span). IsMet c.args.first.now c.args.second.now x c.from_vec-then-not-branch.result) (sym c.from_vec.ensures)
    (subst (λ (x : List Span). IsMet c.args.first.now c.args.second.now c.step.new.one.items x) (sym c.from_vec-then-not-branch.ensures) went)

pub meet-preserved : goal.meet-preserved
meet-preserved c = subst (λ (b : Bool). Goes b c.args.first.now c.args.second.now c.step.new.l c.step.new.r c.step.new.one.items c.step.new.two.items) c.if-not-branch.false (c.in_ok-step.ensures.goes c.args.first.now c.args.second.now c.meet.invariant)
