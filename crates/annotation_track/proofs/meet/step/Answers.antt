use Rattle.std.proofs.Common.{◌≡◌, ℕ, ◌+◌, ◌-◌, ◌<◌, ◌≤◌, List, ◌∷◌, ◌++◌, [], arith, subst, sym, ap, ◌∙◌}
use Rattle.annotation_track.specs.declared.spans.Span.{Span}
use Rattle.annotation_track.specs.Meets.{left, Alike, IsMeeting}
use Rattle.annotation_track.proofs.Meetings.{met_at_end, cut_more, head_cut, span}
use Rattle.annotation_track.proofs.meet.step.Goals as goal

pub returns-in_default-clause-goes : goal.returns-in_default-clause-goes
returns-in_default-clause-goes c = λ first second m. met_at_end first second (left c.args.l.now) (left c.args.r.now) c.args.one.now.items c.args.two.now.items (c.in_default.ensures) m

pub returns-clause-goes : goal.returns-clause-goes
returns-clause-goes c = λ first second m.
    let h = c.in-Some.ensures in
    let g = c.in-Some-head.ensures in
    let k = c.min-common.result in
    let l2 = head_cut c.head.new.self.rest.now c.head.new.self.passed k _ h.others h.is in
    let r2 = head_cut c.head-2.new.self.rest.now c.head-2.new.self.passed k _ g.others g.is in
    let cut = cut_more first second (left c.args.l.now) (left c.args.r.now) c.args.one.now.items c.args.two.now.items c.in-Some.count c.in-Some-head.other k c.in-Some.changes.now c.in-Some-head.others.now h.others g.others
    (omega (arith, c.min-common.ensures, h.some, g.some)) (omega (arith, c.min-common.ensures)) (omega (arith, c.min-common.ensures)) (λ lt. omega (arith, c.min-common.ensures, lt))
    (subst (λ (x : List Span). Alike (left c.args.l.now) x) h.is h.alike) (subst (λ (x : List Span). Alike (left c.args.r.now) x) g.is g.alike) m in
    subst (λ (x : List Span). IsMeeting first second x (left (record { rest = c.head-2.new.self.rest; passed = c.head-2.new.self.passed + k })) c.push.new.spans.items c.push-2.new.spans.items) (sym l2)
    (subst (λ (x : List Span). IsMeeting first second (span (c.in-Some.count - k) c.in-Some.changes.now ∷ h.others) x c.push.new.spans.items c.push-2.new.spans.items) (sym r2)
    (subst (λ (x : List Span). IsMeeting first second (span (c.in-Some.count - k) c.in-Some.changes.now ∷ h.others) (span (c.in-Some-head.other - k) c.in-Some-head.others.now ∷ g.others) x c.push-2.new.spans.items) (sym c.in_ok-push.ensures)
    (subst (λ (x : List Span). IsMeeting first second (span (c.in-Some.count - k) c.in-Some.changes.now ∷ h.others) (span (c.in-Some-head.other - k) c.in-Some-head.others.now ∷ g.others) (c.args.one.now.items ++ span k c.in-Some.changes.now ∷ []) x) (sym c.in_ok-push-2.ensures) cut)))
