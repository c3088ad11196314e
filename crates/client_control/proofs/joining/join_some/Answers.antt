use Rattle.std.proofs.Common.{subst, ap, ◌∙◌, ◌++◌}
use Rattle.client_control.specs.Joins.{IsCompacted}
use Rattle.client_control.proofs.Joinings.{join_done}
use Rattle.client_control.proofs.joining.join_some.Goals as goal

pub returns : goal.returns
returns c =
    let fewer = subst (IsCompacted c.in_ok-ending.ending) c.in-Some-2.is c.in_ok-fewer.ensures in
    let parts = c.in-Some.parts in
    let joined = c.in_ok-joined.ensures ∙ ap (λ z. parts.1.now ++ z) c.as_slice.ensures.value in
    join_done c.args.ops.now parts.1.now parts.0.now c.args.more.now c.in_ok-ending.ending c.in-Some-2.fewer c.in_ok-joined.joined.items c.in-Some.ensures.cases.0 c.in_ok-ending.ensures c.requires.normal fewer.0 fewer.1 joined
