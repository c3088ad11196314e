use Rattle.std.proofs.Common.{◌+◌, ◌<◌, ◌∙◌, List, ap, sym, subst, arith, length, take}
use Rattle.std.specs.List.{flat_map}
use Rattle.op_codec.specs.Spelling.{limit, capped, component, AreAll, IsComponent}
use Rattle.doc_op.specs.declared.component.Component.{Component}
use Rattle.op_codec.proofs.Measures.{take_more, part_within, count_within, all_snoc, all_of, component_some}
use Rattle.op_codec.proofs.measure.Meter.add_components.Goals as goal

pub loop-component-preserved : goal.loop-component-preserved
loop-component-preserved c =
    let more = take_more component c.as_slice-components.result.now c.loop-component.component-index c.component-item.result c.loop-component-test.true c.component-item.is in
    record {
      size = λ n h. c.add_component.ensures.size (n + 4 + length (flat_map component (take c.loop-component.component-index c.as_slice-components.result.now))) (c.loop-component.invariant.size n h) ∙ ap capped (omega (arith, more));
      short = λ h.
          let part = part_within component c.as_slice-components.result.now c.loop-component.component-index c.component-item.result c.loop-component-test.true c.component-item.is in
          all_snoc IsComponent c.as_slice-components.result.now c.loop-component.component-index c.component-item.result c.loop-component-test.true c.component-item.is (c.loop-component.invariant.short h) (c.add_component.ensures.short (omega (arith, part, h)));
    }

pub returns-clause-short : goal.returns-clause-short
returns-clause-short c =
    let count = count_within component component_some c.as_slice-components.result.now in
    let all : length (flat_map component c.as_slice-components.result.now) + 4 < limit → AreAll IsComponent c.as_slice-components.result.now =
    λ h. (omega (arith, count, h), all_of IsComponent c.as_slice-components.result.now c.loop-component.component-index c.loop-component-test.false (c.loop-component.invariant.short (omega (arith, h)))) in
    λ h. subst (λ (cs : List Component). AreAll IsComponent cs) c.as_slice-components.ensures.value (all (subst (λ (cs : List Component). length (flat_map component cs) + 4 < limit) (sym c.as_slice-components.ensures.value) (omega (arith, h))))
