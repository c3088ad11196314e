use Rattle.change_view.specs.Rules.{one_under, one_unlike}
use Rattle.std.proofs.Common.{refl, sym, ◌∙◌}
use Rattle.change_table.specs.Joints.{together}
use Rattle.change_table.proofs.Turning.{has_none, gathered_next, turned_within, agree_everywhere}
use Rattle.change_table.proofs.joint.Joint.turn_from.Goals as goal

pub loop-key-init : goal.loop-key-init
loop-key-init c = (has_none c.args.written.now _ c.new-turn.ensures.ended, has_none c.args.written.now _ c.new-turn.ensures.changed)

pub loop-key-preserved : goal.loop-key-preserved
loop-key-preserved c = (
  gathered_next one_under c.args.keys.now c.loop-key.key-index c.key-item.result c.as_str-key.result.now c.args.written.now (together c.args.self) c.loop-key.turn.ended c.add.new.self.ended _ _ refl
      c.loop-key-test.true c.key-item.is c.as_str-key.ensures.bytes c.at.ensures.value c.at-in-loop-key.ensures.value c.in_ok-add.ensures.ended c.loop-key.invariant.0,
  gathered_next one_unlike c.args.keys.now c.loop-key.key-index c.key-item.result c.as_str-key.result.now (together c.args.self) c.args.written.now c.loop-key.turn.changed c.add.new.self.changed _ _ refl
      c.loop-key-test.true c.key-item.is c.as_str-key.ensures.bytes c.at-in-loop-key.ensures.value c.at.ensures.value c.in_ok-add.ensures.changed c.loop-key.invariant.1,
)

pub returns : goal.returns
returns c = turned_within c.args.keys.now c.loop-key.key-index c.in_ok-boundary.boundary c.args.written.now (together c.args.self) c.loop-key.turn.ended c.loop-key.turn.changed
    c.loop-key-test.false c.requires c.loop-key.invariant c.in_ok-boundary.ensures

pub returns-then-is_empty : goal.returns-then-is_empty
returns-then-is_empty c = agree_everywhere c.args.keys.now c.args.written.now (together c.args.self) (sym c.is_empty.ensures ∙ c.if-is_empty.true) c.requires
