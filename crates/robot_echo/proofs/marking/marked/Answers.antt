use Rattle.robot_echo.proofs.Marks.{no_count, no_room, marked_is}
use Rattle.robot_echo.proofs.marking.marked.Goals as goal

pub unreachable-requires : goal.unreachable-requires
unreachable-requires c = no_count c.in-Err-ZeroCount.field-0 c.args.items.now c.len.result c.in-Err-ZeroCount.field-0-is c.in-Err-ZeroCount.ensures.refused

pub returns-in-Ok : goal.returns-in-Ok
returns-in-Ok c = marked_is c.edit_of.result c.args.items.now c.args.own.now c.in-Ok.op c.len.result c.requires c.len.ensures.value c.in-Ok.ensures.edit c.edit_of.ensures

pub returns-in-Err-CountTooLarge : goal.returns-in-Err-CountTooLarge
returns-in-Err-CountTooLarge c = no_room c.in-Err-CountTooLarge.field-0 c.args.items.now c.len.result c.in-Err-CountTooLarge.field-0-is c.in-Err-CountTooLarge.ensures.refused
