use Rattle.robot_echo.proofs.Names.{no_name}
use Rattle.robot_echo.proofs.echo.document_name.Goals as goal

pub unreachable-requires-in-Err-BadName : goal.unreachable-requires-in-Err-BadName
unreachable-requires-in-Err-BadName c = no_name c.in-Err-BadName.field-0 c.in-Err-BadName.field-0-is c.in-Err-BadName.ensures.refused
