use Rattle.std.proofs.Common.{rules, ◌≡◌, ◌++◌, ◌∷◌}
use Rattle.wave_base.specs.Grammar.{at_sign}
use Rattle.robot_echo.specs.Echoes.{echo_user}
use Rattle.robot_echo.proofs.Names.{no_address, echo_is_user}
use Rattle.robot_echo.proofs.echo.address_at.Goals as goal

pub unreachable-requires : goal.unreachable-requires
unreachable-requires c =
    let text : c.as_str.result.now ≡ echo_user ++ at_sign ∷ c.args.domain.now = search rules in
    no_address c.in-Err-BadAddress.field-0 _ c.in-Err-BadAddress.field-0-is (c.addresses_have_two_parts.ensures.made echo_user c.args.domain.now c.as_str.result.now (echo_is_user, c.text.ensures.good, text)).0 c.in-Err-BadAddress.ensures.refused
