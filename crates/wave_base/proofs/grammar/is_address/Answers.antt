use Rattle.std.proofs.Common.{sym}
use Rattle.wave_base.specs.Grammar.{is_address, is_user, is_domain, at_sign}
use Rattle.wave_base.proofs.Cuts.{joined-none, joined-both, joined-not}
use Rattle.wave_base.proofs.grammar.is_address.Goals as goal

pub returns-then-is_user : goal.returns-then-is_user
unfolding is_address
returns-then-is_user c = joined-both at_sign is_user is_domain c.args.text.now c.in-Some.user.now c.in-Some.domain.now _ _ c.in-Some.ensures c.is_user.ensures c.if-is_user.true c.is_domain.ensures

pub returns-else-is_user : goal.returns-else-is_user
unfolding is_address
returns-else-is_user c = joined-not at_sign is_user is_domain c.args.text.now c.in-Some.user.now c.in-Some.domain.now _ c.in-Some.ensures c.is_user.ensures c.if-is_user.false

pub returns-in-None : goal.returns-in-None
unfolding is_address
returns-in-None c = sym (joined-none at_sign is_user is_domain c.args.text.now c.in-None.ensures)
