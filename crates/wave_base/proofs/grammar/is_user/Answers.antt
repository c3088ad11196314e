use Rattle.std.proofs.Common.{length}
use Rattle.wave_base.specs.Grammar.{is_user, is_word}
use Rattle.wave_base.specs.declared.scanner.Alphabet.TheVariants.{User}
use Rattle.wave_base.proofs.Cuts.{within, beyond}
use Rattle.wave_base.proofs.grammar.is_user.Goals as goal

pub returns-then-text-le64 : goal.returns-then-text-le64
unfolding is_user
returns-then-text-le64 c = within (length c.args.text.now) 64 _ (is_word User c.args.text.now) c.if-text-le64.true c.is_word.ensures

pub returns-else-text-le64 : goal.returns-else-text-le64
unfolding is_user
returns-else-text-le64 c = beyond (length c.args.text.now) 64 (is_word User c.args.text.now) c.if-text-le64.false
