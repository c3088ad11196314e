use Rattle.std.proofs.Common.{length}
use Rattle.wave_base.specs.Grammar.{is_id, is_word}
use Rattle.wave_base.specs.declared.scanner.Alphabet.TheVariants.{Id}
use Rattle.wave_base.proofs.Cuts.{within, beyond}
use Rattle.wave_base.proofs.grammar.is_id.Goals as goal

pub returns-then-text-le128 : goal.returns-then-text-le128
unfolding is_id
returns-then-text-le128 c = within (length c.args.text.now) 128 _ (is_word Id c.args.text.now) c.if-text-le128.true c.is_word.ensures

pub returns-else-text-le128 : goal.returns-else-text-le128
unfolding is_id
returns-else-text-le128 c = beyond (length c.args.text.now) 128 (is_word Id c.args.text.now) c.if-text-le128.false
