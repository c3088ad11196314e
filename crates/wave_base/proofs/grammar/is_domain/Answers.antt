use Rattle.std.proofs.Common.{rules, ◌==◌, length, lit<}
use Rattle.std.specs.List.{list_all, slice_split}
use Rattle.std.proofs.lemmas.Iterator.Search.{all_from_yields_List}
use Rattle.std.proofs.lemmas.Iterator.Splits.{YieldsList-from_str_split}
use borrow.Author.Tests.{tests}
use Rattle.wave_base.specs.Grammar.{is_word, is_domain, dot}
use Rattle.wave_base.specs.declared.scanner.Alphabet.TheVariants.{Label}
use Rattle.wave_base.proofs.Cuts.{within, beyond}
use Rattle.wave_base.proofs.grammar.is_domain.Goals as goal

pub returns-then-text-le255 : goal.returns-then-text-le255
unfolding is_domain
returns-then-text-le255 c =
    let every = all_from_yields_List (is_word Label) _ _ c.all.result c.all.ensures.ran (YieldsList-from_str_split dot c.args.text.now (lit< tt) c.split.ensures.text c.split.ensures.has_more c.split.ensures.pattern) (λ x b q k. search (rules, tests)) in
    within (length c.args.text.now) 255 _ (list_all (is_word Label) (slice_split (λ b. b == dot) c.args.text.now)) c.if-text-le255.true every

pub returns-else-text-le255 : goal.returns-else-text-le255
unfolding is_domain
returns-else-text-le255 c = beyond (length c.args.text.now) 255 (list_all (is_word Label) (slice_split (λ b. b == dot) c.args.text.now)) c.if-text-le255.false
