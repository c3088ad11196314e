use Rattle.std.proofs.Common.{rules, ap, not, ◌&&◌, ◌∙◌}
use Rattle.std.specs.List.{list_all}
use Rattle.std.proofs.lemmas.Iterator.Search.{all_from_yields_List}
use Rattle.std.proofs.lemmas.Iterator.Adapters.{YieldsList-from_bytes}
use borrow.Author.Tests.{tests}
use Rattle.wave_base.specs.Grammar.{is_word, has}
use Rattle.wave_base.proofs.scanner.is_word.Goals as goal

pub returns-then-not-is_empty : goal.returns-then-not-is_empty
unfolding is_word
returns-then-not-is_empty c =
    let every = all_from_yields_List (has c.args.alphabet) _ _ c.all.result c.all.ensures.ran (YieldsList-from_bytes c.args.text.now c.bytes.ensures.rest) (λ x b q k. search (rules, tests)) in
    every ∙ ap (λ b. not b && list_all (has c.args.alphabet) c.args.text.now) c.if-not-is_empty.ensures

pub returns-else-not-is_empty : goal.returns-else-not-is_empty
unfolding is_word
returns-else-not-is_empty c = ap not c.if-not-is_empty.false ∙ ap (λ b. not b && list_all (has c.args.alphabet) c.args.text.now) c.if-not-is_empty.ensures
