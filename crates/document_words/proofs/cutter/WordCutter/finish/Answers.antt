use Rattle.std.proofs.Common.{[], sym, ap, ◌∙◌, append-nil}
use Rattle.document_words.specs.Words.{CutOf, words_with}
use Rattle.document_words.proofs.cutter.WordCutter.finish.Goals as goal

pub returns : goal.returns
returns c = sym (append-nil c.end_word.new.done.items) ∙ sym (c.in_ok-end_word.ensures []) ∙ ap (λ (s : CutOf). words_with s []) c.self.view_is
