use Rattle.std.proofs.Common.{string_bytes, sym, ◌∙◌}
use Rattle.inbox_machine.specs.Printed.{line_text}
use Rattle.inbox_machine.proofs.Texts.{text_next, text_all}
use Rattle.inbox_machine.proofs.printing.put_lines.Goals as goal

pub loop-line-preserved : goal.loop-line-preserved
loop-line-preserved c =
    text_next line_text (string_bytes c.loop-line.out) (string_bytes c.put_line.new.out) c.args.lines.now c.loop-line.line-index c.line-item.result c.loop-line-test.true c.line-item.is c.in_ok-put_line.ensures
    ∙ c.loop-line.invariant

pub returns : goal.returns
returns c = sym (text_all line_text (string_bytes c.loop-line.out) c.args.lines.now c.loop-line.line-index c.loop-line-test.false) ∙ c.loop-line.invariant
