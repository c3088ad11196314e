use Rattle.std.proofs.Common.{string_bytes, sym, ◌∙◌}
use Rattle.inbox_machine.specs.Printed.{hit_text}
use Rattle.inbox_machine.proofs.Texts.{text_next, text_all}
use Rattle.inbox_machine.proofs.printing.put_hits.Goals as goal

pub loop-hit-preserved : goal.loop-hit-preserved
loop-hit-preserved c =
    text_next hit_text (string_bytes c.loop-hit.out) (string_bytes c.put_hit.new.out) c.args.hits.now c.loop-hit.hit-index c.hit-item.result c.loop-hit-test.true c.hit-item.is c.in_ok-put_hit.ensures
    ∙ c.loop-hit.invariant

pub returns : goal.returns
returns c = sym (text_all hit_text (string_bytes c.loop-hit.out) c.args.hits.now c.loop-hit.hit-index c.loop-hit-test.false) ∙ c.loop-hit.invariant
