use Rattle.std.proofs.Common.{◌≡◌, cond, Option, None, IfOk, sym, ap, subst, ◌∙◌}
use Rattle.std.proofs.lemmas.Str.{is_utf8-from_IsUtf8}
use Rattle.client_commands.specs.Lines.{text_of}
use Rattle.client_commands.specs.declared.command.Command.{Command}
use Rattle.client_commands.proofs.Utf8.{not_utf8}
use Rattle.client_commands.proofs.lines.command_of.Goals as goal

pub returns-in-Ok : goal.returns-in-Ok
returns-in-Ok c =
    subst (λ (o : Option Command). IfOk c.text_of.result (λ r. r ≡ o))
    (ap text_of c.in-Ok.ensures.cases.0 ∙ sym (ap (λ b. cond b (text_of c.args.line.now) None) (is_utf8-from_IsUtf8 c.args.line.now c.in-Ok.ensures.cases.1))) c.text_of.ensures

pub returns-in-Err : goal.returns-in-Err
returns-in-Err c = sym (ap (λ b. cond b (text_of c.args.line.now) None) (not_utf8 c.args.line.now c.in-Err.ensures.cases.0))
