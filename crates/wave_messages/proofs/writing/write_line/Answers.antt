use Rattle.std.proofs.Common.{◌≡◌, ◌≤◌, length, true, Some, Ok, ap, ◌∙◌}
use Rattle.serde_json.specs.View.{view}
use Rattle.wave_base.specs.Grammar.{is_id}
use Rattle.message_json.specs.Back.{InRange}
use Rattle.wave_messages.specs.Read.{data_of, max_client, line_read}
use Rattle.wave_messages.specs.Write.{line_data}
use Rattle.wave_messages.proofs.Back.{if_ok_to, line_read_back}
use Rattle.wave_messages.proofs.Depths.{line_depth}
use Rattle.wave_messages.proofs.Floats.{line_clear}
use Rattle.wave_messages.proofs.writing.write_line.Goals as goal

pub compact-requires-clause-clear : goal.compact-requires-clause-clear
compact-requires-clause-clear c = rw (c.in_ok-line.ensures, c.in_ok-message.ensures.value) (line_clear c.args.session.now c.args.message.now)

pub compact-requires-clause-shallow : goal.compact-requires-clause-shallow
compact-requires-clause-shallow c = rw (c.in_ok-line.ensures, c.in_ok-message.ensures.value) (line_depth c.args.session.now c.args.message.now)

pub returns-clause-read : goal.returns-clause-read
returns-clause-read c =
    let m = c.args.message.now in
    let s = c.args.session.now in
    if_ok_to c.compact.result (λ b. data_of b.items ≡ Some (view c.in_ok-line.line)) (λ b. is_id s ≡ true → InRange m → length b.items ≤ max_client → line_read b.items ≡ Ok (s, m))
    (λ b h g i l. line_read_back b.items s m (h ∙ ap Some (c.in_ok-line.ensures ∙ ap (line_data s) c.in_ok-message.ensures.value)) (c.in_ok-message.ensures.back i) g l) c.compact.ensures.read
