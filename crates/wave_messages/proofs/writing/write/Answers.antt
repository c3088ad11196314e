use Rattle.std.proofs.Common.{◌≡◌, ◌≤◌, ℕ, length, Some, Ok, ap, ◌∙◌}
use Rattle.serde_json.specs.View.{view}
use Rattle.message_json.specs.Back.{InRange}
use Rattle.message_json.specs.Write.{message_data}
use Rattle.wave_messages.specs.Read.{data_of, read_of}
use Rattle.wave_messages.proofs.Back.{if_ok_to, message_read}
use Rattle.wave_messages.proofs.writing.write.Goals as goal

pub returns-clause-read : goal.returns-clause-read
returns-clause-read c =
    let m = c.args.message.now in
    if_ok_to c.compact.result (λ b. data_of b.items ≡ Some (view c.in_ok-value.value)) (λ b. InRange m → (limit : ℕ) → length b.items ≤ limit → read_of b.items limit ≡ Ok m)
    (λ b h i limit l. message_read b.items (message_data m) m limit (h ∙ ap Some c.in_ok-value.ensures.value) (c.in_ok-value.ensures.back i) l) c.compact.ensures.read
