use Rattle.std.proofs.Common.{sym, ap, ◌++◌, ◌∙◌, string_bytes}
use Rattle.std.proofs.lemmas.Result.{on_ok_weaker}
use Rattle.wave_screen.proofs.Showing.{rope_kept, line_written, on_ok_written}
use Rattle.wave_screen.proofs.screen.push_other.Goals as goal

pub returns : goal.returns
returns c =
    let document = c.in_ok-push_rope.ensures ∙ ap (λ t. string_bytes c.push_str-3.new.self ++ t) (rope_kept _ _ c.rope.ensures.value) in
    on_ok_weaker c.push_str-4.result
    (line_written c.args.state.now c.args.nodes.now c.text-text.result.now c.args.name.now _ _ _ _ _ _ c.text-text.ensures.same
    (sym c.eq.ensures ∙ c.if-eq.false) (sym c.has_blip.ensures ∙ c.if-has_blip.false)
    c.in_ok-push_str.ensures.bytes c.in_ok-push_str-2.ensures.bytes c.in_ok-push_str-3.ensures.bytes document)
    (on_ok_written c.push_str-4.result _ _ _ c.push_str-4.ensures.bytes)
