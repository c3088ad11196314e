use Rattle.std.proofs.Common.{◌++◌, ap, ◌∙◌}
use Rattle.std.specs.Prelude.{codes}
use Rattle.wave_messages.proofs.Frames.{five_pushed}
use Rattle.wave_messages.proofs.frame.push_around.Goals as goal

pub returns : goal.returns
returns c = five_pushed c.args.out.now.items (codes "{\"message\":") c.args.message.now (codes ",\"session\":\"") c.args.session.now (codes "\"}\n")
    c.extend_from_slice.new.self.items c.extend_from_slice-2.new.self.items c.extend_from_slice-3.new.self.items c.extend_from_slice-4.new.self.items c.extend_from_slice-5.new.self.items
    c.in_ok-extend_from_slice.ensures.items c.in_ok-extend_from_slice-2.ensures.items c.in_ok-extend_from_slice-3.ensures.items
    (c.in_ok-extend_from_slice-4.ensures.items ∙ ap (λ l. c.extend_from_slice-3.new.self.items ++ l) (c.as_bytes.ensures.value ∙ c.text.ensures.same)) c.in_ok-extend_from_slice-5.ensures.items
