use Rattle.std.proofs.Common.{rules, ap, ◌∙◌, ◌≡◌}
use Rattle.session_steps.specs.Texts.{text_of}
use Rattle.session_steps.proofs.Events.{sent_next, sent_more, sent_kept}
use Rattle.session_link.proofs.sending.send_one.Goals as goal

pub returns-in-Ok-clause-ok : goal.returns-in-Ok-clause-ok
returns-in-Ok-clause-ok g c t =
    sent_next text_of (g.L.Link.events c.args.link.now) (g.L.Link.events c.send.new.self) c.args.texts.now c.args.place _ c.as_slice.result.now c.requires
    (c.as_slice.ensures.value ∙ ap (λ v. v.items) c.index-texts-place.is) (c.in-Ok.ensures.sent t)

pub returns-in-Ok-clause-more : goal.returns-in-Ok-clause-more
returns-in-Ok-clause-more g c t = sent_more _ _ _ (c.in-Ok.ensures.sent t)

pub returns-in-Err-clause-more : goal.returns-in-Err-clause-more
returns-in-Err-clause-more g c t = sent_kept _ _ (c.in-Err.ensures.unsent t)
