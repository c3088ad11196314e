use Rattle.std.proofs.Common.{sym, ap, ◌∙◌}
use Rattle.wavelet_op.specs.Acts.{meanings}
use Rattle.follower_rules.specs.Submitting.{sent_by}
use Rattle.client_control.specs.Parts.{Parts, parts, follower_of}
use Rattle.client_control.proofs.Kept.{sent_is}
use Rattle.client_control.proofs.follower.Follower.submission.Goals as goal

pub returns : goal.returns
returns c =
    let i = c.self.inside in
    let p : Parts = parts i.name i.author i.client i.at i.count i.state i.flight i.queue.items i.next in
    let ops = c.args.ops.now in
    (λ j. record { id = record { author = c.in_ok-author.ensures j; client = i.client; number = i.next }; at = i.at; ops = c.in_ok-ops.ensures j })
    ∙ sym (sent_is p ops c.requires.normal)
    ∙ ap (λ (z : Parts). sent_by (follower_of z) (meanings ops)) c.self.view_is
