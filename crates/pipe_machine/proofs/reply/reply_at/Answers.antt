use Rattle.std.proofs.Common.{◌≡◌, ◌++◌, List, IfOk, length, take, drop, sym, ap, subst, ◌∙◌}
use Rattle.std.proofs.Math.Seq.{take-append_seam}
use Rattle.session_core.specs.News.{reply_message}
use Rattle.wavelet_shelf.specs.Shelves.{hosted_of}
use Rattle.pipe_machine.specs.declared.runs.Run.{Run}
use Rattle.pipe_machine.specs.Keeping.{IsEnded}
use Rattle.pipe_machine.specs.Machine.{reply_of, replied}
use Rattle.pipe_machine.specs.Runs.{seats_in}
use Rattle.pipe_machine.specs.Seats.{seat_in}
use Rattle.pipe_machine.proofs.reply.reply_at.Goals as goal

pub returns-clause-reply : goal.returns-clause-reply
returns-clause-reply g c =
    let news = c.reply_among.new.runs in
    let runs = c.args.seats.now.runs in
    let many : length news ≡ runs.len = c.reply_among.auto.runs ∙ c.as_mut_slice.ensures.len in
    let back : take runs.len (news ++ drop (length news) runs.items) ≡ news = ap (λ n. take n (news ++ drop (length news) runs.items)) (sym many) ∙ take-append_seam news (drop (length news) runs.items) in
    subst (λ (p : List Run × List Run). IfOk c.reply_among.result (λ r. reply_of (hosted_of c.reply_among.new.shelf) ((seat_in c.args.place (seats_in p.0)).session, reply_message r)
    ≡ replied (hosted_of c.args.shelf.now) (seat_in c.args.place (seats_in p.1)).session c.args.message c.args.time))
    (λ k. (sym back k, c.as_mut_slice.ensures.value k)) c.reply_among.ensures.reply

pub returns-clause-ended : goal.returns-clause-ended
returns-clause-ended g c =
    subst (λ (l : List Run). IsEnded c.args.shelf.now c.reply_among.new.shelf
    (replied (hosted_of c.args.shelf.now) (seat_in c.args.place (seats_in l)).session c.args.message c.args.time).hosted c.reply_among.result)
    c.as_mut_slice.ensures.value c.reply_among.ensures.ended
