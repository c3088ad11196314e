use Rattle.std.proofs.Common.{◌≡◌, ◌<◌, List, ℕ, [], Err, false, refl, sym, ap, subst, length, slice_get, ◌∙◌}
use Rattle.std.specs.List.{AllByRecursion}
use Rattle.doc_items.specs.Maps.{Key}
use Rattle.session_core.specs.News.{reply_message}
use Rattle.pipe_machine.specs.declared.seats.Seat.{Seat}
use Rattle.pipe_machine.specs.Due.{is_due}
use Rattle.pipe_machine.specs.Keeping.{submits}
use Rattle.pipe_machine.specs.Seats.{begun, seat_in, IsPlain, IsPlainSeat, are_ordered}
use Rattle.wavelet_shelf.specs.Hosting.{deltas_in}
use Rattle.pipe_machine.proofs.Searching.{ordered_either, ordered_with}
use Rattle.pipe_machine.proofs.Changing.{replied_others, changed_alone}
use Rattle.wavelet_shelf.specs.Shelves.{hosted_of}
use Rattle.pipe_machine.specs.Pipes.{pipe_of}
use Rattle.pipe_machine.specs.Runs.{seats_in}
use Rattle.pipe_machine.proofs.Running.{set_length}
use Rattle.pipe_machine.proofs.Serving.{any_default, seat_is, served_pipe, served_sent}
use Rattle.pipe_machine.proofs.Seating.{plain_either, plain_with, plain_here}
use Rattle.std.proofs.lemmas.Result.{err_from_is_err_and}
use Rattle.pipe_machine.specs.Machine.{Pipe, served, replied}
use Rattle.pipe_machine.proofs.Trying.{ended_memory, ended_as, ended_done, stepped_as, stepped_still, tried_done, tried_still}
use Rattle.pipe_machine.proofs.pipe.PipeMachine.serve.Goals as goal

pub invariant_of-self-2 : goal.invariant_of-self-2
invariant_of-self-2 g c =
    let ss = seats_in c.args.self.now.seats.runs.items in
    let ts = seats_in c.seat_of.new.self.runs.items in
    let i = c.in_ok-place.place in
    let s = seat_in i ts in
    let x = (seat_in i (seats_in c.reply_at.new.seats.runs.items)).session in
    let at = any_default ts i (begun []) s c.in_ok-place.ensures.within in
    record {
      plain = subst (AllByRecursion IsPlainSeat) (sym c.reply_at.ensures.changed) (plain_with ts i (record { name = s.name; session = x }) c.reply_at.ensures.plain
          (plain_either c.args.name ss ts c.seat_of.result c.seat_of.ensures.seats c.seat_of.ensures.same c.args.self.now.plain));
      ordered = ap are_ordered c.reply_at.ensures.changed ∙ ordered_with ts i s x c.in_ok-place.ensures.within at
          (ordered_either c.args.name ss ts c.seat_of.result c.seat_of.ensures.seats c.seat_of.ensures.same c.args.self.now.ordered);
      told = refl;
    }

pub returns-clause-pipe : goal.returns-clause-pipe
returns-clause-pipe g c =
    let ss = seats_in c.args.self.now.seats.runs.items in
    let ts = seats_in c.seat_of.new.self.runs.items in
    let i = c.in_ok-place.place in
    let s = seat_in i ts in
    let x = (seat_in i (seats_in c.reply_at.new.seats.runs.items)).session in
    let made : List Seat → Pipe = λ l. record { hosted = hosted_of c.reply_at.new.shelf; seats = l } in
    ap made c.reply_at.ensures.changed
    ∙ served_pipe (pipe_of c.args.self.now) c.args.time c.args.name c.args.message ts i s x (hosted_of c.reply_at.new.shelf) (reply_message c.in_ok-reply.reply) c.in_ok-place.ensures.place c.in_ok-place.ensures.seats refl c.in_ok-reply.ensures.reply

pub returns-clause-sent : goal.returns-clause-sent
returns-clause-sent g c =
    let ss = seats_in c.args.self.now.seats.runs.items in
    let ts = seats_in c.seat_of.new.self.runs.items in
    let i = c.in_ok-place.place in
    let s = seat_in i ts in
    let x = (seat_in i (seats_in c.reply_at.new.seats.runs.items)).session in
    let named = ap (λ (z : Seat). z.name) (c.seat_at-seat.ensures ∙ ap (λ l. seat_in i (seats_in l)) c.as_slice.ensures.value) ∙ c.reply_at.ensures.named in
    served_sent (pipe_of c.args.self.now) c.args.time c.args.name c.args.message ts i s x (hosted_of c.reply_at.new.shelf) (reply_message c.in_ok-reply.reply) c.seat_at-seat.result.now.name
    c.args.out.now.items c.push_reply.new.out.items c.in_ok-place.ensures.place c.in_ok-place.ensures.seats refl c.in_ok-reply.ensures.reply named c.in_ok-place.ensures.named c.in_ok-push_reply.ensures

pub returns-in_err-place-clause-ended : goal.returns-in_err-place-clause-ended
returns-in_err-place-clause-ended g c =
    let p = err_from_is_err_and c.from_residual-in_err-place.result c.from_residual-in_err-place.ensures.1 in
    ended_memory c.args.self.now.shelf c.args.self.now.shelf _ c.from_residual-in_err-place.result p.0 p.1 p.2 (tried_still c.args.self.now.shelf _) (stepped_still c.args.self.now.shelf _)

pub returns-in_err-push_reply-clause-ended : goal.returns-in_err-push_reply-clause-ended
returns-in_err-push_reply-clause-ended g c =
    let ss = seats_in c.args.self.now.seats.runs.items in
    let ts = seats_in c.seat_of.new.self.runs.items in
    let i = c.in_ok-place.place in
    let s = seat_in i ts in
    let x = (seat_in i (seats_in c.reply_at.new.seats.runs.items)).session in
    let result = c.from_residual-in_err-push_reply.result in
    let p = err_from_is_err_and result c.from_residual-in_err-push_reply.ensures.1 in
    let after = (served (pipe_of c.args.self.now) c.args.time c.args.name c.args.message).pipe.hosted in
    let hosted = ap (λ (p : Pipe). p.hosted) (served_pipe (pipe_of c.args.self.now) c.args.time c.args.name c.args.message ts i s x (hosted_of c.reply_at.new.shelf) (reply_message c.in_ok-reply.reply) c.in_ok-place.ensures.place c.in_ok-place.ensures.seats refl c.in_ok-reply.ensures.reply) in
    let same = ap (λ (z : Seat). (replied (hosted_of c.args.self.now.shelf) z.session c.args.message c.args.time).hosted) (seat_is c.args.name ss ts i s c.in_ok-place.ensures.place c.in_ok-place.ensures.seats refl) in
    ended_memory c.args.self.now.shelf c.reply_at.new.shelf after result p.0 p.1 p.2 (tried_done c.args.self.now.shelf c.reply_at.new.shelf after hosted c.in_ok-reply.ensures.ended.settled)
    (stepped_as c.args.self.now.shelf c.reply_at.new.shelf (replied (hosted_of c.args.self.now.shelf) s.session c.args.message c.args.time).hosted after same c.in_ok-reply.ensures.ended.stepped)

pub returns-in_err-changed-clause-ended : goal.returns-in_err-changed-clause-ended
returns-in_err-changed-clause-ended g c =
    let p = err_from_is_err_and c.from_residual.result c.from_residual.ensures.1 in
    ended_memory c.args.self.now.shelf c.args.self.now.shelf _ c.from_residual.result p.0 p.1 p.2 (tried_still c.args.self.now.shelf _) (stepped_still c.args.self.now.shelf _)

pub returns-in_err-reply-clause-ended : goal.returns-in_err-reply-clause-ended
returns-in_err-reply-clause-ended g c =
    let ss = seats_in c.args.self.now.seats.runs.items in
    let ts = seats_in c.seat_of.new.self.runs.items in
    let i = c.in_ok-place.place in
    let s = seat_in i ts in
    let result = c.from_residual-in_err-reply.result in
    let p = err_from_is_err_and result c.from_residual-in_err-reply.ensures.1 in
    let same = ap (λ (z : Seat). (replied (hosted_of c.args.self.now.shelf) z.session c.args.message c.args.time).hosted) (seat_is c.args.name ss ts i s c.in_ok-place.ensures.place c.in_ok-place.ensures.seats refl) in
    ended_as c.args.self.now.shelf c.reply_at.new.shelf _ (replied (hosted_of c.args.self.now.shelf) s.session c.args.message c.args.time).hosted result _ same (p.1 ∙ ap (λ y. Err y) p.2) c.in_err-reply.ensures.ended

pub returns-clause-ended : goal.returns-clause-ended
returns-clause-ended g c =
    let ss = seats_in c.args.self.now.seats.runs.items in
    let ts = seats_in c.seat_of.new.self.runs.items in
    let i = c.in_ok-place.place in
    let s = seat_in i ts in
    let same = ap (λ (z : Seat). (replied (hosted_of c.args.self.now.shelf) z.session c.args.message c.args.time).hosted) (seat_is c.args.name ss ts i s c.in_ok-place.ensures.place c.in_ok-place.ensures.seats refl) in
    let ended = c.in_ok-reply.ensures.ended in
    ended_done c.args.self.now.shelf c.reply_at.new.shelf _ _ ended.settled
    (stepped_as c.args.self.now.shelf c.reply_at.new.shelf (replied (hosted_of c.args.self.now.shelf) s.session c.args.message c.args.time).hosted _ same ended.stepped)

pub returns-clause-due : goal.returns-clause-due
returns-clause-due g c told k y got e =
    let ss = seats_in c.args.self.now.seats.runs.items in
    let ts = seats_in c.seat_of.new.self.runs.items in
    let i = c.in_ok-place.place in
    let s = seat_in i ts in
    let x = (seat_in i (seats_in c.reply_at.new.seats.runs.items)).session in
    let hs = hosted_of c.args.self.now.shelf in
    let gs = hosted_of c.reply_at.new.shelf in
    let all = plain_either c.args.name ss ts c.seat_of.result c.seat_of.ensures.seats c.seat_of.ensures.same c.args.self.now.plain in
    let plain : IsPlain s.session = plain_here ts i s c.in_ok-place.ensures.within (any_default ts i (begun []) s c.in_ok-place.ensures.within) all in
    let others : (n : Key) → submits c.args.message n ≡ false → deltas_in gs n ≡ deltas_in hs n =
    λ n f. ap (λ r. deltas_in r.hosted n) c.in_ok-reply.ensures.reply ∙ replied_others hs s.session c.args.message c.args.time plain n f in
    changed_alone hs gs c.args.message others ss ts c.args.name i (record { name = s.name; session = x }) c.in_ok-changed.changed
    c.in_ok-changed.ensures c.in_ok-place.ensures.seats told k y (ap (λ (l : List Seat). slice_get l k) (sym c.reply_at.ensures.changed) ∙ got) (ap (λ d. is_due d k y) (sym c.due_at.ensures) ∙ e)

pub reply_at-requires-clause-plain : goal.reply_at-requires-clause-plain
reply_at-requires-clause-plain g c =
    let ss = seats_in c.args.self.now.seats.runs.items in
    let ts = seats_in c.seat_of.new.self.runs.items in
    let i = c.in_ok-place.place in
    let s = seat_in i ts in
    plain_here ts i s c.in_ok-place.ensures.within (any_default ts i (begun []) s c.in_ok-place.ensures.within)
    (plain_either c.args.name ss ts c.seat_of.result c.seat_of.ensures.seats c.seat_of.ensures.same c.args.self.now.plain)

pub seat_at-seat-requires : goal.seat_at-seat-requires
seat_at-seat-requires g c =
    let ss = seats_in c.args.self.now.seats.runs.items in
    let ts = seats_in c.seat_of.new.self.runs.items in
    let i = c.in_ok-place.place in
    let s = seat_in i ts in
    let x = (seat_in i (seats_in c.reply_at.new.seats.runs.items)).session in
    let many = ap (λ l. length (seats_in l)) c.as_slice.ensures.value ∙ ap (λ (l : List Seat). length l) c.reply_at.ensures.changed ∙ set_length ts i (record { name = s.name; session = x }) in
    subst (λ (n : ℕ). i < n) (sym many) c.in_ok-place.ensures.within
