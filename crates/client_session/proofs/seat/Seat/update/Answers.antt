use Rattle.std.proofs.Common.{sym, ap, ◌∙◌}
use Rattle.follower_rules.specs.declared.received.Received.TheVariants as received
use Rattle.client_control.specs.Parts.{follower_of}
use Rattle.client_session.specs.Seats.{seat_of, with_follower}
use Rattle.client_session.specs.Taking.{updated}
use Rattle.client_session.specs.declared.said.Said.TheVariants.{Nothing, Diverged}
use Rattle.client_session.proofs.Deltas.{answer_told, ask_told, ask_kept, advance_told, unchanged}
use Rattle.client_session.proofs.Seating.{with_parts}
use Rattle.client_session.proofs.seat.Seat.update.Goals as goal

pub returns-in-Old-clause-ok : goal.returns-in-Old-clause-ok
returns-in-Old-clause-ok c = answer_told c.keep_chain.new.self (seat_of c.args.self.now) c.in_ok-keep_chain.ensures.same c.in_ok-keep_chain.ensures.note c.receive_update.new.self c.args.delta.now c.in_ok-answer.answer c.in_ok-answer.ensures.ok c.quiet.result (ap (λ x. updated (seat_of c.args.self.now) c.args.delta.now (x, follower_of c.receive_update.new.self)) c.in-Old.is ∙ ap (λ t. (with_follower (seat_of c.args.self.now) (follower_of c.receive_update.new.self) (seat_of c.args.self.now).chain, t)) (sym c.quiet.ensures))

pub returns-in-OtherFlight-clause-ok : goal.returns-in-OtherFlight-clause-ok
returns-in-OtherFlight-clause-ok c = answer_told c.keep_chain.new.self (seat_of c.args.self.now) c.in_ok-keep_chain.ensures.same c.in_ok-keep_chain.ensures.note c.receive_update.new.self c.args.delta.now c.in_ok-answer.answer c.in_ok-answer.ensures.ok c.says.result (ap (λ x. updated (seat_of c.args.self.now) c.args.delta.now (x, follower_of c.receive_update.new.self)) c.in-OtherFlight.is ∙ ap (λ t. (with_follower (seat_of c.args.self.now) (follower_of c.receive_update.new.self) (seat_of c.args.self.now).chain, t)) (sym c.says.ensures))

pub returns-in-NotNext-clause-ok : goal.returns-in-NotNext-clause-ok
returns-in-NotNext-clause-ok c = answer_told c.keep_chain.new.self (seat_of c.args.self.now) c.in_ok-keep_chain.ensures.same c.in_ok-keep_chain.ensures.note c.receive_update.new.self c.args.delta.now c.in_ok-answer.answer c.in_ok-answer.ensures.ok c.says-in-NotNext.result (ap (λ x. updated (seat_of c.args.self.now) c.args.delta.now (x, follower_of c.receive_update.new.self)) c.in-NotNext.is ∙ ap (λ t. (with_follower (seat_of c.args.self.now) (follower_of c.receive_update.new.self) (seat_of c.args.self.now).chain, t)) (sym c.says-in-NotNext.ensures))

pub returns-in-Gap-clause-ok : goal.returns-in-Gap-clause-ok
returns-in-Gap-clause-ok c = ask_told c.keep_chain.new.self (seat_of c.args.self.now) c.in_ok-keep_chain.ensures.same c.in_ok-keep_chain.ensures.note c.receive_update.new.self c.args.delta.now c.in_ok-answer.answer c.in_ok-answer.ensures.ok c.ask.result c.ask.new.self Nothing (ap (λ x. updated (seat_of c.args.self.now) c.args.delta.now (x, follower_of c.receive_update.new.self)) c.in-Gap.is) c.ask.ensures.ok

pub returns-in-Gap-clause-same : goal.returns-in-Gap-clause-same
returns-in-Gap-clause-same c = ask_kept c.keep_chain.new.self (seat_of c.args.self.now) c.in_ok-keep_chain.ensures.same c.in_ok-keep_chain.ensures.note c.receive_update.new.self c.args.delta.now c.in_ok-answer.answer c.in_ok-answer.ensures.ok c.ask.result c.ask.new.self (unchanged (follower_of c.keep_chain.new.self.follower) c.args.delta.now (follower_of c.receive_update.new.self) c.in_ok-answer.answer (received.Gap) c.in_ok-answer.ensures.ok c.in-Gap.is) c.ask.ensures.same

pub returns-in-Diverged-clause-ok : goal.returns-in-Diverged-clause-ok
returns-in-Diverged-clause-ok c = ask_told c.keep_chain.new.self (seat_of c.args.self.now) c.in_ok-keep_chain.ensures.same c.in_ok-keep_chain.ensures.note c.receive_update.new.self c.args.delta.now c.in_ok-answer.answer c.in_ok-answer.ensures.ok c.ask-in-Diverged.result c.ask-in-Diverged.new.self Diverged (ap (λ x. updated (seat_of c.args.self.now) c.args.delta.now (x, follower_of c.receive_update.new.self)) c.in-Diverged.is) c.ask-in-Diverged.ensures.ok

pub returns-in-Diverged-clause-same : goal.returns-in-Diverged-clause-same
returns-in-Diverged-clause-same c = ask_kept c.keep_chain.new.self (seat_of c.args.self.now) c.in_ok-keep_chain.ensures.same c.in_ok-keep_chain.ensures.note c.receive_update.new.self c.args.delta.now c.in_ok-answer.answer c.in_ok-answer.ensures.ok c.ask-in-Diverged.result c.ask-in-Diverged.new.self (unchanged (follower_of c.keep_chain.new.self.follower) c.args.delta.now (follower_of c.receive_update.new.self) c.in_ok-answer.answer (received.Diverged _ _) c.in_ok-answer.ensures.ok c.in-Diverged.is) c.ask-in-Diverged.ensures.same

pub returns-in-Advanced-clause-ok : goal.returns-in-Advanced-clause-ok
returns-in-Advanced-clause-ok c = ap (λ t. (seat_of (with_parts c.keep_chain.new.self c.receive_update.new.self c.in_ok-note.note), t)) c.quiet-in-Advanced.ensures ∙ advance_told c.keep_chain.new.self (seat_of c.args.self.now) c.in_ok-keep_chain.ensures.same c.in_ok-keep_chain.ensures.note c.receive_update.new.self c.args.delta.now c.in_ok-answer.answer c.in_ok-answer.ensures.ok c.in_ok-note.note c.in_ok-note.ensures c.in-Advanced.is
