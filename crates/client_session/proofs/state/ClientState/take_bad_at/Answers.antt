use Rattle.std.proofs.Common.{◌≡◌, Some, length, slice_get, refl, sym, ap, ◌∙◌}
use Rattle.std.proofs.lemmas.Option.{slice_get_read}
use Rattle.delta_history.proofs.Finding.{lt_false}
use Rattle.client_session.specs.Answers.{says}
use Rattle.client_session.specs.Lines.{bad_said}
use Rattle.client_session.specs.Machine.{machine_of}
use Rattle.client_session.specs.Seats.{seat_of, answered}
use Rattle.client_session.proofs.Placing.{moved_there, moved_past}
use Rattle.client_session.proofs.state.ClientState.take_bad_at.Goals as goal

pub returns-in-Some : goal.returns-in-Some
returns-in-Some c =
    let m = machine_of c.args.self.now in
    let items = c.args.self.now.seats.items in
    let s = c.in-Some.seat.now in
    let item = c.in-Some.ensures.item in
    let got : slice_get items c.args.place ≡ Some s = slice_get_read items (length items) c.args.place s refl item.3.0 item.1 in
    moved_there m items c.args.place refl (λ s. (answered s, says (bad_said c.args.reason))) (says (bad_said c.args.reason)) s c.bad.new.self c.bad.result got (ap (λ z. (z, c.bad.result)) c.bad.ensures.state ∙ ap (λ a. (answered (seat_of s), a)) c.bad.ensures.acts)

pub returns-in-None : goal.returns-in-None
returns-in-None c = ap (λ a. (machine_of c.args.self.now, a)) (c.says.ensures ∙ ap says c.bad_said.ensures) ∙ moved_past (machine_of c.args.self.now) c.args.self.now.seats.items c.args.place refl (λ s. (answered s, says (bad_said c.args.reason))) (says (bad_said c.args.reason)) (lt_false c.args.place (length c.args.self.now.seats.items) (sym c.in-None.ensures.item.0))
