use Rattle.std.proofs.Common.{◌≡◌, [], Some, length, slice_get, refl, sym, ap, ◌∙◌}
use Rattle.std.proofs.lemmas.Option.{slice_get_read}
use Rattle.std.proofs.lemmas.Result.{on_err_weaker}
use Rattle.delta_history.proofs.Finding.{lt_false}
use Rattle.client_session.specs.Editing.{handed, submit_seat}
use Rattle.client_session.specs.Machine.{machine_of}
use Rattle.client_session.specs.declared.said.Said.TheVariants.{Nothing}
use Rattle.client_session.proofs.Placing.{on_there, moved_past, either_there}
use Rattle.client_session.proofs.state.ClientState.submit_at.Goals as goal

pub returns-in-Some-clause-ok : goal.returns-in-Some-clause-ok
returns-in-Some-clause-ok c =
    let m = machine_of c.args.self.now in
    let items = c.args.self.now.seats.items in
    let s = c.in-Some.seat.now in
    let item = c.in-Some.ensures.item in
    let got : slice_get items c.args.place ≡ Some s = slice_get_read items (length items) c.args.place s refl item.3.0 item.1 in
    on_there m items c.args.place refl submit_seat (handed [] Nothing) c.submit.result s c.submit.new.self got c.submit.ensures.ok

pub returns-in-Some-clause-err : goal.returns-in-Some-clause-err
returns-in-Some-clause-err c =
    let m = machine_of c.args.self.now in
    let items = c.args.self.now.seats.items in
    let s = c.in-Some.seat.now in
    let item = c.in-Some.ensures.item in
    let got : slice_get items c.args.place ≡ Some s = slice_get_read items (length items) c.args.place s refl item.3.0 item.1 in
    on_err_weaker c.submit.result (λ e. either_there m items c.args.place refl submit_seat (handed [] Nothing) s c.submit.new.self got e) c.submit.ensures.err

pub returns-in-None-clause-ok : goal.returns-in-None-clause-ok
returns-in-None-clause-ok c = ap (λ a. (machine_of c.args.self.now, a)) (c.new-in-None.ensures ∙ ap (λ ms. handed ms Nothing) c.new.ensures) ∙ moved_past (machine_of c.args.self.now) c.args.self.now.seats.items c.args.place refl submit_seat (handed [] Nothing) (lt_false c.args.place (length c.args.self.now.seats.items) (sym c.in-None.ensures.item.0))
