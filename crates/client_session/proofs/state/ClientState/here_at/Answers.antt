use Rattle.std.proofs.Common.{◌≡◌, Some, length, slice_get, refl, sym, ap, subst}
use Rattle.std.proofs.lemmas.Option.{slice_get_read}
use Rattle.std.proofs.lemmas.Result.{on_err_weaker}
use Rattle.delta_history.proofs.Finding.{lt_false}
use Rattle.client_session.specs.Machine.{machine_of, IsHereAt}
use Rattle.client_session.proofs.Commanding.{here_there, here_past}
use Rattle.client_session.proofs.Placing.{same_there}
use Rattle.client_session.proofs.state.ClientState.here_at.Goals as goal

pub returns-in-Some-clause-ok : goal.returns-in-Some-clause-ok
returns-in-Some-clause-ok c =
    let m = machine_of c.args.self.now in
    let items = c.args.self.now.seats.items in
    let s = c.in-Some.seat.now in
    let item = c.in-Some.ensures.item in
    let got : slice_get items c.args.place ≡ Some s = slice_get_read items (length items) c.args.place s refl item.3.0 item.1 in
    here_there m c.args.command.now items c.args.place refl c.command.result s c.command.new.self got c.command.ensures.ok

pub returns-in-Some-clause-same : goal.returns-in-Some-clause-same
returns-in-Some-clause-same c =
    let m = machine_of c.args.self.now in
    let items = c.args.self.now.seats.items in
    let s = c.in-Some.seat.now in
    let item = c.in-Some.ensures.item in
    let got : slice_get items c.args.place ≡ Some s = slice_get_read items (length items) c.args.place s refl item.3.0 item.1 in
    on_err_weaker c.command.result (λ e. same_there m items c.args.place refl s c.command.new.self got e) c.command.ensures.same

pub returns-in-None-clause-ok : goal.returns-in-None-clause-ok
returns-in-None-clause-ok c = subst (λ a. IsHereAt (machine_of c.args.self.now) (Some c.args.place) c.args.command.now (machine_of c.args.self.now, a)) (sym c.says.ensures) (here_past (machine_of c.args.self.now) c.args.command.now c.args.self.now.seats.items c.args.place refl (lt_false c.args.place (length c.args.self.now.seats.items) (sym c.in-None.ensures.item.0)))
