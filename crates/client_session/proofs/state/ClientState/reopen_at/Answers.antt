use Rattle.std.proofs.Common.{◌≡◌, [], Some, length, slice_get, refl, sym, ap, ◌∙◌}
use Rattle.std.proofs.lemmas.Option.{slice_get_read}
use Rattle.std.proofs.lemmas.Result.{on_err_weaker}
use Rattle.delta_history.proofs.Finding.{lt_false}
use Rattle.client_session.specs.Machine.{machine_of}
use Rattle.client_session.specs.Taking.{reopen}
use Rattle.client_session.proofs.Placing.{on_there, moved_past, same_there}
use Rattle.client_session.proofs.state.ClientState.reopen_at.Goals as goal

pub returns-in-Some-clause-ok : goal.returns-in-Some-clause-ok
returns-in-Some-clause-ok c =
    let m = machine_of c.args.self.now in
    let items = c.args.self.now.seats.items in
    let s = c.in-Some.seat.now in
    let item = c.in-Some.ensures.item in
    let got : slice_get items c.args.place ≡ Some s = slice_get_read items (length items) c.args.place s refl item.3.0 item.1 in
    on_there m items c.args.place refl reopen [] c.reopen.result s c.reopen.new.self got c.reopen.ensures.ok

pub returns-in-Some-clause-same : goal.returns-in-Some-clause-same
returns-in-Some-clause-same c =
    let m = machine_of c.args.self.now in
    let items = c.args.self.now.seats.items in
    let s = c.in-Some.seat.now in
    let item = c.in-Some.ensures.item in
    let got : slice_get items c.args.place ≡ Some s = slice_get_read items (length items) c.args.place s refl item.3.0 item.1 in
    on_err_weaker c.reopen.result (λ e. same_there m items c.args.place refl s c.reopen.new.self got e) c.reopen.ensures.same

pub returns-in-None-clause-ok : goal.returns-in-None-clause-ok
returns-in-None-clause-ok c = ap (λ a. (machine_of c.args.self.now, a)) (c.new.ensures) ∙ moved_past (machine_of c.args.self.now) c.args.self.now.seats.items c.args.place refl reopen [] (lt_false c.args.place (length c.args.self.now.seats.items) (sym c.in-None.ensures.item.0))
