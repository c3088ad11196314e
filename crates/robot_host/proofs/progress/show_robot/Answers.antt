use Rattle.std.proofs.lemmas.Option.{slice_get-get_or}
use Rattle.robot_host.proofs.Table.{seat_here, turned_robot, through_robot, not_turned}
use Rattle.robot_host.proofs.Turning.{next_within}
use Rattle.robot_host.proofs.progress.show_robot.Goals as goal

pub show_places-requires-clause-within : goal.show_places-requires-clause-within
show_places-requires-clause-within g c = next_within _ _ _ _ _ c.in_ok-places.ensures

pub returns-in_err-places-clause-turn : goal.returns-in_err-places-clause-turn
returns-in_err-places-clause-turn g c = not_turned (λ b. (goal.Robot-dyn g (b.vtable, b.value)).calls b.value) c.args.seats.now c.args.robot c.args.history.now c.args.progress.now.counts.items c.args.progress.now.edits.items _ (slice_get-get_or c.args.seats.now c.args.robot c.index-all-robot.result c.requires.inside)

pub show_places-requires-clause-here : goal.show_places-requires-clause-here
show_places-requires-clause-here g c = seat_here (λ b. (goal.Robot-dyn g (b.vtable, b.value)).calls b.value) c.args.seats.now c.args.robot _ (slice_get-get_or c.args.seats.now c.args.robot c.index-seats-robot.result c.requires.inside) c.requires.here

pub returns-clause-turn : goal.returns-clause-turn
returns-clause-turn g c =
    turned_robot (λ b. (goal.Robot-dyn g (b.vtable, b.value)).calls b.value) c.args.seats.now c.args.robot c.index-seats-robot.result c.index-all-robot.result c.show_places.new.seat c.args.history.now c.args.progress.now.counts.items c.index.result.now c.index_mut.result.now c.show_places.new.count _ c.args.progress.now.edits.items c.show_places.new.edits.items c.show_places.result
    c.requires.inside c.requires.counted c.requires.here c.index-all-robot.is c.index.ensures c.index_mut.ensures.value c.in_ok-places.ensures c.show_places.ensures.all c.show_places.ensures.some

pub returns-clause-through : goal.returns-clause-through
returns-clause-through g c =
    through_robot (λ b. (goal.Robot-dyn g (b.vtable, b.value)).calls b.value) c.args.seats.now c.args.robot _ c.show_places.new.seat c.args.history.now c.args.progress.now.counts.items _ c.show_places.new.count _ c.args.progress.now.edits.items c.show_places.new.edits.items c.show_places.result
    c.requires.inside c.requires.counted c.show_places.ensures.all
