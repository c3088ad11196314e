use Rattle.std.proofs.Common.{◌≡◌, ◌<◌, Some, refl, arith, length, slice_get}
use Rattle.std.proofs.lemmas.Option.{slice_get_read}
use Rattle.session_core.specs.News.{messages_of}
use Rattle.session_core.proofs.Pushing.{updates_on, place_of_delta}
use Rattle.session_core.proofs.deliver.push_updates.Goals as goal

pub loop-place-preserved : goal.loop-place-preserved
loop-place-preserved c =
    let ds = c.deltas-deltas.result.now in
    let place = c.loop-place.place in
    let d = c.index-deltas-place.result in
    let inside : place < length ds = omega (arith, c.loop-place-test.true, c.loop-place.auto.place-end) in
    let got : slice_get ds place ≡ Some d = slice_get_read ds (length ds) place d refl inside c.index-deltas-place.is in
    record {
      sent = updates_on c.args.name.now ds place d _ (messages_of c.loop-place.out.items) (messages_of c.push_update.new.out.items) got c.loop-place.invariant.sent c.in_ok-push_update.ensures.sent;
      placed = λ shown copy all. c.in_ok-push_update.ensures.placed shown (place_of_delta shown c.args.name.now c.args.history.now ds place d copy c.deltas-deltas.ensures.value got) (c.loop-place.invariant.placed shown copy all);
    }
