use Rattle.std.proofs.Common.{◌≡◌, ◌<◌, ◌++◌, map, Some, refl, sym, subst, arith, length, slice_get}
use Rattle.std.specs.List.{All}
use Rattle.std.proofs.lemmas.Option.{slice_get_read}
use Rattle.wavelet_shelf.specs.Shelves.{hosted_of}
use Rattle.session_core.specs.News.{messages_of, IsPlaced}
use Rattle.pipe_machine.specs.Lines.{sent_to, lines_of}
use Rattle.hosted_copies.specs.Shown.{shown_in}
use Rattle.pipe_machine.proofs.Delivering.{item_on}
use Rattle.pipe_machine.proofs.Placing.{all_at}
use Rattle.pipe_machine.proofs.deliver.deliver_to.Goals as goal

pub loop-item-preserved : goal.loop-item-preserved
loop-item-preserved g c =
    let shown = shown_in (hosted_of c.args.shelf.now) in
    let items = c.as_slice-item-items.result.now in
    let i = c.loop-item.item-index in
    let n = c.item-item.result in
    let inside : i < length items = omega (arith, c.loop-item-test.true, c.loop-item.auto.item-index-end) in
    let got : slice_get items i ≡ Some n = slice_get_read items (length items) i n refl inside c.item-item.is in
    let placed : IsPlaced shown n = all_at (IsPlaced shown) items i n got (subst (All (IsPlaced shown)) (sym c.as_slice-item-items.ensures.value) c.in_ok-news.ensures.placed) in
    record {
      sent = item_on (c.args.out.now.items ++ lines_of (map (sent_to c.args.seat.now.name) (messages_of items))) c.loop-item.out.items c.push_news.new.out.items c.args.seat.now.name items i n got c.loop-item.invariant.sent (c.in_ok-last.ensures.sent shown c.loop-item.invariant.last placed);
      last = c.in_ok-last.ensures.last shown c.loop-item.invariant.last placed;
    }
