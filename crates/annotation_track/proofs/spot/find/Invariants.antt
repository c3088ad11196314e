use Rattle.std.proofs.Common.{◌≤◌, ◌-◌, length, take, drop, None, Some}
use Rattle.doc_items.specs.Changes.{AscendsFrom}
use Rattle.annotation_track.specs.Spots.{AscendsKey}
use Rattle.annotation_track.proofs.spot.find.Given as goal

abbrev pub invariant-loop-low : goal.invariant-loop-low
invariant-loop-low l = record {
  order : l.low ≤ l.high;
  bound : l.high ≤ length l.list;
  front : AscendsKey None (take l.low l.list) l.key;
  back : AscendsFrom (Some l.key) (drop l.high l.list);
}

abbrev pub decreases-loop-low : goal.decreases-loop-low
decreases-loop-low l = l.high - l.low
