use Rattle.std.proofs.Common.{◌≡◌, ◌≤◌, take, vec_capacity, vec_len}
use Rattle.doc_items.specs.Changes.{IsAscending, change_set, without}
use Rattle.annotation_track.proofs.edit.stop_all.Given as goal

abbrev pub invariant-loop-key : goal.invariant-loop-key
invariant-loop-key l = record {
  ascending : IsAscending l.list.items;
  stopped : change_set l.list.items ≡ without (change_set l.fn.list.items) (take l.key-index l.ends);
  room : vec_capacity l.fn.list ≤ vec_capacity l.list;
  len : vec_len l.list ≤ vec_len l.fn.list;
}
