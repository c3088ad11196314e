use Rattle.std.proofs.Common.{◌≡◌, ◌≤◌, ◌+◌, vec_capacity, vec_len, length}
use Rattle.std.specs.Vec.Iter.{into_iter_items}
use Rattle.doc_items.specs.Changes.{IsAscending, change_set, with_changes}
use Rattle.annotation_track.proofs.edit.start_all.Given as goal

abbrev pub invariant-loop-change : goal.invariant-loop-change
invariant-loop-change l = record {
  next : (goal.iterator-loop-change).can_next l.change-iterator;
  finite : (goal.iterator-loop-change).is_finite l.change-iterator;
  ascending : IsAscending l.list.items;
  started : with_changes (change_set l.list.items) (into_iter_items l.change-iterator) ≡ with_changes (change_set l.fn.list.items) l.fn.changes.items;
  room : vec_len l.list + length (into_iter_items l.change-iterator) ≤ vec_capacity l.list;
}
