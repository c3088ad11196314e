-- What two tables show together, and the boundary to it.
--     together j         the changes that the rule makes of both
--     IsTurnTo b v w     the changes v and w differ, and the boundary leads from v to w
--     IsTurn t v w       t leads from v to w; or it is None, and they are the same
use Rattle.std.specs.Prelude.{◌≡◌, true, false, Option, None, Some}
use Rattle.doc_items.specs.Changes.{ChangeSet, Fits, after_boundary}
use Rattle.doc_items.specs.declared.change.Boundary.{Boundary}
use Rattle.change_view.specs.Sets.{joined, same_changes}
use Rattle.change_view.specs.Texts.{boundary_between}
use Rattle.change_table.specs.declared.joint.Joint.{Joint}

abbrev pub together : Joint → ChangeSet
together j = joined j.rule j.first.now j.second.now

pub record IsTurnTo (b : Boundary) (v w : ChangeSet) : Type 0 where
  pub differ : same_changes v w ≡ false
  pub value : b ≡ boundary_between v w
  pub fits : Fits v b
  pub after : after_boundary v b ≡ w

abbrev pub IsTurn : Option Boundary → ChangeSet → ChangeSet → Type 0
IsTurn None v w = same_changes v w ≡ true
IsTurn (Some b) v w = IsTurnTo b v w
