-- Where in a history the deltas stand that a robot is shown.
--     IsSeenAt h i x             the delta at a place, with the point after it
--     AreNext robots a h v is    the robot was shown v, and is to be shown the deltas at these places, in order, and no more
--     AreWithin n is             places below a number
use Rattle.std.specs.Prelude.{◌≡◌, ◌<◌, ℕ, suc, List, [], ◌∷◌, ◌++◌, length, take, slice_get, Some}
use Rattle.doc_items.specs.Maps.{Key}
use Rattle.delta_history.specs.Histories.{HistoryOf}
use Rattle.delta_history.specs.Points.{start, replay}
use Rattle.robot_host.specs.Views.{Seen, view}

pub record IsSeenAt (h : HistoryOf) (i : ℕ) (x : Seen) : Type 0 where
  pub there : slice_get h.deltas i ≡ Some x.delta
  pub leads : replay (start h.name) (take (suc i) h.deltas) ≡ Some x.after

pub record IsNextAt (robots : List Key) (a : Key) (h : HistoryOf) (shown : List Seen) (i : ℕ) (x : Seen) : Type 0 where
  pub seen : IsSeenAt h i x
  pub view : view robots a h (suc i) ≡ shown ++ x ∷ []

abbrev pub AreNext : List Key → Key → HistoryOf → List Seen → List ℕ → Type 0
AreNext robots a h shown [] = view robots a h (length h.deltas) ≡ shown
AreNext robots a h shown (i ∷ is) = (x : Seen) × IsNextAt robots a h shown i x × AreNext robots a h (shown ++ x ∷ []) is

abbrev pub AreWithin : ℕ → List ℕ → Type 0
AreWithin n [] = Unit {0}
AreWithin n (i ∷ is) = (i < n) × AreWithin n is
