-- The changed version of a document: the version after the last delta that changes it.
--     is_idle a                an action that keeps an item and changes nothing of it
--     changes_by acts          one of the actions isn't idle
--     changes d a, is_changed d as     an act, some of the acts changes the document
--     end_of_delta d           the version after a delta
--     changed_from d v ds      the changed version of a document after deltas, where it was v before them
--     changed_version d ds     the changed version from the start of a history on; 0 where no delta changes the document
use Rattle.std.specs.Prelude.{ℕ, ◌+◌, Bool, false, cond, ◌&&◌, ◌||◌, not, List, [], ◌∷◌, length}
use Rattle.std.specs.List.{list_any}
use Rattle.doc_items.specs.Changes.{none_running}
use Rattle.doc_items.specs.Maps.{Key, same_text}
use Rattle.change_view.specs.Sets.{same_changes}
use Rattle.doc_op.specs.Actions.{Unchanged, Update, Replace, Action, Keep, Ins, Del}
use Rattle.wavelet_op.specs.Acts.{Act, Idle, Adds, Removes, Sets, Mutates}
use Rattle.wavelet_op.specs.Deltas.{DeltaOf}
use Rattle.delta_history.specs.Points.{acts_of}

abbrev pub is_idle : Action → Bool
is_idle (Keep u Unchanged) = same_changes none_running u
is_idle (Keep u (Update c)) = false
is_idle (Keep u (Replace old new)) = false
is_idle (Ins x) = false
is_idle (Del c n) = false

abbrev pub changes_by : List Action → Bool
changes_by acts = list_any (λ a. not (is_idle a)) acts

abbrev pub changes : Key → Act → Bool
changes d Idle = false
changes d (Adds a) = false
changes d (Removes a) = false
changes d (Sets a old new) = false
changes d (Mutates e acts) = same_text e d && changes_by acts

abbrev pub is_changed : Key → List Act → Bool
is_changed d [] = false
is_changed d (a ∷ more) = changes d a || is_changed d more

abbrev pub end_of_delta : DeltaOf → ℕ
end_of_delta d = d.from.version + length d.ops

abbrev pub changed_from : Key → ℕ → List DeltaOf → ℕ
changed_from d v [] = v
changed_from d v (x ∷ ds) = changed_from d (cond (is_changed d (acts_of x)) (end_of_delta x) v) ds

abbrev pub changed_version : Key → List DeltaOf → ℕ
changed_version d ds = changed_from d 0 ds
