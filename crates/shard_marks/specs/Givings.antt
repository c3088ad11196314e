-- What a copy is given by its host: a delta, a verdict on a submission, or that no more comes. It is named by the mark that the copy's
-- shard has of it where the copy changes.
--     gift_mark n g         the mark of what a copy of this name is given
--     name_of m             the wavelet that a mark is of
--     given_in cs m         what the copies answer
--     is_taken_in cs m      whether one of them changes
--     after_given cs m      the copies then
--     unowned m             what is answered where there can be no copy
--     given d k ms m, is_taken d k ms m     so, by the copies that marks give; of a wavelet that the domain hosts there is none
--     marks_if b m          a mark where there is a change
--     IsGiven .. cut m a    at a moment, the answer; the mark is the last one where the copy changed
--     IsGivenFrom .. m a    by this the marks ms became ns
--     IsGivenBy .. m a      the answer of a call that had these passes and left those
use Rattle.std.specs.Prelude.{◌≡◌, ◌≤◌, ◌+◌, ℕ, Bool, true, false, ◌&&◌, cond, List, [], ◌∷◌, ◌++◌, length}
use Rattle.doc_items.specs.Maps.{Key}
use Rattle.peer_turns.specs.declared.absorbed.Absorbed.{Absorbed}
use Rattle.peer_turns.specs.declared.absorbed.Absorbed.TheVariants.{Old, Gap, Diverged, NotLegal, Took}
use Rattle.replica_store.specs.Worlds.{Worlds, answer_at, take_in, waits_at, answer_in, has_more, drop_in}
use Rattle.turn_cells.specs.declared.cells.Passes.{Passes}
use Rattle.turn_cells.specs.Cells.{seen_at, added_at}
use Rattle.shard_marks.specs.declared.giving.Given.{Given}
use Rattle.shard_marks.specs.declared.giving.Given.TheVariants as given_as
use Rattle.shard_marks.specs.declared.giving.Giving.{Giving}
use Rattle.shard_marks.specs.declared.giving.Giving.TheVariants.{Delta, Answer, NoMore}
use Rattle.shard_marks.specs.declared.mark.Mark.{Mark}
use Rattle.shard_marks.specs.declared.mark.Mark.TheVariants.{Began, Applied, Fault, Queued, Answered, Dropped}
use Rattle.shard_marks.specs.Marks.{is_copied, copied}

abbrev pub is_took : Absorbed → Bool
is_took Old = false
is_took Gap = false
is_took (Diverged mine theirs) = false
is_took NotLegal = false
is_took Took = true

abbrev pub gift_mark : Key → Giving → Mark
gift_mark n (Delta delta) = Applied n delta.now
gift_mark n (Answer id verdict) = Answered n id.now verdict
gift_mark n NoMore = Dropped n

abbrev pub name_of : Mark → Key
name_of (Began e j) = []
name_of (Applied n x) = n
name_of (Fault n i) = n
name_of (Queued n s) = n
name_of (Answered n i v) = n
name_of (Dropped n) = n

abbrev pub given_in : Worlds → Mark → Given
given_in cs (Began e j) = given_as.Told
given_in cs (Applied n x) = given_as.Absorbed (answer_at cs n x)
given_in cs (Fault n i) = given_as.Told
given_in cs (Queued n s) = given_as.Told
given_in cs (Answered n i v) = given_as.Noted (waits_at cs n i)
given_in cs (Dropped n) = given_as.Told

abbrev pub is_taken_in : Worlds → Mark → Bool
is_taken_in cs (Began e j) = false
is_taken_in cs (Applied n x) = is_took (answer_at cs n x)
is_taken_in cs (Fault n i) = false
is_taken_in cs (Queued n s) = false
is_taken_in cs (Answered n i v) = waits_at cs n i
is_taken_in cs (Dropped n) = has_more cs n

abbrev pub after_given : Worlds → Mark → Worlds
after_given cs (Began e j) = cs
after_given cs (Applied n x) = take_in cs n x
after_given cs (Fault n i) = cs
after_given cs (Queued n s) = cs
after_given cs (Answered n i v) = answer_in cs n i v
after_given cs (Dropped n) = drop_in cs n

abbrev pub unowned : Mark → Given
unowned (Began e j) = given_as.Told
unowned (Applied n x) = given_as.Absorbed NotLegal
unowned (Fault n i) = given_as.Told
unowned (Queued n s) = given_as.Told
unowned (Answered n i v) = given_as.Noted false
unowned (Dropped n) = given_as.Told

abbrev pub marks_if : Bool → Mark → List Mark
marks_if true m = m ∷ []
marks_if false m = []

module _ (d : Key) (k : ℕ) where
  abbrev pub given : List Mark → Mark → Given
  given ms m = cond (is_copied d k (name_of m)) (given_in (copied d k ms) m) (unowned m)

  abbrev pub is_taken : List Mark → Mark → Bool
  is_taken ms m = is_copied d k (name_of m) && is_taken_in (copied d k ms) m

  pub record IsGiven (cut : List Mark) (m : Mark) (a : Given) (gained : ℕ) : Type 0 where
    pub before : List Mark
    pub last : cut ≡ before ++ marks_if (is_taken before m) m
    pub answer : a ≡ given before m
    pub counted : gained ≡ length (marks_if (is_taken before m) m)

  pub record IsGivenFrom (ms ns : List Mark) (m : Mark) (a : Given) : Type 0 where
    pub gained : ℕ
    pub longer : length ns ≡ length ms + gained
    pub answer : IsGiven ns m a gained

  pub record IsGivenBy {T : Type 0} (ps qs : Passes T Mark) (m : Mark) (a : Given) : Type 0 where
    pub gained : ℕ
    pub added : added_at qs k ≡ added_at ps k + gained
    pub grown : length (seen_at ps k) + gained ≤ length (seen_at qs k)
    pub answer : IsGiven (seen_at qs k) m a gained
