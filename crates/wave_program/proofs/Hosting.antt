-- What a server's run leaves of a folder.
--     told_low, told_high, told_not, told_known, told_silent      a store that wasn't loaded is told with 5, 6 or 8
--     not_five, not_six, not_told      these but 8 are no statuses of a server over a store
--     none_stored      where there is no folder there is none
--     host_status      the statuses of a server, as those of a run
--     not_source, not_sink, not_client      3, 4 and 11 are none
--     IsNone, local_status      2, 7, 9, 11 and 12 are no statuses of a command that needs no net
--     none_counted, not_loaded      want of memory before anything
--     met_by           the peers of names are as many as their domains
--     hosted_unread    no file was used
--     hosted_plain     there is no store
--     hosted_over      over the folder of a path
use Rattle.std.proofs.Common.{◌≡◌, ◌≢◌, ◌⊎◌, inl, inr, arith, refl, subst, ℕ, List, [], length, Bool, false, Option, Some, None, IfSome, IsSome, IsTrue, is_some, ◌≤◌}
use Rattle.doc_items.specs.Maps.{Key}
use Rattle.disk_model.specs.declared.disk.Disk as disk_of
use Rattle.wave_outside.specs.Counts.{Rose}
use Rattle.wave_outside.specs.declared.clock.Clock as clock_of
use Rattle.wave_outside.specs.declared.folder.Folder as folder_of
use Rattle.wave_outside.specs.declared.link.Link as link_of
use Rattle.wave_outside.specs.declared.sink.Sink as sink_of
use Rattle.peer_rounds.specs.Peers.{names_by}
use Rattle.wave_outside.specs.Folders.{Entry}
use Rattle.turn_cells.specs.declared.cells.Passes.{Passes}
use Rattle.shard_marks.specs.declared.mark.Mark.{Mark}
use Rattle.shard_marks.specs.Passes.{marks_of}
use Rattle.wave_server.specs.Counting.{HasCounted}
use Rattle.wave_server.specs.Meeting.{HasMet}
use Rattle.wave_server.specs.Running.{BeginWith}
use Rattle.wave_server.specs.Statuses.{IsServerStatus}
use Rattle.wave_server.specs.declared.server.Ended.{Ended}
use Rattle.wave_server.proofs.Meetings.{named_length}
use Rattle.wave_program.specs.Load.{IsLoaded}
use Rattle.wave_program.specs.Net.{IsEntered, IsServedFrom, IsHostStatus, IsHostedFrom, IsHosted}
use Rattle.wave_program.specs.Run.{IsServing, IsStatus}
use Rattle.wave_program.specs.Store.{entered_at}
use Rattle.wave_program.proofs.Serving.{none_there, left_same, left_from}
use Rattle.wave_program.proofs.Storing.{never_read}

pub told_low : (s : ℕ) → (s ≡ 5) ⊎ ((s ≡ 6) ⊎ (s ≡ 8)) → 5 ≤ s
told_low s (inl e) = omega (arith, e)
told_low s (inr (inl e)) = omega (arith, e)
told_low s (inr (inr e)) = omega (arith, e)

pub told_high : (s : ℕ) → (s ≡ 5) ⊎ ((s ≡ 6) ⊎ (s ≡ 8)) → s ≤ 8
told_high s (inl e) = omega (arith, e)
told_high s (inr (inl e)) = omega (arith, e)
told_high s (inr (inr e)) = omega (arith, e)

pub told_not : {X : Type 0} (s : ℕ) → (s ≡ 5) ⊎ ((s ≡ 6) ⊎ (s ≡ 8)) → s ≡ 7 → X
told_not s (inl e) seven = absurd (omega (arith, e, seven))
told_not s (inr (inl e)) seven = absurd (omega (arith, e, seven))
told_not s (inr (inr e)) seven = absurd (omega (arith, e, seven))

pub told_known : (s : ℕ) → (s ≡ 5) ⊎ ((s ≡ 6) ⊎ (s ≡ 8)) → IsServerStatus s ⊎ ((s ≡ 5) ⊎ (s ≡ 6))
told_known s (inl e) = inr (inl e)
told_known s (inr (inl e)) = inr (inr e)
told_known s (inr (inr e)) = inl (inr (inr (inl e)))

pub told_silent : (s : ℕ) → (s ≡ 5) ⊎ ((s ≡ 6) ⊎ (s ≡ 8)) → (s ≡ 6 → ⊥) → (s ≡ 5) ⊎ (s ≡ 8)
told_silent s (inl e) never = inl e
told_silent s (inr (inl e)) never = absurd (never e)
told_silent s (inr (inr e)) never = inr e

not_between : {X : Type 0} (s : ℕ) → IsServerStatus s → 5 ≤ s → s ≤ 6 → X
not_between s (inl e) low high = absurd (omega (arith, e, low))
not_between s (inr (inl e)) low high = absurd (omega (arith, e, high))
not_between s (inr (inr (inl e))) low high = absurd (omega (arith, e, high))
not_between s (inr (inr (inr (inl e)))) low high = absurd (omega (arith, e, high))
not_between s (inr (inr (inr (inr e)))) low high = absurd (omega (arith, e, high))

pub not_five : {X : Type 0} (s : ℕ) → IsServerStatus s → s ≡ 5 → X
not_five s known e = not_between s known (omega (arith, e)) (omega (arith, e))

pub not_six : {X : Type 0} (s : ℕ) → IsServerStatus s → s ≡ 6 → X
not_six s known e = not_between s known (omega (arith, e)) (omega (arith, e))

pub not_told : {X : Type 0} (s : ℕ) → IsServerStatus s → (s ≡ 5) ⊎ (s ≡ 6) → X
not_told s known (inl e) = not_five s known e
not_told s known (inr e) = not_six s known e

pub none_stored : {X : Type 0} (store : Option X) → (IsSome store → ⊥) → store ≡ None
none_stored None never = refl
none_stored (Some x) never = absurd (never refl)

-- the statuses of a server, as those of a run
pub host_status : (s : ℕ) → IsHostStatus s → IsStatus s × (s ≡ 2 → ⊥)
host_status s (inl (inl e)) = (inl (inl e), λ two. omega (arith, e, two))
host_status s (inl (inr (inl e))) = (inr (inr (inr (inl e))), λ two. omega (arith, e, two))
host_status s (inl (inr (inr (inl e)))) = (inl (inr (inr (inr (inr (inl e))))), λ two. omega (arith, e, two))
host_status s (inl (inr (inr (inr (inl e))))) = (inr (inr (inr (inr (inl e)))), λ two. omega (arith, e, two))
host_status s (inl (inr (inr (inr (inr e))))) = (inr (inr (inr (inr (inr (inr e))))), λ two. omega (arith, e, two))
host_status s (inr (inl e)) = (inl (inr (inr (inr (inl e)))), λ two. omega (arith, e, two))
host_status s (inr (inr e)) = (inr (inr (inl e)), λ two. omega (arith, e, two))

-- none of them is 3, 4 or 11
low_or_high : (s : ℕ) → IsHostStatus s → (s ≡ 0) ⊎ ((5 ≤ s) × (s ≢ 11))
low_or_high s (inl (inl e)) = inl e
low_or_high s (inl (inr (inl e))) = inr (omega (arith, e), λ never. omega (arith, e, never))
low_or_high s (inl (inr (inr (inl e)))) = inr (omega (arith, e), λ never. omega (arith, e, never))
low_or_high s (inl (inr (inr (inr (inl e))))) = inr (omega (arith, e), λ never. omega (arith, e, never))
low_or_high s (inl (inr (inr (inr (inr e))))) = inr (omega (arith, e), λ never. omega (arith, e, never))
low_or_high s (inr (inl e)) = inr (omega (arith, e), λ never. omega (arith, e, never))
low_or_high s (inr (inr e)) = inr (omega (arith, e), λ never. omega (arith, e, never))

pub not_source : {X : Type 0} (s : ℕ) → IsHostStatus s → s ≡ 3 → X
not_source s known is = elim (low_or_high s known) [ inl e ↦ absurd (omega (arith, e, is)) | inr w ↦ absurd (let low = w.0 in omega (arith, low, is)) ]

pub not_sink : {X : Type 0} (s : ℕ) → IsHostStatus s → s ≡ 4 → X
not_sink s known is = elim (low_or_high s known) [ inl e ↦ absurd (omega (arith, e, is)) | inr w ↦ absurd (let low = w.0 in omega (arith, low, is)) ]

pub not_client : {X : Type 0} (s : ℕ) → IsHostStatus s → s ≡ 11 → X
not_client s known is = elim (low_or_high s known) [ inl e ↦ absurd (omega (arith, e, is)) | inr w ↦ absurd (w.1 is) ]

-- the statuses of a command that needs no net
abbrev pub IsNone : ℕ → Type 0
IsNone s = (s ≡ 2 → ⊥) × (s ≡ 7 → ⊥) × (s ≡ 9 → ⊥) × (s ≡ 11 → ⊥) × (s ≡ 12 → ⊥)

pub local_status : (s : ℕ) → IsServing s ⊎ (s ≡ 6) → IsNone s
local_status s (inl (inl e)) = (λ n. omega (arith, e, n), λ n. omega (arith, e, n), λ n. omega (arith, e, n), λ n. omega (arith, e, n), λ n. omega (arith, e, n))
local_status s (inl (inr (inl e))) = (λ n. omega (arith, e, n), λ n. omega (arith, e, n), λ n. omega (arith, e, n), λ n. omega (arith, e, n), λ n. omega (arith, e, n))
local_status s (inl (inr (inr (inl e)))) = (λ n. omega (arith, e, n), λ n. omega (arith, e, n), λ n. omega (arith, e, n), λ n. omega (arith, e, n), λ n. omega (arith, e, n))
local_status s (inl (inr (inr (inr (inl e))))) = (λ n. omega (arith, e, n), λ n. omega (arith, e, n), λ n. omega (arith, e, n), λ n. omega (arith, e, n), λ n. omega (arith, e, n))
local_status s (inl (inr (inr (inr (inr (inl e)))))) = (λ n. omega (arith, e, n), λ n. omega (arith, e, n), λ n. omega (arith, e, n), λ n. omega (arith, e, n), λ n. omega (arith, e, n))
local_status s (inl (inr (inr (inr (inr (inr e)))))) = (λ n. omega (arith, e, n), λ n. omega (arith, e, n), λ n. omega (arith, e, n), λ n. omega (arith, e, n), λ n. omega (arith, e, n))
local_status s (inr e) = (λ n. omega (arith, e, n), λ n. omega (arith, e, n), λ n. omega (arith, e, n), λ n. omega (arith, e, n), λ n. omega (arith, e, n))

-- want of memory before anything
pub none_counted : (sessions : Option ℕ) (is_there : Bool) (ended base : ℕ) → HasCounted sessions 8 is_there ended base base
none_counted sessions is_there ended base = record { done = λ zero. absurd (omega (arith, zero)); most = λ n is. omega arith }

pub not_loaded : (n : ℕ) (held : Option (List ℕ)) → IsLoaded n 8 held held
not_loaded n held = record { done = λ zero. absurd (omega (arith, zero)); sink_failed = λ four. absurd (omega (arith, four)); memory = λ eight. refl; known = inr (inr refl) }

-- the peers of these names are as many as their domains
pub met_by : {L : Type 0} (link : link_of.Ghosts L) (own : Key) (peers : List (Key × List ℕ)) (before now : List L) (line line' : ℕ) (ended : List Ended)
    → HasMet link before now line line' own (length (names_by own peers)) ended → HasMet link before now line line' own (length peers) ended
met_by link own peers before now line line' ended met = subst (λ n. HasMet link before now line line' own n ended) (named_length own peers) met

module _ {F D W T K : Type 0} (folder : folder_of.Ghosts F D) (disk : disk_of.Ghosts D) (sink : sink_of.Ghosts W) (clock : clock_of.Ghosts K) (domain : Key) where
  pub hosted_unread : (entries : List Entry) (passes : Option (Passes T Mark)) (f g : F) (a : W) (status : ℕ) → is_some passes ≡ false → (status ≡ 5) ⊎ (status ≡ 8)
      → (IsTrue folder.tells → (m : List ℕ) → folder.files g m ≡ folder.files f m) → (IsTrue folder.tells → IsEntered folder entries f g status) → (status ≡ 5 → Rose (folder.faults f) (folder.faults g))
      → IsHostedFrom folder disk sink domain entries passes f g a a status
  hosted_unread entries passes f g a status none is same entered rose = record {
    entered = entered;
    stored = λ folder_tells tells. none_there passes (λ p. IsServedFrom folder disk domain (marks_of p) entries f g) none;
    unloaded = λ folder_tells tells known. never_read folder disk clock entries f g (sink.written a) (sink.faults a) (sink.faults a) status is (same folder_tells) (entered folder_tells);
    left = λ folder_tells tells unseen. left_from folder disk f g g (same folder_tells) (left_same folder disk g);
    silent = λ never. refl;
    store_failed = rose;
    known = elim is [ inl e ↦ inr (inl e) | inr e ↦ inl (inr (inr (inl e))) ];
  }

  pub hosted_plain : (passes : Option (Passes T Mark)) (f : F) (a : W) (status : ℕ) → IsServerStatus status → IfSome passes (λ p. BeginWith domain [] (marks_of p))
      → IsHosted folder disk sink domain None passes f f a a status
  hosted_plain passes f a status known begun = record {
    plain = λ none. begun;
    alone = λ none. refl;
    entered = tt;
    stored = tt;
    unloaded = tt;
    left = λ folder_tells tells unseen. left_same folder disk f;
    silent = λ never. refl;
    store_failed = not_five status known;
    known = inl known;
    damaged = not_six status known;
  }

  pub hosted_over : (path : List ℕ) (passes : Option (Passes T Mark)) (f g : F) (a b : W) (status : ℕ) → IsHostedFrom folder disk sink domain (entered_at folder path f) passes f g a b status
      → IsHosted folder disk sink domain (Some path) passes f g a b status
  hosted_over path passes f g a b status h = record {
    plain = λ none. absurd (no_path none);
    alone = λ none. absurd (no_path none);
    entered = h.entered;
    stored = h.stored;
    unloaded = h.unloaded;
    left = h.left;
    silent = h.silent;
    store_failed = h.store_failed;
    known = h.known;
    damaged = λ six. refl;
  }
    where
      no_path : Some path ≡ None → ⊥
      no_path e = cc
