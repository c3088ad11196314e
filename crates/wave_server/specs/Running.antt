-- What holds between two turns of a server.
--     BeginWith d hs marks      each shard's marks begin with those of the histories that the domain hosts
--     AreOurs hub_of hub js     each job that runs is of its hub
--     IsServed ..               a session was served from the marks that its own passes had seen at its end, which begin those of the
--                               server
--     IsCalm e                  the session of an entry didn't end for want of a turn
--     AreRising es              the places of the entries rise, so no two of them are the same
--     returned before now       the links that were put back since the first of these were
--     IsEntry .. back e         the session of an entry was served over the link that was put back at its place
--     HasServed .. es           the session of each entry was served so; the links that were put back are those before and more
--     faults_named back es      the faults of the links that entries name
--     IsGoing ..                so far, with this many links put back, and the faults of those that entries name are counted as the line's
use Rattle.std.specs.Prelude.{◌≡◌, ◌≢◌, ◌<◌, ◌≤◌, ◌+◌, ℕ, min, Bool, true, false, IsTrue, List, [], ◌∷◌, drop, filter, length}
use Rattle.std.specs.Prelude.{slice_get, Some}
use Rattle.std.specs.List.{All}
use Rattle.std.specs.Option.{option_map_or}
use mathlib.Core.List.{IsPrefix}
use Rattle.doc_items.specs.Maps.{Key}
use Rattle.wave_outside.specs.Counts.{Rose}
use Rattle.wave_outside.specs.declared.link.Link as link_of
use Rattle.wave_outside.specs.declared.link.LinkEvent.{LinkEvent}
use Rattle.wavelet_shelf.specs.Hosting.{Hosted}
use Rattle.wavelet_shelf.specs.Parts.{is_in}
use Rattle.hosted_copies.specs.Domains.{hosted_by}
use Rattle.peer_rounds.specs.Reached.{last_count}
use Rattle.shard_marks.specs.declared.mark.Mark.{Mark}
use Rattle.shard_marks.specs.Marks.{founded, loaded}
use Rattle.shard_marks.specs.Servers.{ServerOf}
use Rattle.session_steps.specs.declared.end.EndCause.{EndCause}
use Rattle.session_steps.specs.declared.end.EndCause.TheVariants.{Closed, Failed, Spent as SpentCause}
use Rattle.turn_lock.specs.declared.cell.Spent.{Spent}
use Rattle.session_steps.specs.Served.{IsOver}
use Rattle.wave_server.specs.declared.server.Ended.{Ended}

abbrev pub BeginWith : Key → List Hosted → (ℕ → List Mark) → Type 0
BeginWith d hs marks = (k : ℕ) → k < 16 → IsPrefix (founded d k (loaded (filter (λ h. is_in k h.name) (hosted_by d hs)))) (marks k)

abbrev pub AreOurs : {R H : Type 0} → (R → H) → H → List R → Type 0
AreOurs hub_of hub jobs = All (λ r. hub_of r ≡ hub) jobs

module _ (v : ServerOf) (marks : ℕ → List Mark) where
  pub record IsServed (es : List LinkEvent) (c : EndCause) : Type 0 where
    pub own : ℕ → List Mark
    pub begun : ℕ → ℕ
    pub readings : List ℕ
    pub added : ℕ
    pub begins : (k : ℕ) → k < 16 → IsPrefix (own k) (marks k)
    pub over : IsOver v own begun es readings added c

abbrev pub IsCalm : Ended → Type 0
IsCalm e = (s : Spent) → e.cause ≢ SpentCause s

abbrev pub AreRising : List Ended → Type 0
AreRising es = (j k : ℕ) (d e : Ended) → j < k → slice_get es j ≡ Some d → slice_get es k ≡ Some e → d.place < e.place

abbrev pub returned : {L : Type 0} → List L → List L → List L
returned before now = drop (length before) now

module _ {L : Type 0} (link : link_of.Ghosts L) where
  module _ (v : ServerOf) (marks : ℕ → List Mark) where
    pub record IsEntry (back : List L) (e : Ended) : Type 0 where
      pub one : L
      pub placed : slice_get back e.place ≡ Some one
      pub served : IsTrue link.tells → IsServed v marks (link.events one) e.cause
      pub closed_is : e.cause ≡ Closed → link.closed one ≡ true
      pub failed : e.cause ≡ Failed → Rose 0 (link.faults one)

    -- `spent` says whether a shard was seen to have no turn left
    pub record HasServed (spent : Bool) (before now : List L) (ended : List Ended) : Type 0 where
      pub begins : IsPrefix before now
      pub each : All (IsEntry (returned before now)) ended
      pub rising : AreRising ended
      pub unspent : spent ≡ false → (k : ℕ) (e : Ended) → slice_get ended k ≡ Some e → IsCalm e

  abbrev pub faults_named : List L → List Ended → ℕ
  faults_named back [] = 0
  faults_named back (e ∷ es) = option_map_or (λ l. link.faults l) (slice_get back e.place) 0 + faults_named back es

  -- `line` is the count of the line, before and now
  pub record IsGoing (v : ServerOf) (marks : ℕ → List Mark) (spent : Bool) (put : ℕ) (before now : List L) (line line' : ℕ)
      (ended : List Ended) : Type 0 where
    pub served : HasServed v marks spent before now ended
    pub counted : length now ≡ length before + put
    pub raised : min (line + faults_named (returned before now) ended) last_count ≤ line'
