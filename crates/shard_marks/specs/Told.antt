-- Peers that were told all that there is of what is hosted.
--     IsToldOf n t o          what a peer was told of a wavelet: all up to the head of what it may see; else nothing that is to be taken
--                             back
--     AreToldOf c d ts ns     so it is with each of these names, by what a peer of this domain was told
--     AreToldTo c ts p        so it is with all that is hosted, where it is a peer who is told
--     AreTold c s             so it is with a session: what it is sent changes nothing of what it was told
--     AreToldAt d k ms s n    so it was with the shard of these marks at their length n; 0 says nothing
--     AreToldFrom ms s n      so it was with whosever marks these are
--     with_published d ns m   names in byte order, with that of a hosted wavelet to which a mark adds
--     published d ns ms       so after several marks
--     AreDue d k ms s n ns    the names that are looked at for a session that was told all at that length: none of one that isn't a peer's,
--                             all that is hosted, or what was published since
use Rattle.std.specs.Prelude.{◌≡◌, ◌≢◌, ◌⊎◌, ◌≤◌, ℕ, true, false, cond, List, [], ◌∷◌, length, drop, Option, Some, None}
use Rattle.std.specs.Cmp.Lexicographic.{slice_cmp}
use Rattle.std.specs.List.{AllByRecursion}
use Rattle.std.specs.Ordering.{nat_cmp}
use Rattle.std.specs.declared.cmp.Ordering.{Ordering}
use Rattle.std.specs.declared.cmp.Ordering.TheVariants.{Less, Equal, Greater}
use mathlib.Core.List.{IsPrefix}
use Rattle.doc_items.specs.Maps.{Key}
use Rattle.delta_history.specs.Histories.{HistoryOf, head_of}
use Rattle.session_core.specs.declared.session.Party.{Party}
use Rattle.session_core.specs.declared.session.Party.TheVariants.{Nobody, User, Domain}
use Rattle.session_core.specs.declared.session.Session.{Session}
use Rattle.session_core.specs.declared.session.Telling.{Telling}
use Rattle.session_core.specs.Access.{Shown, seen_from}
use Rattle.session_core.specs.Deliveries.{telling_of}
use Rattle.session_core.specs.Rules.{has_peer}
use Rattle.wavelet_shelf.specs.Hosting.{names_of}
use Rattle.hosted_copies.specs.Domains.{is_hosted_by}
use Rattle.shard_marks.specs.declared.mark.Mark.{Mark}
use Rattle.shard_marks.specs.declared.mark.Mark.TheVariants.{Began, Applied, Fault, Queued, Answered, Dropped}
use Rattle.shard_marks.specs.Marks.{is_founded, replayed, shown_at}

-- ---- what was told

abbrev pub IsToldOf : Key → Telling → Option HistoryOf → Type 0
IsToldOf n t None = t.told ≡ false
IsToldOf n t (Some h) = t ≡ record { name = n; sent = (head_of h).at.version; told = true }

abbrev pub AreToldOf : Shown → Key → List Telling → List Key → Type 0
AreToldOf c domain ts ns = AllByRecursion (λ n. IsToldOf n (telling_of n ts) (seen_from c n domain)) ns

abbrev pub AreToldTo : Shown → List Telling → Party → Type 0
AreToldTo c ts Nobody = Unit {0}
AreToldTo c ts (User user) = Unit {0}
AreToldTo c ts (Domain domain) = AreToldOf c domain ts c.hosts

abbrev pub AreTold : Shown → Session → Type 0
AreTold c s = AreToldTo c s.tellings s.party

pub record AreToldAt (d : Key) (k : ℕ) (ms : List Mark) (s : Session) (n : ℕ) : Type 0 where
  pub within : n ≤ length ms
  pub told : (cut : List Mark) → IsPrefix cut ms → length cut ≡ n → n ≢ 0 → AreTold (shown_at d k cut) s

pub record AreToldFrom (ms : List Mark) (s : Session) (n : ℕ) : Type 0 where
  pub domain : Key
  pub number : ℕ
  pub founded : is_founded domain number ms ≡ true
  pub told : AreToldAt domain number ms s n

-- ---- what was published since

-- by how a name compares with the first one; `rest` are the others with it, where it isn't before them
abbrev pub name_put_by : Ordering → Key → Key → List Key → List Key → List Key
name_put_by Less n m ms rest = n ∷ m ∷ ms
name_put_by Equal n m ms rest = m ∷ ms
name_put_by Greater n m ms rest = m ∷ rest

abbrev pub name_put : Key → List Key → List Key
name_put n [] = n ∷ []
name_put n (m ∷ ms) = name_put_by (slice_cmp nat_cmp n m) n m ms (name_put n ms)

abbrev pub with_published : Key → List Key → Mark → List Key
with_published d ns (Began e j) = ns
with_published d ns (Applied n x) = cond (is_hosted_by d n) (name_put n ns) ns
with_published d ns (Fault n i) = ns
with_published d ns (Queued n s) = ns
with_published d ns (Answered n i v) = ns
with_published d ns (Dropped n) = ns

abbrev pub published : Key → List Key → List Mark → List Key
published d ns [] = ns
published d ns (m ∷ ms) = published d (with_published d ns m) ms

abbrev pub AreDue : Key → ℕ → List Mark → Session → ℕ → List Key → Type 0
AreDue d k ms s n ns = (has_peer s ≡ false) ⊎ ((ns ≡ names_of (replayed d k ms)) ⊎ ((n ≢ 0) × (ns ≡ published d [] (drop n ms))))
