-- How many peers were reached.
--     last_count              the last value of a count
--     AtLeast P xs k          this holds of so many of them at least
--     IsReached p             of the link of this peer it holds that it was stepped, or it has failed
--     HaveReached n m ps      the count of the line rose from n to m by one for each peer that was not reached, or it stands at its
--                             last value
--     line_then ps n          the count of the line after the links of these were put back
--     HaveCome own n m ls k   the count of the line rose from n to m by one for each of k peers that has no stepped link among ls, or
--                             it stands at its last value
use Rattle.std.specs.Prelude.{◌≡◌, ◌⊎◌, ◌≤◌, ◌<◌, ℕ, ◌+◌, ◌-◌, ◌^◌, List, [], ◌∷◌, length}
use Rattle.doc_items.specs.Maps.{Key}
use Rattle.wave_outside.specs.declared.link.Link as link_of
use Rattle.federation_link.specs.Dials.{IsHeld, line_after}
use Rattle.peer_rounds.specs.Stands.{IsStepped, IsFruit}
use Rattle.peer_rounds.specs.declared.peer.Peer.{Peer}

abbrev pub last_count : ℕ
last_count = 2 ^ 64 - 1

abbrev pub AtLeast : {X : Type 0} → (X → Type 0) → List X → ℕ → Type 0
AtLeast P [] k = k ≡ 0
AtLeast P (x ∷ xs) k = AtLeast P xs k ⊎ (P x × ((j : ℕ) × (k ≡ j + 1) × AtLeast P xs j))

module _ {L : Type 0} {link : link_of.Ghosts L} where
  abbrev pub IsReached : Peer L link → Type 0
  IsReached p = IsHeld p.link.link (λ l. IsFruit link p.link.own l)

  pub record HaveReached (n m : ℕ) (ps : List (Peer L link)) : Type 0 where
    pub count : ℕ
    pub reached : AtLeast IsReached ps count
    pub enough : m < last_count → n + length ps ≤ m + count

  abbrev pub line_then : List (Peer L link) → ℕ → ℕ
  line_then [] n = n
  line_then (p ∷ ps) n = line_then ps (line_after link.faults p.link.link n)

module _ {L : Type 0} (link : link_of.Ghosts L) where
  pub record HaveCome (own : Key) (n m : ℕ) (ls : List L) (k : ℕ) : Type 0 where
    pub count : ℕ
    pub stepped : AtLeast (λ l. IsStepped link own l) ls count
    pub enough : m < last_count → n + k ≤ m + count
