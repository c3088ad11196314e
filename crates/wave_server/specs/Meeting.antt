-- What became of a server's peers.
--     is_named es i             an entry names the link that was put back at this place
--     unnamed es i ls           of links that were put back from this place on, those that no entry names
--     HasMet .. n es            of this many peers: the links that no entry names and that were stepped, after it was said on them for
--                               which domain the server speaks, and what the count of the line rose by beyond the faults of the others, are
--                               together as many at least, or that count stands at its last value
--     HaveMet .. es ps          the same before the links of these peers are put back, each of which was reached or made the count of the
--                               line rise
use Rattle.std.specs.Prelude.{◌<◌, ◌≤◌, ◌+◌, ℕ, min, Bool, nat_eq, cond, List, [], ◌∷◌}
use Rattle.std.specs.List.{list_any}
use Rattle.doc_items.specs.Maps.{Key}
use Rattle.wave_outside.specs.declared.link.Link as link_of
use Rattle.peer_rounds.specs.Reached.{last_count, AtLeast, HaveReached}
use Rattle.peer_rounds.specs.Stands.{IsStepped}
use Rattle.peer_rounds.specs.declared.peer.Peer.{Peer}
use Rattle.wave_server.specs.declared.server.Ended.{Ended}
use Rattle.wave_server.specs.Running.{returned, faults_named}

abbrev pub is_named : List Ended → ℕ → Bool
is_named es i = list_any (λ e. nat_eq e.place i) es

module _ {L : Type 0} where
  abbrev pub unless : Bool → L → List L → List L
  unless b l ls = cond b ls (l ∷ ls)

  abbrev pub unnamed : List Ended → ℕ → List L → List L
  unnamed es i [] = []
  unnamed es i (l ∷ ls) = unless (is_named es i) l (unnamed es (i + 1) ls)

module _ {L : Type 0} (link : link_of.Ghosts L) (before now : List L) (line line' : ℕ) where
  pub record HasMet (own : Key) (count : ℕ) (ended : List Ended) : Type 0 where
    pub met : ℕ
    pub stepped : AtLeast (IsStepped link own) (unnamed ended 0 (returned before now)) met
    pub enough : line' < last_count → line + faults_named link (returned before now) ended + count ≤ line' + met

  pub record HaveMet (ended : List Ended) (ps : List (Peer L link)) : Type 0 where
    pub from : ℕ
    pub risen : min from last_count ≤ line'
    pub raised : min (line + faults_named link (returned before now) ended) last_count ≤ from
    pub reached : HaveReached from line' ps
