-- What a turn of the loop does, and what a server does with its peers before it ends.
--     IsStep p q t u n m r    one step of a link, by what it came to: the turns and the net before and after
--     HasCome .. b            one step that gave an answer; b says whether the link may be left then
--     is_work s               a step that came to this did something that the loop needn't sleep after
--     HasPaused .., HasStepped ..     a peer paused for a turn, or its link was stepped once
--     HasTurned .. b          one of them, by its pause; b says whether it worked
--     HaveTurned .. b         each peer had such a turn, one after the other; b says whether one worked
--     Runs ss ..              steps of a link, one after the other; what they came to, the newest first
--     is_end s                a link that came to this may be left
--     HasRun ..               a link was stepped until it could be left
--     HaveRun ..              the link of each peer was stepped so, one after the other
use Rattle.std.specs.Prelude.{◌≡◌, ◌⊎◌, ◌<◌, ◌≤◌, ◌-◌, ◌^◌, min, ◌||◌, Bool, true, false, IsTrue, List, [], ◌∷◌, Result, Ok}
use Rattle.std.specs.Str.{encode_utf8_all}
use mathlib.Core.List.{IsPrefix}
use Rattle.wave_outside.specs.declared.link.Link as link_of
use Rattle.wave_outside.specs.declared.net.Net as net_of
use Rattle.peer_turns.specs.Calls.{gifts}
use Rattle.peer_turns.specs.declared.fault.TurnFault.{TurnFault}
use Rattle.peer_turns.specs.declared.turns.PeerTurns as turns_of
use Rattle.federation_link.specs.Called.{Dials, GoesOn, Rests}
use Rattle.federation_link.specs.Dials.{IsBack, IsGone, WasAsked}
use Rattle.federation_link.specs.Steps.{is_cut}
use Rattle.federation_link.specs.declared.peer_link.PeerLink.{PeerLink}
use Rattle.federation_link.specs.declared.stepped.Stepped.{Stepped}
use Rattle.federation_link.specs.declared.stepped.Stepped.TheVariants as came_to
use Rattle.peer_rounds.specs.Pauses.{IsShorter, PausesAfter}
use Rattle.peer_rounds.specs.Peers.{name_of}
use Rattle.peer_rounds.specs.declared.peer.Peer.{Peer}

abbrev pub is_work : Stepped → Bool
is_work came_to.Dialled = true
is_work came_to.Worked = true
is_work came_to.Idle = false
is_work came_to.Cut = false

abbrev pub is_end : Stepped → Bool
is_end came_to.Dialled = false
is_end came_to.Worked = false
is_end came_to.Idle = true
is_end came_to.Cut = true

module _ {L T N : Type 0} {link : link_of.Ghosts L} (turns : turns_of.Ghosts T) (net : net_of.Ghosts N L) where
  pub record IsStep (p q : PeerLink L link) (t u : T) (n m : N) (r : Result Stepped TurnFault) : Type 0 where
    pub dialled : is_cut p.ear ≡ true → Dials link turns p.domain p.own p.link q.link q.ear q.unanswered t u (net.line n) (net.line m) r
    pub back_is : is_cut p.ear ≡ true → IsBack r p.link (net.back n) (net.back m)
    pub asked_is : is_cut p.ear ≡ true → IsTrue net.tells → WasAsked r (encode_utf8_all p.address) (net.asked n) (net.asked m)
    pub ungiven : is_cut p.ear ≡ true → IsTrue turns.tells → gifts (turns.calls u) ≡ gifts (turns.calls t)
    pub gone : is_cut p.ear ≡ false → GoesOn link turns p.domain p.link q.link p.ear q.ear p.unanswered q.unanswered t u r
    pub later : is_cut p.ear ≡ false
        → IsGone p.link q.link (λ l m. (link.faults l ≤ link.faults m) × (IsTrue link.tells → IsPrefix (link.events l) (link.events m)))
    pub idle : is_cut p.ear ≡ false → Rests link turns p.domain p.link q.link t u r
    pub apart : is_cut p.ear ≡ false → m ≡ n
    pub risen : min (net.line n) (2 ^ 64 - 1) ≤ net.line m
    pub named : name_of q ≡ name_of p

  -- one step of a link, by whether the link may be left then
  pub record HasCome (p q : PeerLink L link) (t u : T) (n m : N) (end : Bool) : Type 0 where
    pub came : Stepped
    pub step : IsStep p q t u n m (Ok came)
    pub end_is : end ≡ is_end came

  -- ---- a turn of the loop

  pub record HasPaused (p q : Peer L link) (t u : T) (n m : N) (worked : Bool) : Type 0 where
    pub link_is : q.link ≡ p.link
    pub pause_is : IsShorter p.pause q.pause
    pub turns_are : u ≡ t
    pub net_is : m ≡ n
    pub unworked : worked ≡ false

  pub record HasStepped (p q : Peer L link) (t u : T) (n m : N) (worked : Bool) : Type 0 where
    pub came : Stepped
    pub step : IsStep p.link q.link t u n m (Ok came)
    pub pause_is : PausesAfter came p.pause q.pause
    pub worked_is : worked ≡ is_work came

  abbrev pub HasTurned : Peer L link → Peer L link → T → T → N → N → Bool → Type 0
  HasTurned p q t u n m worked = ((0 < p.pause.left) × HasPaused p q t u n m worked) ⊎ ((p.pause.left ≡ 0) × HasStepped p q t u n m worked)

  abbrev pub HaveTurned : List (Peer L link) → List (Peer L link) → T → T → N → N → Bool → Type 0
  HaveTurned [] [] t u n m worked = (u ≡ t) × (m ≡ n) × (worked ≡ false)
  HaveTurned [] (q ∷ qs) t u n m worked = ⊥
  HaveTurned (p ∷ ps) [] t u n m worked = ⊥
  HaveTurned (p ∷ ps) (q ∷ qs) t u n m worked = (v : T) × (h : N) × (one : Bool) × (others : Bool)
      × HasTurned p q t v n h one × HaveTurned ps qs v u h m others × (worked ≡ (one || others))

  -- ---- before the server ends

  abbrev pub Runs : List Stepped → PeerLink L link → PeerLink L link → T → T → N → N → Type 0
  Runs [] p q t u n m = (q ≡ p) × (u ≡ t) × (m ≡ n)
  Runs (s ∷ ss) p q t u n m = (o : PeerLink L link) × (v : T) × (h : N) × Runs ss p o t v n h × IsStep o q v u h m (Ok s)

  pub record HasRun (p q : PeerLink L link) (t u : T) (n m : N) : Type 0 where
    pub came : List Stepped
    pub last : Stepped
    pub link_then : PeerLink L link
    pub turns_then : T
    pub net_then : N
    pub ran : Runs came p link_then t turns_then n net_then
    pub step : IsStep link_then q turns_then u net_then m (Ok last)
    pub ends : is_end last ≡ true

  abbrev pub HaveRun : List (Peer L link) → List (Peer L link) → T → T → N → N → Type 0
  HaveRun [] [] t u n m = (u ≡ t) × (m ≡ n)
  HaveRun [] (q ∷ qs) t u n m = ⊥
  HaveRun (p ∷ ps) [] t u n m = ⊥
  HaveRun (p ∷ ps) (q ∷ qs) t u n m = (v : T) × (h : N) × HasRun p.link q.link t v n h × HaveRun ps qs v u h m
