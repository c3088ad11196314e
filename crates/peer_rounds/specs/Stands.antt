-- How peers stand with the net, from turn to turn.
--     WasDialled a xs        this address is among those that were dialled
--     HasSaid own l          the link begins with the message that says for which domain this server speaks, or it has failed
--     IsReady xs p           a peer whose link is open was dialled, and its link began so
--     AreReady xs ps         each of these peers is ready in this way
--     AreDialled xs ns       each of peers with these names was dialled
--     IsStepped own l        it was said so on the link, and then a look found nothing or the peer closed it; where it tells its list
--     IsFruit own l          the link was stepped in this way, or has failed
use Rattle.std.specs.Prelude.{◌≡◌, ◌⊎◌, ◌≤◌, ℕ, Bool, true, false, IsTrue, List, [], ◌∷◌, ◌++◌, IfSome}
use Rattle.std.specs.Str.{encode_utf8_all}
use Rattle.std.specs.List.{AllByRecursion}
use mathlib.Core.List.{IsPrefix}
use Rattle.doc_items.specs.Maps.{Key}
use Rattle.wave_outside.specs.declared.link.Link as link_of
use Rattle.wave_outside.specs.declared.link.LinkEvent.TheVariants.{Idle}
use Rattle.message_json.specs.declared.message.Message.TheVariants as message
use Rattle.federation_link.specs.Sends.{sent_as, IsAmong}
use Rattle.federation_link.specs.Steps.{is_cut}
use Rattle.federation_link.specs.declared.peer_link.PeerLink.{PeerLink}
use Rattle.peer_rounds.specs.Peers.{Name}
use Rattle.peer_rounds.specs.declared.peer.Peer.{Peer}

pub record WasDialled (address : List ℕ) (asked : List (List ℕ)) : Type 0 where
  pub before : List (List ℕ)
  pub after : List (List ℕ)
  pub split : asked ≡ before ++ (address ∷ after)

abbrev pub AreDialled : List (List ℕ) → List Name → Type 0
AreDialled asked ns = AllByRecursion (λ n. WasDialled n.2 asked) ns

module _ {L : Type 0} (link : link_of.Ghosts L) where
  abbrev pub HasSaid : Key → L → Type 0
  HasSaid own l = (1 ≤ link.faults l) ⊎ (IsTrue link.tells → IsPrefix (sent_as (message.Peer own) ∷ []) (link.events l))

  pub record IsStepped (own : Key) (l : L) : Type 0 where
    pub said : IsTrue link.tells → IsPrefix (sent_as (message.Peer own) ∷ []) (link.events l)
    pub looked : (IsTrue link.tells → IsAmong Idle (link.events l)) ⊎ (link.closed l ≡ true)

  abbrev pub IsFruit : Key → L → Type 0
  IsFruit own l = (1 ≤ link.faults l) ⊎ IsStepped own l

module _ {L : Type 0} {link : link_of.Ghosts L} where
  -- `tells` says whether the net tells what was dialled
  module _ (tells : Bool) (asked : List (List ℕ)) where
    pub record IsReady (p : PeerLink L link) : Type 0 where
      pub dialled : is_cut p.ear ≡ false → IsTrue tells → WasDialled (encode_utf8_all p.address) asked
      pub said : IfSome p.link (λ l. HasSaid link p.own l)

    abbrev pub AreReady : List (Peer L link) → Type 0
    AreReady ps = AllByRecursion (λ p. IsReady p.link) ps
