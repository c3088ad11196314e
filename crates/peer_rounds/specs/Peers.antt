-- The peers of a server.
--     name_of p, names ps     the domain of a peer, this server's own, and the address at which it is dialled
--     names_by own pairs      the same of domains and addresses, for a server of the domain `own`
--     SpeakFor own ns         the peers of these names are told that this server speaks for `own`
--     held ps, links ps       how many of them have a link, and these links, in order
--     due_of p, due ps        how many links a turn of the loop puts back: that of each peer that was cut and doesn't pause
--     IsFresh p               it was never stepped, and pauses no turn
--     HasJoined n ps qs       a peer of this name was added, which was never stepped
use Rattle.std.specs.Prelude.{◌≡◌, true, ℕ, ◌+◌, ◌==◌, ◌&&◌, cond, List, [], ◌∷◌, ◌++◌, map, None}
use Rattle.std.specs.List.{AllByRecursion}
use Rattle.std.specs.Str.{encode_utf8_all}
use Rattle.doc_items.specs.Maps.{Key}
use Rattle.wave_outside.specs.declared.link.Link as link_of
use Rattle.federation_link.specs.Dials.{count_in, list_in}
use Rattle.federation_link.specs.Steps.{is_cut}
use Rattle.federation_link.specs.declared.peer_link.PeerLink.{PeerLink}
use Rattle.peer_rounds.specs.Pauses.{IsUnpaused}
use Rattle.peer_rounds.specs.declared.peer.Peer.{Peer}

abbrev pub Name : Type 0
Name = Key × Key × List ℕ

abbrev pub named_by : Key → Key × List ℕ → Name
named_by own p = (p.0, own, encode_utf8_all p.1)

abbrev pub names_by : Key → List (Key × List ℕ) → List Name
names_by own pairs = map (named_by own) pairs

abbrev pub SpeakFor : Key → List Name → Type 0
SpeakFor own ns = AllByRecursion (λ n. n.1 ≡ own) ns

module _ {L : Type 0} {link : link_of.Ghosts L} where
  abbrev pub name_of : PeerLink L link → Name
  name_of p = (p.domain, p.own, encode_utf8_all p.address)

  abbrev pub names : List (Peer L link) → List Name
  names [] = []
  names (p ∷ ps) = name_of p.link ∷ names ps

  abbrev pub held : List (Peer L link) → ℕ
  held [] = 0
  held (p ∷ ps) = count_in p.link.link + held ps

  abbrev pub links : List (Peer L link) → List L
  links [] = []
  links (p ∷ ps) = list_in p.link.link ++ links ps

  abbrev pub due_of : Peer L link → ℕ
  due_of p = cond ((p.pause.left == 0) && is_cut p.link.ear) (count_in p.link.link) 0

  abbrev pub due : List (Peer L link) → ℕ
  due [] = 0
  due (p ∷ ps) = due_of p + due ps

  pub record IsFresh (p : Peer L link) : Type 0 where
    pub unlinked : p.link.link ≡ None
    pub cut : is_cut p.link.ear ≡ true
    pub unpaused : IsUnpaused p.pause

  pub record HasJoined (name : Name) (ps qs : List (Peer L link)) : Type 0 where
    pub last : Peer L link
    pub list : qs ≡ ps ++ last ∷ []
    pub named : name_of last.link ≡ name
    pub fresh : IsFresh last
