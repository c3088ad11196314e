-- The servers of other domains, as the value of an option names them.
--     equals, comma               the byte between a domain and its address;  the one between two such pairs
--     Peer                        a domain, and the characters of the address of its server
--     pair d a                    a domain and an address, where they are such
--     peer_of part                what stands before the first `=` and after it, where they are a domain and an address
--     in_front p ps               a peer and those after it, where there are both
--     all_of parts                the peer of each part, where each names one
--     is_named d ps               one of them has this domain
--     are_apart own ps            no two have one domain, and none has the own one
--     checked_apart own ps        they, where they are so
--     peers_of own v              those of a value: of its parts between commas
--     peers_by own v              those of the value that there may be
use Rattle.std.specs.Prelude.{ℕ, ◌==◌, ◌&&◌, ◌||◌, not, Bool, true, false, cond, List, [], ◌∷◌, Option, Some, None, option_and_then}
use Rattle.std.specs.List.{list_any, slice_split}
use Rattle.std.specs.Option.{option_map}
use Rattle.std.specs.Str.{chars}
use Rattle.doc_items.specs.Maps.{same_text}
use Rattle.wave_base.specs.Grammar.{is_domain, before, behind}
use Rattle.command_words.specs.Values.{is_value}

abbrev pub equals : ℕ
equals = 61

abbrev pub comma : ℕ
comma = 44

abbrev pub Peer : Type 0
Peer = List ℕ × List ℕ

abbrev pub pair : List ℕ → List ℕ → Option Peer
pair domain address = cond (is_domain domain && is_value address) (Some (domain, chars address)) None

abbrev pub peer_of : List ℕ → Option Peer
peer_of part = cond (list_any (λ b. b == equals) part) (pair (before equals part) (behind equals part)) None

abbrev pub in_front : Option Peer → Option (List Peer) → Option (List Peer)
in_front None ps = None
in_front (Some p) ps = option_map (λ qs. p ∷ qs) ps

abbrev pub all_of : List (List ℕ) → Option (List Peer)
all_of [] = Some []
all_of (part ∷ parts) = in_front (peer_of part) (all_of parts)

abbrev pub is_named : List ℕ → List Peer → Bool
is_named domain [] = false
is_named domain (p ∷ ps) = same_text p.0 domain || is_named domain ps

abbrev pub are_apart : List ℕ → List Peer → Bool
are_apart own [] = true
are_apart own (p ∷ ps) = not (same_text p.0 own) && (not (is_named p.0 ps) && are_apart own ps)

abbrev pub checked_apart : List ℕ → List Peer → Option (List Peer)
checked_apart own ps = cond (are_apart own ps) (Some ps) None

abbrev pub peers_of : List ℕ → List ℕ → Option (List Peer)
peers_of own v = cond (is_value v) (option_and_then (checked_apart own) (all_of (slice_split (λ b. b == comma) v))) None

abbrev pub peers_by : List ℕ → Option (List ℕ) → Option (List Peer)
peers_by own None = Some []
peers_by own (Some v) = peers_of own v
