-- Whose server it is.
--     ServerOf          the domain whose wavelets it hosts, and the domains whose servers it dials, which are its peers
--     server d ps       the server of these
--     is_peer v d       the domain is among the peers
use Rattle.std.specs.Prelude.{Bool, List}
use Rattle.std.specs.List.{list_any}
use Rattle.doc_items.specs.Maps.{Key, same_text}

pub record ServerOf : Type 0 where
  pub domain : Key
  pub peers : List Key

abbrev pub server : Key → List Key → ServerOf
server domain peers = record { domain = domain; peers = peers }

abbrev pub is_peer : ServerOf → Key → Bool
is_peer v domain = list_any (λ peer. same_text domain peer) v.peers
