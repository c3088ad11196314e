-- A peer's link that is put back, of those that are to be.
--     back_next, line_next, out_next      the links that were put back, the count of the line, and the links that are out
use Rattle.std.proofs.Common.{◌≡◌, ◌∙◌, sym, ap, arith, ℕ, ◌+◌, List, ◌∷◌, ◌++◌, append_assoc}
use Rattle.wave_outside.specs.declared.link.Link as link_of
use Rattle.federation_link.specs.Dials.{count_in, list_in, line_after}
use Rattle.peer_rounds.specs.Peers.{held, links}
use Rattle.peer_rounds.specs.Reached.{line_then}
use Rattle.peer_rounds.specs.declared.peer.Peer.{Peer}

module _ {L : Type 0} {link : link_of.Ghosts L} (p : Peer L link) (ps rest : List (Peer L link)) (steps : ps ≡ p ∷ rest) where
  pub back_next : (before now all : List L) → now ≡ before ++ list_in p.link.link → before ++ links ps ≡ all → now ++ links rest ≡ all
  back_next before now all put is =
      ap (λ z. z ++ links rest) put ∙ append_assoc before (list_in p.link.link) (links rest) ∙ ap (λ z. before ++ links z) (sym steps) ∙ is

  pub line_next : (before now all : ℕ) → now ≡ line_after link.faults p.link.link before → line_then ps before ≡ all → line_then rest now ≡ all
  line_next before now all put is = ap (line_then rest) put ∙ ap (λ z. line_then z before) (sym steps) ∙ is

  pub out_next : (start before now all : ℕ) → now + count_in p.link.link ≡ before → before + all ≡ start + held ps → now + all ≡ start + held rest
  out_next start before now all put is = let e = ap held steps in omega (arith, e, put, is)
