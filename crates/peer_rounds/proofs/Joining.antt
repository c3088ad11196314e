-- Peers that were added.
--     joined_names, joined_held, joined_ready      what the peers have after one more
--     speak_by                                     each of those by domains and addresses is told of the own domain
--     names_next, names_end                        their names, after one more and after the last
use Rattle.std.proofs.Common.{◌≡◌, ◌∙◌, sym, ap, subst, refl, ◌<◌, ◌≤◌, ◌+◌, ℕ, Bool, List, [], ◌∷◌, ◌++◌, length, drop, get_or, append_assoc, append-nil, None}
use Rattle.std.proofs.lemmas.Bool.{true≢false}
use Rattle.std.proofs.lemmas.List.{drop_all, drop_more}
use Rattle.doc_items.specs.Maps.{Key}
use Rattle.wave_outside.specs.declared.link.Link as link_of
use Rattle.federation_link.specs.Dials.{count_in}
use Rattle.peer_rounds.specs.Peers.{Name, name_of, named_by, names, names_by, SpeakFor, held, IsFresh, HasJoined}
use Rattle.peer_rounds.specs.Stands.{HasSaid, IsReady, AreReady}
use Rattle.peer_rounds.specs.declared.peer.Peer.{Peer}
use Rattle.peer_rounds.proofs.Standing.{none_some}

pub speak_by : (own : Key) (pairs : List (Key × List ℕ)) → SpeakFor own (names_by own pairs)
speak_by own [] = tt
speak_by own (p ∷ ps) = (refl, speak_by own ps)

module _ (own : Key) (pairs : List (Key × List ℕ)) (i : ℕ) (ns : List Name) (before : ns ++ names_by own (drop i pairs) ≡ names_by own pairs) where
  pub names_next : (p : Key × List ℕ) (name : Name) (ms : List Name) → i < length pairs → p ≡ get_or pairs i p → name ≡ named_by own p
      → ms ≡ ns ++ name ∷ [] → ms ++ names_by own (drop (i + 1) pairs) ≡ names_by own pairs
  names_next p name ms lt is same more =
      ap (λ z. z ++ names_by own (drop (i + 1) pairs)) more
      ∙ append_assoc ns (name ∷ []) (names_by own (drop (i + 1) pairs)) ∙ ap (λ z. ns ++ z ∷ names_by own (drop (i + 1) pairs)) same
      ∙ ap (λ z. ns ++ names_by own z) (sym (drop_more pairs i p lt ∙ ap (λ x. x ∷ drop (i + 1) pairs) (sym is))) ∙ before

  pub names_end : length pairs ≤ i → ns ≡ names_by own pairs
  names_end end = sym (append-nil ns) ∙ ap (λ z. ns ++ names_by own z) (sym (drop_all i pairs end)) ∙ before

module _ {L : Type 0} {link : link_of.Ghosts L} where
  names_last : (ps : List (Peer L link)) (p : Peer L link) → names (ps ++ p ∷ []) ≡ names ps ++ name_of p.link ∷ []
  names_last [] p = refl
  names_last (q ∷ ps) p = ap (λ z. name_of q.link ∷ z) (names_last ps p)

  held_end : (ps : List (Peer L link)) (p : Peer L link) → p.link.link ≡ None → held (ps ++ p ∷ []) ≡ held ps
  held_end [] p none = ap (λ z. count_in z + 0) none
  held_end (q ∷ ps) p none = ap (λ z. count_in q.link.link + z) (held_end ps p none)

  fresh_ready : (tells : Bool) (asked : List (List ℕ)) (p : Peer L link) → IsFresh p → IsReady tells asked p.link
  fresh_ready tells asked p f = record {
    dialled = λ o told. absurd (true≢false (sym f.cut ∙ o));
    said = none_some p.link.link (λ l. HasSaid link p.link.own l) f.unlinked;
  }

  ready_end : (tells : Bool) (asked : List (List ℕ)) (ps : List (Peer L link)) (p : Peer L link) → IsReady tells asked p.link → AreReady tells asked ps → AreReady tells asked (ps ++ p ∷ [])
  ready_end tells asked [] p r all = (r, tt)
  ready_end tells asked (q ∷ ps) p r all = (all.0, ready_end tells asked ps p r all.1)

  module _ (name : Name) (ps qs : List (Peer L link)) (j : HasJoined name ps qs) where
    pub joined_names : names qs ≡ names ps ++ name ∷ []
    joined_names = ap names j.list ∙ names_last ps j.last ∙ ap (λ z. names ps ++ z ∷ []) j.named

    pub joined_held : held qs ≡ held ps
    joined_held = ap held j.list ∙ held_end ps j.last j.fresh.unlinked

    pub joined_ready : (tells : Bool) (asked : List (List ℕ)) → AreReady tells asked ps → AreReady tells asked qs
    joined_ready tells asked all = subst (λ z. AreReady tells asked z) (sym j.list) (ready_end tells asked ps j.last (fresh_ready tells asked j.last j.fresh) all)
