-- Links that are put back in a turn of the loop.
--     all_returned       each of those that were due is
--     returned_ok        so where the turn gives an answer
use Rattle.std.proofs.Common.{◌≡◌, ◌∙◌, inl, inr, sym, ap, subst, refl, arith, ◌<◌, ℕ, ◌+◌, ◌==◌, ◌&&◌, cond, Bool, true, false, List, [], ◌∷◌, ◌++◌, length, Option, Some, None, Result, Ok, Err, IfOk, OnOk, length-append}
use Rattle.std.proofs.lemmas.Bool.Decides.{nat_tests}
use Rattle.wave_outside.specs.declared.link.Link as link_of
use Rattle.wave_outside.specs.declared.net.Net as net_of
use Rattle.peer_turns.specs.declared.fault.TurnFault.{TurnFault}
use Rattle.peer_turns.specs.declared.turns.PeerTurns as turns_of
use Rattle.federation_link.specs.Dials.{count_in, list_in}
use Rattle.federation_link.specs.Steps.{is_cut}
use Rattle.peer_rounds.specs.Peers.{due_of, due}
use Rattle.peer_rounds.specs.Turns.{HasPaused, HasStepped, HasTurned, HaveTurned}
use Rattle.peer_rounds.specs.declared.peer.Peer.{Peer}

count_list : {L : Type 0} (o : Option L) → length (list_in o) ≡ count_in o
count_list None = refl
count_list (Some l) = refl

below_zero : (n : ℕ) → 0 < n → (n == 0) ≡ false
below_zero n low = grind (arith, nat_tests)

module _ {L T N : Type 0} {link : link_of.Ghosts L} (turns : turns_of.Ghosts T) (net : net_of.Ghosts N L) where
  module _ (p q : Peer L link) (t u : T) (n m : N) (worked : Bool) where
    after_pause : 0 < p.pause.left → HasPaused turns net p q t u n m worked → length (net.back m) ≡ length (net.back n) + due_of p
    after_pause low h =
        let none : due_of p ≡ 0 = ap (λ b. cond (b && is_cut p.link.ear) (count_in p.link.link) 0) (below_zero p.pause.left low) in
        let same : length (net.back m) ≡ length (net.back n) = ap (λ z. length (net.back z)) h.net_is in
        omega (arith, none, same)

    after_step : p.pause.left ≡ 0 → HasStepped turns net p q t u n m worked → length (net.back m) ≡ length (net.back n) + due_of p
    after_step over h = go (is_cut p.link.ear) refl
      where
        due_is : due_of p ≡ cond (is_cut p.link.ear) (count_in p.link.link) 0
        due_is = ap (λ z. cond ((z == 0) && is_cut p.link.ear) (count_in p.link.link) 0) over

        go : (b : Bool) → is_cut p.link.ear ≡ b → length (net.back m) ≡ length (net.back n) + due_of p
        go true e =
            let here : due_of p ≡ count_in p.link.link = due_is ∙ ap (λ b. cond b (count_in p.link.link) 0) e in
            let back = ap length (h.step.back_is e) ∙ length-append (net.back n) (list_in p.link.link) in
            let one = count_list p.link.link in
            omega (arith, here, back, one)
        go false e =
            let none : due_of p ≡ 0 = due_is ∙ ap (λ b. cond b (count_in p.link.link) 0) e in
            let same : length (net.back m) ≡ length (net.back n) = ap (λ z. length (net.back z)) (h.step.apart e) in
            omega (arith, none, same)

    one_returned : HasTurned turns net p q t u n m worked → length (net.back m) ≡ length (net.back n) + due_of p
    one_returned (inl h) = after_pause h.0 h.1
    one_returned (inr h) = after_step h.0 h.1

  pub all_returned : (ps qs : List (Peer L link)) (t u : T) (n m : N) (worked : Bool) → HaveTurned turns net ps qs t u n m worked → length (net.back m) ≡ length (net.back n) + due ps
  all_returned [] [] t u n m worked h = let same : length (net.back m) ≡ length (net.back n) = ap (λ z. length (net.back z)) h.1 in omega (arith, same)
  all_returned [] (q ∷ qs) t u n m worked h = absurd h
  all_returned (p ∷ ps) [] t u n m worked h = absurd h
  all_returned (p ∷ ps) (q ∷ qs) t u n m worked h =
      let one = one_returned p q t h.0 n h.1 h.2 h.4 in
      let rest = all_returned ps qs h.0 u h.1 m h.3 h.5 in
      omega (arith, one, rest)

  pub returned_ok : (ps qs : List (Peer L link)) (t u : T) (n m : N) (r : Result Bool TurnFault) → IfOk r (HaveTurned turns net ps qs t u n m)
      → OnOk r (length (net.back m) ≡ length (net.back n) + due ps)
  returned_ok ps qs t u n m (Ok worked) h = all_returned ps qs t u n m worked h
  returned_ok ps qs t u n m (Err e) h = tt
