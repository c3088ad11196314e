-- The four followers of a load, in a good world.
--     IsOf w i f             f is the follower of the i-th user
--     IsHeld H P l           there is a good world with the load's host, of which H holds, and its followers, of which P holds
--     moved_held             one of them moves
--     each_held              each of them does, in order
use Rattle.std.proofs.Common.{◌≡◌, ℕ, zero, suc, ◌<◌, ◌≤◌, Bool, true, false, cond, ◌==◌, List, [], ◌∷◌, Option, None, Some, slice_get, slice_set, refl, sym, ap, subst, ◌∙◌, arith}
use Rattle.std.specs.Option.{option_map}
use Rattle.std.proofs.lemmas.Bool.Decides.{Decides-eqb}
use Rattle.doc_items.specs.Maps.{Key, same_text}
use Rattle.doc_op.proofs.Applying.{no_value, same_Some}
use Rattle.wavelet_op.specs.Deltas.{DeltaOf}
use Rattle.wavelet_op.proofs.Partial.{both}
use Rattle.follower_rules.specs.Followers.{ClientOf, same_client, FollowerOf}
use Rattle.wave_world.specs.Worlds.{World}
use Rattle.wave_world.proofs.Clients.{client_same}
use Rattle.wave_world.proofs.Events.{IsGood}
use Rattle.load_script.specs.Exchanges.{Meeting, meeting}
use Rattle.load_script.specs.Loads.{Load, client, placed, moved, on, each}
use Rattle.load_script.specs.Names.{the_wavelet, user0, user1, user2, user3, users}
use Rattle.load_script.proofs.Events.{IsPooled, Leads}

-- ---- lists

get_set_same : {A : Type 0} (xs : List A) (i : ℕ) (x y : A) → slice_get xs i ≡ Some x → slice_get (slice_set xs i y) i ≡ Some y
get_set_same [] i x y e = no_value e
get_set_same (a ∷ xs) zero x y e = refl
get_set_same (a ∷ xs) (suc i) x y e = get_set_same xs i x y e

get_set_other : {A : Type 0} (xs : List A) (i j : ℕ) (y : A) → (i ≡ j → ⊥) → slice_get (slice_set xs i y) j ≡ slice_get xs j
get_set_other [] i j y n = refl
get_set_other (a ∷ xs) zero zero y n = absurd (n refl)
get_set_other (a ∷ xs) zero (suc j) y n = refl
get_set_other (a ∷ xs) (suc i) zero y n = refl
get_set_other (a ∷ xs) (suc i) (suc j) y n = get_set_other xs i j y (λ e. n (ap suc e))

-- ---- users differ

place : Key → ℕ
place u = cond (same_text u user0) 0 (cond (same_text u user1) 1 (cond (same_text u user2) 2 3))

place_is : (i : ℕ) (u : Key) → slice_get users i ≡ Some u → place u ≡ i
unfolding place user0 user1 user2 user3
place_is zero u e = ap place (sym (same_Some e))
place_is (suc zero) u e = ap place (sym (same_Some e))
place_is (suc (suc zero)) u e = ap place (sym (same_Some e))
place_is (suc (suc (suc zero))) u e = ap place (sym (same_Some e))
place_is (suc (suc (suc (suc i)))) u e = no_value e

pub below_four : (i : ℕ) (u : Key) → slice_get users i ≡ Some u → i < 4
below_four zero u e = omega arith
below_four (suc zero) u e = omega arith
below_four (suc (suc zero)) u e = omega arith
below_four (suc (suc (suc zero))) u e = omega arith
below_four (suc (suc (suc (suc i)))) u e = no_value e

clients_differ : (i j : ℕ) (u v : Key) → slice_get users i ≡ Some u → slice_get users j ≡ Some v → (i ≡ j → ⊥) → same_client (client u) (client v) ≡ false
clients_differ i j u v e f n = go (same_client (client u) (client v)) refl
  where
    go : (b : Bool) → same_client (client u) (client v) ≡ b → b ≡ false
    go false q = refl
    go true q =
        let same : u ≡ v = ap (λ (c : ClientOf). c.author) (client_same (client u) (client v) q) in
        absurd (n (sym (place_is i u e) ∙ ap place same ∙ place_is j v f))

-- ---- a load

pub record IsOf (w : World) (i : ℕ) (f : FollowerOf) : Type 0 where
  pub user : Key
  pub is_user : slice_get users i ≡ Some user
  pub has : w.followers (client user) ≡ Some f

pub record IsHeld (H : List DeltaOf → Type 0) (P : ℕ → FollowerOf → Type 0) (l : Load) : Type 0 where
  pub world : World
  pub good : IsGood the_wavelet world
  pub pooled : IsPooled world
  pub host : world.host ≡ l.host
  pub kept : H l.host
  pub followers : (i : ℕ) (f : FollowerOf) → slice_get l.followers i ≡ Some f → IsOf world i f × P i f

-- where a meeting leads
pub record IsMoved (H : List DeltaOf → Type 0) (P : FollowerOf → Type 0) (w : World) (k : ClientOf) (c : Meeting) : Type 0 where
  pub leads : Leads the_wavelet w k c.host c.follower
  pub kept : H c.host
  pub holds : P c.follower

abbrev pub Moves : (List DeltaOf → Type 0) → (FollowerOf → Type 0) → (FollowerOf → Type 0) → (Meeting → Meeting) → Type 0
Moves H A B g = (w : World) (k : ClientOf) (f : FollowerOf) → IsGood the_wavelet w → IsPooled w → w.followers k ≡ Some f → H w.host → A f → IsMoved H B w k (g (meeting w.host f))

pub moved_held : (H : List DeltaOf → Type 0) (P Q : ℕ → FollowerOf → Type 0) (who : ℕ) (g : Meeting → ℕ × Meeting) (l : Load) → Moves H (P who) (Q who) (λ c. (g c).1) → ((i : ℕ) (f : FollowerOf) → (who ≡ i → ⊥) → P i f → Q i f) → IsHeld H P l → IsHeld H Q (moved who g l)
unfolding moved
moved_held H P Q who g l moves other h = go (slice_get l.followers who) refl
  where
    go : (o : Option FollowerOf) → slice_get l.followers who ≡ o → IsHeld H Q (placed l who (option_map (λ f. g (meeting l.host f)) o))
    go None e = record {
      world = h.world;
      good = h.good;
      pooled = h.pooled;
      host = h.host;
      kept = h.kept;
      followers = λ i f r. (let x = h.followers i f r in (x.0, other i f (λ q. no_value (sym e ∙ ap (slice_get l.followers) q ∙ r)) x.1));
    }
    go (Some f) e =
        let x = h.followers who f e in
        let k = client x.0.user in
        let m : IsMoved H (Q who) h.world k (g (meeting l.host f)).1 = subst (λ z. IsMoved H (Q who) h.world k (g (meeting z f)).1) h.host (moves h.world k f h.good h.pooled x.0.has (subst H (sym h.host) h.kept) x.1) in
        let a = m.leads in
        record { world = a.after; good = a.good; pooled = a.pooled; host = a.host; kept = m.kept; followers = λ i y r. at f e x.0 (g (meeting l.host f)).1 a m.holds i y r (who == i) refl }
      where
        at : (f : FollowerOf) → slice_get l.followers who ≡ Some f → (x : IsOf h.world who f) → (c : Meeting) → (a : Leads the_wavelet h.world (client x.user) c.host c.follower) → Q who c.follower → (i : ℕ) (y : FollowerOf) → slice_get (slice_set l.followers who c.follower) i ≡ Some y → (b : Bool) → (who == i) ≡ b → IsOf a.after i y × Q i y
        at f e x c a q i y r true t =
            let s : who ≡ i = (Decides-eqb who i).0 t in
            let is : c.follower ≡ y = same_Some (sym (get_set_same l.followers who f c.follower e) ∙ ap (slice_get (slice_set l.followers who c.follower)) s ∙ r) in
            subst (λ z. IsOf a.after i z × Q i z) is (subst (λ z. IsOf a.after z c.follower × Q z c.follower) s (record { user = x.user; is_user = x.is_user; has = a.is }, q))
        at f e x c a q i y r false t =
            let n : who ≡ i → ⊥ = λ s. both ((Decides-eqb who i).1 s) t in
            let z = h.followers i y (sym (get_set_other l.followers who i c.follower n) ∙ r) in
            (record { user = z.0.user; is_user = z.0.is_user; has = a.others (client z.0.user) (clients_differ who i x.user z.0.user x.is_user z.0.is_user n) ∙ z.0.has }, other i y n z.1)

-- ---- each of them in order

-- those before the j-th have moved
abbrev Partly : (FollowerOf → Type 0) → (FollowerOf → Type 0) → ℕ → ℕ → FollowerOf → Type 0
Partly A B j i f = (i < j → B f) × (j ≤ i → A f)

one_held : (H : List DeltaOf → Type 0) (A B : FollowerOf → Type 0) (j : ℕ) (g : Meeting → Meeting) (l : Load) → Moves H A B g → IsHeld H (Partly A B j) l → IsHeld H (Partly A B (suc j)) (on j g l)
one_held H A B j g l moves h = moved_held H (Partly A B j) (Partly A B (suc j)) j (λ c. (l.draws, g c)) l step other h
  where
    step : Moves H (Partly A B j j) (Partly A B (suc j) j) g
    step w k f i p e x y =
        let m = moves w k f i p e x (y.1 (omega arith)) in
        record { leads = m.leads; kept = m.kept; holds = (λ q. m.holds, λ q. absurd (omega (arith, q))) }

    other : (i : ℕ) (f : FollowerOf) → (j ≡ i → ⊥) → Partly A B j i f → Partly A B (suc j) i f
    other i f n x = (λ q. x.0 (omega (arith, q, n)), λ q. x.1 (omega (arith, q)))

with_all : (H : List DeltaOf → Type 0) (P Q : ℕ → FollowerOf → Type 0) (l : Load) → ((i : ℕ) (f : FollowerOf) → i < 4 → P i f → Q i f) → IsHeld H P l → IsHeld H Q l
with_all H P Q l to h = record {
  world = h.world;
  good = h.good;
  pooled = h.pooled;
  host = h.host;
  kept = h.kept;
  followers = λ i f e. (let x = h.followers i f e in (x.0, to i f (below_four i x.0.user x.0.is_user) x.1));
}

pub each_held : (H : List DeltaOf → Type 0) (A B : FollowerOf → Type 0) (g : Meeting → Meeting) (l : Load) → Moves H A B g → IsHeld H (λ i. A) l → IsHeld H (λ i. B) (each g l)
unfolding each
each_held H A B g l moves h =
    let a0 : IsHeld H (Partly A B 0) l = with_all H (λ i. A) (Partly A B 0) l (λ i f q x. (λ r. absurd (omega (arith, r)), λ r. x)) h in
    let a1 = one_held H A B 0 g l moves a0 in
    let a2 = one_held H A B 1 g _ moves a1 in
    let a3 = one_held H A B 2 g _ moves a2 in
    let a4 = one_held H A B 3 g _ moves a3 in
    with_all H (Partly A B 4) (λ i. B) _ (λ i f q x. x.0 q) a4
