-- What was delivered leaves nothing of what is open to be sent.
--     nothing_after      no delta of a history stands at its head
--     sent_user           a user's session after a delivery
use Rattle.std.proofs.Common.{◌≡◌, ◌<◌, ℕ, Bool, true, ◌&&◌, ◌==◌, cond, nat_lt, suc, List, [], ◌∷◌, ◌++◌, length, drop, refl, sym, ap, subst, ◌∙◌, arith, Option, None, Some}
use Rattle.std.specs.Prelude.{IfSome}
use Rattle.std.specs.List.{list_all, AllByRecursion}
use Rattle.std.proofs.lemmas.Bool.{and_parts, and_from}
use Rattle.std.proofs.lemmas.Bool.Decides.{nat_tests}
use Rattle.doc_items.specs.Maps.{Key}
use Rattle.wave_base.specs.Versions.{VersionAt}
use Rattle.wavelet_op.specs.Deltas.{DeltaOf}
use Rattle.delta_history.specs.Histories.{HistoryOf, head_of}
use Rattle.delta_history.specs.Legal.{IsLegalFrom, IsLegal}
use Rattle.delta_history.specs.Places.{started_below}
use Rattle.delta_history.specs.Points.{Point, start, replay, next_point}
use Rattle.delta_history.proofs.Chains.{starts_at, goes_from, some_ops}
use Rattle.delta_history.proofs.Finding.{legal_end}
use Rattle.delta_history.proofs.Points.{and_then_is, after_point, replay_more, rises}
use Rattle.session_core.specs.declared.session.Party.TheVariants.{User}
use Rattle.session_core.specs.declared.session.Opening.{Opening}
use Rattle.session_core.specs.declared.session.Session.{Session}
use Rattle.session_core.specs.declared.session.Waiting.{Waiting}
use Rattle.session_core.specs.Access.{Shown, seen_by}
use Rattle.session_core.specs.Current.{is_none_left, is_sent, is_opening_sent, are_sent_to, are_sent_for, are_sent, IsWholeTo}
use Rattle.session_core.specs.Deliveries.{since, opening_left, opening_kept, openings_kept}

-- ---- a history at its head

below : (a b : ℕ) → a < b → nat_lt a b ≡ true
below a b h = grind (arith, nat_tests)

all_started : (name : Key) (b ds : List DeltaOf) (p q : Point) → IsLegalFrom name b ds → replay (start name) b ≡ Some p → replay p ds ≡ Some q → started_below q.at.version ds ≡ length ds
all_started name b [] p q l e r = refl
all_started name b (d ∷ ds) p q l e r =
    let n = l.0 in
    let z = goes_from name b d p e n in
    let a = after_point p n.after d z in
    let at : d.from.version ≡ p.at.version = ap (λ (y : VersionAt). y.version) (starts_at name b d p e n) in
    let rest : replay n.after ds ≡ Some q = sym (and_then_is (next_point p d) (λ y. replay y ds) n.after z) ∙ r in
    let up = rises n.after q ds rest in
    let some = some_ops name b d n in
    let first : nat_lt d.from.version q.at.version ≡ true = below d.from.version q.at.version (omega (arith, at, a.version, up, some)) in
    ap (λ t. cond t (suc (started_below q.at.version ds)) 0) first ∙ ap suc (all_started name (b ++ d ∷ []) ds n.after q l.1 (replay_more (start name) p n.after b d e z) rest)

none_left : {A : Type 0} (xs : List A) → drop (length xs) xs ≡ []
none_left [] = refl
none_left (x ∷ xs) = none_left xs

pub nothing_after : (h : HistoryOf) → IsLegal h.name h.deltas → since (head_of h).at.version h ≡ []
nothing_after h l =
    let all = all_started h.name [] h.deltas (start h.name) (head_of h) l refl (legal_end h.name h.deltas l) in
    ap (λ n. drop n h.deltas) all ∙ none_left h.deltas

-- ---- what is open then

same_number : (n : ℕ) → (n == n) ≡ true
same_number n = grind (arith, nat_tests)

list_all_append : {A : Type 0} (f : A → Bool) (xs ys : List A) → list_all f xs ≡ true → list_all f ys ≡ true → list_all f (xs ++ ys) ≡ true
list_all_append f [] ys p q = q
list_all_append f (x ∷ xs) ys p q = let e = and_parts (f x) (list_all f xs) p in and_from (f x) (list_all f (xs ++ ys)) e.0 (list_all_append f xs ys e.1 q)

module _ (c : Shown) (user : Key) where
  abbrev test : Opening → Bool
  test o = is_opening_sent c user o (c.copy o.name)

  kept_seen : (o : Opening) (h : HistoryOf) (seen : Option HistoryOf) → c.copy o.name ≡ Some h → seen_by c o.name user ≡ seen → IsWholeTo c user o → list_all test (opening_left o seen) ≡ true
  kept_seen o h None e s w = refl
  kept_seen o h (Some g) e s w =
      let whole : since (head_of g).at.version g ≡ [] = subst (λ x. IfSome x (λ y. since (head_of y).at.version y ≡ [])) s w in
      let now : Opening = record { name = o.name; sent = (head_of g).at.version } in
      ap (λ x. is_opening_sent c user now x && true) e ∙ ap (λ x. is_sent (head_of g).at.version x && true) s
      ∙ ap (λ t. t && is_none_left (since (head_of g).at.version g) && true) (same_number (head_of g).at.version) ∙ ap (λ ds. is_none_left ds && true) whole

  kept_one : (o : Opening) (copy : Option HistoryOf) → c.copy o.name ≡ copy → IsWholeTo c user o → list_all test (opening_kept c user o copy) ≡ true
  kept_one o None e w = ap (λ x. is_opening_sent c user o x && true) e
  kept_one o (Some h) e w = kept_seen o h (seen_by c o.name user) e refl w

  kept_sent : (os : List Opening) → AllByRecursion (IsWholeTo c user) os → are_sent_to c user (openings_kept c user os) ≡ true
  kept_sent [] w = refl
  kept_sent (o ∷ os) w = list_all_append test (opening_kept c user o (c.copy o.name)) (openings_kept c user os) (kept_one o (c.copy o.name) refl w.0) (kept_sent os w.1)

pub sent_user : (c : Shown) (user : Key) (s : Session) (ns : List Opening) (ws : List Waiting) → s.party ≡ User user → ns ≡ openings_kept c user s.openings → AllByRecursion (IsWholeTo c user) s.openings → are_sent c (record s { openings = ns; waiting = ws }) ≡ true
sent_user c user s ns ws party kept w =
    ap (are_sent_for c (record s { openings = ns; waiting = ws })) party ∙ ap (are_sent_to c user) kept ∙ kept_sent c user s.openings w
