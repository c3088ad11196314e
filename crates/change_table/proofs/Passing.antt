-- Two tables that pass a test at each key but some, which are tried one by one.
--     pass_next     one key fewer
--     pass_all      no keys left
--     pass_not      a key that fails
use Rattle.std.proofs.Common.{◌≡◌, ℕ, ◌+◌, ◌<◌, ◌≤◌, ◌||◌, Bool, true, false, List, length, drop, get_or, refl, sym, ap, ◌∙◌, true≢false}
use Rattle.std.proofs.lemmas.List.{drop_more, drop_all}
use Rattle.std.specs.Str.{encode_utf8_all}
use Rattle.std.specs.FinMap.{get}
use Rattle.doc_items.specs.Maps.{Key}
use Rattle.doc_items.specs.Changes.{ChangeSet}
use Rattle.doc_items.proofs.Maps.{matches_at, matches_all}
use Rattle.doc_items.proofs.ChangeSets.{at, at-is}
use Rattle.change_view.specs.declared.rule.Test.{Test}
use Rattle.change_view.specs.Rules.{passing}
use Rattle.change_view.specs.Sets.{passes}
use Rattle.change_view.proofs.Sets.{test_none}
use Rattle.change_table.specs.Keys.{is_among, PassBut}

neither : (a b : Bool) → a ≡ false → b ≡ false → (a || b) ≡ false
neither true b p q = p
neither false b p q = q

pub pass_next : (t : Test) (ks : List (List ℕ)) (i : ℕ) (k : List ℕ) (u w : ChangeSet) → i < length ks → k ≡ get_or ks i k
    → passing t (get u (encode_utf8_all k)) (get w (encode_utf8_all k)) ≡ true → PassBut (drop i ks) t u w → PassBut (drop (i + 1) ks) t u w
pass_next t ks i k u w lt is p h q e = elim (at q (encode_utf8_all k)) as (λ b. at q (encode_utf8_all k) ≡ b → passing t (get u q) (get w q) ≡ true) [
  | true ↦ λ a. ap (λ l. passing t (get u l) (get w l)) (at-is q (encode_utf8_all k) a) ∙ p
  | false ↦ λ a. h q (
      ap (λ ls. is_among ls q) (drop_more ks i k lt)
      ∙ neither (at q (encode_utf8_all (get_or ks i k))) (is_among (drop (i + 1) ks) q) (ap (λ l. at q (encode_utf8_all l)) (sym is) ∙ a) e)
] refl

pub pass_all : (t : Test) (ks : List (List ℕ)) (i : ℕ) (u w : ChangeSet) → length ks ≤ i → PassBut (drop i ks) t u w → passes t u w ≡ true
pass_all t ks i u w le h = matches_all (passing t) u w (λ q. h q (ap (λ ls. is_among ls q) (drop_all i ks le)))

pub pass_not : (t : Test) (k : Key) (u w : ChangeSet) → passing t (get u k) (get w k) ≡ false → passes t u w ≡ false
pass_not t k u w f = elim (passes t u w) as (λ b. passes t u w ≡ b → b ≡ false) [
  | true ↦ λ p. absurd (true≢false (sym (matches_at (passing t) u w k (test_none t) p) ∙ f))
  | false ↦ λ p. refl
] refl
