-- A map with a value at one key, or at two.
use Rattle.std.proofs.Common.{◌≡◌, Bool, true, false, cond, Option, None, Some, refl, sym, ap, ◌∙◌}
use Rattle.std.specs.Cmp.{eq_by_cmp_equiv}
use Rattle.std.specs.Cmp.Lexicographic.{bytes_decides}
use Rattle.std.proofs.lemmas.Cmp.{nat_list_cmp_total}
use Rattle.std.specs.FinMap.{get, get-insert, get-remove}
use Rattle.doc_items.specs.Maps.{Key, Map, same_text, set_key}
use Rattle.doc_items.proofs.Maps.{tie, tied, alike}
use Rattle.wavelet_op.proofs.Partial.{both}

pub same_text_is : (a b : Key) → same_text a b ≡ true → a ≡ b
same_text_is a b e = (bytes_decides a b).0 e

pub same_text_itself : (a : Key) → same_text a a ≡ true
same_text_itself a = (bytes_decides a a).1 refl

pub different : (a b : Key) → same_text a b ≡ false → a ≡ b → ⊥
different a b e same = both ((bytes_decides a b).1 same) e

tie_itself : (k : Key) → tie k k ≡ true
unfolding tie
tie_itself k = (eq_by_cmp_equiv nat_list_cmp_total).refl k

untied : (q k : Key) → (q ≡ k → ⊥) → tie q k ≡ false
untied q k h = elim (tie q k) as (λ b. tie q k ≡ b → b ≡ false) [ true ↦ λ e. absurd (h (tied q k e)) | false ↦ λ e. refl ] refl

module _ {X : Type 0} where
  get-set : (m : Map X) (k : Key) (v : Option X) (q : Key) → get (set_key m k v) q ≡ cond (tie q k) v (get m q)
  unfolding tie
  get-set m k None q = get-remove nat_list_cmp_total m k q
  get-set m k (Some v) q = get-insert nat_list_cmp_total m k v q

  pub set_same : (m : Map X) (k : Key) (v : Option X) → get (set_key m k v) k ≡ v
  set_same m k v = get-set m k v k ∙ ap (λ b. cond b v (get m k)) (tie_itself k)

  -- at another key
  pub set_other : (m : Map X) (k j : Key) (v : Option X) → (j ≡ k → ⊥) → get (set_key m k v) j ≡ get m j
  set_other m k j v h = get-set m k v j ∙ ap (λ b. cond b v (get m j)) (untied j k h)

  over : (b : Bool) (v w x : Option X) → cond b w (cond b v x) ≡ cond b w x
  over true v w x = refl
  over false v w x = refl

  pub set_twice : (m : Map X) (k : Key) (v w : Option X) → set_key (set_key m k v) k w ≡ set_key m k w
  set_twice m k v w = alike _ _ (λ q. get-set (set_key m k v) k w q ∙ (ap (cond (tie q k) w) (get-set m k v q) ∙ (over (tie q k) v w (get m q) ∙ sym (get-set m k w q))))

  swaps : (k j q : Key) (v w x : Option X) → (k ≡ j → ⊥) → (b c : Bool) → tie q k ≡ b → tie q j ≡ c → cond c w (cond b v x) ≡ cond b v (cond c w x)
  swaps k j q v w x h true true p r = absurd (h (sym (tied q k p) ∙ tied q j r))
  swaps k j q v w x h true false p r = refl
  swaps k j q v w x h false true p r = refl
  swaps k j q v w x h false false p r = refl

  pub set_apart : (m : Map X) (k j : Key) (v w : Option X) → (k ≡ j → ⊥) → set_key (set_key m k v) j w ≡ set_key (set_key m j w) k v
  set_apart m k j v w h = alike _ _ (λ q. get-set (set_key m k v) j w q ∙ (ap (cond (tie q j) w) (get-set m k v q) ∙ (swaps k j q v w (get m q) h (tie q k) (tie q j) refl refl ∙ (ap (cond (tie q k) v) (sym (get-set m j w q)) ∙ sym (get-set (set_key m j w) k v q)))))
