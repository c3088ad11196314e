-- One step of reading a list: there is a next one, it can't be read, or there is none.
use Rattle.std.proofs.Common.{◌≡◌, ℕ, zero, suc, ◌-◌, ◌<◌, ◌≤◌, true, false, cond, List, [], ◌∷◌, ◌++◌, Option, Some, None, refl, ap, ◌∙◌, arith}
use Rattle.std.specs.FinMap.{insert}
use Rattle.doc_items.specs.Maps.{Key, Map, is_next}
use Rattle.doc_op.specs.declared.component.Component.{Component}
use Rattle.doc_op.specs.Refusals.{takes}
use Rattle.op_codec.specs.Reading.{Read, ◌>>=◌, list_of, attribute_at, attributes_of, component_at, components_of}

less_one : (n : ℕ) → 0 < n → n ≡ suc (n - 1)
less_one n h = omega arith

module _ {X : Type 0} (f : List ℕ → Read X) where
  pub list_goes_on : (done : List X) (n : ℕ) (bytes : List ℕ) (x : X) (behind : List ℕ) → 0 < n → f bytes ≡ Some (x, behind) → list_of f done n bytes ≡ list_of f (done ++ x ∷ []) (n - 1) behind
  unfolding list_of
  list_goes_on done n bytes x behind h e = ap (λ k. list_of f done k bytes) (less_one n h) ∙ ap (λ r. r >>= λ y. list_of f (done ++ y.0 ∷ []) (n - 1) y.1) e

  pub list_breaks : (done : List X) (n : ℕ) (bytes : List ℕ) → 0 < n → f bytes ≡ None → list_of f done n bytes ≡ None
  unfolding list_of
  list_breaks done n bytes h e = ap (λ k. list_of f done k bytes) (less_one n h) ∙ ap (λ r. r >>= λ y. list_of f (done ++ y.0 ∷ []) (n - 1) y.1) e

  pub list_ends : (done : List X) (n : ℕ) (bytes : List ℕ) → n ≤ 0 → list_of f done n bytes ≡ Some (done, bytes)
  unfolding list_of
  list_ends done zero bytes h = refl
  list_ends done (suc n) bytes h = absurd (omega (arith, h))

abbrev more_attributes : Map Key → Option Key → ℕ → (Key × Key) × List ℕ → Read (Map Key)
more_attributes m last n e = cond (is_next last e.0.0) (attributes_of (insert m e.0.0 e.0.1) (Some e.0.0) n e.1) None

pub attributes_go_on : (m : Map Key) (last : Option Key) (n : ℕ) (bytes : List ℕ) (k v : Key) (behind : List ℕ) → 0 < n → attribute_at bytes ≡ Some ((k, v), behind) → is_next last k ≡ true
    → attributes_of m last n bytes ≡ attributes_of (insert m k v) (Some k) (n - 1) behind
unfolding attributes_of
attributes_go_on m last n bytes k v behind h e t =
    ap (λ j. attributes_of m last j bytes) (less_one n h) ∙ ap (λ r. r >>= more_attributes m last (n - 1)) e ∙ ap (λ b. cond b (attributes_of (insert m k v) (Some k) (n - 1) behind) None) t

pub attributes_fall : (m : Map Key) (last : Option Key) (n : ℕ) (bytes : List ℕ) (k v : Key) (behind : List ℕ) → 0 < n → attribute_at bytes ≡ Some ((k, v), behind) → is_next last k ≡ false
    → attributes_of m last n bytes ≡ None
unfolding attributes_of
attributes_fall m last n bytes k v behind h e t =
    ap (λ j. attributes_of m last j bytes) (less_one n h) ∙ ap (λ r. r >>= more_attributes m last (n - 1)) e ∙ ap (λ b. cond b (attributes_of (insert m k v) (Some k) (n - 1) behind) None) t

pub attributes_break : (m : Map Key) (last : Option Key) (n : ℕ) (bytes : List ℕ) → 0 < n → attribute_at bytes ≡ None → attributes_of m last n bytes ≡ None
unfolding attributes_of
attributes_break m last n bytes h e = ap (λ j. attributes_of m last j bytes) (less_one n h) ∙ ap (λ r. r >>= more_attributes m last (n - 1)) e

pub attributes_end : (m : Map Key) (last : Option Key) (n : ℕ) (bytes : List ℕ) → n ≤ 0 → attributes_of m last n bytes ≡ Some (m, bytes)
unfolding attributes_of
attributes_end m last zero bytes h = refl
attributes_end m last (suc n) bytes h = absurd (omega (arith, h))

abbrev more_components : List Component → ℕ → Component × List ℕ → Read (List Component)
more_components done n c = cond (takes done c.0) (components_of (done ++ c.0 ∷ []) n c.1) None

pub components_go_on : (done : List Component) (n : ℕ) (bytes : List ℕ) (c : Component) (behind : List ℕ) → 0 < n → component_at bytes ≡ Some (c, behind) → takes done c ≡ true
    → components_of done n bytes ≡ components_of (done ++ c ∷ []) (n - 1) behind
unfolding components_of
components_go_on done n bytes c behind h e t =
    ap (λ j. components_of done j bytes) (less_one n h) ∙ ap (λ r. r >>= more_components done (n - 1)) e ∙ ap (λ b. cond b (components_of (done ++ c ∷ []) (n - 1) behind) None) t

pub components_fall : (done : List Component) (n : ℕ) (bytes : List ℕ) (c : Component) (behind : List ℕ) → 0 < n → component_at bytes ≡ Some (c, behind) → takes done c ≡ false
    → components_of done n bytes ≡ None
unfolding components_of
components_fall done n bytes c behind h e t =
    ap (λ j. components_of done j bytes) (less_one n h) ∙ ap (λ r. r >>= more_components done (n - 1)) e ∙ ap (λ b. cond b (components_of (done ++ c ∷ []) (n - 1) behind) None) t

pub components_break : (done : List Component) (n : ℕ) (bytes : List ℕ) → 0 < n → component_at bytes ≡ None → components_of done n bytes ≡ None
unfolding components_of
components_break done n bytes h e = ap (λ j. components_of done j bytes) (less_one n h) ∙ ap (λ r. r >>= more_components done (n - 1)) e

pub components_end : (done : List Component) (n : ℕ) (bytes : List ℕ) → n ≤ 0 → components_of done n bytes ≡ Some (done, bytes)
unfolding components_of
components_end done zero bytes h = refl
components_end done (suc n) bytes h = absurd (omega (arith, h))
