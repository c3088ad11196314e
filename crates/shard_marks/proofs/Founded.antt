-- How the marks of a shard begin.
--     founded_is         whose shard it is, and its number
--     founded_later      what begins with these marks begins so too
--     founded_own        the first mark of a shard is its own
use Rattle.std.proofs.Common.{◌≡◌, ℕ, Bool, true, false, ◌&&◌, nat_eq, List, [], ◌∷◌, refl, sym, ap, subst, ◌∙◌, true≢false}
use Rattle.std.specs.Cmp.Lexicographic.{bytes_decides}
use Rattle.std.proofs.lemmas.Bool.{eq-eqb, eqb-true}
use mathlib.Core.List.{IsPrefix}
use Rattle.doc_items.specs.Maps.{Key, same_text}
use Rattle.shard_marks.specs.declared.mark.Mark.{Mark}
use Rattle.shard_marks.specs.Marks.{is_founding, is_founded, founded}

heads : {X : Type 0} {x y : X} {xs ys : List X} → x ∷ xs ≡ y ∷ ys → x ≡ y
heads e = cc

no_items : {X T : Type 0} {x : X} {xs : List X} → x ∷ xs ≡ [] → T
no_items e = absurd (cc)

both : (a b : Bool) → a && b ≡ true → (a ≡ true) × (b ≡ true)
both true b e = (refl, e)
both false b e = absurd (true≢false (sym e))

pub founded_is : (d : Key) (k : ℕ) (e : Key) (j : ℕ) (ms seen : List Mark) → is_founded d k seen ≡ true → IsPrefix seen (founded e j ms) → (e ≡ d) × (j ≡ k)
founded_is d k e j ms [] f p = absurd (true≢false (sym f))
founded_is d k e j ms (m ∷ seen) f p =
    let two = both (same_text d e) (nat_eq k j) (subst (λ m. is_founding d k m ≡ true) (heads p.1) f) in
    (sym ((bytes_decides d e).0 two.0), sym (eqb-true k j two.1))

pub founded_later : (d : Key) (k : ℕ) (ms ns : List Mark) → is_founded d k ms ≡ true → IsPrefix ms ns → is_founded d k ns ≡ true
founded_later d k [] ns f p = absurd (true≢false (sym f))
founded_later d k (m ∷ ms) [] f p = no_items p.1
founded_later d k (m ∷ ms) (n ∷ ns) f p = subst (λ m. is_founding d k m ≡ true) (heads p.1) f

pub founded_own : (d : Key) (k : ℕ) (ms : List Mark) → is_founded d k (founded d k ms) ≡ true
founded_own d k ms = ap (λ b. b && nat_eq k k) ((bytes_decides d d).1 refl) ∙ eq-eqb k k refl
