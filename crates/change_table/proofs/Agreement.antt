-- Keys at which change sets may differ: a boundary's, and lists of keys that grow.
--     among_append, not_among           a key is in a list made of two where it is in either
--     boundary_agrees                   a boundary changes nothing but at its keys
--     agree_back, agree_both            either way round, and twice
--     agree_more, agree_more_back       sets that agree but at some keys, where another differs from the second at more
--     adds_on, adds_none, adds_boundary keys that grow twice, that don't grow, and that grow by a boundary's
--     touches_*                         the same for keys that may be any
--     agree_joined                      what a rule makes of sets that agree
--     pass_more_first, pass_more_second sets that pass a test but at some keys, where one becomes another at more
use Rattle.std.proofs.Common.{◌≡◌, ℕ, false, cond, ◌||◌, List, [], ◌∷◌, ◌++◌, map, refl, sym, ap, subst, ◌∙◌, Option, None, Some, option_map, append_assoc, append-nil}
use Rattle.std.specs.Str.{encode_utf8_all}
use Rattle.std.specs.FinMap.{get}
use Rattle.std.proofs.lemmas.List.Folds.{list_any-append}
use Rattle.doc_items.specs.Maps.{Key}
use Rattle.doc_items.specs.Changes.{ChangeSet, without, after_boundary}
use Rattle.doc_items.specs.declared.change.Change.{Change}
use Rattle.doc_items.specs.declared.change.Boundary.{Boundary}
use Rattle.doc_items.proofs.Maps.{get-merge, or_false}
use Rattle.doc_items.proofs.ChangeSets.{at, NoKey, get_past}
use Rattle.change_view.specs.declared.rule.Rule.{Rule}
use Rattle.change_view.specs.declared.rule.Test.{Test}
use Rattle.change_view.specs.Rules.{combined, passing}
use Rattle.change_view.specs.Sets.{joined}
use Rattle.change_view.proofs.Sets.{rule_none}
use Rattle.change_view.proofs.Boundaries.{get_without}
use Rattle.change_table.specs.Keys.{boundary_keys, is_among, AgreeBut, PassBut, Adds, Touches}

pub among_append : (ks ls : List (List ℕ)) (q : Key) → is_among (ks ++ ls) q ≡ is_among ks q || is_among ls q
among_append ks ls q = list_any-append (λ k. at q (encode_utf8_all k)) ks ls

pub record NotAmong (ks ls : List (List ℕ)) (q : Key) : Type 0 where
  pub first : is_among ks q ≡ false
  pub second : is_among ls q ≡ false

pub not_among : (ks ls : List (List ℕ)) (q : Key) → is_among (ks ++ ls) q ≡ false → NotAmong ks ls q
not_among ks ls q e =
    let h = or_false (is_among ks q) (is_among ls q) (sym (among_append ks ls q) ∙ e) in
    record { first = h.0; second = h.1 }

-- ---- a boundary

no_change : (cs : List Change) (q : Key) → is_among (map (λ c. c.key) cs) q ≡ false → NoKey q cs
unfolding NoKey
no_change [] q e = tt
no_change (c ∷ cs) q e =
    let h = or_false (at q (encode_utf8_all c.key)) (is_among (map (λ c. c.key) cs) q) e in
    (h.0, no_change cs q h.1)

pub boundary_agrees : (u : ChangeSet) (b : Boundary) → AgreeBut (boundary_keys b) (after_boundary u b) u
boundary_agrees u b q e =
    let h = not_among b.end (map (λ c. c.key) b.change) q e in
    get_past b.change (without u b.end) q (no_change b.change q h.second) ∙ get_without b.end u q ∙ ap (λ x. cond x None (get u q)) h.first

-- ---- keys that grow

pub agree_back : (ks : List (List ℕ)) (v w : ChangeSet) → AgreeBut ks v w → AgreeBut ks w v
agree_back ks v w h q e = sym (h q e)

pub agree_both : (ks ls : List (List ℕ)) (v w x : ChangeSet) → AgreeBut ks v w → AgreeBut ls w x → AgreeBut (ks ++ ls) v x
agree_both ks ls v w x h g q e = let n = not_among ks ls q e in h q n.first ∙ g q n.second

pub agree_more : (ks ls : List (List ℕ)) (v w x : ChangeSet) → AgreeBut ks v w → Adds ks ls w x → AgreeBut ls v x
agree_more ks ls v w x h a = subst (λ ms. AgreeBut ms v x) (sym a.is) (agree_both ks a.more v w x h a.kept)

pub agree_more_back : (ks ls : List (List ℕ)) (v w x : ChangeSet) → AgreeBut ks v w → Adds ks ls x w → AgreeBut ls v x
agree_more_back ks ls v w x h a = subst (λ ms. AgreeBut ms v x) (sym a.is) (agree_both ks a.more v w x h (agree_back a.more x w a.kept))

pub adds_on : (ks ls ms : List (List ℕ)) (u v w : ChangeSet) → Adds ks ls u v → Adds ls ms v w → Adds ks ms u w
adds_on ks ls ms u v w a b = record {
  more = a.more ++ b.more;
  is = b.is ∙ ap (λ xs. xs ++ b.more) a.is ∙ append_assoc ks a.more b.more;
  kept = agree_both a.more b.more u v w a.kept b.kept;
}

pub adds_none : (ks : List (List ℕ)) (u : ChangeSet) → Adds ks ks u u
adds_none ks u = record { more = []; is = sym (append-nil ks); kept = λ q e. refl }

pub adds_boundary : (ks : List (List ℕ)) (u : ChangeSet) (b : Boundary) → Adds ks (ks ++ boundary_keys b) u (after_boundary u b)
adds_boundary ks u b = record { more = boundary_keys b; is = refl; kept = agree_back (boundary_keys b) (after_boundary u b) u (boundary_agrees u b) }

-- ---- keys that may be any

pub touches_on : (r s t : Option (List (List ℕ))) (u v w : ChangeSet) → Touches r u s v → Touches s v t w → Touches r u t w
touches_on None s t u v w a b = subst (λ x. Touches x v t w) a b
touches_on (Some ks) None t u v w a b = absurd a
touches_on (Some ks) (Some ls) None u v w a b = absurd b
touches_on (Some ks) (Some ls) (Some ms) u v w a b = adds_on ks ls ms u v w a b

pub touches_none : (t : Option (List (List ℕ))) (v : ChangeSet) → Touches t v t v
touches_none None v = refl
touches_none (Some ks) v = adds_none ks v

pub touches_boundary : (t : Option (List (List ℕ))) (u : ChangeSet) (b : Boundary) → Touches t u (option_map (λ keys. keys ++ boundary_keys b) t) (after_boundary u b)
touches_boundary None u b = refl
touches_boundary (Some ks) u b = adds_boundary ks u b

-- ---- what is made of two

pub agree_joined : (r : Rule) (ks : List (List ℕ)) (u v w x : ChangeSet) → AgreeBut ks u v → AgreeBut ks w x → AgreeBut ks (joined r u w) (joined r v x)
agree_joined r ks u v w x h g q e =
    get-merge (combined r) u w q (rule_none r) ∙ (λ i. combined r (h q e i) (g q e i)) ∙ sym (get-merge (combined r) v x q (rule_none r))

pub pass_more_first : (t : Test) (ks ls : List (List ℕ)) (u w x : ChangeSet) → PassBut ks t u w → Adds ks ls u x → PassBut ls t x w
pass_more_first t ks ls u w x h a q e =
    let n = not_among ks a.more q (sym (ap (λ ms. is_among ms q) a.is) ∙ e) in
    ap (λ c. passing t c (get w q)) (sym (a.kept q n.second)) ∙ h q n.first

pub pass_more_second : (t : Test) (ks ls : List (List ℕ)) (u w x : ChangeSet) → PassBut ks t u w → Adds ks ls w x → PassBut ls t u x
pass_more_second t ks ls u w x h a q e =
    let n = not_among ks a.more q (sym (ap (λ ms. is_among ms q) a.is) ∙ e) in
    ap (λ c. passing t (get u q) c) (sym (a.kept q n.second)) ∙ h q n.first
