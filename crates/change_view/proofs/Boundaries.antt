-- The boundary between two change sets: it fits after the first, and the second runs after it.
--     get_without                    what a change set has after some keys have ended
--     after_written, fits_written    where the keys and values that the boundary names are texts
--     after_between, fits_between    where all of both sets are
use Rattle.std.proofs.Common.{◌≡◌, ℕ, Bool, true, false, cond, ◌||◌, List, [], ◌∷◌, map, refl, sym, ap, ◌∙◌, true≢false, is_some, Option, None, Some}
use Rattle.std.specs.Ordering.{nat_cmp, is_lt}
use Rattle.std.specs.Str.{chars, encode_utf8_all}
use Rattle.std.specs.List.{list_any}
use Rattle.std.specs.Cmp.Lexicographic.{slice_cmp}
use Rattle.std.proofs.lemmas.Bool.{and_parts}
use Rattle.std.proofs.lemmas.Cmp.{nat_list_cmp_total}
use Rattle.std.specs.FinMap.{get, entries, remove, contains_key, get-remove, contains_key-keys}
use Rattle.doc_items.specs.Maps.{Key, merge}
use Rattle.doc_items.specs.Changes.{KeyChange, ChangeSet, without, after_boundary, EndsFit, NoneNamed, Fits}
use Rattle.doc_items.proofs.Maps.{alike, get-merge}
use Rattle.doc_items.proofs.ChangeSets.{at}
use Rattle.change_view.specs.declared.rule.Rule.TheVariants.{Under, Unlike}
use Rattle.change_view.specs.Rules.{one_under, one_unlike, same_change}
use Rattle.change_view.specs.Texts.{is_text_at, AreTexts, as_change, change_list, key_list, boundary_between}
use Rattle.change_view.specs.Lists.{Entry}
use Rattle.change_view.proofs.Rising.{below, rising, rising_entries, rising_tail, or_else, Each, each_of}
use Rattle.change_view.proofs.Sets.{same_change-is, texts_joined}
use Rattle.change_view.proofs.Owned.{IsText, encoded, key_text, get_with, ascending_list, list_value}

-- ---- keys that end

either_none : (a b : Bool) (x : Option KeyChange) → cond b None (cond a None x) ≡ cond (a || b) None x
either_none true true x = refl
either_none true false x = refl
either_none false b x = refl

abbrev pub among : Key → List (List ℕ) → Bool
among q ks = list_any (λ k. at q (encode_utf8_all k)) ks

pub get_without : (ks : List (List ℕ)) (u : ChangeSet) (q : Key) → get (without u ks) q ≡ cond (among q ks) None (get u q)
get_without [] u q = refl
get_without (k ∷ ks) u q =
    get_without ks (remove u (encode_utf8_all k)) q ∙ ap (cond (among q ks) None) (get-remove nat_list_cmp_total u (encode_utf8_all k) q)
    ∙ either_none (at q (encode_utf8_all k)) (among q ks) (get u q)

among_keys : (q : Key) (es : List Entry) → Each IsText es → among q (map chars (map (λ e. e.0) es)) ≡ list_any (at q) (map (λ e. e.0) es)
among_keys q [] h = refl
among_keys q (e ∷ es) h = λ i. at q (encoded e.0 (key_text e.0 e.1 h.0) i) || among_keys q es h.1 i

pub among_list : (q : Key) (m : ChangeSet) → AreTexts m → among q (key_list m) ≡ contains_key m q
among_list q m t = among_keys q (entries m) (each_of IsText m (λ k c s. ap (is_text_at k) (sym s) ∙ t k)) ∙ sym (contains_key-keys m q)

-- ---- what runs after

abbrev ended : ChangeSet → ChangeSet → ChangeSet
ended u w = merge one_under u w

abbrev unlike : ChangeSet → ChangeSet → ChangeSet
unlike w u = merge one_unlike w u

changed_one : (b : Bool) (c d : KeyChange) → same_change c d ≡ b → or_else (cond b None (Some c)) (Some d) ≡ Some c
changed_one true c d e = ap Some (sym (same_change-is c d e))
changed_one false c d e = refl

one_after : (u w : Option KeyChange) → or_else (one_unlike w u) (cond (is_some (one_under u w)) None u) ≡ w
one_after None None = refl
one_after None (Some w) = refl
one_after (Some u) None = refl
one_after (Some u) (Some w) = changed_one (same_change w u) w u refl

pub after_written : (u w : ChangeSet) → AreTexts (merge one_under u w) → AreTexts (merge one_unlike w u) → after_boundary u (boundary_between u w) ≡ w
after_written u w s t = alike _ _ (λ q.
    get_with (change_list (unlike w u)) (without u (key_list (ended u w))) q (ascending_list (unlike w u) t)
    ∙ (λ i. or_else (get (list_value (unlike w u) t i) q) (get_without (key_list (ended u w)) u q i))
    ∙ (λ i. or_else (get-merge one_unlike w u q refl i) (cond (among_list q (ended u w) s i) None (get u q)))
    ∙ ap (λ x. or_else (one_unlike (get w q) (get u q)) (cond (is_some x) None (get u q))) (get-merge one_under u w q refl)
    ∙ one_after (get u q) (get w q))

pub after_between : (u w : ChangeSet) → AreTexts u → AreTexts w → after_boundary u (boundary_between u w) ≡ w
after_between u w h k = after_written u w (texts_joined Under u w h k) (texts_joined Unlike w u k h)

-- ---- that it fits

abbrev Runs : ChangeSet → Key → KeyChange → Type 0
Runs u k c = IsText k c × (contains_key u k ≡ true)

ends_after : (u : ChangeSet) (p : Key) (es : List Entry) → encode_utf8_all (chars p) ≡ p → below p es ≡ true → rising es ≡ true → Each (Runs u) es → EndsFit u (Some (chars p)) (map chars (map (λ e. e.0) es))
ends_after u p [] s b h f = tt
ends_after u p (e ∷ es) s b h f =
    let own = encoded e.0 (key_text e.0 e.1 f.0.0) in
    let first = and_parts (is_lt (slice_cmp nat_cmp p e.0)) (below p es) b in (
      (λ i. is_lt (slice_cmp nat_cmp (s i) (own i))) ∙ first.0,
      ap (contains_key u) own ∙ f.0.1,
      ends_after u e.0 es own (and_parts (below e.0 es) (rising es) h).0 (rising_tail e es h) f.1,
    )

ends_fit : (u : ChangeSet) (es : List Entry) → rising es ≡ true → Each (Runs u) es → EndsFit u None (map chars (map (λ e. e.0) es))
ends_fit u [] h f = tt
ends_fit u (e ∷ es) h f =
    let own = encoded e.0 (key_text e.0 e.1 f.0.0) in (
      refl,
      ap (contains_key u) own ∙ f.0.1,
      ends_after u e.0 es own (and_parts (below e.0 es) (rising es) h).0 (rising_tail e es h) f.1,
    )

ran : (u w : Option KeyChange) (c : KeyChange) → one_under u w ≡ Some c → is_some u ≡ true
ran None None c e = ap is_some e
ran None (Some w) c e = absurd (true≢false (sym (ap is_some e)))
ran (Some u) w c e = refl

not_ended : (u w : Option KeyChange) (c : KeyChange) → one_unlike w u ≡ Some c → is_some (one_under u w) ≡ false
not_ended u None c e = absurd (true≢false (sym (ap is_some e)))
not_ended u (Some w) c e = refl

abbrev Unended : ChangeSet → Key → KeyChange → Type 0
Unended m k c = IsText k c × (contains_key m k ≡ false)

none_named : (m : ChangeSet) (es : List Entry) → AreTexts m → Each (Unended m) es → NoneNamed (key_list m) (map as_change es)
none_named m [] t f = tt
none_named m (e ∷ es) t f = (
  ap (λ q. among q (key_list m)) (encoded e.0 (key_text e.0 e.1 f.0.0)) ∙ among_list e.0 m t ∙ f.0.1,
  none_named m es t f.1,
)

pub fits_written : (u w : ChangeSet) → AreTexts (merge one_under u w) → AreTexts (merge one_unlike w u) → Fits u (boundary_between u w)
fits_written u w s t = (
  ends_fit u (entries (ended u w)) (rising_entries (ended u w)) (each_of (Runs u) (ended u w) (λ q c e. (ap (is_text_at q) (sym e) ∙ s q, ran (get u q) (get w q) c (sym (get-merge one_under u w q refl) ∙ e)))),
  ascending_list (unlike w u) t,
  none_named (ended u w) (entries (unlike w u)) s (each_of (Unended (ended u w)) (unlike w u) (λ q c e. (
    ap (is_text_at q) (sym e) ∙ t q,
    ap is_some (get-merge one_under u w q refl) ∙ not_ended (get u q) (get w q) c (sym (get-merge one_unlike w u q refl) ∙ e),
  ))),
)

pub fits_between : (u w : ChangeSet) → AreTexts u → AreTexts w → Fits u (boundary_between u w)
fits_between u w h k = fits_written u w (texts_joined Under u w h k) (texts_joined Unlike w u k h)
