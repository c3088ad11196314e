-- Changed versions as their map changes.
--     put_version       a version is put at a document
--     put_first         the first one, 0, is put at a document that has none
--     unchanged         nothing is put
--     stays             what there is room for stays
--     note_next, noted_all    an operation more is noted
use Rattle.std.proofs.Common.{◌≡◌, ℕ, ◌+◌, ◌<◌, ◌≤◌, Bool, true, false, cond, ◌||◌, List, ◌∷◌, length, drop, get_or, drop-cons, add-one, refl, sym, ap, subst, ◌∙◌, Option, Some, None, unwrap_or, is_some, is_eq, IsSome, true≢false}
use Rattle.std.specs.BTreeMap as tree
use Rattle.std.specs.Cmp.Lexicographic.{slice_cmp, texts_ties, bytes_decides}
use Rattle.std.specs.List.{All}
use Rattle.std.specs.Map.{lookup}
use Rattle.std.specs.Ordering.{nat_cmp}
use Rattle.std.proofs.Math.ListN.{drop_of_length-le}
use Rattle.std.proofs.lemmas.List.Elements.{All-weaker}
use Rattle.doc_items.specs.Maps.{Key, same_text}
use Rattle.document_words.proofs.Counting.{counts_at}
use Rattle.wavelet_op.specs.Acts.{meaning, meanings}
use Rattle.wavelet_op.specs.declared.op.WaveletOp.{WaveletOp}
use Rattle.wavelet_op.specs.declared.op.WaveletOp.TheVariants.{NoOp, Add, Remove, Mutate, SetRole}
use Rattle.wave_index.specs.Changes.{changes, is_changed}
use Rattle.wave_index.specs.Versions.{Versions, version_in, IsThere, KeepsAll, HasRoom}

there_still : (b : Bool) (v : ℕ) (o : Option ℕ) → IsSome o → IsSome (cond b (Some v) o)
there_still true v o h = refl
there_still false v o h = h

-- what a map answers after a change at k
abbrev pub Answers : Versions → Versions → Key → ℕ → Type 0
Answers m n k v = (q : Key) → tree.get (slice_cmp nat_cmp) n q ≡ cond (is_eq (slice_cmp nat_cmp k q)) (Some v) (tree.get (slice_cmp nat_cmp) m q)

pub put_version : (m n : Versions) (k : Key) (v : ℕ) → Answers m n k v → (q : Key) → version_in n q ≡ cond (same_text k q) v (version_in m q)
put_version m n k v u q = counts_at m n k (Some v) u q

pub put_stays : (m n : Versions) (k : Key) (v : ℕ) → Answers m n k v → (q : Key) → IsThere m q → IsThere n q
put_stays m n k v u q h = subst (λ (o : Option ℕ). IsSome o) (sym (u q)) (there_still (is_eq (slice_cmp nat_cmp k q)) v (tree.get (slice_cmp nat_cmp) m q) h)

none_of : {A : Type 0} (o : Option A) → is_some o ≡ false → o ≡ None
none_of None e = refl
none_of (Some x) e = absurd (true≢false e)

still_zero : (m : Versions) (k q : Key) → tree.get (slice_cmp nat_cmp) m k ≡ None → (b : Bool) → same_text k q ≡ b → cond b 0 (version_in m q) ≡ version_in m q
still_zero m k q none true e = sym (ap (λ (o : Option ℕ). unwrap_or o 0) (subst (λ z. tree.get (slice_cmp nat_cmp) m z ≡ None) ((bytes_decides k q).0 e) none))
still_zero m k q none false e = refl

pub put_first : (m n : Versions) (k k' : Key) → is_some (tree.get (slice_cmp nat_cmp) m k) ≡ false → k' ≡ k → Answers m n k' 0 → KeepsAll m n
put_first m n k k' none same u = record {
  same = λ q. put_version m n k' 0 u q ∙ still_zero m k' q (subst (λ z. tree.get (slice_cmp nat_cmp) m z ≡ None) (sym same) (none_of _ none)) (same_text k' q) refl;
  stay = put_stays m n k' 0 u;
}

pub unchanged : (m n : Versions) → tree.IsUnchanged m n → KeepsAll m n
unchanged m n e = record {
  same = λ q. ap (λ es. unwrap_or (lookup (λ k. is_eq (slice_cmp nat_cmp q k)) es) 0) e;
  stay = λ q h. subst (λ (o : Option ℕ). IsSome o) (sym (ap (lookup (λ k. is_eq (slice_cmp nat_cmp q k))) e)) h;
}

pub keeps_itself : (m : Versions) → KeepsAll m m
keeps_itself m = record { same = λ q. refl; stay = λ q h. h }

pub keeps_on : (m n o : Versions) → KeepsAll m n → KeepsAll n o → KeepsAll m o
keeps_on m n o f g = record { same = λ q. g.same q ∙ f.same q; stay = λ q h. g.stay q (f.stay q h) }

room_stays : (m n : Versions) → ((q : Key) → IsThere m q → IsThere n q) → (o : WaveletOp) → HasRoom m o → HasRoom n o
room_stays m n f NoOp h = tt
room_stays m n f (Add a) h = tt
room_stays m n f (Remove a) h = tt
room_stays m n f (Mutate d op) h = f d h
room_stays m n f (SetRole a old new) h = tt

pub stays : (m n : Versions) → ((q : Key) → IsThere m q → IsThere n q) → (ops : List WaveletOp) → All (HasRoom m) ops → All (HasRoom n) ops
stays m n f ops h = All-weaker (HasRoom m) (HasRoom n) (room_stays m n f) ops h

-- ---- operations one by one

pub cons_at : {X : Type 0} (xs : List X) (i : ℕ) (x : X) → i < length xs → x ≡ get_or xs i x → drop i xs ≡ x ∷ drop (i + 1) xs
cons_at xs i x h is = drop-cons xs i x h ∙ (λ k. sym is k ∷ drop (sym (add-one i) k) xs)

in_turn : (r c : Bool) (v x : ℕ) → cond r v (cond c v x) ≡ cond (c || r) v x
in_turn r true v x = both r
  where
    both : (b : Bool) → cond b v v ≡ v
    both true = refl
    both false = refl
in_turn r false v x = refl

pub note_next : (m n : Versions) (v : ℕ) (ops : List WaveletOp) (i : ℕ) (o : WaveletOp) → i < length ops → o ≡ get_or ops i o → ((d : Key) → version_in n d ≡ cond (changes d (meaning o)) v (version_in m d))
    → (d : Key) → cond (is_changed d (meanings (drop (i + 1) ops))) v (version_in n d) ≡ cond (is_changed d (meanings (drop i ops))) v (version_in m d)
note_next m n v ops i o h is e d =
    ap (cond (is_changed d (meanings (drop (i + 1) ops))) v) (e d)
    ∙ in_turn (is_changed d (meanings (drop (i + 1) ops))) (changes d (meaning o)) v (version_in m d)
    ∙ ap (λ xs. cond (is_changed d (meanings xs)) v (version_in m d)) (sym (cons_at ops i o h is))

pub noted_all : (n : Versions) (v : ℕ) (ops : List WaveletOp) (i : ℕ) (d : Key) → length ops ≤ i → version_in n d ≡ cond (is_changed d (meanings (drop i ops))) v (version_in n d)
noted_all n v ops i d h = ap (λ xs. cond (is_changed d (meanings xs)) v (version_in n d)) (sym (drop_of_length-le ops h))
