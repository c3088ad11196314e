-- What components hold is read as it is written.
--     lists                     lists of what is read as it is written
--     attribute_lists           attributes, whose entries are inserted in order
--     changes, boundaries, elements, replacements
use Rattle.std.proofs.Common.{◌≡◌, ℕ, zero, suc, ◌^◌, ◌<◌, cond, List, [], ◌∷◌, ◌++◌, length, Option, Some, None, refl, sym, ap, subst, ◌∙◌, append_assoc, append-nil}
use Rattle.std.specs.List.{flat_map, AllByRecursion}
use Rattle.std.specs.Int.{w32, to_be_bytes}
use Rattle.std.specs.FinMap as finite
use Rattle.std.proofs.lemmas.List.Concat.{flat_map-cons}
use Rattle.doc_items.specs.Maps.{Key, Map, is_next}
use Rattle.doc_items.specs.declared.change.Change.{Change}
use Rattle.doc_items.specs.declared.change.Boundary.{Boundary}
use Rattle.doc_items.proofs.Rising.{entries_rise, Follow, follow_rising, rising_follow, insert_all, all_inserted, entries-inserted}
use Rattle.op_codec.specs.Spelling.{text, optional, listed, attribute, attributes, change, boundary, IsText, IsAttribute, AreAll, AreAttributes, IsChange, IsBoundary}
use Rattle.op_codec.specs.Reading.{Read, ◌>>=◌, number_at, text_at, optional_at, list_of, list_at, attribute_at, attributes_of, attributes_at, change_at, boundary_at, element_at, replaced_at}
use Rattle.op_codec.proofs.Fields.{IsBytes, bind_some, guard_on, some_is, Takes, Takes-then, IsCodec, counts, keys, texts, optionals, pairs}

-- ---- lists

-- what was read after `done`
record Adds {X : Type 0} (spell : X → List ℕ) (Valid : X → Type 0) (done : List X) (n : ℕ) (bytes : List ℕ) (r : List X × List ℕ) : Type 0 where
  more : List X
  all : r.0 ≡ done ++ more
  len : length more ≡ n
  valid : AllByRecursion Valid more
  takes : Takes bytes (flat_map spell more) r.1

module _ {X : Type 0} {at : List ℕ → Read X} {spell : X → List ℕ} {Valid : X → Type 0} (one : IsCodec at spell Valid) where
  list_takes : (done : List X) (n : ℕ) (bytes : List ℕ) (r : List X × List ℕ) → IsBytes bytes → list_of at done n bytes ≡ Some r → Adds spell Valid done n bytes r
  unfolding list_of
  list_takes done zero bytes r fits e =
      subst (λ (p : List X × List ℕ). Adds spell Valid done 0 bytes p) (some_is (done, bytes) r e)
      (record { more = []; all = sym (append-nil done); len = refl; valid = tt; takes = record { parts = refl; rest_fits = fits } })
  list_takes done (suc n) bytes r fits e =
      let a = bind_some (at bytes) (λ x. list_of at (done ++ x.0 ∷ []) n x.1) r e in
      let t = one.takes bytes a.0 fits a.1 in
      let u = list_takes (done ++ a.0.0 ∷ []) n a.0.1 r t.0.rest_fits a.2 in
      record {
        more = a.0.0 ∷ u.more;
        all = u.all ∙ append_assoc done (a.0.0 ∷ []) u.more;
        len = ap suc u.len;
        valid = (t.1, u.valid);
        takes = rw flat_map-cons (Takes-then bytes (spell a.0.0) a.0.1 (flat_map spell u.more) r.1 t.0 u.takes);
      }

  list_again : (done xs : List X) (rest : List ℕ) → AllByRecursion Valid xs → list_of at done (length xs) (flat_map spell xs ++ rest) ≡ Some (done ++ xs, rest)
  unfolding list_of
  list_again done [] rest h = ap (λ (xs : List X). Some (xs, rest)) (sym (append-nil done))
  list_again done (x ∷ xs) rest h =
      ap (λ (bytes : List ℕ). list_of at done (suc (length xs)) (bytes ++ rest)) (flat_map-cons spell x xs)
      ∙ ap (list_of at done (suc (length xs))) (append_assoc (spell x) (flat_map spell xs) rest)
      ∙ ap (λ r. r >>= λ y. list_of at (done ++ y.0 ∷ []) (length xs) y.1) (one.again x (flat_map spell xs ++ rest) h.0)
      ∙ list_again (done ++ x ∷ []) xs rest h.1
      ∙ ap (λ (l : List X). Some (l, rest)) (append_assoc done (x ∷ []) xs)

  all_take : (bytes : List ℕ) (r : List X × List ℕ) → IsBytes bytes → list_at at bytes ≡ Some r → Takes bytes (listed spell r.0) r.1 × AreAll Valid r.0
  unfolding list_at
  all_take bytes r fits e =
      let a = bind_some (number_at w32 bytes) (λ n. list_of at [] n.0 n.1) r e in
      let t = counts.takes bytes a.0 fits a.1 in
      let u = list_takes [] a.0.0 a.0.1 r t.0.rest_fits a.2 in
      let both : Takes bytes (to_be_bytes w32 a.0.0 ++ flat_map spell u.more) r.1 = Takes-then bytes (to_be_bytes w32 a.0.0) a.0.1 (flat_map spell u.more) r.1 t.0 u.takes in
      let counted : Takes bytes (listed spell u.more) r.1 = subst (λ (k : ℕ). Takes bytes (to_be_bytes w32 k ++ flat_map spell u.more) r.1) (sym u.len) both in
      subst (λ (l : List X). Takes bytes (listed spell l) r.1 × AreAll Valid l) (sym u.all) (counted, (subst (λ (k : ℕ). k < 2 ^ 32) (sym u.len) t.1, u.valid))

  all_again : (xs : List X) (rest : List ℕ) → AreAll Valid xs → list_at at (listed spell xs ++ rest) ≡ Some (xs, rest)
  unfolding list_at
  all_again xs rest h =
      ap (λ (bytes : List ℕ). number_at w32 bytes >>= λ n. list_of at [] n.0 n.1) (append_assoc (to_be_bytes w32 (length xs)) (flat_map spell xs) rest)
      ∙ ap (λ r. r >>= λ n. list_of at [] n.0 n.1) (counts.again (length xs) (flat_map spell xs ++ rest) h.0)
      ∙ list_again [] xs rest h.1

  pub lists : IsCodec (list_at at) (listed spell) (AreAll Valid)
  lists = record { takes = all_take; again = all_again }

-- ---- attributes

attribute_pairs : IsCodec attribute_at attribute IsAttribute
unfolding attribute_at
attribute_pairs = pairs keys keys

record Inserts (m : Map Key) (last : Option Key) (n : ℕ) (bytes : List ℕ) (r : Map Key × List ℕ) : Type 0 where
  more : List (Key × Key)
  all : r.0 ≡ insert_all m more
  follow : Follow last more
  len : length more ≡ n
  valid : AllByRecursion IsAttribute more
  takes : Takes bytes (flat_map attribute more) r.1

attributes_take : (m : Map Key) (last : Option Key) (n : ℕ) (bytes : List ℕ) (r : Map Key × List ℕ) → IsBytes bytes → attributes_of m last n bytes ≡ Some r → Inserts m last n bytes r
unfolding attributes_of
attributes_take m last zero bytes r fits e =
    subst (λ (p : Map Key × List ℕ). Inserts m last 0 bytes p) (some_is (m, bytes) r e)
    (record { more = []; all = refl; follow = tt; len = refl; valid = tt; takes = record { parts = refl; rest_fits = fits } })
attributes_take m last (suc n) bytes r fits e =
    let a = bind_some (attribute_at bytes) (λ x. cond (is_next last x.0.0) (attributes_of (finite.insert m x.0.0 x.0.1) (Some x.0.0) n x.1) None) r e in
    let g = guard_on (is_next last a.0.0.0) (attributes_of (finite.insert m a.0.0.0 a.0.0.1) (Some a.0.0.0) n a.0.1) r a.2 in
    let t = attribute_pairs.takes bytes a.0 fits a.1 in
    let u = attributes_take (finite.insert m a.0.0.0 a.0.0.1) (Some a.0.0.0) n a.0.1 r t.0.rest_fits g.1 in
    record {
      more = a.0.0 ∷ u.more;
      all = u.all;
      follow = (g.0, u.follow);
      len = ap suc u.len;
      valid = (t.1, u.valid);
      takes = rw flat_map-cons (Takes-then bytes (attribute a.0.0) a.0.1 (flat_map attribute u.more) r.1 t.0 u.takes);
    }

attributes_again : (m : Map Key) (last : Option Key) (es : List (Key × Key)) (rest : List ℕ) → Follow last es → AllByRecursion IsAttribute es
    → attributes_of m last (length es) (flat_map attribute es ++ rest) ≡ Some (insert_all m es, rest)
unfolding attributes_of
attributes_again m last [] rest f h = refl
attributes_again m last (e ∷ es) rest f h =
    ap (λ (bytes : List ℕ). attributes_of m last (suc (length es)) (bytes ++ rest)) (flat_map-cons attribute e es)
    ∙ ap (attributes_of m last (suc (length es))) (append_assoc (attribute e) (flat_map attribute es) rest)
    ∙ ap (λ r. r >>= λ x. cond (is_next last x.0.0) (attributes_of (finite.insert m x.0.0 x.0.1) (Some x.0.0) (length es) x.1) None) (attribute_pairs.again e (flat_map attribute es ++ rest) h.0)
    ∙ ap (λ b. cond b (attributes_of (finite.insert m e.0 e.1) (Some e.0) (length es) (flat_map attribute es ++ rest)) None) f.0
    ∙ attributes_again (finite.insert m e.0 e.1) (Some e.0) es rest f.1 h.1

map_takes : (bytes : List ℕ) (r : Map Key × List ℕ) → IsBytes bytes → attributes_at bytes ≡ Some r → Takes bytes (attributes r.0) r.1 × AreAttributes r.0
unfolding attributes_at
map_takes bytes r fits e =
    let a = bind_some (number_at w32 bytes) (λ n. attributes_of finite.empty None n.0 n.1) r e in
    let t = counts.takes bytes a.0 fits a.1 in
    let u = attributes_take finite.empty None a.0.0 a.0.1 r t.0.rest_fits a.2 in
    let same : finite.entries r.0 ≡ u.more = ap finite.entries u.all ∙ entries-inserted u.more (follow_rising None u.more u.follow) in
    let both : Takes bytes (to_be_bytes w32 a.0.0 ++ flat_map attribute u.more) r.1 = Takes-then bytes (to_be_bytes w32 a.0.0) a.0.1 (flat_map attribute u.more) r.1 t.0 u.takes in
    let counted : Takes bytes (listed attribute u.more) r.1 = subst (λ (k : ℕ). Takes bytes (to_be_bytes w32 k ++ flat_map attribute u.more) r.1) (sym u.len) both in
    subst (λ (l : List (Key × Key)). Takes bytes (listed attribute l) r.1 × AreAll IsAttribute l) (sym same) (counted, (subst (λ (k : ℕ). k < 2 ^ 32) (sym u.len) t.1, u.valid))

map_again : (m : Map Key) (rest : List ℕ) → AreAttributes m → attributes_at (attributes m ++ rest) ≡ Some (m, rest)
unfolding attributes_at
map_again m rest h =
    ap (λ (bytes : List ℕ). number_at w32 bytes >>= λ n. attributes_of finite.empty None n.0 n.1) (append_assoc (to_be_bytes w32 (length (finite.entries m))) (flat_map attribute (finite.entries m)) rest)
    ∙ ap (λ r. r >>= λ n. attributes_of finite.empty None n.0 n.1) (counts.again (length (finite.entries m)) (flat_map attribute (finite.entries m) ++ rest) h.0)
    ∙ attributes_again finite.empty None (finite.entries m) rest (rising_follow (finite.entries m) (entries_rise m)) h.1
    ∙ ap (λ (n : Map Key). Some (n, rest)) (all_inserted m)

pub attribute_lists : IsCodec attributes_at attributes AreAttributes
attribute_lists = record { takes = map_takes; again = map_again }

-- ---- what is made of two or three

pub elements : IsCodec element_at (λ p. text p.0 ++ attributes p.1) (λ p. IsText p.0 × AreAttributes p.1)
unfolding element_at
elements = pairs texts attribute_lists

pub replacements : IsCodec replaced_at (λ p. attributes p.0 ++ attributes p.1) (λ p. AreAttributes p.0 × AreAttributes p.1)
unfolding replaced_at
replacements = pairs attribute_lists attribute_lists

abbrev made_change : List ℕ → Option (List ℕ) → Option (List ℕ) → Change
made_change key old new = record { key = key; old = old; new = new }

change_takes : (bytes : List ℕ) (r : Change × List ℕ) → IsBytes bytes → change_at bytes ≡ Some r → Takes bytes (change r.0) r.1 × IsChange r.0
unfolding change_at
change_takes bytes r fits e =
    let a = bind_some (text_at bytes) (λ k. optional_at k.1 >>= λ o. optional_at o.1 >>= λ n. Some (made_change k.0 o.0 n.0, n.1)) r e in
    let b = bind_some (optional_at a.0.1) (λ o. optional_at o.1 >>= λ n. Some (made_change a.0.0 o.0 n.0, n.1)) r a.2 in
    let c = bind_some (optional_at b.0.1) (λ n. Some (made_change a.0.0 b.0.0 n.0, n.1)) r b.2 in
    let t0 = texts.takes bytes a.0 fits a.1 in
    let t1 = optionals.takes a.0.1 b.0 t0.0.rest_fits b.1 in
    let t2 = optionals.takes b.0.1 c.0 t1.0.rest_fits c.1 in
    let e12 = Takes-then a.0.1 (optional b.0.0) b.0.1 (optional c.0.0) c.0.1 t1.0 t2.0 in
    let e02 = Takes-then bytes (text a.0.0) a.0.1 (optional b.0.0 ++ optional c.0.0) c.0.1 t0.0 e12 in
    subst (λ (p : Change × List ℕ). Takes bytes (change p.0) p.1 × IsChange p.0) (some_is (made_change a.0.0 b.0.0 c.0.0, c.0.1) r c.2) (e02, (t0.1, t1.1, t2.1))

change_again : (c : Change) (rest : List ℕ) → IsChange c → change_at (change c ++ rest) ≡ Some (c, rest)
unfolding change_at
change_again c rest h =
    let regrouped : change c ++ rest ≡ text c.key ++ (optional c.old ++ (optional c.new ++ rest)) = append_assoc (text c.key) (optional c.old ++ optional c.new) rest ∙ ap (λ (x : List ℕ). text c.key ++ x) (append_assoc (optional c.old) (optional c.new) rest) in
    ap change_at regrouped ∙ rw (texts.again c.key (optional c.old ++ (optional c.new ++ rest)) h.0, optionals.again c.old (optional c.new ++ rest) h.1, optionals.again c.new rest h.2) refl

pub changes : IsCodec change_at change IsChange
changes = record { takes = change_takes; again = change_again }

abbrev made_boundary : List (List ℕ) → List Change → Boundary
made_boundary end change = record { end = end; change = change }

boundary_takes : (bytes : List ℕ) (r : Boundary × List ℕ) → IsBytes bytes → boundary_at bytes ≡ Some r → Takes bytes (boundary r.0) r.1 × IsBoundary r.0
unfolding boundary_at
boundary_takes bytes r fits e =
    let a = bind_some (list_at text_at bytes) (λ k. list_at change_at k.1 >>= λ c. Some (made_boundary k.0 c.0, c.1)) r e in
    let b = bind_some (list_at change_at a.0.1) (λ c. Some (made_boundary a.0.0 c.0, c.1)) r a.2 in
    let t0 = (lists texts).takes bytes a.0 fits a.1 in
    let t1 = (lists changes).takes a.0.1 b.0 t0.0.rest_fits b.1 in
    let e01 = Takes-then bytes (listed text a.0.0) a.0.1 (listed change b.0.0) b.0.1 t0.0 t1.0 in
    subst (λ (p : Boundary × List ℕ). Takes bytes (boundary p.0) p.1 × IsBoundary p.0) (some_is (made_boundary a.0.0 b.0.0, b.0.1) r b.2) (e01, (t0.1, t1.1))

boundary_again : (b : Boundary) (rest : List ℕ) → IsBoundary b → boundary_at (boundary b ++ rest) ≡ Some (b, rest)
unfolding boundary_at
boundary_again b rest h =
    ap boundary_at (append_assoc (listed text b.end) (listed change b.change) rest)
    ∙ rw ((lists texts).again b.end (listed change b.change ++ rest) h.0, (lists changes).again b.change rest h.1) refl

pub boundaries : IsCodec boundary_at boundary IsBoundary
boundaries = record { takes = boundary_takes; again = boundary_again }
