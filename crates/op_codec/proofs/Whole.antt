-- Components and operations are read as they are written, and so no spelling begins another.
--     components            a component by its tag
--     operation_takes, operation_again     an operation
--     read_once             a spelling at the front of bytes is the only one
use Rattle.std.proofs.Common.{◌≡◌, ℕ, zero, suc, ◌^◌, ◌<◌, Bool, true, false, cond, List, [], ◌∷◌, ◌++◌, length, Option, Some, None, is_none, refl, sym, ap, subst, ◌∙◌, append_assoc, append-nil, eqb}
use Rattle.std.specs.List.{flat_map, AllByRecursion}
use Rattle.std.specs.Int.{w32, to_be_bytes}
use Rattle.std.proofs.lemmas.Bool.{eqb-true}
use Rattle.std.proofs.lemmas.List.Concat.{flat_map-cons}
use Rattle.doc_op.specs.declared.component.Component.{Component}
use Rattle.doc_op.specs.declared.component.Component.TheVariants.{Retain, Characters, ElementStart, ElementEnd, DeleteCharacters, DeleteElementStart, DeleteElementEnd, ReplaceAttributes, UpdateAttributes, AnnotationBoundary}
use Rattle.doc_op.specs.Refusals.{refusal, takes, BuiltFrom, IsBuilt}
use Rattle.op_codec.specs.Spelling.{component, spelling, IsComponent, IsSpelled}
use Rattle.op_codec.specs.Reading.{Read, ◌>>=◌, number_at, made, tagged_at, component_at, components_of, operation_at}
use Rattle.op_codec.proofs.Fields.{IsBytes, IsBytes-rest, bind_some, guard_on, some_is, Takes, Takes-then, IsCodec, counts, numbers, texts}
use Rattle.op_codec.proofs.Lists.{lists, changes, boundaries, elements, replacements}

-- ---- a component

-- what is read after a tag
abbrev Behind : ℕ → List ℕ → Component × List ℕ → Type 0
Behind tag bytes r = Takes (tag ∷ bytes) (component r.0) r.1 × IsComponent r.0

module _ {X : Type 0} {at : List ℕ → Read X} {spell : X → List ℕ} {Valid : X → Type 0} (one : IsCodec at spell Valid) (f : X → Component) (tag : ℕ)
    (same : (x : X) → component (f x) ≡ tag ∷ spell x) (valid : (x : X) → Valid x → IsComponent (f x)) where
  made_from : (bytes : List ℕ) (read : Read X) (r : Component × List ℕ) → made f read ≡ Some r → (x : X × List ℕ) × (read ≡ Some x) × ((f x.0, x.1) ≡ r)
  made_from bytes None r e = absurd cc
  made_from bytes (Some x) r e = (x, refl, some_is (f x.0, x.1) r e)

  made_takes : (bytes : List ℕ) (r : Component × List ℕ) → IsBytes bytes → made f (at bytes) ≡ Some r → Behind tag bytes r
  made_takes bytes r fits e =
      let a = made_from bytes (at bytes) r e in
      let t = one.takes bytes a.0 fits a.1 in
      subst (λ (p : Component × List ℕ). Behind tag bytes p) a.2
      (record { parts = ap (λ (w : List ℕ). tag ∷ w) t.0.parts ∙ ap (λ (w : List ℕ). w ++ a.0.1) (sym (same a.0.0)); rest_fits = t.0.rest_fits }, valid a.0.0 t.1)

end_takes : (tag : ℕ) (c : Component) (bytes : List ℕ) (r : Component × List ℕ) → IsBytes bytes → component c ≡ tag ∷ [] → IsComponent c → (c, bytes) ≡ r → Behind tag bytes r
end_takes tag c bytes r fits same valid e =
    subst (λ (p : Component × List ℕ). Behind tag bytes p) e (record { parts = ap (λ (w : List ℕ). w ++ bytes) (sym same); rest_fits = fits }, valid)

-- where the tag isn't this one, the next is looked at
split_tag : {A : Type 0} (b : Bool) (x y r : A) (P : Type 0) → cond b x y ≡ r → (b ≡ true → x ≡ r → P) → (y ≡ r → P) → P
split_tag true x y r P e here next = here refl e
split_tag false x y r P e here next = next e

-- where the test of a tag holds, it is that tag
here : (tag k : ℕ) (bytes : List ℕ) (r : Component × List ℕ) → Behind k bytes r → eqb tag k ≡ true → Behind tag bytes r
here tag k bytes r h e = subst (λ (t : ℕ). Behind t bytes r) (sym (eqb-true tag k e)) h

tagged_takes : (tag : ℕ) (bytes : List ℕ) (r : Component × List ℕ) → IsBytes bytes → tagged_at tag bytes ≡ Some r → Behind tag bytes r
unfolding tagged_at
tagged_takes tag bytes r fits e =
    split_tag (eqb tag 1) _ _ _ _ e (λ t x. here tag 1 bytes r (made_takes numbers Retain 1 (λ n. refl) (λ n h. h) bytes r fits x) t) (λ e2.
    split_tag (eqb tag 2) _ _ _ _ e2 (λ t x. here tag 2 bytes r (made_takes texts Characters 2 (λ n. refl) (λ n h. h) bytes r fits x) t) (λ e3.
    split_tag (eqb tag 3) _ _ _ _ e3 (λ t x. here tag 3 bytes r (made_takes elements (λ p. ElementStart p.0 p.1) 3 (λ n. refl) (λ n h. h) bytes r fits x) t) (λ e4.
    split_tag (eqb tag 4) _ _ _ _ e4 (λ t x. here tag 4 bytes r (end_takes 4 ElementEnd bytes r fits refl tt (some_is _ _ x)) t) (λ e5.
    split_tag (eqb tag 5) _ _ _ _ e5 (λ t x. here tag 5 bytes r (made_takes texts DeleteCharacters 5 (λ n. refl) (λ n h. h) bytes r fits x) t) (λ e6.
    split_tag (eqb tag 6) _ _ _ _ e6 (λ t x. here tag 6 bytes r (made_takes elements (λ p. DeleteElementStart p.0 p.1) 6 (λ n. refl) (λ n h. h) bytes r fits x) t) (λ e7.
    split_tag (eqb tag 7) _ _ _ _ e7 (λ t x. here tag 7 bytes r (end_takes 7 DeleteElementEnd bytes r fits refl tt (some_is _ _ x)) t) (λ e8.
    split_tag (eqb tag 8) _ _ _ _ e8 (λ t x. here tag 8 bytes r (made_takes replacements (λ p. ReplaceAttributes p.0 p.1) 8 (λ n. refl) (λ n h. h) bytes r fits x) t) (λ e9.
    split_tag (eqb tag 9) _ _ _ _ e9 (λ t x. here tag 9 bytes r (made_takes (lists changes) UpdateAttributes 9 (λ n. refl) (λ n h. h) bytes r fits x) t) (λ e10.
    split_tag (eqb tag 10) _ _ _ _ e10 (λ t x. here tag 10 bytes r (made_takes boundaries AnnotationBoundary 10 (λ n. refl) (λ n h. h) bytes r fits x) t) (λ e11. absurd cc))))))))))

component_takes : (bytes : List ℕ) (r : Component × List ℕ) → IsBytes bytes → component_at bytes ≡ Some r → Takes bytes (component r.0) r.1 × IsComponent r.0
unfolding component_at
component_takes [] r fits e = absurd cc
component_takes (tag ∷ bytes) r fits e = tagged_takes tag bytes r (IsBytes-rest tag bytes fits) e

component_again : (c : Component) (rest : List ℕ) → IsComponent c → component_at (component c ++ rest) ≡ Some (c, rest)
unfolding component_at tagged_at
component_again (Retain n) rest h = ap (made Retain) (numbers.again n rest h)
component_again (Characters t) rest h = ap (made Characters) (texts.again t rest h)
component_again (ElementStart kind m) rest h = ap (made (λ p. ElementStart p.0 p.1)) (elements.again (kind, m) rest h)
component_again ElementEnd rest h = refl
component_again (DeleteCharacters t) rest h = ap (made DeleteCharacters) (texts.again t rest h)
component_again (DeleteElementStart kind m) rest h = ap (made (λ p. DeleteElementStart p.0 p.1)) (elements.again (kind, m) rest h)
component_again DeleteElementEnd rest h = refl
component_again (ReplaceAttributes old new) rest h = ap (made (λ p. ReplaceAttributes p.0 p.1)) (replacements.again (old, new) rest h)
component_again (UpdateAttributes cs) rest h = ap (made UpdateAttributes) ((lists changes).again cs rest h)
component_again (AnnotationBoundary b) rest h = ap (made AnnotationBoundary) (boundaries.again b rest h)

pub components : IsCodec component_at component IsComponent
components = record { takes = component_takes; again = component_again }

-- ---- an operation

record Builds (done : List Component) (n : ℕ) (bytes : List ℕ) (r : List Component × List ℕ) : Type 0 where
  more : List Component
  all : r.0 ≡ done ++ more
  built : BuiltFrom done more
  len : length more ≡ n
  valid : AllByRecursion IsComponent more
  text : Takes bytes (flat_map component more) r.1

taken : (o : Option Rattle.doc_op.specs.declared.fault.OpFault.OpFault) → is_none o ≡ true → o ≡ None
taken None e = refl
taken (Some f) e = absurd cc

of_takes : (done : List Component) (n : ℕ) (bytes : List ℕ) (r : List Component × List ℕ) → IsBytes bytes → components_of done n bytes ≡ Some r → Builds done n bytes r
unfolding components_of
of_takes done zero bytes r fits e =
    subst (λ (p : List Component × List ℕ). Builds done 0 bytes p) (some_is (done, bytes) r e)
    (record { more = []; all = sym (append-nil done); built = tt; len = refl; valid = tt; text = record { parts = refl; rest_fits = fits } })
of_takes done (suc n) bytes r fits e =
    let a = bind_some (component_at bytes) (λ c. cond (takes done c.0) (components_of (done ++ c.0 ∷ []) n c.1) None) r e in
    let g = guard_on (takes done a.0.0) (components_of (done ++ a.0.0 ∷ []) n a.0.1) r a.2 in
    let t = components.takes bytes a.0 fits a.1 in
    let u = of_takes (done ++ a.0.0 ∷ []) n a.0.1 r t.0.rest_fits g.1 in
    record {
      more = a.0.0 ∷ u.more;
      all = u.all ∙ append_assoc done (a.0.0 ∷ []) u.more;
      built = (taken (refusal done a.0.0) g.0, u.built);
      len = ap suc u.len;
      valid = (t.1, u.valid);
      text = rw flat_map-cons (Takes-then bytes (component a.0.0) a.0.1 (flat_map component u.more) r.1 t.0 u.text);
    }

of_again : (done cs : List Component) (rest : List ℕ) → BuiltFrom done cs → AllByRecursion IsComponent cs
    → components_of done (length cs) (flat_map component cs ++ rest) ≡ Some (done ++ cs, rest)
unfolding components_of
of_again done [] rest b h = ap (λ (cs : List Component). Some (cs, rest)) (sym (append-nil done))
of_again done (c ∷ cs) rest b h =
    ap (λ (bytes : List ℕ). components_of done (suc (length cs)) (bytes ++ rest)) (flat_map-cons component c cs)
    ∙ ap (components_of done (suc (length cs))) (append_assoc (component c) (flat_map component cs) rest)
    ∙ ap (λ r. r >>= λ x. cond (takes done x.0) (components_of (done ++ x.0 ∷ []) (length cs) x.1) None) (components.again c (flat_map component cs ++ rest) h.0)
    ∙ ap (λ o. cond (is_none o) (components_of (done ++ c ∷ []) (length cs) (flat_map component cs ++ rest)) None) b.0
    ∙ of_again (done ++ c ∷ []) cs rest b.1 h.1
    ∙ ap (λ (l : List Component). Some (l, rest)) (append_assoc done (c ∷ []) cs)

-- what was read is a built operation, and spelled so
pub operation_takes : (bytes : List ℕ) (r : List Component × List ℕ) → IsBytes bytes → operation_at bytes ≡ Some r → Takes bytes (spelling r.0) r.1 × IsSpelled r.0 × IsBuilt r.0
unfolding operation_at
operation_takes bytes r fits e =
    let a = bind_some (number_at w32 bytes) (λ n. components_of [] n.0 n.1) r e in
    let t = counts.takes bytes a.0 fits a.1 in
    let u = of_takes [] a.0.0 a.0.1 r t.0.rest_fits a.2 in
    let both : Takes bytes (to_be_bytes w32 a.0.0 ++ flat_map component u.more) r.1 = Takes-then bytes (to_be_bytes w32 a.0.0) a.0.1 (flat_map component u.more) r.1 t.0 u.text in
    let counted : Takes bytes (spelling u.more) r.1 = subst (λ (k : ℕ). Takes bytes (to_be_bytes w32 k ++ flat_map component u.more) r.1) (sym u.len) both in
    subst (λ (l : List Component). Takes bytes (spelling l) r.1 × IsSpelled l × IsBuilt l) (sym u.all) (counted, (subst (λ (k : ℕ). k < 2 ^ 32) (sym u.len) t.1, u.valid), u.built)

-- a built operation that is spelled is read
pub operation_again : (cs : List Component) (rest : List ℕ) → IsBuilt cs → IsSpelled cs → operation_at (spelling cs ++ rest) ≡ Some (cs, rest)
unfolding operation_at
operation_again cs rest b h =
    ap (λ (bytes : List ℕ). number_at w32 bytes >>= λ n. components_of [] n.0 n.1) (append_assoc (to_be_bytes w32 (length cs)) (flat_map component cs) rest)
    ∙ ap (λ r. r >>= λ n. components_of [] n.0 n.1) (counts.again (length cs) (flat_map component cs ++ rest) h.0)
    ∙ of_again [] cs rest b h.1

-- a spelling at the front of bytes is the only one
pub read_once : (a b : List Component) (x y : List ℕ) → IsBuilt a → IsSpelled a → IsBuilt b → IsSpelled b → spelling a ++ x ≡ spelling b ++ y → (a ≡ b) × (x ≡ y)
read_once a b x y ba sa bb sb e =
    let same : (a, x) ≡ (b, y) = some_is (a, x) (b, y) (sym (operation_again a x ba sa) ∙ ap operation_at e ∙ operation_again b y bb sb) in
    (ap (λ (p : List Component × List ℕ). p.0) same, ap (λ (p : List Component × List ℕ). p.1) same)
