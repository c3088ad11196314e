-- What passes a test is read as it is written.
--     recast         the same reading, for what is valid and spelled alike
--     passings       a reading with a test
--     limited, addresses, names      counts, addresses, names of documents
use Rattle.std.proofs.Common.{◌≡◌, ℕ, ◌≤◌, Bool, true, cond, List, ◌++◌, Some, None, refl, sym, ap, subst, ◌∙◌, arith}
use Rattle.std.specs.Prelude.{nat_le}
use Rattle.std.proofs.lemmas.Bool.{leb-true, le-leb}
use Rattle.doc_items.specs.Limits.{max_count}
use Rattle.op_codec.specs.Spelling.{string}
use Rattle.op_codec.specs.Reading.{Read}
use Rattle.op_codec.proofs.Fields.{IsCodec, Takes, guard_on, some_is, numbers, keys}
use Rattle.wave_base.specs.Grammar.{is_address, is_id}
use Rattle.wave_base.proofs.Parts.{address-bound, id-bound}
use Rattle.wavelet_codec.specs.Spelling.{number}
use Rattle.wavelet_codec.proofs.Ascii.{address-text, id-text}
use Rattle.wavelet_codec.specs.Reading.{passing, count_at, address_at, document_at}

module _ {X : Type 0} {at : List ℕ → Read X} {spell other : X → List ℕ} {Valid Fine : X → Type 0} where
  pub recast : IsCodec at spell Valid → ((x : X) → Valid x → spell x ≡ other x) → ((x : X) → Valid x → Fine x) → ((x : X) → Fine x → Valid x) → IsCodec at other Fine
  recast one same to back = record {
    takes = λ bytes r fits e.
        let t = one.takes bytes r fits e in
        (subst (λ (w : List ℕ). Takes bytes w r.1) (same r.0 t.1) t.0, to r.0 t.1);
    again = λ x rest h. ap (λ (w : List ℕ). at (w ++ rest)) (sym (same x (back x h))) ∙ one.again x rest (back x h);
  }

module _ {X : Type 0} {at : List ℕ → Read X} {spell : X → List ℕ} {Valid : X → Type 0} (one : IsCodec at spell Valid) (test : X → Bool) where
  passed : (r : Read X) (x : X × List ℕ) → passing test r ≡ Some x → (r ≡ Some x) × (test x.0 ≡ true)
  passed None x e = absurd cc
  passed (Some y) x e =
      let g = guard_on (test y.0) (Some y) x e in
      (g.1, subst (λ (p : X × List ℕ). test p.0 ≡ true) (some_is y x g.1) g.0)

  pub passings : IsCodec (λ bytes. passing test (at bytes)) spell (λ x. Valid x × (test x ≡ true))
  passings = record {
    takes = λ bytes r fits e.
        let p = passed (at bytes) r e in
        let t = one.takes bytes r fits p.0 in
        (t.0, (t.1, p.1));
    again = λ x rest h. ap (passing test) (one.again x rest h.0) ∙ ap (λ b. cond b (Some (x, rest)) None) h.1;
  }

pub limited : IsCodec count_at number (λ n. n ≤ max_count)
unfolding count_at number
limited = recast (passings numbers (λ n. nat_le n max_count)) (λ n h. refl) (λ n h. leb-true n max_count h.1) (λ n h. (omega (arith, h), le-leb n max_count h))

pub addresses : IsCodec address_at string (λ k. is_address k ≡ true)
unfolding address_at
addresses = recast (passings keys is_address) (λ k h. refl) (λ k h. h.1) (λ k h. ((address-text k h, omega (arith, address-bound k h)), h))

pub names : IsCodec document_at string (λ k. is_id k ≡ true)
unfolding document_at
names = recast (passings keys is_id) (λ k h. refl) (λ k h. h.1) (λ k h. ((id-text k h, omega (arith, id-bound k h)), h))
