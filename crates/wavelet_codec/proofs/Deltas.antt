-- Operations and deltas are read as they are written.
--     ops            1 to 1,000 operations
--     delta_takes, delta_again     a delta
--     alike          the bytes of a delta are those of no other
--     is_delta, has_bytes, has_hash, read_again, is_refused      what a reading says of a delta
use Rattle.std.proofs.Common.{◌≡◌, ℕ, zero, suc, ◌^◌, ◌<◌, ◌≤◌, Bool, true, false, cond, ◌&&◌, List, [], ◌∷◌, ◌++◌, length, Option, Some, None, Result, Ok, Err, IfOk, IfErr, MatchResult, refl, sym, ap, subst, ◌∙◌, append_assoc, append-nil, arith, eqb}
use Rattle.std.specs.Prelude.{nat_le}
use Rattle.std.specs.List.{flat_map}
use Rattle.std.specs.Int.{w32, to_be_bytes}
use Rattle.std.proofs.lemmas.Bool.{eqb-true, eq-eqb, leb-true}
use Rattle.op_codec.specs.declared.fault.CodecFault.{CodecFault}
use Rattle.op_codec.specs.declared.fault.CodecFault.TheVariants.{BadBytes, Memory}
use Rattle.op_codec.specs.Spelling.{string, listed}
use Rattle.op_codec.specs.Canonical.{canonical, IsSpelling}
use Rattle.op_codec.specs.Reading.{Read, ◌>>=◌, Gives, number_at, list_of, list_at}
use Rattle.op_codec.proofs.Fields.{IsBytes, IsBytes-rest, bind_some, guard_on, some_is, Takes, Takes-then, IsCodec, counts, pairs}
use Rattle.op_codec.proofs.Lists.{lists}
use Rattle.wave_base.specs.Grammar.{is_address, is_id}
use Rattle.wave_base.specs.Versions.{IdOf}
use Rattle.wavelet_op.specs.declared.op.WaveletOp.{WaveletOp}
use Rattle.wavelet_op.specs.declared.op.WaveletOp.TheVariants.{NoOp, Add, Remove, Mutate, SetRole}
use Rattle.wavelet_op.specs.declared.role.Role.{Role}
use Rattle.wavelet_op.specs.declared.role.Role.TheVariants.{Full, ReadOnly}
use Rattle.wavelet_op.specs.Deltas.{DeltaOf, is_count}
use Rattle.wavelet_codec.specs.Spelling.{role_byte, roles, op_bytes, ops_bytes, format, number, id_bytes, delta_bytes, IsOp, AreOps, IsId, IsDelta, IsRefused, IsSameDelta}
use Rattle.wavelet_codec.specs.Reading.{count_at, address_at, role_at, roles_at, role_change_at, mutation_at, made, tagged_at, op_at, ops_at, made_id, id_at, is_nil, made_delta, tagged_delta_at, delta_at}
use Rattle.wavelet_codec.proofs.Alike.{both}
use Rattle.wavelet_codec.proofs.Names.{limited, addresses, names}
use Rattle.wavelet_codec.proofs.Normals.{normals}

-- ---- an operation

abbrev IsAny : Role → Type 0
IsAny r = Unit {0}

role_takes : (bytes : List ℕ) (r : Role × List ℕ) → IsBytes bytes → role_at bytes ≡ Some r → Takes bytes (role_byte r.0 ∷ []) r.1 × IsAny r.0
unfolding role_at
role_takes [] r fits e = absurd cc
role_takes (zero ∷ bytes) r fits e =
    subst (λ (p : Role × List ℕ). Takes (0 ∷ bytes) (role_byte p.0 ∷ []) p.1 × IsAny p.0) (some_is (Full, bytes) r e) (record { parts = refl; rest_fits = IsBytes-rest 0 bytes fits }, tt)
role_takes (suc zero ∷ bytes) r fits e =
    subst (λ (p : Role × List ℕ). Takes (1 ∷ bytes) (role_byte p.0 ∷ []) p.1 × IsAny p.0) (some_is (ReadOnly, bytes) r e) (record { parts = refl; rest_fits = IsBytes-rest 1 bytes fits }, tt)
role_takes (suc (suc b) ∷ bytes) r fits e = absurd cc

role_again : (r : Role) (rest : List ℕ) → IsAny r → role_at ((role_byte r ∷ []) ++ rest) ≡ Some (r, rest)
unfolding role_at
role_again Full rest h = refl
role_again ReadOnly rest h = refl

one_role : IsCodec role_at (λ r. role_byte r ∷ []) IsAny
one_role = record { takes = role_takes; again = role_again }

two_roles : IsCodec roles_at roles (λ r. IsAny r.0 × IsAny r.1)
unfolding roles_at
two_roles = pairs one_role one_role

role_changes : IsCodec role_change_at (λ p. string p.0 ++ roles p.1) (λ p. (is_address p.0 ≡ true) × (IsAny p.1.0 × IsAny p.1.1))
unfolding role_change_at
role_changes = pairs addresses two_roles

mutations : IsCodec mutation_at (λ p. string p.0 ++ canonical p.1) (λ p. (is_id p.0 ≡ true) × IsSpelling p.1)
unfolding mutation_at
mutations = pairs names normals

-- what is read after a tag
abbrev Behind : ℕ → List ℕ → WaveletOp × List ℕ → Type 0
Behind tag bytes r = Takes (tag ∷ bytes) (op_bytes r.0) r.1 × IsOp r.0

module _ {X : Type 0} {at : List ℕ → Read X} {spell : X → List ℕ} {Valid : X → Type 0} (one : IsCodec at spell Valid) (f : X → WaveletOp) (tag : ℕ)
    (same : (x : X) → op_bytes (f x) ≡ tag ∷ spell x) (valid : (x : X) → Valid x → IsOp (f x)) where
  made_from : (bytes : List ℕ) (read : Read X) (r : WaveletOp × List ℕ) → made f read ≡ Some r → (x : X × List ℕ) × (read ≡ Some x) × ((f x.0, x.1) ≡ r)
  made_from bytes None r e = absurd cc
  made_from bytes (Some x) r e = (x, refl, some_is (f x.0, x.1) r e)

  made_takes : (bytes : List ℕ) (r : WaveletOp × List ℕ) → IsBytes bytes → made f (at bytes) ≡ Some r → Behind tag bytes r
  made_takes bytes r fits e =
      let a = made_from bytes (at bytes) r e in
      let t = one.takes bytes a.0 fits a.1 in
      subst (λ (p : WaveletOp × List ℕ). Behind tag bytes p) a.2
      (record { parts = ap (λ (w : List ℕ). tag ∷ w) t.0.parts ∙ ap (λ (w : List ℕ). w ++ a.0.1) (sym (same a.0.0)); rest_fits = t.0.rest_fits }, valid a.0.0 t.1)

-- where the tag isn't this one, the next is looked at
split_tag : {A : Type 0} (b : Bool) (x y r : A) (P : Type 0) → cond b x y ≡ r → (b ≡ true → x ≡ r → P) → (y ≡ r → P) → P
split_tag true x y r P e here next = here refl e
split_tag false x y r P e here next = next e

-- where the test of a tag holds, it is that tag
here : (tag k : ℕ) (bytes : List ℕ) (r : WaveletOp × List ℕ) → Behind k bytes r → eqb tag k ≡ true → Behind tag bytes r
here tag k bytes r h e = subst (λ (t : ℕ). Behind t bytes r) (sym (eqb-true tag k e)) h

nothing_takes : (bytes : List ℕ) (r : WaveletOp × List ℕ) → IsBytes bytes → (NoOp, bytes) ≡ r → Behind 0 bytes r
nothing_takes bytes r fits e = subst (λ (p : WaveletOp × List ℕ). Behind 0 bytes p) e (record { parts = refl; rest_fits = fits }, tt)

tagged_takes : (tag : ℕ) (bytes : List ℕ) (r : WaveletOp × List ℕ) → IsBytes bytes → tagged_at tag bytes ≡ Some r → Behind tag bytes r
unfolding tagged_at
tagged_takes tag bytes r fits e =
    split_tag (eqb tag 0) _ _ _ _ e (λ t x. here tag 0 bytes r (nothing_takes bytes r fits (some_is _ _ x)) t) (λ e1.
    split_tag (eqb tag 1) _ _ _ _ e1 (λ t x. here tag 1 bytes r (made_takes addresses Add 1 (λ n. refl) (λ n h. h) bytes r fits x) t) (λ e2.
    split_tag (eqb tag 2) _ _ _ _ e2 (λ t x. here tag 2 bytes r (made_takes addresses Remove 2 (λ n. refl) (λ n h. h) bytes r fits x) t) (λ e3.
    split_tag (eqb tag 3) _ _ _ _ e3 (λ t x. here tag 3 bytes r (made_takes mutations (λ m. Mutate m.0 m.1) 3 (λ n. refl) (λ n h. h) bytes r fits x) t) (λ e4.
    split_tag (eqb tag 4) _ _ _ _ e4 (λ t x. here tag 4 bytes r (made_takes role_changes (λ s. SetRole s.0 s.1.0 s.1.1) 4 (λ n. refl) (λ n h. h.0) bytes r fits x) t) (λ e5. absurd cc)))))

op_takes : (bytes : List ℕ) (r : WaveletOp × List ℕ) → IsBytes bytes → op_at bytes ≡ Some r → Takes bytes (op_bytes r.0) r.1 × IsOp r.0
unfolding op_at
op_takes [] r fits e = absurd cc
op_takes (tag ∷ bytes) r fits e = tagged_takes tag bytes r (IsBytes-rest tag bytes fits) e

op_again : (o : WaveletOp) (rest : List ℕ) → IsOp o → op_at (op_bytes o ++ rest) ≡ Some (o, rest)
unfolding op_at tagged_at
op_again NoOp rest h = refl
op_again (Add a) rest h = ap (made Add) (addresses.again a rest h)
op_again (Remove a) rest h = ap (made Remove) (addresses.again a rest h)
op_again (Mutate d o) rest h = ap (made (λ m. Mutate m.0 m.1)) (mutations.again (d, o) rest h)
op_again (SetRole a old new) rest h = ap (made (λ s. SetRole s.0 s.1.0 s.1.1)) (role_changes.again (a, (old, new)) rest (h, (tt, tt)))

one_op : IsCodec op_at op_bytes IsOp
one_op = record { takes = op_takes; again = op_again }

-- ---- operations

few : (n : ℕ) → is_count n ≡ true → n < 2 ^ 32
few n e =
    let t = both (nat_le 1 n) (nat_le n 1000) e in
    let most : n ≤ 1000 = leb-true n 1000 t.1 in
    omega (arith, most)

ops_take : (bytes : List ℕ) (r : List WaveletOp × List ℕ) → IsBytes bytes → ops_at bytes ≡ Some r → Takes bytes (ops_bytes r.0) r.1 × AreOps r.0
unfolding ops_at ops_bytes list_at
ops_take bytes r fits e =
    let a = bind_some (number_at w32 bytes) (λ n. cond (is_count n.0) (list_of op_at [] n.0 n.1) None) r e in
    let g = guard_on (is_count a.0.0) (list_of op_at [] a.0.0 a.0.1) r a.2 in
    let whole : list_at op_at bytes ≡ Some r = ap (λ x. x >>= λ n. list_of op_at [] n.0 n.1) a.1 ∙ g.1 in
    let t = (lists one_op).takes bytes r fits whole in
    let counted : number_at w32 bytes ≡ Some (length r.0, flat_map op_bytes r.0 ++ r.1) =
    ap (number_at w32) (t.0.parts ∙ append_assoc (to_be_bytes w32 (length r.0)) (flat_map op_bytes r.0) r.1) ∙ counts.again (length r.0) (flat_map op_bytes r.0 ++ r.1) t.1.0 in
    let same : a.0.0 ≡ length r.0 = ap (λ (p : ℕ × List ℕ). p.0) (some_is _ _ (sym a.1 ∙ counted)) in
    (t.0, record { count = subst (λ (n : ℕ). is_count n ≡ true) same g.0; each = t.1.1 })

ops_again : (os : List WaveletOp) (rest : List ℕ) → AreOps os → ops_at (ops_bytes os ++ rest) ≡ Some (os, rest)
unfolding ops_at ops_bytes list_at
ops_again os rest h =
    let counted : number_at w32 (listed op_bytes os ++ rest) ≡ Some (length os, flat_map op_bytes os ++ rest) =
    ap (number_at w32) (append_assoc (to_be_bytes w32 (length os)) (flat_map op_bytes os) rest) ∙ counts.again (length os) (flat_map op_bytes os ++ rest) (few (length os) h.count) in
    let whole = (lists one_op).again os rest (few (length os) h.count, h.each) in
    ap (λ x. x >>= λ n. cond (is_count n.0) (list_of op_at [] n.0 n.1) None) counted
    ∙ ap (λ b. cond b (list_of op_at [] (length os) (flat_map op_bytes os ++ rest)) None) h.count
    ∙ sym (ap (λ x. x >>= λ n. list_of op_at [] n.0 n.1) counted) ∙ whole

pub ops : IsCodec ops_at ops_bytes AreOps
ops = record { takes = ops_take; again = ops_again }

-- ---- ids

id_takes : (bytes : List ℕ) (r : IdOf × List ℕ) → IsBytes bytes → id_at bytes ≡ Some r → Takes bytes (id_bytes r.0) r.1 × IsId r.0
unfolding id_at
id_takes bytes r fits e =
    let a = bind_some (address_at bytes) (λ k. count_at k.1 >>= λ c. count_at c.1 >>= λ n. Some (made_id k.0 c.0 n.0, n.1)) r e in
    let b = bind_some (count_at a.0.1) (λ c. count_at c.1 >>= λ n. Some (made_id a.0.0 c.0 n.0, n.1)) r a.2 in
    let c = bind_some (count_at b.0.1) (λ n. Some (made_id a.0.0 b.0.0 n.0, n.1)) r b.2 in
    let t0 = addresses.takes bytes a.0 fits a.1 in
    let t1 = limited.takes a.0.1 b.0 t0.0.rest_fits b.1 in
    let t2 = limited.takes b.0.1 c.0 t1.0.rest_fits c.1 in
    let e12 = Takes-then a.0.1 (number b.0.0) b.0.1 (number c.0.0) c.0.1 t1.0 t2.0 in
    let e02 = Takes-then bytes (string a.0.0) a.0.1 (number b.0.0 ++ number c.0.0) c.0.1 t0.0 e12 in
    subst (λ (p : IdOf × List ℕ). Takes bytes (id_bytes p.0) p.1 × IsId p.0) {x = (made_id a.0.0 b.0.0 c.0.0, c.0.1)} (some_is (made_id a.0.0 b.0.0 c.0.0, c.0.1) r c.2) (e02, record { author = t0.1; client = t1.1; number = t2.1 })

id_again : (i : IdOf) (rest : List ℕ) → IsId i → id_at (id_bytes i ++ rest) ≡ Some (i, rest)
unfolding id_at
id_again i rest h =
    let regrouped : id_bytes i ++ rest ≡ string i.author ++ (number i.client ++ (number i.number ++ rest)) = append_assoc (string i.author) (number i.client ++ number i.number) rest ∙ ap (λ (x : List ℕ). string i.author ++ x) (append_assoc (number i.client) (number i.number) rest) in
    ap id_at regrouped ∙ rw (addresses.again i.author (number i.client ++ (number i.number ++ rest)) h.author, limited.again i.client (number i.number ++ rest) h.client, limited.again i.number rest h.number) refl

ids : IsCodec id_at id_bytes IsId
ids = record { takes = id_takes; again = id_again }

-- ---- deltas

record IsRead (hash bytes : List ℕ) (d : DeltaOf) : Type 0 where
  is : IsDelta d
  spelled : bytes ≡ delta_bytes d
  known : d.from.hash ≡ hash

at_end : (bytes front rest : List ℕ) → bytes ≡ front ++ rest → rest ≡ [] → bytes ≡ front
at_end bytes front rest e none = e ∙ ap (λ (w : List ℕ). front ++ w) none ∙ append-nil front

no_more : (bytes : List ℕ) → is_nil bytes ≡ true → bytes ≡ []
no_more [] e = refl
no_more (b ∷ bytes) e = absurd (omega (arith, eqb-true (length (b ∷ bytes)) 0 e))

tagged_delta_takes : (hash : List ℕ) (tag : ℕ) (bytes : List ℕ) (d : DeltaOf) → IsBytes bytes → tagged_delta_at hash tag bytes ≡ Some d → IsRead hash (tag ∷ bytes) d
unfolding tagged_delta_at delta_bytes
tagged_delta_takes hash tag bytes d fits e =
    let last = λ (i : IdOf) (v t : ℕ) (o : List WaveletOp × List ℕ). cond (eqb tag (format o.0) && is_nil o.1) (Some (made_delta hash i v t o.0)) None in
    let a = bind_some (id_at bytes) (λ i. count_at i.1 >>= λ v. count_at v.1 >>= λ t. ops_at t.1 >>= λ o. last i.0 v.0 t.0 o) d e in
    let b = bind_some (count_at a.0.1) (λ v. count_at v.1 >>= λ t. ops_at t.1 >>= λ o. last a.0.0 v.0 t.0 o) d a.2 in
    let c = bind_some (count_at b.0.1) (λ t. ops_at t.1 >>= λ o. last a.0.0 b.0.0 t.0 o) d b.2 in
    let o = bind_some (ops_at c.0.1) (λ o. last a.0.0 b.0.0 c.0.0 o) d c.2 in
    let g = guard_on (eqb tag (format o.0.0) && is_nil o.0.1) (Some (made_delta hash a.0.0 b.0.0 c.0.0 o.0.0)) d o.2 in
    let tests = both (eqb tag (format o.0.0)) (is_nil o.0.1) g.0 in
    let t0 = ids.takes bytes a.0 fits a.1 in
    let t1 = limited.takes a.0.1 b.0 t0.0.rest_fits b.1 in
    let t2 = limited.takes b.0.1 c.0 t1.0.rest_fits c.1 in
    let t3 = ops.takes c.0.1 o.0 t2.0.rest_fits o.1 in
    let e23 = Takes-then b.0.1 (number c.0.0) c.0.1 (ops_bytes o.0.0) o.0.1 t2.0 t3.0 in
    let e13 = Takes-then a.0.1 (number b.0.0) b.0.1 (number c.0.0 ++ ops_bytes o.0.0) o.0.1 t1.0 e23 in
    let e03 = Takes-then bytes (id_bytes a.0.0) a.0.1 (number b.0.0 ++ (number c.0.0 ++ ops_bytes o.0.0)) o.0.1 t0.0 e13 in
    let behind : bytes ≡ id_bytes a.0.0 ++ (number b.0.0 ++ (number c.0.0 ++ ops_bytes o.0.0)) = at_end bytes _ o.0.1 e03.parts (no_more o.0.1 tests.1) in
    subst (λ (x : DeltaOf). IsRead hash (tag ∷ bytes) x) {x = made_delta hash a.0.0 b.0.0 c.0.0 o.0.0} (some_is (made_delta hash a.0.0 b.0.0 c.0.0 o.0.0) d g.1) (record {
      is = record { id = t0.1; version = t1.1; time = t2.1; ops = t3.1 };
      spelled = λ i. eqb-true tag (format o.0.0) tests.0 i ∷ behind i;
      known = refl;
    })

delta_takes : (hash bytes : List ℕ) (d : DeltaOf) → IsBytes bytes → delta_at hash bytes ≡ Some d → IsRead hash bytes d
unfolding delta_at
delta_takes hash [] d fits e = absurd cc
delta_takes hash (tag ∷ bytes) d fits e = tagged_delta_takes hash tag bytes d (IsBytes-rest tag bytes fits) e

abbrev with_hash : List ℕ → DeltaOf → DeltaOf
with_hash hash d = made_delta hash d.id d.from.version d.time d.ops

delta_again : (hash : List ℕ) (d : DeltaOf) → IsDelta d → delta_at hash (delta_bytes d) ≡ Some (with_hash hash d)
unfolding delta_at tagged_delta_at delta_bytes
delta_again hash d h =
    let all : ops_at (ops_bytes d.ops) ≡ Some (d.ops, []) = ap ops_at (sym (append-nil (ops_bytes d.ops))) ∙ ops.again d.ops [] h.ops in
    rw (ids.again d.id (number d.from.version ++ (number d.time ++ ops_bytes d.ops)) h.id, limited.again d.from.version (number d.time ++ ops_bytes d.ops) h.version, limited.again d.time (ops_bytes d.ops) h.time, all, eq-eqb (format d.ops) (format d.ops) refl) refl

pub alike : (a b : DeltaOf) → IsDelta a → IsDelta b → delta_bytes a ≡ delta_bytes b → IsSameDelta a b
alike a b x y e =
    let same : with_hash [] a ≡ with_hash [] b = some_is _ _ (sym (delta_again [] a x) ∙ ap (delta_at []) e ∙ delta_again [] b y) in
    record {
      id = ap (λ (d : DeltaOf). d.id) same;
      version = ap (λ (d : DeltaOf). d.from.version) same;
      time = ap (λ (d : DeltaOf). d.time) same;
      ops = ap (λ (d : DeltaOf). d.ops) same;
    }

-- ---- what a reading says

module _ (hash bytes : List ℕ) (fits : IsBytes bytes) where
  pub is_delta : (r : Result DeltaOf CodecFault) → Gives (λ d. d) r (delta_at hash bytes) → IfOk r IsDelta
  is_delta (Ok d) g = (delta_takes hash bytes d fits g).is
  is_delta (Err e) g = tt

  pub has_bytes : (r : Result DeltaOf CodecFault) → Gives (λ d. d) r (delta_at hash bytes) → IfOk r (λ d. bytes ≡ delta_bytes d)
  has_bytes (Ok d) g = (delta_takes hash bytes d fits g).spelled
  has_bytes (Err e) g = tt

  pub has_hash : (r : Result DeltaOf CodecFault) → Gives (λ d. d) r (delta_at hash bytes) → IfOk r (λ d. d.from.hash ≡ hash)
  has_hash (Ok d) g = (delta_takes hash bytes d fits g).known
  has_hash (Err e) g = tt

  is_read : (d : DeltaOf) → IsDelta d → bytes ≡ delta_bytes d → delta_at hash bytes ≡ Some (with_hash hash d)
  is_read d h is = ap (delta_at hash) is ∙ delta_again hash d h

  none_is_none : (d : DeltaOf) (r : Option DeltaOf) → r ≡ None → r ≡ Some d → ⊥
  none_is_none d r e f = cc

  pub read_again : (d : DeltaOf) → IsDelta d → d.from.hash ≡ hash → bytes ≡ delta_bytes d → (r : Result DeltaOf CodecFault) → Gives (λ x. x) r (delta_at hash bytes) → MatchResult r (λ x. x ≡ d) (λ e. e ≡ Memory)
  read_again d h at is (Ok x) g = some_is x (with_hash hash d) (sym g ∙ is_read d h is) ∙ ap (λ (k : List ℕ). with_hash k d) (sym at)
  read_again d h at is (Err Memory) g = refl
  read_again d h at is (Err BadBytes) g = absurd (none_is_none (with_hash hash d) (delta_at hash bytes) g (is_read d h is))

  pub is_refused : (r : Result DeltaOf CodecFault) → Gives (λ d. d) r (delta_at hash bytes) → IfErr r (IsRefused bytes)
  is_refused (Ok d) g = tt
  is_refused (Err Memory) g = tt
  is_refused (Err BadBytes) g = λ b. none_is_none (with_hash hash b.0) (delta_at hash bytes) g (is_read b.0 b.1 b.2)
