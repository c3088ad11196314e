-- Histories read from records.
--     bytes_once           deltas with the same bytes and the same hash are equal
--     next_once            two that may come next with the same bytes are one
--     histories_once       two legal histories with the same records are one
--     history_is_one, history_is_whole      the laws
--     unread               bytes of no delta
--     not_next             bytes of a delta that can't be next
--     gate_at              where the gate of a record stands
--     both_ways            what holds at each answer
--     exact_of, held_of, again_ok, damaged_of, again_err, unread_damaged      what a container's answers say of the file
--     pushed_records, pushed_spelled     a record more
--     illegal_at           the first record that isn't a next delta
use Rattle.std.proofs.Common.{◌≡◌, inl, inr, ◌^◌, ◌<◌, ℕ, zero, suc, ◌+◌, List, [], ◌∷◌, ◌++◌, length, take, drop, get_or, Ok, Err, IfOk, IfErr, MatchResult, false, refl, sym, ap, subst, ◌∙◌, arith, append_assoc, append-nil, length-append, Result}
use Rattle.std.specs.List.{AllByRecursion}
use Rattle.std.proofs.lemmas.List.{drop_more, take_more}
use Rattle.doc_op.proofs.Applying.{same_Some}
use Rattle.wave_base.specs.Versions.{VersionAt}
use Rattle.wavelet_op.specs.Deltas.{DeltaOf}
use Rattle.wavelet_codec.specs.Spelling.{delta_bytes, IsDelta, IsDeltaBytes}
use Rattle.wavelet_codec.proofs.Deltas.{alike}
use Rattle.delta_history.specs.Histories.{HistoryOf, head_of}
use Rattle.delta_history.specs.Legal.{IsNext, IsLegalFrom, IsLegal}
use Rattle.delta_history.specs.Points.{Point}
use Rattle.delta_history.proofs.Chains.{goes_on}
use Rattle.delta_history.proofs.Finding.{legal_end}
use Rattle.delta_journal.specs.File.{StandsFor, IsDamaged, blocks, framed, header}
use Rattle.delta_journal.specs.Stored.{bytes_of, StandFrom}
use Rattle.delta_journal.specs.declared.stored.Stored.{Stored}
use Rattle.delta_journal.proofs.Once.{means_once}
use Rattle.disk_model.specs.declared.disk.Disk.{Ghosts}
use Rattle.delta_journal.specs.Journal.{IsJournal, needs_repair}
use Rattle.delta_journal.specs.declared.load.Loaded.{Loaded}
use Rattle.wavelet_container.specs.Containers.{history_of, IsHeld}
use Rattle.wavelet_container.specs.declared.container.Container.{Container}
use Rattle.wavelet_container.specs.declared.fault.LoadFault.TheVariants.{Damaged}
use Rattle.wavelet_container.specs.declared.load.LoadRefused.{LoadRefused}
use Rattle.wavelet_container.specs.Loads.{IsRead, IsPushed, IsContained, IsTurnedDown}
use Rattle.wavelet_container.proofs.Journals.{spelled_more, records_more, sure_none}
use Rattle.wavelet_container.specs.Records.{records_of, StandsForHistory, IsIllegal, HasIllegal, IsDamagedHistory, HistoryIsOne, HistoryIsWhole}

pub bytes_once : (a b : DeltaOf) → IsDelta a → IsDelta b → delta_bytes a ≡ delta_bytes b → a.from.hash ≡ b.from.hash → a ≡ b
bytes_once a b s r e hash =
    let same = alike a b s r e in
    λ i. record { id = same.id i; from = record { version = same.version i; hash = hash i }; time = same.time i; ops = same.ops i }

-- both start at the head of what is before them
pub next_once : (name : List ℕ) (ds : List DeltaOf) (a b : DeltaOf) → IsDelta a → IsDelta b → delta_bytes a ≡ delta_bytes b → IsNext name ds a → IsNext name ds b → a ≡ b
next_once name ds a b s r e n m =
    let here : n.here ≡ m.here = same_Some (sym n.is_head ∙ m.is_head) in
    bytes_once a b s r e (ap (λ (z : VersionAt). z.hash) (n.starts ∙ ap (λ (p : Point). p.at) here ∙ sym m.starts))

no_cons : {A C : Type 0} {x : A} {xs : List A} → [] ≡ x ∷ xs → C
no_cons e = absurd (cc)

head_of_list : {A : Type 0} {x y : A} {xs ys : List A} → x ∷ xs ≡ y ∷ ys → x ≡ y
head_of_list e = cc

tail_of_list : {A : Type 0} {x y : A} {xs ys : List A} → x ∷ xs ≡ y ∷ ys → xs ≡ ys
tail_of_list e = cc

record IsFront (name : List ℕ) (b ds es : List DeltaOf) (more : List (List ℕ)) : Type 0 where
  rest : List DeltaOf
  whole : es ≡ ds ++ rest
  records : more ≡ records_of rest
  legal : IsLegalFrom name (b ++ ds) rest
  spelled : AllByRecursion IsDelta rest

-- a history whose records begin with those of another begins with it
front_once : (name : List ℕ) (b ds es : List DeltaOf) (more : List (List ℕ)) → IsLegalFrom name b ds → IsLegalFrom name b es → AllByRecursion IsDelta ds → AllByRecursion IsDelta es → records_of ds ++ more ≡ records_of es → IsFront name b ds es more
front_once name b [] es more l m s t e = record { rest = es; whole = refl; records = e; legal = subst (λ z. IsLegalFrom name z es) (sym (append-nil b)) m; spelled = t }
front_once name b (d ∷ ds) [] more l m s t e = no_cons (sym e)
front_once name b (d ∷ ds) (x ∷ es) more l m s t e =
    let same : d ≡ x = next_once name b d x s.0 t.0 (head_of_list e) l.0 m.0 in
    let f = front_once name (b ++ d ∷ []) ds es more l.1 (subst (λ z. IsLegalFrom name (b ++ z ∷ []) es) (sym same) m.1) s.1 t.1 (tail_of_list e) in
    record {
      rest = f.rest;
      whole = λ i. sym same i ∷ f.whole i;
      records = f.records;
      legal = subst (λ z. IsLegalFrom name z f.rest) (append_assoc b (d ∷ []) ds) f.legal;
      spelled = f.spelled;
    }

none_of : (ds : List DeltaOf) → [] ≡ records_of ds → ds ≡ []
none_of [] e = refl
none_of (d ∷ ds) e = no_cons e

abbrev Meaning : Type 0
Meaning = Result (List (List ℕ)) ℕ

ok_of : (x y : List (List ℕ)) (a b : Meaning) → a ≡ Ok x → b ≡ Ok y → a ≡ b → x ≡ y
ok_of x y a b p q e = cc

not_both : {C : Type 0} (x : List (List ℕ)) (y : ℕ) (a b : Meaning) → a ≡ Ok x → b ≡ Err y → a ≡ b → C
not_both x y a b p q e = absurd (cc)

pub history_is_one : HistoryIsOne
history_is_one name file ds es short a b =
    let records : records_of ds ≡ records_of es = ok_of (records_of ds) (records_of es) (Ok (records_of ds)) (Ok (records_of es)) refl refl (means_once name file (Ok (records_of ds)) (Ok (records_of es)) short a.stands b.stands) in
    let f = front_once name [] ds es [] a.legal b.legal a.spelled b.spelled (append-nil (records_of ds) ∙ records) in
    sym (f.whole ∙ ap (λ z. ds ++ z) (none_of f.rest f.records) ∙ append-nil ds)

first_illegal : (name : List ℕ) (front rest : List DeltaOf) (bytes : List ℕ) (more : List (List ℕ)) → IsLegalFrom name front rest → AllByRecursion IsDelta rest → bytes ∷ more ≡ records_of rest → IsIllegal name front bytes → ⊥
first_illegal name front [] bytes more l s e never = no_cons (sym e)
first_illegal name front (d ∷ rest) bytes more l s e never = never d s.0 (head_of_list e) l.0

pub history_is_whole : HistoryIsWhole
history_is_whole name file ds offset short a (inl damaged) = not_both (records_of ds) offset (Ok (records_of ds)) (Err offset) refl refl (means_once name file (Ok (records_of ds)) (Err offset) short a.stands damaged)
history_is_whole name file ds offset short a (inr illegal) =
    let bad = illegal.2 in
    let records : records_of ds ≡ illegal.0 = ok_of (records_of ds) illegal.0 (Ok (records_of ds)) (Ok illegal.0) refl refl (means_once name file (Ok (records_of ds)) (Ok illegal.0) short a.stands illegal.1) in
    let f = front_once name [] bad.front ds (bad.bytes ∷ bad.rest) bad.legal a.legal bad.spelled a.spelled (bad.whole ∙ sym records) in
    first_illegal name bad.front f.rest bad.bytes bad.rest f.legal f.spelled f.records bad.illegal

-- ---- one record

pub unread : (h : HistoryOf) (bytes : List ℕ) → ¬ (IsDeltaBytes bytes) → IsIllegal h.name h.deltas bytes
unread h bytes never d is e n = never (d, is, e)

pub not_next : (h : HistoryOf) (bytes : List ℕ) (d : DeltaOf) → IsLegal h.name h.deltas → IsRead h bytes d → (IsNext h.name h.deltas d → ⊥) → IsIllegal h.name h.deltas bytes
not_next h bytes d l r never e is spells n =
    let here : n.here ≡ head_of h = same_Some (sym n.is_head ∙ legal_end h.name h.deltas l) in
    let hash : e.from.hash ≡ (head_of h).at.hash = ap (λ (z : VersionAt). z.hash) (n.starts ∙ ap (λ (p : Point). p.at) here) in
    let same : e ≡ d = bytes_once e d is r.is (sym spells ∙ r.spells) (hash ∙ sym r.hash) in
    never (subst (IsNext h.name h.deltas) same n)

pub not_head : (h : HistoryOf) (bytes : List ℕ) (d : DeltaOf) → IsLegal h.name h.deltas → IsRead h bytes d → (d.from ≡ (head_of h).at → ⊥) → IsIllegal h.name h.deltas bytes
not_head h bytes d l r never = not_next h bytes d l r (λ n. never (n.starts ∙ ap (λ (p : Point). p.at) (same_Some (sym n.is_head ∙ legal_end h.name h.deltas l))))

pub not_legal : (h : HistoryOf) (bytes : List ℕ) (d : DeltaOf) → IsLegal h.name h.deltas → IsRead h bytes d → (IsLegal h.name (h.deltas ++ d ∷ []) → ⊥) → IsIllegal h.name h.deltas bytes
not_legal h bytes d l r never = not_next h bytes d l r (λ n. never (goes_on h.name h.deltas d l n))

-- ---- all records

gate_from : (place : ℕ) (records : List Stored) (k : ℕ) (x : Stored) → StandFrom place records → k < length records → (get_or records k x).offset ≡ place + length (blocks (bytes_of (take k records)))
gate_from place [] k x s h = absurd (omega (arith, h))
gate_from place (one ∷ records) zero x s h = s.0 ∙ omega arith
gate_from place (one ∷ records) (suc k) x s h =
    let e = gate_from (place + length (1 ∷ framed one.bytes)) records k x s.1 (omega (arith, h)) in
    let l = length-append (framed one.bytes) (blocks (bytes_of (take k records))) in
    e ∙ omega (arith, l)

bytes_split : (k : ℕ) (records : List Stored) → bytes_of (take k records) ++ bytes_of (drop k records) ≡ bytes_of records
bytes_split zero records = refl
bytes_split (suc k) [] = refl
bytes_split (suc k) (one ∷ records) = ap (λ z. one.bytes ∷ z) (bytes_split k records)

bytes_append : (xs : List Stored) (one : Stored) → bytes_of (xs ++ one ∷ []) ≡ bytes_of xs ++ one.bytes ∷ []
bytes_append [] one = refl
bytes_append (x ∷ xs) one = ap (λ z. x.bytes ∷ z) (bytes_append xs one)

pub bytes_more : (k : ℕ) (records : List Stored) (one : Stored) → k < length records → one ≡ get_or records k one → bytes_of (take (k + 1) records) ≡ bytes_of (take k records) ++ one.bytes ∷ []
bytes_more k records one h e =
    ap bytes_of (take_more records k one h) ∙ bytes_append (take k records) (get_or records k one) ∙ ap (λ (z : Stored). bytes_of (take k records) ++ z.bytes ∷ []) (sym e)

pub illegal_at : (name : List ℕ) (front : List DeltaOf) (records : List Stored) (k : ℕ) (one : Stored) → StandFrom (length (1 ∷ header name)) records → k < length records → one ≡ get_or records k one → records_of front ≡ bytes_of (take k records) → IsLegal name front → AllByRecursion IsDelta front → IsIllegal name front one.bytes → HasIllegal name one.offset (bytes_of records)
illegal_at name front records k one stand inside is same l s illegal =
    let gate : one.offset ≡ length (1 ∷ header name) + length (blocks (bytes_of (take k records))) = ap (λ (z : Stored). z.offset) is ∙ gate_from (length (1 ∷ header name)) records k one stand inside in
    let long = length-append (header name) (blocks (records_of front)) in
    let same_blocks : length (blocks (bytes_of (take k records))) ≡ length (blocks (records_of front)) = ap (λ r. length (blocks r)) (sym same) in
    record {
      front = front;
      bytes = one.bytes;
      rest = bytes_of (drop (k + 1) records);
      whole = ap (λ z. z ++ one.bytes ∷ bytes_of (drop (k + 1) records)) same
          ∙ ap (λ (z : Stored). bytes_of (take k records) ++ z.bytes ∷ bytes_of (drop (k + 1) records)) is
          ∙ sym (ap (λ z. bytes_of (take k records) ++ bytes_of z) (drop_more records k one inside))
          ∙ bytes_split k records;
      legal = l;
      spelled = s;
      illegal = illegal;
      gate = omega (arith, gate, long, same_blocks);
    }

pub pushed_records : (h g : HistoryOf) (bytes : List ℕ) (k : ℕ) (records : List Stored) (one : Stored) → IsPushed h bytes g → bytes ≡ one.bytes → k < length records → one ≡ get_or records k one → records_of h.deltas ≡ bytes_of (take k records) → records_of g.deltas ≡ bytes_of (take (k + 1) records)
pushed_records h g bytes k records one p same inside is before =
    ap records_of p.grown.deltas ∙ records_more h.deltas p.delta ∙ (λ i. before i ++ (sym p.read.spells ∙ same) i ∷ []) ∙ sym (bytes_more k records one inside is)

pub pushed_spelled : (h g : HistoryOf) (bytes : List ℕ) → IsPushed h bytes g → AllByRecursion IsDelta h.deltas → AllByRecursion IsDelta g.deltas
pushed_spelled h g bytes p s = subst (λ ds. AllByRecursion IsDelta ds) (sym p.grown.deltas) (spelled_more h.deltas p.delta s p.read.is)

-- ---- a container

-- the answers of both arms
pub both_ways : {A E : Type 0} (P : A → Type 0) (Q : E → Type 0) (r : Result A E) → IfOk r P → IfErr r Q → MatchResult r P Q
both_ways P Q (Ok x) p q = p
both_ways P Q (Err e) p q = q

pub if_err_weaker : {A E : Type 0} (r : Result A E) (P Q : E → Type 0) → ((e : E) → P e → Q e) → IfErr r P → IfErr r Q
if_err_weaker (Ok x) P Q f p = tt
if_err_weaker (Err e) P Q f p = f e p

module _ {K : Type 0} {disk : Ghosts K} (name text : List ℕ) (file : List ℕ) (loaded : Loaded K disk) (said : text ≡ name) where
  pub exact_of : (c : Container K disk) → IsContained name loaded c → StandsFor text (bytes_of loaded.records) file → StandsForHistory name (history_of c).deltas file
  exact_of c is stands = record {
    stands = subst (λ r. StandsFor name r file) (sym is.records) (subst (λ n. StandsFor n (bytes_of loaded.records) file) said stands);
    legal = is.legal;
    spelled = is.spelled;
  }

  pub held_of : (c : Container K disk) → IsContained name loaded c → IsJournal text (bytes_of loaded.records) loaded.journal → needs_repair loaded.journal ≡ false → IsHeld c
  held_of c is held sure = (
    loaded.journal,
    is.journal,
    record {
      held = subst (λ n. IsJournal n (records_of (history_of c).deltas) loaded.journal) (said ∙ sym is.named) (subst (λ r. IsJournal text r loaded.journal) (sym is.records) held);
      legal = subst (λ n. IsLegal n (history_of c).deltas) (sym is.named) is.legal;
      spelled = is.spelled;
      pending = inl (sure_none loaded.journal sure);
    },
  )

  pub again_ok : (c : Container K disk) (ds : List DeltaOf) → length file < 2 ^ 64 → IsContained name loaded c → StandsFor text (bytes_of loaded.records) file → StandsForHistory name ds file → (history_of c).deltas ≡ ds
  again_ok c ds short is stands there = history_is_one name file (history_of c).deltas ds short (exact_of c is stands) there

  pub damaged_of : (r : LoadRefused K) (offset : ℕ) → IsTurnedDown name loaded r → r.fault ≡ Damaged offset → StandsFor text (bytes_of loaded.records) file → IsDamagedHistory name offset file
  damaged_of r offset down is stands = inr (bytes_of loaded.records, subst (λ n. StandsFor n (bytes_of loaded.records) file) said stands, down.damaged offset is)

  pub again_err : (r : LoadRefused K) (ds : List DeltaOf) → length file < 2 ^ 64 → IsTurnedDown name loaded r → StandsFor text (bytes_of loaded.records) file → StandsForHistory name ds file → (offset : ℕ) → r.fault ≡ Damaged offset → ⊥
  again_err r ds short down stands there offset is = history_is_whole name file ds offset short there (damaged_of r offset down is stands)

pub unread_damaged : (name text file : List ℕ) (ds : List DeltaOf) (offset : ℕ) → text ≡ name → length file < 2 ^ 64 → IsDamaged text offset file → StandsForHistory name ds file → ⊥
unread_damaged name text file ds offset said short damaged there = history_is_whole name file ds offset short there (inl (subst (λ n. IsDamaged n offset file) said damaged))
