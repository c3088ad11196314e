-- Acts that are compacted, with others after them.
--     after_compacted      acts after others are compacted as after what these were compacted to
--     join_ending           only the last of them meets what comes after
--     join_twice, join_refused      two lists after it, one after the other
--     gather_same           so what is gathered may be kept compacted
--     fit_some, fit_none    operations that are few and short enough
use Rattle.std.proofs.Common.{◌≡◌, ℕ, ◌<◌, ◌≤◌, Bool, true, false, cond, ◌&&◌, nat_le, List, [], ◌∷◌, ◌++◌, length, map, Option, None, Some, Result, Ok, Err, refl, sym, ap, subst, ◌∙◌, arith, option_and_then}
use Rattle.std.specs.Option.{option_map, option_map_or}
use Rattle.std.specs.Result.{result_ok}
use Rattle.std.proofs.lemmas.Bool.Decides.{nat_tests}
use Rattle.std.proofs.lemmas.Bool.{and_from}
use Rattle.std.proofs.lemmas.List.{length-map, map-append}
use Rattle.std.proofs.lemmas.List.Elements.{All-cons, All-nil, All-append}
use Rattle.std.specs.List.{All}
use Rattle.wavelet_op.proofs.Passes.{split_first}
use Rattle.op_codec.specs.Spelling.{capped}
use Rattle.wavelet_op.specs.Acts.{Act, meaning, meanings, IsNormal, AreNormal}
use Rattle.wavelet_op.specs.Compacts.{Unfit, bounded_join, act_front, go_on, compact_by, bounded_compact}
use Rattle.wavelet_op.specs.Deltas.{is_count}
use Rattle.wavelet_op.specs.Joining.{act_fronts}
use Rattle.wavelet_op.specs.declared.op.WaveletOp.{WaveletOp}
use Rattle.wavelet_codec.specs.Spelling.{ops_bytes}
use Rattle.delta_history.specs.Verdicts.{ops_of}
use Rattle.follower_rules.specs.Submitting.{submit_bytes, is_short, if_fits, fitting, gather_on, gather}
use Rattle.follower_rules.proofs.Advances.{ops_back}
use Rattle.follower_rules.proofs.Gathers.{fitting_is}
use Rattle.follower_rules.proofs.Sounds.{same_ok, no_ok}
use Rattle.client_control.specs.declared.joining.Joint.{Joint}
use Rattle.client_control.specs.Joins.{Joined, join_on, fit, gather_joined, IsJoining, IsFit, IsFitting, IsGathered, IsGathering}

-- ---- fronts

front_ok : (a : Act) (r : Joined) (v : List Act) → act_front a r ≡ Ok v → (w : List Act) × (r ≡ Ok w) × ((a ∷ w) ≡ v)
front_ok a (Ok w) v e = (w, refl, same_ok e)
front_ok a (Err u) v e = no_ok e

not_nil : (a : Act) (v : List Act) → (a ∷ v) ≡ [] → ⊥
not_nil a v e = absurd (cc)

front_more : (a : Act) (xs : List Act) (r : Joined) → act_front a (act_fronts xs r) ≡ act_fronts (a ∷ xs) r
front_more a xs (Ok v) = refl
front_more a xs (Err u) = refl

front_none : (r : Joined) → r ≡ act_fronts [] r
front_none (Ok v) = refl
front_none (Err u) = refl

-- ---- one act and those after it

compacted_some : (a : Act) (xs : List Act) → compact_by bounded_join a xs ≡ Ok [] → ⊥
compacted_some a [] e = not_nil a [] (same_ok e)
compacted_some a (b ∷ xs) e = go (λ c f. compacted_some c xs f) (bounded_join a b) e
  where
    go : ((c : Act) → compact_by bounded_join c xs ≡ Ok [] → ⊥) → (o : Option (Result Act Unfit)) → go_on a b (λ c. compact_by bounded_join c xs) o ≡ Ok [] → ⊥
    go again None f = (let r = front_ok a (compact_by bounded_join b xs) [] f in not_nil a r.0 r.2)
    go again (Some (Ok c)) f = again c f
    go again (Some (Err u)) f = no_ok f

goes_on : (a : Act) (xs more acts : List Act) → compact_by bounded_join a xs ≡ Ok acts → compact_by bounded_join a (xs ++ more) ≡ join_on acts more
goes_on a [] more acts e = ap (λ z. join_on z more) (same_ok e)
goes_on a (b ∷ xs) more acts e = go (λ c v f. goes_on c xs more v f) (bounded_join a b) e
  where
    fronted : (v : List Act) → (v ≡ [] → ⊥) → (a ∷ v) ≡ acts → compact_by bounded_join b (xs ++ more) ≡ join_on v more → act_front a (compact_by bounded_join b (xs ++ more)) ≡ join_on acts more
    fronted [] n f h = absurd (n refl)
    fronted (c ∷ v) n f h = ap (act_front a) h ∙ ap (λ z. join_on z more) f

    go : ((c : Act) (v : List Act) → compact_by bounded_join c xs ≡ Ok v → compact_by bounded_join c (xs ++ more) ≡ join_on v more) → (o : Option (Result Act Unfit)) → go_on a b (λ c. compact_by bounded_join c xs) o ≡ Ok acts → go_on a b (λ c. compact_by bounded_join c (xs ++ more)) o ≡ join_on acts more
    go again None f =
        let r = front_ok a (compact_by bounded_join b xs) acts f in
        fronted r.0 (λ z. compacted_some b xs (r.1 ∙ ap Ok z)) r.2 (again b r.0 r.1)
    go again (Some (Ok c)) f = again c acts f
    go again (Some (Err u)) f = no_ok f

pub after_compacted : (raw more acts : List Act) → bounded_compact raw ≡ Ok acts → bounded_compact (raw ++ more) ≡ join_on acts more
after_compacted [] more acts e = ap (λ z. join_on z more) (same_ok e)
after_compacted (a ∷ xs) more acts e = goes_on a xs more acts e

front_err : (a : Act) (r : Joined) (u : Unfit) → act_front a r ≡ Err u → r ≡ Err u
front_err a (Ok w) u e = absurd (cc)
front_err a (Err v) u e = cc

refused_on : (a : Act) (xs more : List Act) (u : Unfit) → compact_by bounded_join a xs ≡ Err u → compact_by bounded_join a (xs ++ more) ≡ Err u
refused_on a [] more u e = absurd (cc)
refused_on a (b ∷ xs) more u e = go (λ c f. refused_on c xs more u f) (bounded_join a b) e
  where
    go : ((c : Act) → compact_by bounded_join c xs ≡ Err u → compact_by bounded_join c (xs ++ more) ≡ Err u) → (o : Option (Result Act Unfit)) → go_on a b (λ c. compact_by bounded_join c xs) o ≡ Err u → go_on a b (λ c. compact_by bounded_join c (xs ++ more)) o ≡ Err u
    go again None f = ap (act_front a) (again b (front_err a (compact_by bounded_join b xs) u f))
    go again (Some (Ok c)) f = again c f
    go again (Some (Err v)) f = f

-- ---- many acts and those after them

pub join_ending : (front : List Act) (last : Act) (more : List Act) → join_on (front ++ last ∷ []) more ≡ act_fronts front (compact_by bounded_join last more)
join_ending [] last more = front_none (compact_by bounded_join last more)
join_ending (a ∷ []) last more = ap (act_front a) (join_ending [] last more) ∙ front_more a [] (compact_by bounded_join last more)
join_ending (a ∷ b ∷ front) last more = ap (act_front a) (join_ending (b ∷ front) last more) ∙ front_more a (b ∷ front) (compact_by bounded_join last more)

joined_some : (a : Act) (rest xs : List Act) → join_on (a ∷ rest) xs ≡ Ok [] → ⊥
joined_some a [] xs e = compacted_some a xs e
joined_some a (b ∷ rest) xs e = (let r = front_ok a (join_on (b ∷ rest) xs) [] e in not_nil a r.0 r.2)

pub join_twice : (a : Act) (rest xs ys v : List Act) → join_on (a ∷ rest) xs ≡ Ok v → join_on (a ∷ rest) (xs ++ ys) ≡ join_on v ys
join_twice a [] xs ys v e = goes_on a xs ys v e
join_twice a (b ∷ rest) xs ys v e =
    let r = front_ok a (join_on (b ∷ rest) xs) v e in
    fronted r.0 (λ z. joined_some b rest xs (r.1 ∙ ap Ok z)) r.2 (join_twice b rest xs ys r.0 r.1)
  where
    fronted : (w : List Act) → (w ≡ [] → ⊥) → (a ∷ w) ≡ v → join_on (b ∷ rest) (xs ++ ys) ≡ join_on w ys → act_front a (join_on (b ∷ rest) (xs ++ ys)) ≡ join_on v ys
    fronted [] n f h = absurd (n refl)
    fronted (c ∷ w) n f h = ap (act_front a) h ∙ ap (λ z. join_on z ys) f

join_err : (a : Act) (rest xs ys : List Act) (u : Unfit) → join_on (a ∷ rest) xs ≡ Err u → join_on (a ∷ rest) (xs ++ ys) ≡ Err u
join_err a [] xs ys u e = refused_on a xs ys u e
join_err a (b ∷ rest) xs ys u e = ap (act_front a) (join_err b rest xs ys u (front_err a (join_on (b ∷ rest) xs) u e))

pub join_refused : (a : Act) (rest xs ys : List Act) → result_ok (join_on (a ∷ rest) xs) ≡ None → result_ok (join_on (a ∷ rest) (xs ++ ys)) ≡ None
join_refused a rest xs ys e = go (join_on (a ∷ rest) xs) refl e
  where
    go : (r : Joined) → join_on (a ∷ rest) xs ≡ r → result_ok r ≡ None → result_ok (join_on (a ∷ rest) (xs ++ ys)) ≡ None
    go (Ok v) q n = absurd (cc)
    go (Err u) q n = ap result_ok (join_err a rest xs ys u q)

-- ---- what is gathered

pub gather_same : (rest : List (List Act)) (raw acts : List Act) → bounded_compact raw ≡ Ok acts → gather_on raw acts rest ≡ gather_joined acts rest
gather_same [] raw acts e = refl
gather_same (entry ∷ rest) raw acts e = ap (λ o. option_map_or (λ more. gather_on (raw ++ entry) more rest) o (acts, entry ∷ rest)) same ∙ go (fit (join_on acts entry)) refl (λ more h. gather_same rest (raw ++ entry) more h)
  where
    same : fitting (raw ++ entry) ≡ fit (join_on acts entry)
    same = ap fit (after_compacted raw entry acts e)

    go : (o : Option (List Act)) → fit (join_on acts entry) ≡ o → ((more : List Act) → bounded_compact (raw ++ entry) ≡ Ok more → gather_on (raw ++ entry) more rest ≡ gather_joined more rest) → option_map_or (λ more. gather_on (raw ++ entry) more rest) o (acts, entry ∷ rest) ≡ option_map_or (λ more. gather_joined more rest) o (acts, entry ∷ rest)
    go None q again = refl
    go (Some more) q again = again more (fitting_is (raw ++ entry) more (same ∙ q)).compacted

pub gathered_same : (entry acts : List Act) (rest : List (List Act)) → fitting entry ≡ Some acts → gather entry rest ≡ Some (gather_joined acts rest)
gathered_same entry acts rest e = ap (option_map (λ z. gather_on entry z rest)) e ∙ ap Some (gather_same rest entry acts (fitting_is entry acts e).compacted)

pub gathered_none : (entry : List Act) (rest : List (List Act)) → fitting entry ≡ None → gather entry rest ≡ None
gathered_none entry rest e = ap (option_map (λ z. gather_on entry z rest)) e

-- ---- what fits

true_le : (a b : ℕ) → a ≤ b → nat_le a b ≡ true
true_le a b h = grind (arith, nat_tests)

false_le : (a b : ℕ) → b < a → nat_le a b ≡ false
false_le a b h = grind (arith, nat_tests)

bytes_same : (ops : List WaveletOp) → AreNormal ops → length (ops_bytes (ops_of (meanings ops))) ≡ length (ops_bytes ops)
bytes_same ops n = ap (λ z. length (ops_bytes z)) (ops_back ops n)

pub fit_some : (ops : List WaveletOp) (n : ℕ) → AreNormal ops → is_count (length ops) ≡ true → n ≡ capped (length (ops_bytes ops)) → n ≤ submit_bytes → if_fits (meanings ops) ≡ Some (meanings ops)
fit_some ops n normal count e h =
    let few : is_count (length (meanings ops)) ≡ true = ap is_count (length-map ops meaning) ∙ count in
    let short : is_short (meanings ops) ≡ true = true_le _ _ (omega (arith, bytes_same ops normal, e, h)) in
    ap (λ b. cond (b && is_short (meanings ops)) (Some (meanings ops)) None) few ∙ ap (λ b. cond b (Some (meanings ops)) None) short

pub fit_none : (ops : List WaveletOp) (n : ℕ) → AreNormal ops → is_count (length ops) ≡ true → n ≡ capped (length (ops_bytes ops)) → submit_bytes < n → if_fits (meanings ops) ≡ None
fit_none ops n normal count e h =
    let few : is_count (length (meanings ops)) ≡ true = ap is_count (length-map ops meaning) ∙ count in
    let long : is_short (meanings ops) ≡ false = false_le _ _ (omega (arith, bytes_same ops normal, e, h)) in
    ap (λ b. cond (b && is_short (meanings ops)) (Some (meanings ops)) None) few ∙ ap (λ b. cond b (Some (meanings ops)) None) long

pub fit_many : (ops : List WaveletOp) → is_count (length ops) ≡ false → if_fits (meanings ops) ≡ None
fit_many ops e = ap (λ b. cond (b && is_short (meanings ops)) (Some (meanings ops)) None) (ap is_count (length-map ops meaning) ∙ e)

pub count_is : (n : ℕ) → 0 < n → n ≤ 1000 → is_count n ≡ true
count_is n h k = and_from _ _ (true_le 1 n (omega (arith, h))) (true_le n 1000 k)

-- ---- what the code joins

all_front : {A : Type 0} (P : A → Type 0) (xs ys : List A) → All P (xs ++ ys) → All P xs
all_front P [] ys h = All-nil P
all_front P (x ∷ xs) ys h = (let p = split_first P x (xs ++ ys) h in All-cons P x xs p.0 (all_front P xs ys p.1))

pub join_none : (ops front : List WaveletOp) (last : WaveletOp) (more ending : List WaveletOp) → ops ≡ front ++ last ∷ [] → ending ≡ last ∷ more → result_ok (bounded_compact (meanings ending)) ≡ None → result_ok (join_on (meanings ops) (meanings more)) ≡ None
join_none ops front last more ending e f h =
    let split : meanings ops ≡ meanings front ++ meaning last ∷ [] = ap meanings e ∙ map-append meaning front (last ∷ []) in
    let whole : join_on (meanings ops) (meanings more) ≡ act_fronts (meanings front) (bounded_compact (meanings ending)) = ap (λ z. join_on z (meanings more)) split ∙ join_ending (meanings front) (meaning last) (meanings more) ∙ ap (λ z. act_fronts (meanings front) (bounded_compact (meanings z))) (sym f) in
    ap result_ok whole ∙ no_fronts (meanings front) (bounded_compact (meanings ending)) h
  where
    no_fronts : (xs : List Act) (r : Joined) → result_ok r ≡ None → result_ok (act_fronts xs r) ≡ None
    no_fronts xs (Ok v) n = absurd (cc)
    no_fronts xs (Err u) n = refl

nonempty : (acts more v : List Act) → (acts ≡ [] → ⊥) → join_on acts more ≡ Ok v → (v ≡ [] → ⊥)
nonempty [] more v n e z = n refl
nonempty (a ∷ rest) more v n e z = joined_some a rest more (e ∙ ap Ok z)

some_length : (xs : List WaveletOp) → (meanings xs ≡ [] → ⊥) → 0 < length xs
some_length [] n = absurd (n refl)
some_length (x ∷ xs) n = omega arith

last_some : (front : List Act) (last : Act) → front ++ last ∷ [] ≡ [] → ⊥
last_some [] last e = not_nil last [] e
last_some (a ∷ front) last e = not_nil a (front ++ last ∷ []) e

pub join_done : (ops front : List WaveletOp) (last : WaveletOp) (more ending fewer joined : List WaveletOp) → ops ≡ front ++ last ∷ [] → ending ≡ last ∷ more → AreNormal ops → bounded_compact (meanings ending) ≡ Ok (meanings fewer) → AreNormal fewer → joined ≡ front ++ fewer → IsJoining ops more joined
join_done ops front last more ending fewer joined e f n h m j =
    let split : meanings ops ≡ meanings front ++ meaning last ∷ [] = ap meanings e ∙ map-append meaning front (last ∷ []) in
    let is : join_on (meanings ops) (meanings more) ≡ Ok (meanings joined) = ap (λ z. join_on z (meanings more)) split ∙ join_ending (meanings front) (meaning last) (meanings more) ∙ ap (λ z. act_fronts (meanings front) (bounded_compact (meanings z))) (sym f) ∙ ap (act_fronts (meanings front)) h ∙ ap Ok (sym (map-append meaning front fewer) ∙ ap meanings (sym j)) in
    let normal_front : AreNormal front = all_front IsNormal front (last ∷ []) (subst AreNormal e n) in
    record {
      is = is;
      normal = subst AreNormal (sym j) (All-append IsNormal front fewer normal_front m);
      some = some_length joined (nonempty (meanings ops) (meanings more) (meanings joined) (λ z. last_some (meanings front) (meaning last) (sym split ∙ z)) is);
    }

-- two lists after it, of which the first is refused
pub join_first_none : (ops first last entry : List WaveletOp) → 0 < length ops → entry ≡ first ++ last → result_ok (join_on (meanings ops) (meanings first)) ≡ None → fit (join_on (meanings ops) (meanings entry)) ≡ None
join_first_none [] first last entry h e n = absurd (omega (arith, h))
join_first_none (o ∷ ops) first last entry h e n =
    let split : meanings entry ≡ meanings first ++ meanings last = ap meanings e ∙ map-append meaning first last in
    ap (λ z. fit (join_on (meanings (o ∷ ops)) z)) split ∙ ap (option_and_then if_fits) (join_refused (meaning o) (meanings ops) (meanings first) (meanings last) n)

-- and where it isn't
pub join_both : (ops first last entry some : List WaveletOp) → 0 < length ops → entry ≡ first ++ last → join_on (meanings ops) (meanings first) ≡ Ok (meanings some) → join_on (meanings ops) (meanings entry) ≡ join_on (meanings some) (meanings last)
join_both [] first last entry some h e n = absurd (omega (arith, h))
join_both (o ∷ ops) first last entry some h e n =
    let split : meanings entry ≡ meanings first ++ meanings last = ap meanings e ∙ map-append meaning first last in
    ap (join_on (meanings (o ∷ ops))) split ∙ join_twice (meaning o) (meanings ops) (meanings first) (meanings last) (meanings some) n

pub join_last_none : (ops first last entry some : List WaveletOp) → 0 < length ops → entry ≡ first ++ last → join_on (meanings ops) (meanings first) ≡ Ok (meanings some) → result_ok (join_on (meanings some) (meanings last)) ≡ None → fit (join_on (meanings ops) (meanings entry)) ≡ None
join_last_none ops first last entry some h e n m = ap fit (join_both ops first last entry some h e n) ∙ ap (option_and_then if_fits) m

pub join_fits : (ops first last entry some all : List WaveletOp) (o : Option (List WaveletOp)) → 0 < length ops → entry ≡ first ++ last → join_on (meanings ops) (meanings first) ≡ Ok (meanings some) → join_on (meanings some) (meanings last) ≡ Ok (meanings all) → IsFit (meanings all) o → IsFitting (join_on (meanings ops) (meanings entry)) o
join_fits ops first last entry some all o h e n m f = go o f
  where
    same : fit (join_on (meanings ops) (meanings entry)) ≡ if_fits (meanings all)
    same = ap fit (join_both ops first last entry some h e n) ∙ ap fit m

    go : (o : Option (List WaveletOp)) → IsFit (meanings all) o → IsFitting (join_on (meanings ops) (meanings entry)) o
    go None k = same ∙ k
    go (Some v) k = (same ∙ k.0, k.1)

-- an entry alone
pub alone_fits : (entry ops : List WaveletOp) (o : Option (List WaveletOp)) → bounded_compact (meanings entry) ≡ Ok (meanings ops) → IsFit (meanings ops) o → IsFitting (bounded_compact (meanings entry)) o
alone_fits entry ops None e f = ap fit e ∙ f
alone_fits entry ops (Some v) e f = (ap fit e ∙ f.0, f.1)

-- ---- what the code gathers

pub gathering_is : (first ops : List WaveletOp) (rest : List (List WaveletOp)) (g : Joint) → fit (bounded_compact (meanings first)) ≡ Some (meanings ops) → IsGathering ops rest g → IsGathered first rest g
gathering_is first ops rest g e h = record { is = gathered_same (meanings first) (meanings ops) (map meanings rest) e ∙ ap Some h.is; within = h.within; normal = h.normal }

-- the loop over the entries
pub gather_stops : (ops entry : List WaveletOp) (rest : List (List WaveletOp)) → fit (join_on (meanings ops) (meanings entry)) ≡ None → gather_joined (meanings ops) (map meanings (entry ∷ rest)) ≡ (meanings ops, map meanings (entry ∷ rest))
gather_stops ops entry rest e = ap (λ o. option_map_or (λ more. gather_joined more (map meanings rest)) o (meanings ops, map meanings (entry ∷ rest))) e

pub gather_goes : (ops more entry : List WaveletOp) (rest : List (List WaveletOp)) → fit (join_on (meanings ops) (meanings entry)) ≡ Some (meanings more) → gather_joined (meanings ops) (map meanings (entry ∷ rest)) ≡ gather_joined (meanings more) (map meanings rest)
gather_goes ops more entry rest e = ap (λ o. option_map_or (λ more. gather_joined more (map meanings rest)) o (meanings ops, map meanings (entry ∷ rest))) e

pub short_is : (ops : List WaveletOp) (n : ℕ) → AreNormal ops → n ≡ capped (length (ops_bytes ops)) → nat_le n submit_bytes ≡ is_short (meanings ops)
short_is ops n normal e = go (nat_le n submit_bytes) refl
  where
    go : (b : Bool) → nat_le n submit_bytes ≡ b → nat_le n submit_bytes ≡ is_short (meanings ops)
    go true h = (let k : n ≤ submit_bytes = grind (arith, nat_tests) in h ∙ sym (true_le _ _ (omega (arith, bytes_same ops normal, e, k))))
    go false h = (let k : submit_bytes < n = grind (arith, nat_tests) in h ∙ sym (false_le _ _ (omega (arith, bytes_same ops normal, e, k))))
