-- Neighbouring operations that become one, one step after the other.
--     mutations_join, mutations_unjoined      two operations on one document
--     compact_structured                      what is structured stays so
--     IsCompacting ..                         what is to come, with what is done in front of it, is the whole
use Rattle.std.proofs.Common.{◌≡◌, ℕ, ◌+◌, ◌<◌, ◌≤◌, Bool, true, false, cond, nat_le, List, [], ◌∷◌, ◌++◌, length, Option, Some, None, Result, Ok, Err, refl, sym, ap, subst, ◌∙◌, arith, append_assoc, drop, drop-cons, add-one, get_or}
use Rattle.std.specs.List.{All}
use Rattle.std.proofs.Math.ListN.{drop_of_length-le}
use Rattle.std.proofs.lemmas.List.Elements.{All-cons, All-nil}
use Rattle.std.proofs.lemmas.Bool.Decides.{nat_tests}
use Rattle.doc_items.specs.Limits.{max_count}
use Rattle.doc_items.specs.Maps.{Key, same_text}
use Rattle.doc_op.specs.declared.component.Component.{Component}
use Rattle.doc_op.specs.Actions.{Action, actions}
use Rattle.doc_op.specs.Structure.{Structured}
use Rattle.op_compose.specs.Compose.{Composed, compose}
use Rattle.op_compose.specs.Steps.{together, IsRefused}
use Rattle.op_compose.specs.declared.fault.ComposeFault.{ComposeFault}
use Rattle.op_compose.specs.declared.fault.ComposeFault.TheVariants as of_compose
use Rattle.op_compose.proofs.Depths.{composed_structured}
use Rattle.wavelet_op.specs.Acts.{Act, Idle, Adds, Removes, Sets, Mutates, meaning, meanings, IsStructuredAct, IsNormal, AreNormal}
use Rattle.wavelet_op.specs.Compacts.{Unfit, OverLimit, mutation, bounded_join, act_front, go_on, compact_by, bounded_compact}
use Rattle.wavelet_op.specs.Joining.{Unjoins, act_fronts, expects, IsStep}
use Rattle.wavelet_op.specs.Passing.{held, act_held, IsSettled}
use Rattle.wavelet_op.specs.Results.{fault_of_compose, TellsUnfit, IsUnfit, IsCompaction}
use Rattle.wavelet_op.specs.declared.fault.WaveletFault.{WaveletFault}
use Rattle.wavelet_op.specs.declared.fault.WaveletFault.TheVariants.{OpInvalid, CountTooLarge, Conflict, DontFit, Memory}
use Rattle.wavelet_op.specs.declared.held.Held.{Held}
use Rattle.wavelet_op.specs.declared.op.WaveletOp.{WaveletOp}
use Rattle.wavelet_op.proofs.Griddings.{meanings_more, normal_more}
use Rattle.wavelet_op.proofs.Passes.{split_first}

-- ---- two operations on one document

at_document : (d c : Key) (f s : List Action) (b : Bool) → same_text d c ≡ true → nat_le (together f s) max_count ≡ b → bounded_join (Mutates d f) (Mutates c s) ≡ Some (cond b (mutation d (compose f s)) (Err OverLimit))
unfolding bounded_join
at_document d c f s b t n = λ i. cond (t i) (Some (cond (n i) (mutation d (compose f s)) (Err OverLimit))) None

fits : (n : ℕ) → n ≤ max_count → nat_le n max_count ≡ true
fits n h = grind (arith, nat_tests)

exceeds : (n : ℕ) → max_count < n → nat_le n max_count ≡ false
exceeds n h = grind (arith, nat_tests)

pub mutations_join : (d c : Key) (f s acts : List Action) → same_text d c ≡ true → together f s ≤ max_count → compose f s ≡ Ok acts → bounded_join (Mutates d f) (Mutates c s) ≡ Some (Ok (Mutates d acts))
mutations_join d c f s acts t n h = at_document d c f s true t (fits _ n) ∙ ap (λ r. Some (mutation d r)) h

pub mutations_unjoined : (e : ComposeFault) (d c : Key) (f s : List Component) → same_text d c ≡ true → IsRefused e f s → Unjoins (bounded_join (Mutates d (actions f)) (Mutates c (actions s))) (fault_of_compose e)
mutations_unjoined of_compose.CountTooLarge d c f s t h = at_document d c (actions f) (actions s) false t (exceeds _ h)
mutations_unjoined (of_compose.DontFit place) d c f s t h = at_document d c (actions f) (actions s) true t (fits _ h.0) ∙ ap (λ r. Some (mutation d r)) h.1
mutations_unjoined of_compose.Memory d c f s t h = tt

-- ---- what is structured stays so

one_structured : (d c : Key) (f s : List Action) (a : Act) (b n : Bool) → Structured f → Structured s → cond b (Some (cond n (mutation d (compose f s)) (Err OverLimit))) None ≡ Some (Ok a) → IsStructuredAct a
one_structured d c f s a true true p q e = from (compose f s) refl e
  where
    from : (r : Composed) → compose f s ≡ r → Some (mutation d r) ≡ Some (Ok a) → IsStructuredAct a
    from (Ok acts) is g = let w : Mutates d acts ≡ a = cc in subst IsStructuredAct w (composed_structured f s acts p q is)
    from (Err place) is g = absurd (cc)
one_structured d c f s a true false p q e = absurd (cc)
one_structured d c f s a false n p q e = absurd (cc)

join_structured : (a b c : Act) → IsStructuredAct a → IsStructuredAct b → bounded_join a b ≡ Some (Ok c) → IsStructuredAct c
unfolding bounded_join
join_structured (Mutates d f) (Mutates c s) a p q e = one_structured d c f s a (same_text d c) (nat_le (together f s) max_count) p q e
join_structured (Mutates d f) Idle c p q e = absurd (cc)
join_structured (Mutates d f) (Adds b) c p q e = absurd (cc)
join_structured (Mutates d f) (Removes b) c p q e = absurd (cc)
join_structured (Mutates d f) (Sets b o n) c p q e = absurd (cc)
join_structured Idle b c p q e = absurd (cc)
join_structured (Adds a) b c p q e = absurd (cc)
join_structured (Removes a) b c p q e = absurd (cc)
join_structured (Sets a o n) b c p q e = absurd (cc)

front_of : {A E : Type 0} (a : A) (r : Result (List A) E) (p : List A) → act_front a r ≡ Ok p → (q : List A) × (r ≡ Ok q) × ((a ∷ q) ≡ p)
front_of a (Ok q) p is = (q, refl, cc)
front_of a (Err k) p is = absurd (cc)

-- after two neighbours, where it is so after whatever is held next
after_join : (a b : Act) (more fewer : List Act) → IsStructuredAct a → IsStructuredAct b → ((c : Act) (r : List Act) → IsStructuredAct c → compact_by bounded_join c more ≡ Ok r → All IsStructuredAct r) →
    (o : Option (Result Act Unfit)) → bounded_join a b ≡ o → go_on a b (λ c. compact_by bounded_join c more) o ≡ Ok fewer → All IsStructuredAct fewer
after_join a b more fewer s v rest None e g = let x = front_of a (compact_by bounded_join b more) fewer g in subst (All IsStructuredAct) x.2 (All-cons IsStructuredAct a x.0 s (rest b x.0 v x.1))
after_join a b more fewer s v rest (Some (Ok c)) e g = rest c fewer (join_structured a b c s v e) g
after_join a b more fewer s v rest (Some (Err k)) e g = absurd (cc)

compacted : (a : Act) (more fewer : List Act) → IsStructuredAct a → All IsStructuredAct more → compact_by bounded_join a more ≡ Ok fewer → All IsStructuredAct fewer
compacted a [] fewer s t h = let e : (a ∷ []) ≡ fewer = cc in subst (All IsStructuredAct) e (All-cons IsStructuredAct a [] s (All-nil IsStructuredAct))
compacted a (b ∷ more) fewer s t h =
    let u = split_first IsStructuredAct b more t in
    after_join a b more fewer s u.0 (λ c r v g. compacted c more r v u.1 g) (bounded_join a b) refl h

pub compact_structured : (acts fewer : List Act) → All IsStructuredAct acts → bounded_compact acts ≡ Ok fewer → All IsStructuredAct fewer
compact_structured [] fewer t h = let e : [] ≡ fewer = cc in subst (All IsStructuredAct) e t
compact_structured (a ∷ more) fewer t h = let u = split_first IsStructuredAct a more t in compacted a more fewer u.0 u.1 h

-- ---- one step

fronts_front : {A E : Type 0} (xs : List A) (y : A) (r : Result (List A) E) → act_fronts xs (act_front y r) ≡ act_fronts (xs ++ y ∷ []) r
fronts_front xs y (Ok ys) = ap Ok (sym (append_assoc xs (y ∷ []) ys))
fronts_front xs y (Err e) = refl

-- the one that is held is joined
pub step_joins : (done : List WaveletOp) (h : Held) (next one : WaveletOp) → bounded_join (meaning (held h)) (meaning next) ≡ Some (Ok (meaning one)) → (rest : List Act) → expects done h (meaning next ∷ rest) ≡ act_fronts (meanings done) (compact_by bounded_join (meaning one) rest)
step_joins done h next one e rest = ap (λ o. act_fronts (meanings done) (go_on (act_held h) (meaning next) (λ c. compact_by bounded_join c rest) o)) e

-- the one that is held is done
pub step_stays : (done new : List WaveletOp) (h : Held) (next last : WaveletOp) → bounded_join (meaning (held h)) (meaning next) ≡ None → meaning last ≡ act_held h → new ≡ done ++ last ∷ [] → (rest : List Act) → expects done h (meaning next ∷ rest) ≡ act_fronts (meanings new) (compact_by bounded_join (meaning next) rest)
step_stays done new h next last e m is rest =
    ap (λ o. act_fronts (meanings done) (go_on (act_held h) (meaning next) (λ c. compact_by bounded_join c rest) o)) e
    ∙ fronts_front (meanings done) (act_held h) (compact_by bounded_join (meaning next) rest)
    ∙ ap (λ z. act_fronts z (compact_by bounded_join (meaning next) rest)) (ap (λ z. meanings done ++ z ∷ []) (sym m) ∙ sym (meanings_more done last) ∙ ap meanings (sym is))

-- ---- along the list

pub record IsCompacting (all : List WaveletOp) (done : List WaveletOp) (h : Held) (i : ℕ) : Type 0 where
  pub is : bounded_compact (meanings all) ≡ expects done h (meanings (drop i all))
  pub settled : IsSettled h
  pub normal : AreNormal done
  pub short : length done + 1 ≤ i

none_done : {A E : Type 0} (r : Result (List A) E) → r ≡ act_fronts [] r
none_done (Ok p) = refl
none_done (Err e) = refl

pub compacting_start : (all : List WaveletOp) (h : Held) → 0 < length all → held h ≡ get_or all 0 (held h) → IsSettled h → IsCompacting all [] h 1
compacting_start all h some first s =
    let e : all ≡ held h ∷ drop 1 all = drop-cons all 0 (held h) some ∙ (λ k. sym first k ∷ drop 1 all) in
    record { is = ap (λ z. bounded_compact (meanings z)) e ∙ none_done (compact_by bounded_join (act_held h) (meanings (drop 1 all))); settled = s; normal = All-nil IsNormal; short = omega arith }

rest_from : (xs : List WaveletOp) (i : ℕ) (op : WaveletOp) → i < length xs → op ≡ get_or xs i op → meanings (drop i xs) ≡ meaning op ∷ meanings (drop (i + 1) xs)
rest_from xs i op h is = ap meanings (drop-cons xs i op h ∙ (λ k. sym is k ∷ drop (sym (add-one i) k) xs))

pub compacting_step : (all done done' : List WaveletOp) (h h' : Held) (i : ℕ) (next : WaveletOp) → IsCompacting all done h i → i < length all → next ≡ get_or all i next → IsStep done h next done' h' → IsCompacting all done' h' (i + 1)
compacting_step all done done' h h' i next c l is s = record {
  is = c.is ∙ ap (expects done h) (rest_from all i next l is) ∙ s.is (meanings (drop (i + 1) all));
  settled = s.settled;
  normal = s.normal c.normal;
  short = omega (arith, c.short, s.longer);
}

tells : (done : List Act) (a b : Act) (rest : List Act) (o : Option (Result Act Unfit)) (f : WaveletFault) → bounded_join a b ≡ o → Unjoins o f → TellsUnfit (act_fronts done (compact_by bounded_join a (b ∷ rest))) f
tells done a b rest o (OpInvalid k) e u = u
tells done a b rest o CountTooLarge e u = ap (λ z. act_fronts done (go_on a b (λ c. compact_by bounded_join c rest) z)) (e ∙ u)
tells done a b rest o (Conflict k) e u = u
tells done a b rest o (DontFit place) e u = ap (λ z. act_fronts done (go_on a b (λ c. compact_by bounded_join c rest) z)) (e ∙ u)
tells done a b rest o Memory e u = tt

pub compacting_refused : (all done : List WaveletOp) (h : Held) (i : ℕ) (next : WaveletOp) (f : WaveletFault) → IsCompacting all done h i → i < length all → next ≡ get_or all i next → Unjoins (bounded_join (meaning (held h)) (meaning next)) f → IsUnfit all f
compacting_refused all done h i next f c l is u =
    subst (λ r. TellsUnfit r f) (sym (c.is ∙ ap (expects done h) (rest_from all i next l is))) (tells (meanings done) (act_held h) (meaning next) (meanings (drop (i + 1) all)) (bounded_join (act_held h) (meaning next)) f refl u)

pub compacting_end : (all done new : List WaveletOp) (h : Held) (i : ℕ) (last : WaveletOp) → IsCompacting all done h i → length all ≤ i → meaning last ≡ act_held h → IsNormal last → new ≡ done ++ last ∷ [] → IsCompaction all new
compacting_end all done new h i last c l m n is =
    let ends : bounded_compact (meanings all) ≡ Ok (meanings new) = c.is
    ∙ ap (λ z. expects done h (meanings z)) (drop_of_length-le all l)
    ∙ ap Ok (ap (λ z. meanings done ++ z ∷ []) (sym m) ∙ sym (meanings_more done last) ∙ ap meanings (sym is)) in
    record { is = ends; normal = subst AreNormal (sym is) (normal_more done last c.normal n); structured = λ s. compact_structured (meanings all) (meanings new) s ends }
