-- Operations on their way through others, one after the other.
--     pass_structured, grid_structured      what is structured stays so
--     IsGridding ..      what is to come, with what is done in front of it, is the whole
use Rattle.std.proofs.Common.{◌≡◌, ℕ, suc, ◌+◌, ◌<◌, ◌≤◌, List, [], ◌∷◌, ◌++◌, length, Result, Ok, Err, refl, sym, ap, subst, ◌∙◌, arith, append_assoc, length-append, append-nil, drop, drop-cons, add-one, get_or}
use Rattle.std.specs.List.{All}
use Rattle.std.proofs.Math.ListN.{drop_of_length-le}
use Rattle.std.proofs.lemmas.List.{length-map, map-append}
use Rattle.std.proofs.lemmas.List.Elements.{All-cons, All-nil, All-append}
use Rattle.wavelet_op.specs.Acts.{Act, meaning, meanings, IsStructuredAct, IsNormal, AreNormal}
use Rattle.wavelet_op.specs.Grids.{and_next, earlier_front, later_front, at_index, pass_one, grid_by}
use Rattle.wavelet_op.specs.Passing.{act_held, acts_held, IsSettled, later_fronts, IsPassed, IsGridded}
use Rattle.wavelet_op.specs.Results.{Refuses, IsOpsPair}
use Rattle.wavelet_op.specs.Transform.{Refusal, bounded}
use Rattle.wavelet_op.specs.declared.fault.WaveletFault.{WaveletFault}
use Rattle.wavelet_op.specs.declared.fault.WaveletFault.TheVariants.{OpInvalid, CountTooLarge, Conflict, DontFit, Memory}
use Rattle.wavelet_op.specs.declared.held.Held.{Held}
use Rattle.wavelet_op.specs.declared.op.WaveletOp.{WaveletOp}
use Rattle.wavelet_op.proofs.Crossings.{structured_step}
use Rattle.wavelet_op.proofs.Partial.{next_ok}
use Rattle.wavelet_op.proofs.Passes.{split_first}

-- ---- what is structured stays so

front_of : {A E : Type 0} (e : A) (r : Result (A × List A) E) (p : A × List A) → earlier_front e r ≡ Ok p → (q : A × List A) × (r ≡ Ok q) × ((q.0, e ∷ q.1) ≡ p)
front_of e (Ok q) p is = (q, refl, cc)
front_of e (Err k) p is = absurd (cc)

later_of : {A E : Type 0} (l : A) (r : Result (List A × List A) E) (p : List A × List A) → later_front l r ≡ Ok p → (q : List A × List A) × (r ≡ Ok q) × ((l ∷ q.0, q.1) ≡ p)
later_of l (Ok q) p is = (q, refl, cc)
later_of l (Err k) p is = absurd (cc)

index_of : {B E : Type 0} (k : ℕ) (r : Result B E) (x : B) → at_index k r ≡ Ok x → r ≡ Ok x
index_of k (Ok y) x e = cc
index_of k (Err j) x e = absurd (cc)

pub pass_structured : (l : Act) (es : List Act) (p : Act × List Act) → IsStructuredAct l → All IsStructuredAct es → pass_one bounded l es ≡ Ok p → IsStructuredAct p.0 × All IsStructuredAct p.1
pass_structured l [] p s t h = let e : (l, []) ≡ p = cc in subst (λ (q : Act × List Act). IsStructuredAct q.0 × All IsStructuredAct q.1) e (s, t)
pass_structured l (e ∷ es) p s t h =
    let u = split_first IsStructuredAct e es t in
    let x = next_ok (λ p. earlier_front p.1 (pass_one bounded p.0 es)) (bounded l e) p h in
    let w = structured_step l e x.0 s u.0 x.1 in
    let y = front_of (x.0).1 (pass_one bounded (x.0).0 es) p x.2 in
    let z = pass_structured (x.0).0 es y.0 w.0 u.1 y.1 in
    subst (λ (q : Act × List Act). IsStructuredAct q.0 × All IsStructuredAct q.1) y.2 (z.0, All-cons IsStructuredAct (x.0).1 (y.0).1 w.1 z.1)

pub grid_structured : (k : ℕ) (ls es : List Act) (p : List Act × List Act) → All IsStructuredAct ls → All IsStructuredAct es → grid_by bounded k ls es ≡ Ok p → All IsStructuredAct p.0 × All IsStructuredAct p.1
grid_structured k [] es p s t h = let e : ([], es) ≡ p = cc in subst (λ (q : List Act × List Act). All IsStructuredAct q.0 × All IsStructuredAct q.1) e (s, t)
grid_structured k (l ∷ ls) es p s t h =
    let u = split_first IsStructuredAct l ls s in
    let x = next_ok (λ p. later_front p.0 (grid_by bounded (suc k) ls p.1)) (at_index k (pass_one bounded l es)) p h in
    let w = pass_structured l es x.0 u.0 t (index_of k (pass_one bounded l es) x.0 x.1) in
    let y = later_of (x.0).0 (grid_by bounded (suc k) ls (x.0).1) p x.2 in
    let z = grid_structured (suc k) ls (x.0).1 y.0 u.1 w.1 y.1 in
    subst (λ (q : List Act × List Act). All IsStructuredAct q.0 × All IsStructuredAct q.1) y.2 (All-cons IsStructuredAct (x.0).0 (y.0).0 w.0 z.0, z.1)

-- ---- one operation after the other

pub record IsGridding (ls0 es0 : List Act) (n : ℕ) (done : List WaveletOp) (k : ℕ) (rest : List Act) (passed : List Held) : Type 0 where
  pub is : grid_by bounded 0 ls0 es0 ≡ later_fronts (meanings done) (grid_by bounded k rest (acts_held passed))
  pub rest_structured : All IsStructuredAct rest
  pub passed_structured : All IsStructuredAct (acts_held passed)
  pub passed_settled : All IsSettled passed
  pub done_normal : AreNormal done
  pub done_long : length done ≡ k
  pub passed_long : length passed ≡ n

pub gridding_start : (ls : List Act) (es : List Held) → All IsStructuredAct ls → All IsStructuredAct (acts_held es) → All IsSettled es → IsGridding ls (acts_held es) (length es) [] 0 ls es
gridding_start ls es s t u = record { is = none (grid_by bounded 0 ls (acts_held es)); rest_structured = s; passed_structured = t; passed_settled = u; done_normal = All-nil IsNormal; done_long = refl; passed_long = refl }
  where
    none : {A E : Type 0} (r : Result (List A × List A) E) → r ≡ later_fronts [] r
    none (Ok p) = refl
    none (Err e) = refl

fronts_front : {A E : Type 0} (xs : List A) (y : A) (r : Result (List A × List A) E) → later_fronts xs (later_front y r) ≡ later_fronts (xs ++ y ∷ []) r
fronts_front xs y (Ok p) = ap (λ z. Ok (z, p.1)) (sym (append_assoc xs (y ∷ []) p.0))
fronts_front xs y (Err e) = refl

pub meanings_more : (xs : List WaveletOp) (y : WaveletOp) → meanings (xs ++ y ∷ []) ≡ meanings xs ++ meaning y ∷ []
meanings_more [] y = refl
meanings_more (x ∷ xs) y = ap (λ z. meaning x ∷ z) (meanings_more xs y)

pub gridding_step : (ls0 es0 : List Act) (n k : ℕ) (done : List WaveletOp) (l : Act) (rest : List Act) (passed theirs : List Held) (op mine : Held) (finished : WaveletOp) →
    IsGridding ls0 es0 n done k (l ∷ rest) passed → act_held op ≡ l → IsPassed op passed mine theirs → meaning finished ≡ act_held mine → IsNormal finished →
    IsGridding ls0 es0 n (done ++ finished ∷ []) (suc k) rest theirs
gridding_step ls0 es0 n k done l rest passed theirs op mine finished h same p fin normal =
    let s = split_first IsStructuredAct l rest h.rest_structured in
    let one : pass_one bounded l (acts_held passed) ≡ Ok (act_held mine, acts_held theirs) = ap (λ z. pass_one bounded z (acts_held passed)) (sym same) ∙ p.is in
    let w = pass_structured l (acts_held passed) (act_held mine, acts_held theirs) s.0 h.passed_structured one in
    record {
      is = h.is
          ∙ ap (λ r. later_fronts (meanings done) (and_next (λ p. later_front p.0 (grid_by bounded (suc k) rest p.1)) (at_index k r))) one
          ∙ fronts_front (meanings done) (act_held mine) (grid_by bounded (suc k) rest (acts_held theirs))
          ∙ ap (λ z. later_fronts z (grid_by bounded (suc k) rest (acts_held theirs))) (ap (λ z. meanings done ++ z ∷ []) (sym fin) ∙ sym (meanings_more done finished));
      rest_structured = s.1;
      passed_structured = w.1;
      passed_settled = p.earlier_settled;
      done_normal = All-append IsNormal done (finished ∷ []) h.done_normal (All-cons IsNormal finished [] normal (All-nil IsNormal));
      done_long = omega (arith, h.done_long, length-append done (finished ∷ []));
      passed_long = p.long ∙ h.passed_long;
    }

refused_whole : (r : Result (List Act × List Act) (ℕ × Refusal)) (s : Result (Act × List Act) Refusal) (k : ℕ) (f : WaveletFault) → ((e : Refusal) → s ≡ Err e → r ≡ Err (k, e)) → Refuses (at_index k s) f → Refuses r f
refused_whole r s k (OpInvalid j) g h = h
refused_whole r (Ok x) k CountTooLarge g h = absurd (let e = h.1 in cc)
refused_whole r (Err e) k CountTooLarge g h = (h.0, g e refl ∙ cc (h.1))
refused_whole r (Ok x) k (Conflict j) g h = absurd (cc)
refused_whole r (Err e) k (Conflict j) g h = g e refl ∙ cc h
refused_whole r s k (DontFit place) g h = h
refused_whole r s k Memory g h = h

pub gridding_refused : (ls0 es0 : List Act) (n k : ℕ) (done : List WaveletOp) (l : Act) (rest : List Act) (passed : List Held) (op : Held) (f : WaveletFault) →
    IsGridding ls0 es0 n done k (l ∷ rest) passed → act_held op ≡ l → Refuses (at_index k (pass_one bounded (act_held op) (acts_held passed))) f → Refuses (grid_by bounded 0 ls0 es0) f
gridding_refused ls0 es0 n k done l rest passed op f h same r =
    refused_whole (grid_by bounded 0 ls0 es0) (pass_one bounded (act_held op) (acts_held passed)) k f
    (λ e is. h.is ∙ ap (λ q. later_fronts (meanings done) (and_next (λ p. later_front p.0 (grid_by bounded (suc k) rest p.1)) (at_index k q))) (ap (λ z. pass_one bounded z (acts_held passed)) (sym same) ∙ is)) r

pub gridding_end : (later : List WaveletOp) (earlier : List Held) (done : List WaveletOp) (k : ℕ) (passed : List Held) → IsGridding (meanings later) (acts_held earlier) (length earlier) done k [] passed → k ≡ length later → IsGridded later earlier done passed
gridding_end later earlier done k passed h e = record {
  is = h.is ∙ ap (λ z. Ok (z, acts_held passed)) (append-nil (meanings done));
  later_normal = h.done_normal;
  earlier_settled = h.passed_settled;
  later_long = h.done_long ∙ e;
  earlier_long = h.passed_long;
}

-- ---- lent, and given back

pub lent_more : (xs : List Held) (y : Held) → acts_held (xs ++ y ∷ []) ≡ acts_held xs ++ act_held y ∷ []
lent_more xs y = map-append act_held xs (y ∷ [])

pub finished_more : (all : List Act) (ops : List WaveletOp) (o : WaveletOp) (op : Held) (rest : List Held) → meanings ops ++ acts_held (op ∷ rest) ≡ all → meaning o ≡ act_held op → meanings (ops ++ o ∷ []) ++ acts_held rest ≡ all
finished_more all ops o op rest h e = ap (λ z. z ++ acts_held rest) (meanings_more ops o) ∙ append_assoc (meanings ops) (meaning o ∷ []) (acts_held rest) ∙ ap (λ z. meanings ops ++ z ∷ acts_held rest) e ∙ h

pub normal_more : (ops : List WaveletOp) (o : WaveletOp) → AreNormal ops → IsNormal o → AreNormal (ops ++ o ∷ [])
normal_more ops o h k = All-append IsNormal ops (o ∷ []) h (All-cons IsNormal o [] k (All-nil IsNormal))

-- ---- along a slice

rest_from : (xs : List WaveletOp) (i : ℕ) (op : WaveletOp) → i < length xs → op ≡ get_or xs i op → meanings (drop i xs) ≡ meaning op ∷ meanings (drop (i + 1) xs)
rest_from xs i op h is = ap meanings (drop-cons xs i op h ∙ (λ k. sym is k ∷ drop (sym (add-one i) k) xs))

-- the operations so far are done, and this one is next
pub gridding_here : (ls0 es0 : List Act) (n i : ℕ) (later done : List WaveletOp) (passed : List Held) (op : WaveletOp) → IsGridding ls0 es0 n done i (meanings (drop i later)) passed → i < length later → op ≡ get_or later i op → IsGridding ls0 es0 n done i (meaning op ∷ meanings (drop (i + 1) later)) passed
gridding_here ls0 es0 n i later done passed op h l is = subst (λ r. IsGridding ls0 es0 n done i r passed) (rest_from later i op l is) h

pub gridding_asks : (ls0 es0 : List Act) (n i : ℕ) (done : List WaveletOp) (passed : List Held) (l : Act) (rest : List Act) → IsGridding ls0 es0 n done i (l ∷ rest) passed → IsStructuredAct l
gridding_asks ls0 es0 n i done passed l rest h = (split_first IsStructuredAct l rest h.rest_structured).0

pub gridding_next : (ls0 es0 : List Act) (n i : ℕ) (later done new : List WaveletOp) (passed theirs : List Held) (op mine : Held) (finished : WaveletOp) →
    IsGridding ls0 es0 n done i (act_held op ∷ meanings (drop (i + 1) later)) passed → IsPassed op passed mine theirs → meaning finished ≡ act_held mine → IsNormal finished → new ≡ done ++ finished ∷ [] →
    IsGridding ls0 es0 n new (i + 1) (meanings (drop (i + 1) later)) theirs
gridding_next ls0 es0 n i later done new passed theirs op mine finished h p fin normal e =
    subst (λ x. IsGridding ls0 es0 n x (i + 1) (meanings (drop (i + 1) later)) theirs) (sym e)
    (subst (λ k. IsGridding ls0 es0 n (done ++ finished ∷ []) k (meanings (drop (i + 1) later)) theirs) (sym (add-one i))
    (gridding_step ls0 es0 n i done (act_held op) (meanings (drop (i + 1) later)) passed theirs op mine finished h refl p fin normal))

-- ---- the whole

pub lists_pair : (later earlier ls es : List WaveletOp) (passed0 passed : List Held) → acts_held passed0 ≡ meanings earlier → IsGridded later passed0 ls passed → meanings es ≡ acts_held passed → AreNormal es → All IsStructuredAct (meanings later) → All IsStructuredAct (meanings earlier) → IsOpsPair later earlier (record { later = ls; earlier = es })
lists_pair later earlier ls es passed0 passed begins h ends normal s t =
    let is : grid_by bounded 0 (meanings later) (meanings earlier) ≡ Ok (meanings ls, meanings es) = ap (grid_by bounded 0 (meanings later)) (sym begins) ∙ h.is ∙ ap (λ z. Ok (meanings ls, z)) (sym ends) in
    let w = grid_structured 0 (meanings later) (meanings earlier) (meanings ls, meanings es) s t is in
    record {
      is = is;
      later_normal = h.later_normal;
      earlier_normal = normal;
      later_long = h.later_long;
      earlier_long = sym (length-map es meaning) ∙ ap length ends ∙ length-map passed act_held ∙ h.earlier_long ∙ sym (length-map passed0 act_held) ∙ ap length begins ∙ length-map earlier meaning;
      later_structured = w.0;
      earlier_structured = w.1;
    }

-- ---- the test of structure along a slice

pub structured_first : (xs : List WaveletOp) (i : ℕ) (op : WaveletOp) → i < length xs → op ≡ get_or xs i op → All IsStructuredAct (meanings (drop i xs)) → IsStructuredAct (meaning op) × All IsStructuredAct (meanings (drop (i + 1) xs))
structured_first xs i op l is h = split_first IsStructuredAct (meaning op) (meanings (drop (i + 1) xs)) (subst (All IsStructuredAct) (rest_from xs i op l is) h)

pub structured_more : (xs : List WaveletOp) (i : ℕ) (op : WaveletOp) → i < length xs → op ≡ get_or xs i op → IsStructuredAct (meaning op) → All IsStructuredAct (meanings (drop (i + 1) xs)) → All IsStructuredAct (meanings (drop i xs))
structured_more xs i op l is s h = subst (All IsStructuredAct) (sym (rest_from xs i op l is)) (All-cons IsStructuredAct (meaning op) (meanings (drop (i + 1) xs)) s h)

pub structured_none : (xs : List WaveletOp) (i : ℕ) → length xs ≤ i → All IsStructuredAct (meanings (drop i xs))
structured_none xs i h = subst (λ z. All IsStructuredAct (meanings z)) (sym (drop_of_length-le xs h)) (All-nil IsStructuredAct)
