-- One step of the walk, from what the arms keep.
--     IsFirst l x n          x is the first n actions of a way's run
--     room_first, room_second     there is room for a run
--     goes_*                 a step goes past runs
--     unfit_both             a step is refused
--     can_pass, stepped      the cursors can pass what a step says, and stand after it
--     giving_*, taking_*     runs that give items, and runs that take them
use Rattle.std.proofs.Common.{◌≡◌, ℕ, zero, suc, ◌+◌, ◌<◌, ◌≤◌, Bool, false, Option, List, [], ◌∷◌, ◌++◌, length, map, replicate, take, drop, refl, sym, ap, subst, ◌∙◌, arith, Ok, Err, length-append, length-drop}
use Rattle.std.proofs.lemmas.List.{append-nil, length-map, length-replicate, take-map, length-take-le}
use Rattle.doc_items.specs.Changes.{ChangeSet}
use Rattle.doc_items.specs.Limits.{max_count}
use Rattle.doc_items.specs.declared.item.Content.{Content}
use Rattle.doc_items.specs.declared.item.Item.{Item}
use Rattle.doc_op.specs.Actions.{AttributeChange, Action, Keep, Ins, insertion, deletion, actions}
use Rattle.doc_op.specs.Cursors.{Way, left}
use Rattle.doc_op.specs.declared.component.Component.{Component}
use Rattle.doc_op.specs.Normal.{normal_form, shown_last}
use Rattle.doc_op.specs.Lengths.{input_len, output_len, inserted_len}
use Rattle.doc_op.proofs.Lengths.{inserted_len-append}
use Rattle.op_runs.specs.Kept.{kept_change, kept_actions, IsFitKept}
use Rattle.op_runs.specs.Passages.{goes_on, CanPass, ArePast, IsPassed}
use Rattle.op_runs.specs.declared.passage.Passage.{Passage}
use Rattle.op_runs.specs.declared.passage.Passage.TheVariants.{End, First, Second, Both}
use Rattle.op_runs.proofs.Ways.{front_split, fewer_left}
use Rattle.op_compose.specs.Compose.{ahead, compose}
use Rattle.op_compose.specs.Weaves.{NoDelete, expects, Passed, PassedSecond, Refused, HasRoom, Grows, IsInStep}
use Rattle.op_compose.specs.Steps.{together, HasAllRoom, Goes, IsStep, IsUnfit, IsAtEnd, IsMoved, IsStepped, IsComposition, IsDontFit, IsRefused}
use Rattle.op_runs.specs.declared.kept.Kept.{Kept}
use Rattle.op_compose.specs.declared.fault.ComposeFault.{ComposeFault}
use Rattle.op_compose.specs.declared.fault.ComposeFault.TheVariants.{CountTooLarge, DontFit, Memory}
use Rattle.op_compose.specs.declared.weave.Weave.{Weave}
use Rattle.op_compose.proofs.Depths.{composed_structured}
use Rattle.op_compose.proofs.Rooms.{inserted_len-insertions, inserted_len-drop, both_lengths}
use Rattle.op_compose.proofs.Touches.{moved_first, moved_second}

-- ---- a run in front

take_whole : (x : List Action) (n : ℕ) → n ≡ length x → take n x ≡ x
take_whole [] zero h = refl
take_whole [] (suc n) h = refl
take_whole (a ∷ x) zero h = absurd (omega (arith, h))
take_whole (a ∷ x) (suc n) h = ap (λ l. a ∷ l) (take_whole x n (omega (arith, h)))

pub record IsFirst (l : Way) (x : List Action) (n : ℕ) : Type 0 where
  pub is : x ≡ take n l.front
  pub fits : n ≤ length l.front

front_is : (l : Way) (x : List Action) (n : ℕ) → IsFirst l x n → left l ≡ x ++ drop n (left l)
front_is l x n h = front_split l n h.fits ∙ ap (λ y. y ++ drop n (left l)) (sym h.is)

-- the whole of a run that is inserted or deleted
pub whole_run : (l : Way) (g : ChangeSet → Content → Action) (w : ChangeSet) (cs : List Content) (n : ℕ) → w ≡ l.under → map (g l.under) cs ≡ l.front → n ≡ length cs → IsFirst l (map (g w) cs) n
whole_run l g w cs n e p same =
    let len : n ≡ length l.front = same ∙ sym (length-map cs (g l.under)) ∙ ap length p in
    record { is = ap (λ v. map (g v) cs) e ∙ p ∙ sym (take_whole l.front n len); fits = omega (arith, len) }

-- the first of it
pub first_run : (l : Way) (g : ChangeSet → Content → Action) (w : ChangeSet) (cs ds : List Content) (n : ℕ) → w ≡ l.under → map (g l.under) cs ≡ l.front → n ≤ length cs → ds ≡ take n cs → IsFirst l (map (g w) ds) n
first_run l g w cs ds n e p h q =
    let len : length l.front ≡ length cs = sym (ap length p) ∙ length-map cs (g l.under) in
    record { is = ap (λ v. map (g v) ds) e ∙ ap (map (g l.under)) q ∙ sym (take-map (g l.under) n cs) ∙ ap (take n) p; fits = omega (arith, h, len) }

pub first_length : (cs ds : List Content) (n : ℕ) → n ≤ length cs → ds ≡ take n cs → length ds ≡ n
first_length cs ds n h e = ap length e ∙ length-take-le n cs h

-- the first of items that stay
pub first_kept : (l : Way) (w : ChangeSet) (k j : Kept) (n : ℕ) → w ≡ l.under → kept_actions l.under k ≡ l.front → n ≤ k.count → kept_actions w j ≡ take n (kept_actions w k) → IsFirst l (kept_actions w j) n
first_kept l w k j n e p h q =
    let len : length l.front ≡ k.count = sym (ap length p) ∙ length-replicate k.count (Keep l.under (kept_change k.part)) in
    record { is = q ∙ ap (λ v. take n (kept_actions v k)) e ∙ ap (take n) p; fits = omega (arith, h, len) }

pub run_fits : (l : Way) (g : ChangeSet → Content → Action) (cs : List Content) → map (g l.under) cs ≡ l.front → length cs ≤ length l.front
run_fits l g cs p = let len : length l.front ≡ length cs = sym (ap length p) ∙ length-map cs (g l.under) in omega (arith, len)

-- ---- room

pub same_growth : (done after : Weave) (n m : ℕ) → n ≡ m → Grows done m after → Grows done n after
same_growth done after n m e g = subst (λ k. Grows done k after) (sym e) g

pub fewer : (w : Weave) (n m : ℕ) → n ≤ m → HasRoom w m → HasRoom w n
fewer w n m h r = let a = r.0.0 in let b = r.0.1 in let c = r.1 in ((omega (arith, a, h), omega (arith, b, h)), omega (arith, c, h))

grown : (done after : Weave) (n m all : ℕ) → HasRoom done all → Grows done n after → n + m ≤ all → HasRoom after m
grown done after n m all r g h =
    let a = r.0.0 in let b = r.0.1 in let c = r.1 in
    let i = g.0 in let j = g.1 in let k = g.2 in
    ((omega (arith, a, i, h), omega (arith, b, j, h)), omega (arith, c, k, h))

left_len : (l : Way) → length (left l) ≡ length l.front + length l.behind
left_len l = length-append l.front l.behind

pub room_first : (w : Weave) (f : Way) (s : List Action) (n : ℕ) → n ≤ length f.front → HasAllRoom w (left f) s → HasRoom w n
room_first w f s n h r = fewer w n (length (left f) + inserted_len s) (let e = left_len f in omega (arith, h, e)) r

-- a run that both operations have
pub room_both : (w : Weave) (f : Way) (s : List Action) (x : List Action) (n m : ℕ) → IsFirst f x n → m ≡ n → HasAllRoom w (left f) s → HasRoom w m
room_both w f s x n m h e r = let fits = h.fits in room_first w f s m (omega (arith, fits, e)) r

inserted_front : (s : Way) (u : ChangeSet) (cs : List Content) → map (insertion u) cs ≡ s.front → inserted_len (left s) ≡ length cs + inserted_len s.behind
inserted_front s u cs p = ap (λ x. inserted_len (x ++ s.behind)) (sym p) ∙ inserted_len-append (map (insertion u) cs) s.behind ∙ ap (λ n. n + inserted_len s.behind) (inserted_len-insertions cs u)

pub room_second : (w : Weave) (f : List Action) (s : Way) (u : ChangeSet) (cs : List Content) → map (insertion u) cs ≡ s.front → HasAllRoom w f (left s) → HasRoom w (length cs)
room_second w f s u cs p r = fewer w (length cs) (length f + inserted_len (left s)) (let e = inserted_front s u cs p in omega (arith, e)) r

-- the whole walk
pub all_room : (w : Weave) (f s : List Action) → w.out ≡ [] → w.place ≡ 0 → together f s ≤ max_count → HasAllRoom w f s
all_room w f s o p h =
    let i : input_len w.out ≡ 0 = ap input_len o in
    let j : output_len w.out ≡ 0 = ap output_len o in
    let l = both_lengths f in
    ((omega (arith, i, h, l), omega (arith, j, h, l)), omega (arith, p, h, l))

-- ---- steps

pub goes_first : (done after : Weave) (f s : Way) (x : List Action) (n : ℕ) → IsFirst f x n → Passed done x [] after → Grows done n after → HasAllRoom done (left f) (left s) → IsInStep after f.under s.under → Goes done f s n 0 after
goes_first done after f s x n h pass grow room same =
    let fits = h.fits in
    let len = length-drop n (left f) in
    let all = left_len f in
    record {
      is = ap (λ l. expects done l (left s)) (front_is f x n h) ∙ pass (drop n (left f)) (left s);
      first_fits = fits;
      second_fits = omega arith;
      room = grown done after n (length (drop n (left f)) + inserted_len (left s)) (length (left f) + inserted_len (left s)) room grow (omega (arith, fits, len, all));
      in_step = same;
    }

pub goes_second : (done after : Weave) (f s : Way) (u w : ChangeSet) (cs : List Content) (n : ℕ) → map (insertion u) cs ≡ s.front → n ≡ length cs → IsFirst s (map (insertion w) cs) n → NoDelete (left f) → PassedSecond done (map (insertion w) cs) after → Grows done n after
    → HasAllRoom done (left f) (left s) → IsInStep after f.under s.under → Goes done f s 0 n after
goes_second done after f s u w cs n p len h nd pass grow room same =
    let fits = h.fits in
    let whole = inserted_front s u cs p in
    let rest : inserted_len (left s) ≡ length cs + inserted_len (drop n (left s)) =
    ap inserted_len (front_is s (map (insertion w) cs) n h) ∙ inserted_len-append (map (insertion w) cs) (drop n (left s)) ∙ ap (λ k. k + inserted_len (drop n (left s))) (inserted_len-insertions cs w) in
    record {
      is = ap (expects done (left f)) (front_is s (map (insertion w) cs) n h) ∙ pass (left f) (drop n (left s)) nd;
      first_fits = omega arith;
      second_fits = fits;
      room = grown done after n (length (left f) + inserted_len (drop n (left s))) (length (left f) + inserted_len (left s)) room grow (omega (arith, rest, len));
      in_step = same;
    }

pub goes_both : (done after : Weave) (f s : Way) (x y : List Action) (n : ℕ) → IsFirst f x n → IsFirst s y n → Passed done x y after → Grows done n after → HasAllRoom done (left f) (left s) → IsInStep after f.under s.under → Goes done f s n n after
goes_both done after f s x y n h k pass grow room same =
    let fits = h.fits in
    let len = length-drop n (left f) in
    let all = left_len f in
    let less = inserted_len-drop n (left s) in
    record {
      is = (λ t. expects done (front_is f x n h t) (front_is s y n k t)) ∙ pass (drop n (left f)) (drop n (left s));
      first_fits = fits;
      second_fits = k.fits;
      room = grown done after n (length (drop n (left f)) + inserted_len (drop n (left s))) (length (left f) + inserted_len (left s)) room grow (omega (arith, fits, len, all, less));
      in_step = same;
    }

pub unfit_both : (done : Weave) (f s : Way) (x y : List Action) (n : ℕ) (e : ComposeFault) → IsFirst f x n → IsFirst s y n → Refused done x y e → IsUnfit e done (left f) (left s)
unfit_both done f s x y n CountTooLarge h k r = r
unfit_both done f s x y n (DontFit place) h k r = (λ t. expects done (front_is f x n h t) (front_is s y n k t)) ∙ r (drop n (left f)) (drop n (left s))
unfit_both done f s x y n Memory h k r = tt

-- ---- the cursors stand after a step

pub can_pass : (p : Passage) (done after : Weave) (f s : Way) → IsStep p done f s after → CanPass p f s
can_pass End done after f s h = tt
can_pass (First n) done after f s h = (h.0, h.1.first_fits)
can_pass (Second n) done after f s h = (h.0, h.1.second_fits)
can_pass (Both n) done after f s h = (h.0, h.1.first_fits, h.1.second_fits)

-- the walk with other touched keys
abbrev with_touched : Option (List (List ℕ)) → Weave → Weave
with_touched t w = record { out = w.out; place = w.place; touched = t }

moved : (done mid : Weave) (f s g t : Way) (n m : ℕ) (last : Option (List (List ℕ))) → 0 < n + m → Goes done f s n m mid → ArePast n m f s mid.touched g t last → IsMoved done f s (with_touched last mid) g t
moved done mid f s g t n m last some h past =
    let p = past.first in let q = past.second in
    record {
      is = h.is ∙ (λ i. expects mid (sym p i) (sym q i));
      room = subst (λ l. HasAllRoom mid l (left t)) (sym p) (subst (HasAllRoom mid (drop n (left f))) (sym q) h.room);
      in_step = moved_second past.between last (shown_last mid.out) g.under s.under t.under past.touched_second (moved_first mid.touched past.between (shown_last mid.out) f.under g.under s.under past.touched_first h.in_step);
      smaller = fewer_left n m f s g t mid.touched last some h.first_fits h.second_fits past;
    }

pub stepped : (p : Passage) (more : Bool) (done mid : Weave) (f s g t : Way) (last : Option (List (List ℕ))) → more ≡ goes_on p → IsStep p done f s mid → IsPassed p f s mid.touched g t last → IsStepped more done f s (with_touched last mid) g t
stepped p more done mid f s g t last e h past = subst (λ b. IsStepped b done f s (with_touched last mid) g t) (sym e) (by p h past)
  where
    by : (p : Passage) → IsStep p done f s mid → IsPassed p f s mid.touched g t last → IsStepped (goes_on p) done f s (with_touched last mid) g t
    by End h past = (h.0, h.1, ap (λ x. with_touched x mid) past.2 ∙ h.2)
    by (First n) h past = let some = h.0 in moved done mid f s g t n 0 last (omega (arith, some)) h.1 past
    by (Second n) h past = let some = h.0 in moved done mid f s g t 0 n last (omega (arith, some)) h.1 past
    by (Both n) h past = let some = h.0 in moved done mid f s g t n n last (omega (arith, some)) h.1 past

-- ---- runs beside the end of the other operation

pub record IsGiving (l : List Action) : Type 0 where
  pub no_delete : NoDelete l
  pub alone : compose l [] ≡ Err 0

giving_keep : (u : ChangeSet) (a : AttributeChange) (l : List Action) → IsGiving (Keep u a ∷ l)
giving_keep u a l = record { no_delete = λ y s. refl; alone = refl }

giving_ins : (x : Item) (l : List Action) → IsGiving (Ins x ∷ l)
giving_ins x l = record { no_delete = λ y s. refl; alone = refl }

pub giving_kept : (l : Way) (u : ChangeSet) (k : Kept) → kept_actions u k ≡ l.front → IsFitKept k → IsGiving (left l)
giving_kept l u k p h = subst (λ x. IsGiving (x ++ l.behind)) p (by k.count h.0)
  where
    by : (n : ℕ) → 0 < n → IsGiving (replicate n (Keep u (kept_change k.part)) ++ l.behind)
    by zero s = absurd (omega (arith, s))
    by (suc n) s = giving_keep u (kept_change k.part) (replicate n (Keep u (kept_change k.part)) ++ l.behind)

pub giving_inserted : (l : Way) (u : ChangeSet) (cs : List Content) → map (insertion u) cs ≡ l.front → 0 < length cs → IsGiving (left l)
giving_inserted l u cs p h = subst (λ x. IsGiving (x ++ l.behind)) p (by cs h)
  where
    by : (cs : List Content) → 0 < length cs → IsGiving (map (insertion u) cs ++ l.behind)
    by [] s = absurd (omega (arith, s))
    by (c ∷ cs) s = giving_ins _ (map (insertion u) cs ++ l.behind)

pub giving_end : NoDelete []
giving_end y s = refl

pub taking_kept : (l : Way) (u : ChangeSet) (k : Kept) → kept_actions u k ≡ l.front → IsFitKept k → compose [] (left l) ≡ Err 0
taking_kept l u k p h = subst (λ x. compose [] (x ++ l.behind) ≡ Err 0) p (by k.count h.0)
  where
    by : (n : ℕ) → 0 < n → compose [] (replicate n (Keep u (kept_change k.part)) ++ l.behind) ≡ Err 0
    by zero s = absurd (omega (arith, s))
    by (suc n) s = refl

pub taking_deleted : (l : Way) (u : ChangeSet) (cs : List Content) → map (deletion u) cs ≡ l.front → 0 < length cs → compose [] (left l) ≡ Err 0
taking_deleted l u cs p h = subst (λ x. compose [] (x ++ l.behind) ≡ Err 0) p (by cs h)
  where
    by : (cs : List Content) → 0 < length cs → compose [] (map (deletion u) cs ++ l.behind) ≡ Err 0
    by [] s = absurd (omega (arith, s))
    by (c ∷ cs) s = refl

-- the place where one operation ends before the other
pub ends_here : (done : Weave) (f s g t : List Action) → f ≡ g → s ≡ t → compose g t ≡ Err 0 → expects done f s ≡ Err done.place
ends_here done f s g t p q e =
    let z : done.place + 0 ≡ done.place = omega arith in
    (λ i. expects done (p i) (q i)) ∙ ap (ahead done.out done.place) e ∙ ap Err z

pub no_delete_left : (l : List Action) → l ≡ [] → NoDelete l
no_delete_left l e = subst NoDelete (sym e) giving_end

-- ---- the whole walk

pub ended : (more : Bool) (done after : Weave) (f s g t : Way) → more ≡ false → IsStepped more done f s after g t → IsAtEnd done f s after
ended more done after f s g t h k = subst (λ m. IsStepped m done f s after g t) h k

pub composed : (first second op : List Component) (done after : Weave) (f s : List Action) → expects done f s ≡ compose (actions first) (actions second) → f ≡ [] → s ≡ [] → after ≡ done → actions op ≡ after.out → op ≡ normal_form (actions op)
    → IsComposition first second op
composed first second op done after f s is zf zs same out normal =
    let given : compose (actions first) (actions second) ≡ Ok (actions op) =
    sym is ∙ (λ i. expects done (zf i) (zs i)) ∙ ap Ok (append-nil done.out) ∙ ap (λ (w : Weave). Ok w.out) (sym same) ∙ ap Ok (sym out) in
    record { is = given; normal = normal; structured = λ p q. composed_structured (actions first) (actions second) (actions op) p q given }

pub unfit : (first second : List Component) (done : Weave) (f s : List Action) (e : ComposeFault) → expects done f s ≡ compose (actions first) (actions second) → IsUnfit e done f s → IsDontFit e first second
unfit first second done f s CountTooLarge is h = h
unfit first second done f s (DontFit place) is h = sym is ∙ h
unfit first second done f s Memory is h = tt

pub refused : (first second : List Component) (e : ComposeFault) → together (actions first) (actions second) ≤ max_count → IsDontFit e first second → IsRefused e first second
refused first second CountTooLarge fits h = absurd h
refused first second (DontFit place) fits h = (fits, h)
refused first second Memory fits h = tt
