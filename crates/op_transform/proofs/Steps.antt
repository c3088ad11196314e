-- One step of the walk, from what the arms keep.
use Rattle.std.proofs.Common.{◌≡◌, ℕ, zero, suc, ◌+◌, ◌<◌, ◌≤◌, min, Bool, false, List, [], ◌∷◌, ◌++◌, length, map, replicate, take, drop, refl, sym, ap, subst, ◌∙◌, arith, zero-add, Ok, Err, Option, None}
use Rattle.std.proofs.Math.Nat.{le-max_left, le-max_right, min-le_left, min-le_right, le-min}
use Rattle.std.proofs.lemmas.List.{append-nil, length-map, length-replicate}
use Rattle.doc_items.specs.Changes.{ChangeSet}
use Rattle.doc_items.specs.Limits.{max_count}
use Rattle.doc_items.specs.declared.item.Content.{Content}
use Rattle.doc_op.specs.Actions.{AttributeChange, Action, Keep, Del, Names, insertion, deletion, actions}
use Rattle.doc_op.specs.Cursors.{Way, left}
use Rattle.doc_op.specs.Lengths.{input_len, inserted_len}
use Rattle.doc_op.specs.Runs.{contents}
use Rattle.doc_op.specs.Structure.{Structured}
use Rattle.doc_op.specs.declared.component.Component.{Component}
use Rattle.doc_op.proofs.Lengths.{input_len-append, inserted_len-append, input_len-kept, inserted_len-kept, input_len-insertions, input_len-deletions}
use Rattle.op_runs.specs.Kept.{kept_change}
use Rattle.op_runs.specs.Passages.{goes_on, CanPass, ArePast, IsPassed}
use Rattle.op_runs.specs.declared.passage.Passage.{Passage}
use Rattle.op_runs.specs.declared.passage.Passage.TheVariants.{End, First, Second, Both}
use Rattle.op_runs.proofs.Ways.{front_split, fewer_left}
use Rattle.op_transform.specs.Taken.{taken_actions, taken_len, IsFitTaken}
use Rattle.op_transform.specs.Transform.{front, transform_from, transform}
use Rattle.op_transform.specs.Touches.{IsInStep}
use Rattle.op_transform.specs.Walks.{NoInsert, expects, Passed, PassedEarlier, Refused, IsWithin, HasRoom, Grows}
use Rattle.op_transform.specs.Results.{together, IsTransform, IsRefused}
use Rattle.op_transform.specs.Steps.{needs, HasAllRoom, Goes, IsStep, IsMoved, IsAtEnd, IsStepped, IsBroken, IsPairOf, IsConflict}
use Rattle.op_transform.specs.declared.fault.TransformFault.{TransformFault}
use Rattle.op_transform.specs.declared.fault.TransformFault.TheVariants.{CountTooLarge, Conflict, Memory}
use Rattle.op_transform.specs.declared.taken.Taken.{Taken}
use Rattle.op_transform.specs.declared.taken.Taken.TheVariants.{Kept as KeptRun, Deleted as DeletedRun}
use Rattle.op_transform.specs.declared.walk.Walk.{Walk}
use Rattle.op_transform.specs.declared.pair.Pair.{Pair}
use Rattle.op_transform.proofs.Laws.{are_structured}
use Rattle.op_transform.proofs.Touches.{forgotten, skipped_later, skipped_earlier}

-- ---- what is left after a run

drop-front : (x rest : List Action) (n : ℕ) → n ≡ length x → drop n (x ++ rest) ≡ rest
drop-front [] rest n e = ap (λ k. drop k rest) e
drop-front (a ∷ x) rest zero e = absurd (omega (arith, e))
drop-front (a ∷ x) rest (suc n) e = drop-front x rest n (omega (arith, e))

-- ---- lengths

inserted_len-insertions : (cs : List Content) (u : ChangeSet) → inserted_len (map (insertion u) cs) ≡ length cs
inserted_len-insertions [] u = refl
inserted_len-insertions (c ∷ cs) u = omega (arith, inserted_len-insertions cs u)

inserted_len-deletions : (cs : List Content) (u : ChangeSet) → inserted_len (map (deletion u) cs) ≡ 0
inserted_len-deletions [] u = refl
inserted_len-deletions (c ∷ cs) u = inserted_len-deletions cs u

length-taken : (u : ChangeSet) (t : Taken) → length (taken_actions u t) ≡ taken_len t
length-taken u (KeptRun k) = length-replicate k.count (Keep u (kept_change k.part))
length-taken u (DeletedRun run) = length-map (contents run) (deletion u)

input_len-taken : (u : ChangeSet) (t : Taken) → input_len (taken_actions u t) ≡ taken_len t
input_len-taken u (KeptRun k) = input_len-kept k.count u (kept_change k.part)
input_len-taken u (DeletedRun run) = input_len-deletions u (contents run)

inserted_len-taken : (u : ChangeSet) (t : Taken) → inserted_len (taken_actions u t) ≡ 0
inserted_len-taken u (KeptRun k) = inserted_len-kept k.count u (kept_change k.part)
inserted_len-taken u (DeletedRun run) = inserted_len-deletions (contents run) u

-- ---- the first step has all room, the last ends the walk

pub all_room : (w : Walk) (ls es : List Action) → IsWithin w → w.length ≡ 0 → together ls es ≤ max_count → HasAllRoom w ls es
all_room w ls es h z fits =
    let a = le-max_left (input_len ls) (input_len es) in
    let b = le-max_right (input_len ls) (input_len es) in
    record { within = h; later = omega (arith, a, fits, z); earlier = omega (arith, b, fits, z) }

-- ---- insertions

insertions_fit : (x rest es : List Action) (cs : List Content) (u : ChangeSet) (l n : ℕ) → x ≡ map (insertion u) cs → n ≡ length cs → l + needs (x ++ rest) es ≤ max_count → l + n + needs rest es ≤ max_count
insertions_fit x rest es cs u l n e same h =
    let i = ap input_len (ap (λ y. y ++ rest) e) ∙ input_len-append (map (insertion u) cs) rest in
    let j = ap inserted_len (ap (λ y. y ++ rest) e) ∙ inserted_len-append (map (insertion u) cs) rest in
    omega (arith, h, i, j, input_len-insertions u cs, inserted_len-insertions cs u, same)

insertions_fit_other : (x rest es : List Action) (cs : List Content) (u : ChangeSet) (l n : ℕ) → x ≡ map (insertion u) cs → n ≡ length cs → l + needs es (x ++ rest) ≤ max_count → l + n + needs es rest ≤ max_count
insertions_fit_other x rest es cs u l n e same h =
    let j = ap inserted_len (ap (λ y. y ++ rest) e) ∙ inserted_len-append (map (insertion u) cs) rest in
    omega (arith, h, j, inserted_len-insertions cs u, same)

pub room_later : (w : Walk) (l : Way) (es : List Action) (u : ChangeSet) (cs : List Content) → map (insertion u) cs ≡ l.front → HasAllRoom w (left l) es → HasRoom w (length cs)
room_later w l es u cs e h = let f = insertions_fit l.front l.behind es cs u w.length (length cs) (sym e) refl h.later in (h.within, omega (arith, f))

pub room_earlier : (w : Walk) (ls : List Action) (e : Way) (u : ChangeSet) (cs : List Content) → map (insertion u) cs ≡ e.front → HasAllRoom w ls (left e) → HasRoom w (length cs)
room_earlier w ls e u cs p h = let f = insertions_fit e.front e.behind ls cs u w.length (length cs) (sym p) refl h.earlier in (h.within, omega (arith, f))

pub goes_later : (done after : Walk) (l e : Way) (u : ChangeSet) (cs : List Content) (n : ℕ) → map (insertion u) cs ≡ l.front → n ≡ length cs → Passed done (map (insertion u) cs) [] after → Grows done (length cs) after → after.touched ≡ None
    → HasAllRoom done (left l) (left e) → Goes done l e n 0 after
goes_later done after l e u cs n p same pass grow any room =
    let whole : n ≡ length l.front = same ∙ sym (length-map cs (insertion u)) ∙ ap length p in
    let rest : drop n (left l) ≡ l.behind = drop-front l.front l.behind n whole in
    let g = grow.1 in
    record {
      is = ap (λ x. expects done (x ++ l.behind) (left e)) (sym p) ∙ pass l.behind (left e) ∙ ap (λ x. expects after x (left e)) (sym rest);
      later_fits = omega (arith, whole);
      earlier_fits = omega arith;
      room = subst (λ x. HasAllRoom after x (left e)) (sym rest) (record {
        within = grow.0;
        later = let f = insertions_fit l.front l.behind (left e) cs u done.length (length cs) (sym p) refl room.later in omega (arith, f, g);
        earlier = let f = insertions_fit_other l.front l.behind (left e) cs u done.length (length cs) (sym p) refl room.earlier in omega (arith, f, g);
      });
      in_step = forgotten after.touched after.later.out after.earlier.out l.under e.under any;
    }

pub goes_earlier : (done after : Walk) (l e : Way) (u : ChangeSet) (cs : List Content) (n : ℕ) → map (insertion u) cs ≡ e.front → n ≡ length cs → NoInsert (left l) → PassedEarlier done (map (insertion u) cs) after → Grows done (length cs) after → after.touched ≡ None
    → HasAllRoom done (left l) (left e) → Goes done l e 0 n after
goes_earlier done after l e u cs n p same ni pass grow any room =
    let whole : n ≡ length e.front = same ∙ sym (length-map cs (insertion u)) ∙ ap length p in
    let rest : drop n (left e) ≡ e.behind = drop-front e.front e.behind n whole in
    let g = grow.1 in
    record {
      is = ap (λ x. expects done (left l) (x ++ e.behind)) (sym p) ∙ pass (left l) e.behind ni ∙ ap (λ x. expects after (left l) x) (sym rest);
      later_fits = omega arith;
      earlier_fits = omega (arith, whole);
      room = subst (λ x. HasAllRoom after (left l) x) (sym rest) (record {
        within = grow.0;
        later = let f = insertions_fit_other e.front e.behind (left l) cs u done.length (length cs) (sym p) refl room.later in omega (arith, f, g);
        earlier = let f = insertions_fit e.front e.behind (left l) cs u done.length (length cs) (sym p) refl room.earlier in omega (arith, f, g);
      });
      in_step = forgotten after.touched after.later.out after.earlier.out l.under e.under any;
    }

-- ---- both take items

-- x takes the first n actions of a way
pub record IsFirst (l : Way) (u : ChangeSet) (x : Taken) (n : ℕ) : Type 0 where
  pub is : taken_actions u x ≡ take n l.front
  pub len : taken_len x ≡ n
  pub fits : n ≤ length l.front

pub first_of : (l : Way) (u : ChangeSet) (t x : Taken) (n : ℕ) → taken_actions u t ≡ l.front → n ≤ taken_len t → taken_actions u x ≡ take n (taken_actions u t) → taken_len x ≡ n → IsFirst l u x n
first_of l u t x n p h q e = record { is = q ∙ ap (take n) p; len = e; fits = omega (arith, h, sym (length-taken u t) ∙ ap length p) }

pub firsts : (l e : Way) (u w : ChangeSet) (s t x y : Taken) (n a b : ℕ) → u ≡ l.under → w ≡ e.under → taken_actions l.under s ≡ l.front → taken_actions e.under t ≡ e.front → a ≡ taken_len s → b ≡ taken_len t → n ≡ min a b
    → ((v : ChangeSet) → taken_actions v x ≡ take n (taken_actions v s)) → ((v : ChangeSet) → taken_actions v y ≡ take n (taken_actions v t)) → taken_len x ≡ n → taken_len y ≡ n → IsFirst l u x n × IsFirst e w y n
firsts l e u w s t x y n a b eu ew p q la lb m fx fy lx ly = (
  first_of l u s x n (ap (λ v. taken_actions v s) eu ∙ p) (omega (arith, m, la, min-le_left a b)) (fx u) lx,
  first_of e w t y n (ap (λ v. taken_actions v t) ew ∙ q) (omega (arith, m, lb, min-le_right a b)) (fy w) ly,
)

fit_some : (t : Taken) → IsFitTaken t → 0 < taken_len t
fit_some (KeptRun k) h = h.0
fit_some (DeletedRun run) h = h

pub both_some : (s t : Taken) (n a b : ℕ) → IsFitTaken s → IsFitTaken t → a ≡ taken_len s → b ≡ taken_len t → n ≡ min a b → 0 < n
both_some s t n a b fs ft la lb m =
    let h : 1 ≤ a = omega (arith, la, fit_some s fs) in
    let k : 1 ≤ b = omega (arith, lb, fit_some t ft) in
    omega (arith, m, le-min h k)

front_is : (l : Way) (u : ChangeSet) (x : Taken) (n : ℕ) → IsFirst l u x n → left l ≡ taken_actions u x ++ drop n (left l)
front_is l u x n f = front_split l n f.fits ∙ ap (λ y. y ++ drop n (left l)) (sym f.is)

input_of : (l : Way) (u : ChangeSet) (x : Taken) (n : ℕ) → IsFirst l u x n → input_len (left l) ≡ n + input_len (drop n (left l))
input_of l u x n f = ap input_len (front_is l u x n f) ∙ input_len-append (taken_actions u x) (drop n (left l)) ∙ ap (λ k. k + input_len (drop n (left l))) (input_len-taken u x ∙ f.len)

inserted_of : (l : Way) (u : ChangeSet) (x : Taken) (n : ℕ) → IsFirst l u x n → inserted_len (left l) ≡ inserted_len (drop n (left l))
inserted_of l u x n f = ap inserted_len (front_is l u x n f) ∙ inserted_len-append (taken_actions u x) (drop n (left l)) ∙ ap (λ k. k + inserted_len (drop n (left l))) (inserted_len-taken u x) ∙ zero-add (inserted_len (drop n (left l)))

pub room_both : (w : Walk) (l : Way) (es : List Action) (u : ChangeSet) (x : Taken) (n : ℕ) → IsFirst l u x n → HasAllRoom w (left l) es → HasRoom w (taken_len x)
room_both w l es u x n f h = let i = input_of l u x n f in let r = h.later in (h.within, omega (arith, r, i, f.len))

pub goes_both : (done after : Walk) (l e : Way) (u w : ChangeSet) (x y : Taken) (n : ℕ) → IsFirst l u x n → IsFirst e w y n → Passed done (taken_actions u x) (taken_actions w y) after → Grows done (taken_len x) after → u ≡ l.under → w ≡ e.under → IsInStep after u w
    → HasAllRoom done (left l) (left e) → Goes done l e n n after
goes_both done after l e u w x y n f g pass grow p q step room =
    let i = input_of l u x n f in let j = input_of e w y n g in
    let a = inserted_of l u x n f in let b = inserted_of e w y n g in
    let k = grow.1 in let s = f.len in
    record {
      is = (λ t. expects done (front_is l u x n f t) (front_is e w y n g t)) ∙ pass (drop n (left l)) (drop n (left e));
      later_fits = f.fits;
      earlier_fits = g.fits;
      room = record {
        within = grow.0;
        later = let r = room.later in omega (arith, r, i, a, b, k, s);
        earlier = let r = room.earlier in omega (arith, r, j, a, b, k, s);
      };
      in_step = subst (λ v. IsInStep after v e.under) p (subst (λ v. IsInStep after u v) q step);
    }

pub broken_both : (done : Walk) (l e : Way) (u w : ChangeSet) (x y : Taken) (n : ℕ) (f : TransformFault) → IsFirst l u x n → IsFirst e w y n → Refused done (taken_actions u x) (taken_actions w y) f → IsBroken f done (left l) (left e)
broken_both done l e u w x y n CountTooLarge f g h = h
broken_both done l e u w x y n (Conflict k) f g h = (λ t. expects done (front_is l u x n f t) (front_is e w y n g t)) ∙ h (drop n (left l)) (drop n (left e))
broken_both done l e u w x y n Memory f g h = tt

-- ---- runs that take items begin with no insertion, and can't stand beside the end

pub no_insert_end : NoInsert []
no_insert_end y k b d es = refl

pub record IsTaking (l : List Action) : Type 0 where
  pub no_insert : NoInsert l
  pub alone_later : (k b d : ℕ) → transform_from k b l d [] ≡ Err k
  pub alone_earlier : (k b d : ℕ) → transform_from k b [] d l ≡ Err k

taking_keep : (u : ChangeSet) (a : AttributeChange) (l : List Action) → IsTaking (Keep u a ∷ l)
taking_keep u a l = record { no_insert = λ y k b d es. refl; alone_later = λ k b d. refl; alone_earlier = λ k b d. refl }

taking_del : (c : Content) (n : Names) (l : List Action) → IsTaking (Del c n ∷ l)
taking_del c n l = record { no_insert = λ y k b d es. refl; alone_later = λ k b d. refl; alone_earlier = λ k b d. refl }

taking_run : (t : Taken) (u : ChangeSet) (r : List Action) → IsFitTaken t → IsTaking (taken_actions u t ++ r)
taking_run (KeptRun k) u r h = by k.count h.0
  where
    by : (n : ℕ) → 0 < n → IsTaking (replicate n (Keep u (kept_change k.part)) ++ r)
    by zero s = absurd (omega (arith, s))
    by (suc n) s = taking_keep u (kept_change k.part) (replicate n (Keep u (kept_change k.part)) ++ r)
taking_run (DeletedRun run) u r h = by (contents run) h
  where
    by : (cs : List Content) → 0 < length cs → IsTaking (map (deletion u) cs ++ r)
    by [] s = absurd (omega (arith, s))
    by (c ∷ cs) s = taking_del c _ (map (deletion u) cs ++ r)

pub taking : (l : Way) (u : ChangeSet) (t : Taken) → taken_actions u t ≡ l.front → IsFitTaken t → IsTaking (left l)
taking l u t p h = subst (λ x. IsTaking (x ++ l.behind)) p (taking_run t u l.behind h)

pub alone_later : (done : Walk) (ls es : List Action) → IsTaking ls → es ≡ [] → expects done ls es ≡ Err done.place
alone_later done ls es t e = ap (expects done ls) e ∙ ap (front done.later.out done.earlier.out) (t.alone_later done.place done.later.depth done.earlier.depth)

pub alone_earlier : (done : Walk) (ls es : List Action) → ls ≡ [] → IsTaking es → expects done ls es ≡ Err done.place
alone_earlier done ls es e t = ap (λ l. expects done l es) e ∙ ap (front done.later.out done.earlier.out) (t.alone_earlier done.place done.later.depth done.earlier.depth)

pub no_insert_left : (l : List Action) → l ≡ [] → NoInsert l
no_insert_left l e = subst NoInsert (sym e) no_insert_end

-- ---- the cursors go on

pub can_pass : (p : Passage) (done after : Walk) (l e : Way) → IsStep p done l e after → CanPass p l e
can_pass End done after l e h = tt
can_pass (First n) done after l e h = (h.0, h.1.later_fits)
can_pass (Second n) done after l e h = (h.0, h.1.earlier_fits)
can_pass (Both n) done after l e h = (h.0, h.1.later_fits, h.1.earlier_fits)

-- the walk with other touched keys
abbrev with_touched : Option (List (List ℕ)) → Walk → Walk
with_touched t w = record { later = w.later; earlier = w.earlier; touched = t; place = w.place; length = w.length }

moved : (done mid : Walk) (l e l' e' : Way) (n m : ℕ) (t : Option (List (List ℕ))) → 0 < n + m → Goes done l e n m mid → ArePast n m l e mid.touched l' e' t → IsMoved done l e (with_touched t mid) l' e'
moved done mid l e l' e' n m t some g past =
    let h = past.first in let j = past.second in
    let room = subst (λ x. HasAllRoom mid x (left e')) (sym h) (subst (λ y. HasAllRoom mid (drop n (left l)) y) (sym j) g.room) in
    record {
      is = g.is ∙ (λ i. expects mid (sym h i) (sym j i));
      room = record { within = room.within; later = room.later; earlier = room.earlier };
      in_step = skipped_earlier past.between t mid.later.out mid.earlier.out l'.under e.under e'.under past.touched_second
          (skipped_later mid.touched past.between mid.later.out mid.earlier.out l.under l'.under e.under past.touched_first g.in_step);
      smaller = fewer_left n m l e l' e' mid.touched t some g.later_fits g.earlier_fits past;
    }

pub stepped : (p : Passage) (more : Bool) (done mid : Walk) (l e l' e' : Way) (t : Option (List (List ℕ))) → more ≡ goes_on p → IsStep p done l e mid → IsPassed p l e mid.touched l' e' t → IsStepped more done l e (with_touched t mid) l' e'
stepped p more done mid l e l' e' t is h past = subst (λ b. IsStepped b done l e (with_touched t mid) l' e') (sym is) (by p h past)
  where
    by : (p : Passage) → IsStep p done l e mid → IsPassed p l e mid.touched l' e' t → IsStepped (goes_on p) done l e (with_touched t mid) l' e'
    by End h past = (h.0, h.1, ap (λ x. with_touched x mid) past.2 ∙ h.2)
    by (First n) h past = let some = h.0 in moved done mid l e l' e' n 0 t (omega (arith, some)) h.1 past
    by (Second n) h past = let some = h.0 in moved done mid l e l' e' 0 n t (omega (arith, some)) h.1 past
    by (Both n) h past = let some = h.0 in moved done mid l e l' e' n n t (omega (arith, some)) h.1 past

-- ---- the end

pub ended : (more : Bool) (done after : Walk) (l e l' e' : Way) → more ≡ false → IsStepped more done l e after l' e' → IsAtEnd done l e after
ended more done after l e l' e' h s = subst (λ m. IsStepped m done l e after l' e') h s

pub transformed : (l e : List Component) (done : Walk) (ls es : List Action) (after : Walk) (p : Pair) → Structured (actions l) → Structured (actions e) → expects done ls es ≡ transform (actions l) (actions e) → ls ≡ [] → es ≡ [] → after ≡ done → IsPairOf after p → IsTransform l e p
transformed l e done ls es after p sl se is zl ze same made =
    let pair = subst (λ w. IsPairOf w p) same made in
    let out : transform (actions l) (actions e) ≡ Ok (actions p.later, actions p.earlier) =
    sym is ∙ (λ i. expects done (zl i) (ze i)) ∙ (λ i. Ok (append-nil done.later.out i, append-nil done.earlier.out i)) ∙ (λ i. Ok (sym pair.later i, sym pair.earlier i)) in
    record { is = out; later_normal = pair.later_normal; earlier_normal = pair.earlier_normal; structured = are_structured (actions l) (actions e) (actions p.later, actions p.earlier) sl se out }

pub conflicts : (l e : List Component) (done : Walk) (ls es : List Action) (f : TransformFault) → expects done ls es ≡ transform (actions l) (actions e) → IsBroken f done ls es → IsConflict f l e
conflicts l e done ls es CountTooLarge is h = h
conflicts l e done ls es (Conflict k) is h = sym is ∙ h
conflicts l e done ls es Memory is h = tt

pub refused : (l e : List Component) (f : TransformFault) → together (actions l) (actions e) ≤ max_count → IsConflict f l e → IsRefused f l e
refused l e CountTooLarge fits h = absurd h
refused l e (Conflict k) fits h = (fits, h)
refused l e Memory fits h = tt
