-- A robot that is shown deltas in turn.
--     none_shown             it was shown nothing yet
--     more_shown             it was shown one more
--     stayed_more            so far it stayed
--     popped                 the place that is taken next
use Rattle.std.proofs.Common.{◌≡◌, ℕ, suc, ◌+◌, arith, Bool, true, false, cond, List, [], ◌∷◌, ◌++◌, map, reverse, option_to_list, Option, Some, None, refl, sym, ap, subst, ◌∙◌, append_assoc, append-nil, true≢false}
use Rattle.std.proofs.lemmas.List.{map-append, reverse-append}
use Rattle.doc_items.specs.Maps.{Key}
use Rattle.delta_history.specs.Histories.{HistoryOf}
use Rattle.robot_host.specs.declared.edit.RobotEdit.{RobotEdit}
use Rattle.robot_host.specs.Calls.{Call}
use Rattle.robot_host.specs.Places.{IsSeenAt}
use Rattle.robot_host.specs.Reactions.{Answered, stays, HasStayed, AfterAnswer, edit_of, edits_of, call_of, with_calls}
use Rattle.robot_host.specs.Robots.{RobotOf}
use Rattle.robot_host.specs.Showing.{asked, dropped, after_answer, HasReacted, AreTaken, HasShown}

pub with_none : (o : Option (List Call)) → with_calls o [] ≡ o
with_none None = refl
with_none (Some l) = ap Some (append-nil l)

with_more : (o : Option (List Call)) (xs ys : List Call) → with_calls (with_calls o xs) ys ≡ with_calls o (xs ++ ys)
with_more None xs ys = refl
with_more (Some l) xs ys = ap Some (append_assoc l xs ys)

edits_more : (r : ℕ) (a : Key) (xs ys : List Answered) → edits_of r a (xs ++ ys) ≡ edits_of r a xs ++ edits_of r a ys
edits_more r a [] ys = refl
edits_more r a (x ∷ xs) ys = ap (λ z. edit_of r a x.seen x.answer ++ z) (edits_more r a xs ys) ∙ sym (append_assoc (edit_of r a x.seen x.answer) (edits_of r a xs) (edits_of r a ys))

stayed_one : (b : Bool) (here : Bool) → here ≡ b → AfterAnswer b [] here (here ≡ true)
stayed_one true here e = e
stayed_one false here e = (refl, e)

pub stayed_more : (xs : List Answered) (x : Answered) (now here : Bool) → now ≡ true → here ≡ stays x.answer → HasStayed xs now → HasStayed (xs ++ x ∷ []) here
stayed_more [] x now here n e h = stayed_one (stays x.answer) here e
stayed_more (y ∷ xs) x now here n e h = go (stayed_more xs x now here n e) (stays y.answer) h
  where
    go : (HasStayed xs now → HasStayed (xs ++ x ∷ []) here) → (b : Bool) → AfterAnswer b xs now (HasStayed xs now) → AfterAnswer b (xs ++ x ∷ []) here (HasStayed (xs ++ x ∷ []) here)
    go more true h = more h
    go more false h = absurd (true≢false (sym n ∙ h.1))

taken_more : (h : HistoryOf) (n : ℕ) (is : List ℕ) (xs : List Answered) (x : Answered) (m i : ℕ) (left : List ℕ) → AreTaken h n is xs m (i ∷ left) → IsSeenAt h i x.seen → AreTaken h n is (xs ++ x ∷ []) (suc i) left
taken_more h n is [] x m i left t s = subst (λ z. AreTaken h n z (x ∷ []) (suc i) left) t.1 (s, (refl, refl))
taken_more h n [] (y ∷ xs) x m i left t s = absurd t
taken_more h n (j ∷ is) (y ∷ xs) x m i left t s = (t.0, taken_more h (suc j) is xs x m i left t.1 s)

pub none_shown : (h : HistoryOf) (r : ℕ) (is : List ℕ) (n : ℕ) (s : RobotOf) (es : List RobotEdit) → s.here ≡ true → HasShown h r is is n s s n es es
none_shown h r is n s es here = record {
  shown = [];
  taken = (refl, refl);
  robot = λ i. record { address = s.address; here = s.here; before = s.before; calls = sym (with_none s.calls) i };
  stayed = here;
  edits = sym (append-nil es);
}

pub record IsAnswered (s t : RobotOf) (name : Key) (x : Answered) : Type 0 where
  pub address : t.address ≡ s.address
  pub before : t.before ≡ s.before
  pub here : t.here ≡ stays x.answer
  pub calls : t.calls ≡ with_calls s.calls (call_of name x ∷ [])

answered : (h : HistoryOf) (s t : RobotOf) (x : Answered) → s.here ≡ true → t ≡ after_answer (asked h.name s x.seen.delta x.seen.after.state x.answer) x.answer → IsAnswered s t h.name x
answered h s t x here e = go (stays x.answer) refl
  where
    go : (b : Bool) → stays x.answer ≡ b → IsAnswered s t h.name x
    go true k =
        let is : t ≡ asked h.name s x.seen.delta x.seen.after.state x.answer = e ∙ ap (λ b. cond b (asked h.name s x.seen.delta x.seen.after.state x.answer) (dropped (asked h.name s x.seen.delta x.seen.after.state x.answer))) k in
        record { address = ap (λ (z : RobotOf). z.address) is; before = ap (λ (z : RobotOf). z.before) is; here = ap (λ (z : RobotOf). z.here) is ∙ here ∙ sym k; calls = ap (λ (z : RobotOf). z.calls) is }
    go false k =
        let is : t ≡ dropped (asked h.name s x.seen.delta x.seen.after.state x.answer) = e ∙ ap (λ b. cond b (asked h.name s x.seen.delta x.seen.after.state x.answer) (dropped (asked h.name s x.seen.delta x.seen.after.state x.answer))) k in
        record { address = ap (λ (z : RobotOf). z.address) is; before = ap (λ (z : RobotOf). z.before) is; here = ap (λ (z : RobotOf). z.here) is ∙ sym k; calls = ap (λ (z : RobotOf). z.calls) is }

pub more_shown : (h : HistoryOf) (r : ℕ) (is : List ℕ) (i : ℕ) (left : List ℕ) (n m : ℕ) (s t u : RobotOf) (es es' es'' : List RobotEdit) → HasShown h r is (i ∷ left) n s t m es es' → t.here ≡ true → HasReacted h r i t u es' es'' → HasShown h r is left n s u (suc i) es es''
more_shown h r is i left n m s t u es es' es'' shown here next =
    let x = next.shown in
    let a = answered h t u x here next.robot in
    let address : t.address ≡ s.address = ap (λ (z : RobotOf). z.address) shown.robot in
    let before : t.before ≡ s.before = ap (λ (z : RobotOf). z.before) shown.robot in
    let calls : u.calls ≡ with_calls s.calls (map (call_of h.name) (shown.shown ++ x ∷ [])) = a.calls ∙ ap (λ (z : RobotOf). with_calls z.calls (call_of h.name x ∷ [])) shown.robot ∙ with_more s.calls (map (call_of h.name) shown.shown) (call_of h.name x ∷ []) ∙ ap (with_calls s.calls) (sym (map-append (call_of h.name) shown.shown (x ∷ []))) in
    record {
      shown = shown.shown ++ x ∷ [];
      taken = taken_more h n is shown.shown x m i left shown.taken next.seen;
      robot = λ k. record { address = (a.address ∙ address) k; here = u.here; before = (a.before ∙ before) k; calls = calls k };
      stayed = stayed_more shown.shown x t.here u.here here a.here shown.stayed;
      edits = next.edits ∙ ap (λ z. es' ++ edit_of r z x.seen x.answer) address ∙ ap (λ z. z ++ edit_of r s.address x.seen x.answer) shown.edits ∙ append_assoc es (edits_of r s.address shown.shown) (edit_of r s.address x.seen x.answer) ∙ ap (λ z. es ++ (edits_of r s.address shown.shown ++ z)) (sym (append-nil (edit_of r s.address x.seen x.answer))) ∙ ap (λ z. es ++ z) (sym (edits_more r s.address shown.shown (x ∷ [])));
    }

-- ---- the place that is taken next

pub popped : (all left : List ℕ) (i : ℕ) (o : Option ℕ) → o ≡ Some i → all ≡ left ++ option_to_list o → reverse all ≡ i ∷ reverse left
popped all left i o e is = ap reverse (is ∙ ap (λ z. left ++ option_to_list z) e) ∙ reverse-append left (i ∷ [])

pub one_on : {h : HistoryOf} {r : ℕ} {is all : List ℕ} (left : List ℕ) {i n m : ℕ} {o : Option ℕ} {s t u : RobotOf} {es es' es'' : List RobotEdit} → o ≡ Some i → all ≡ left ++ option_to_list o → HasShown h r is (reverse all) n s t m es es' → t.here ≡ true → HasReacted h r i t u es' es'' → HasShown h r is (reverse left) n s u (i + 1) es es''
one_on {h = h} {r = r} {is = is} {all = all} left {i = i} {n = n} {m = m} {o = o} {s = s} {t = t} {u = u} {es = es} {es' = es'} {es'' = es''} e p shown here next =
    let now : HasShown h r is (i ∷ reverse left) n s t m es es' = subst (λ z. HasShown h r is z n s t m es es') (popped all left i o e p) shown in
    subst (λ z. HasShown h r is (reverse left) n s u z es es'') (let same : suc i ≡ i + 1 = omega arith in same) (more_shown h r is i (reverse left) n m s t u es es' es'' now here next)
