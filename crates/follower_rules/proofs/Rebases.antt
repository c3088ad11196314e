-- What is pending, past the acts of a delta.
--     run_all_append, inserted_all_append     entries in a row
--     IsRebased, rebase_room     entries
--     IsOver, over_room          the flight and the entries after it
use Rattle.std.proofs.Common.{◌≡◌, ℕ, ◌+◌, ◌≤◌, List, [], ◌∷◌, ◌++◌, Option, None, Some, refl, sym, ap, subst, ◌∙◌, arith, le_refl, option_and_then}
use Rattle.std.specs.Option.{option_map}
use Rattle.doc_items.specs.Limits.{max_count}
use Rattle.doc_op.proofs.Applying.{no_value, same_Some}
use Rattle.wavelet_op.specs.Acts.{Act, inserted}
use Rattle.wavelet_op.specs.Grids.{Lists, grid}
use Rattle.wavelet_op.specs.States.{State, run}
use Rattle.wavelet_op.proofs.Partial.{and_then_some, and_then_same, and_then_twice}
use Rattle.delta_history.proofs.Points.{and_then_is}
use Rattle.follower_rules.specs.Followers.{Flight, run_all, inserted_all, flying}
use Rattle.follower_rules.specs.Receiving.{past, rebase, over_queue, over}
use Rattle.follower_rules.specs.Laws.{IsSmall}
use Rattle.follower_rules.proofs.Room.{small_run, past_room}

pub run_all_append : (s : State) (xs ys : List (List Act)) → run_all s (xs ++ ys) ≡ option_and_then (λ t. run_all t ys) (run_all s xs)
run_all_append s [] ys = refl
run_all_append s (x ∷ xs) ys = and_then_same (run s x) (λ t. run_all t (xs ++ ys)) (λ t. option_and_then (λ r. run_all r ys) (run_all t xs)) (λ t. run_all_append t xs ys) ∙ sym (and_then_twice (run s x) (λ t. run_all t xs) (λ r. run_all r ys))

pub inserted_all_append : (xs ys : List (List Act)) → inserted_all (xs ++ ys) ≡ inserted_all xs + inserted_all ys
inserted_all_append [] ys = omega arith
inserted_all_append (x ∷ xs) ys = omega (arith, inserted_all_append xs ys)

pub record IsRebased (entries : List (List Act)) (acts : List Act) (t u : State) : Type 0 where
  pub later : List (List Act)
  pub earlier : List Act
  pub end : State
  pub defined : rebase entries acts ≡ Some (later, earlier)
  pub later_goes : run_all t later ≡ Some end
  pub earlier_goes : run u earlier ≡ Some end
  pub later_small : inserted_all later ≤ inserted_all entries

pub rebase_room : (n : ℕ) (s : State) (entries : List (List Act)) (acts : List Act) (t u : State) → IsSmall n s → n + (inserted_all entries + inserted acts) ≤ max_count → run s acts ≡ Some t → run_all s entries ≡ Some u → IsRebased entries acts t u
rebase_room n s [] acts t u h r p q = record {
  later = [];
  earlier = acts;
  end = t;
  defined = refl;
  later_goes = refl;
  earlier_goes = subst (λ x. run x acts ≡ Some t) (same_Some q) p;
  later_small = le_refl _;
}
rebase_room n s (entry ∷ rest) acts t u h r p q =
    let m = and_then_some (run s entry) (λ x. run_all x rest) u q in
    let one = past_room n s entry acts t m.0 h (omega (arith, r)) p m.1 in
    let more = rebase_room (n + inserted entry) m.0 rest one.earlier one.end u (small_run n s m.0 entry h m.1) (omega (arith, r, one.earlier_small)) one.earlier_goes m.2 in
    record {
      later = one.later ∷ more.later;
      earlier = more.earlier;
      end = more.end;
      defined = and_then_is (past entry acts) (λ p. option_map (λ r. (p.0 ∷ r.0, r.1)) (rebase rest p.1)) (one.later, one.earlier) one.defined ∙ ap (option_map (λ r. (one.later ∷ r.0, r.1))) more.defined;
      later_goes = and_then_is (run t one.later) (λ x. run_all x more.later) one.end one.later_goes ∙ more.later_goes;
      earlier_goes = more.earlier_goes;
      later_small = omega (arith, one.later_small, more.later_small);
    }

-- the flight after the acts
pub record IsFlown (x : Flight) (acts : List Act) (flight : Option Flight) : Type 0 where
  pub passed : Lists
  pub exactly : grid x.acts acts ≡ Some passed
  pub is : flight ≡ Some (record { sent = x.sent; acts = passed.0 })

pub record IsOver (g : Option Flight) (q : List (List Act)) (acts : List Act) (t u : State) : Type 0 where
  pub flight : Option Flight
  pub queue : List (List Act)
  pub left : List Act
  pub end : State
  pub defined : over g q acts ≡ Some ((flight, queue), left)
  pub rebased : rebase (flying g ++ q) acts ≡ Some (flying flight ++ queue, left)
  pub goes : run_all t (flying flight ++ queue) ≡ Some end
  pub left_goes : run u left ≡ Some end
  pub small : inserted_all (flying flight ++ queue) ≤ inserted_all (flying g ++ q)
  pub flown : (x : Flight) → g ≡ Some x → IsFlown x acts flight
  pub none : g ≡ None → flight ≡ None

pub over_room : (n : ℕ) (s : State) (g : Option Flight) (q : List (List Act)) (acts : List Act) (t u : State) → IsSmall n s → n + (inserted_all (flying g ++ q) + inserted acts) ≤ max_count → run s acts ≡ Some t → run_all s (flying g ++ q) ≡ Some u → IsOver g q acts t u
over_room n s None q acts t u h r p v =
    let b = rebase_room n s q acts t u h r p v in
    record {
      flight = None;
      queue = b.later;
      left = b.earlier;
      end = b.end;
      defined = ap (option_map (λ r. ((None, r.0), r.1))) b.defined;
      rebased = b.defined;
      goes = b.later_goes;
      left_goes = b.earlier_goes;
      small = b.later_small;
      flown = λ x e. no_value e;
      none = λ e. refl;
    }
over_room n s (Some x) q acts t u h r p v =
    let m = and_then_some (run s x.acts) (λ z. run_all z q) u v in
    let one = past_room n s x.acts acts t m.0 h (omega (arith, r)) p m.1 in
    let b = rebase_room (n + inserted x.acts) m.0 q one.earlier one.end u (small_run n s m.0 x.acts h m.1) (omega (arith, r, one.earlier_small)) one.earlier_goes m.2 in
    let g : Flight = record { sent = x.sent; acts = one.later } in
    record {
      flight = Some g;
      queue = b.later;
      left = b.earlier;
      end = b.end;
      defined = and_then_is (past x.acts acts) (λ p. over_queue (Some (record { sent = x.sent; acts = p.0 })) q p.1) (one.later, one.earlier) one.defined ∙ ap (option_map (λ r. ((Some g, r.0), r.1))) b.defined;
      rebased = and_then_is (past x.acts acts) (λ p. option_map (λ r. (p.0 ∷ r.0, r.1)) (rebase q p.1)) (one.later, one.earlier) one.defined ∙ ap (option_map (λ r. (one.later ∷ r.0, r.1))) b.defined;
      goes = and_then_is (run t one.later) (λ z. run_all z b.later) one.end one.later_goes ∙ b.later_goes;
      left_goes = b.earlier_goes;
      small = omega (arith, one.later_small, b.later_small);
      flown = λ y e. subst (λ z. IsFlown z acts (Some g)) (same_Some e) (record { passed = (one.later, one.earlier); exactly = one.exactly; is = refl });
      none = λ e. no_value (sym e);
    }
