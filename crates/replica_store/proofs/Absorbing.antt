-- What copies by name make of deltas, verdicts and drops.
--     absorbed_named      the answer of a copy is that of the copy in the world
--     reach_named         so is how far it reaches
--     each_name, each_answer, each_after, each_same     at a copy that is there, as a call answers: it keeps its name; the answer; the copies then, and
--                         after want of memory
--     taken_first, untaken_first     after a delta at a new one
--     noted_is, each_noted, each_settled, each_kept     the copy that is there, after a verdict
--     waits_none, unsettled_none     where there is no copy
--     dropped_at, undropped_none     after a drop
use Rattle.std.proofs.Common.{◌≡◌, Bool, true, false, not, refl, sym, ap, subst, ◌∙◌, None, Some, Result, Ok, Err, IfOk, OnOk, OnErr, true≢false}
use Rattle.std.specs.FinMap.{get, insert}
use Rattle.std.specs.Option.{option_map_or}
use Rattle.doc_items.specs.Maps.{Key}
use Rattle.wave_base.specs.Versions.{IdOf}
use Rattle.wavelet_op.specs.Deltas.{DeltaOf}
use Rattle.wavelet_op.specs.declared.verdict.Verdict.{Verdict}
use Rattle.delta_history.specs.Histories.{head_of}
use Rattle.follower_rules.specs.Receiving.{receive}
use Rattle.follower_rules.specs.Replicas.{absorb, is_waiting}
use Rattle.peer_turns.specs.declared.absorbed.Absorbed.{Absorbed}
use Rattle.peer_turns.specs.declared.absorbed.Absorbed.TheVariants.{Old, Gap, Diverged, NotLegal, Took}
use Rattle.replica_store.specs.Absorbing.{onlooker, answer_as, absorbed, IsAfter}
use Rattle.replica_store.specs.Copies.{CopyOf, in_world, IsSameCopy}
use Rattle.replica_store.specs.Settling.{note_waiting, note_in, drop_in as dropped_copy}
use Rattle.replica_store.specs.Worlds.{WorldOf, world, world_of, empty_world, Copies, worlds_of, world_at, history_at, absorbed_by, world_taken, taken_by, answer_at, take_in, world_settled, waits_at, settled_if, answer_in, has_more, dropped, dropped_if, drop_in}
use Rattle.replica_store.proofs.Stored.{worlds-insert, put_itself, world_got, world_there, world_missing, world_none}

pub absorbed_named : (c : CopyOf) (n : Key) (d : DeltaOf) → c.history.name ≡ n → absorbed c d ≡ absorbed_by n (in_world c) d
absorbed_named c n d e i = answer_as (receive (onlooker (record { name = e i; deltas = c.history.deltas; spare = 0 })) d).0 (absorb (e i) (in_world c) d)

pub reach_named : (c : CopyOf) (n : Key) → c.history.name ≡ n → (head_of c.history).at ≡ (head_of (history_at n (in_world c))).at
reach_named c n e i = (head_of (record { name = e i; deltas = c.history.deltas; spare = 0 })).at

same_world : (b c : CopyOf) → IsSameCopy b c → world_of c ≡ world_of b
same_world b c s i = world (record { deltas = s.history.deltas i; waiting = s.waiting i; dropped = s.dropped i }) (s.noted i)

-- the copy in the world after an answer
abbrev world_after : WorldOf → DeltaOf → Absorbed → WorldOf
world_after w d Old = w
world_after w d Gap = w
world_after w d (Diverged mine theirs) = w
world_after w d NotLegal = w
world_after w d Took = world_taken w d

after_world : (b c : CopyOf) (d : DeltaOf) (a : Absorbed) → IsAfter b d a c → world_of c ≡ world_after (world_of b) d a
after_world b c d Old s = same_world b c s
after_world b c d Gap s = same_world b c s
after_world b c d (Diverged mine theirs) s = same_world b c s
after_world b c d NotLegal s = same_world b c s
after_world b c d Took t = λ i. world (record { deltas = t.grown.deltas i; waiting = t.waiting i; dropped = t.dropped i }) (t.noted i)

pub kept_name : (b c : CopyOf) (d : DeltaOf) (a : Absorbed) → IsAfter b d a c → c.history.name ≡ b.history.name
kept_name b c d Old s = s.history.name
kept_name b c d Gap s = s.history.name
kept_name b c d (Diverged mine theirs) s = s.history.name
kept_name b c d NotLegal s = s.history.name
kept_name b c d Took t = t.grown.name

module _ (m : Copies) (n : Key) (d : DeltaOf) where
  module _ (b c : CopyOf) (there : get m n ≡ Some b) (named : b.history.name ≡ n) where
    pub answered_at : (a : Absorbed) → a ≡ absorbed b d → a ≡ answer_at (worlds_of m) n d
    answered_at a is = is ∙ absorbed_named b n d named ∙ ap (λ (w : WorldOf). absorbed_by n w.replica d) (sym (world_there m n b there))

    put_after : (a : Absorbed) → insert (worlds_of m) n (world_after (world_of b) d a) ≡ taken_by (worlds_of m) n d a
    put_after Old = put_itself (worlds_of m) n (world_of b) (world_got m n b there)
    put_after Gap = put_itself (worlds_of m) n (world_of b) (world_got m n b there)
    put_after (Diverged mine theirs) = put_itself (worlds_of m) n (world_of b) (world_got m n b there)
    put_after NotLegal = put_itself (worlds_of m) n (world_of b) (world_got m n b there)
    put_after Took = ap (λ w. insert (worlds_of m) n (world_taken w d)) (sym (world_there m n b there))

    pub taken_at : (a : Absorbed) → a ≡ absorbed b d → IsAfter b d a c → worlds_of (insert m n c) ≡ take_in (worlds_of m) n d
    taken_at a is after = worlds-insert m n c ∙ ap (insert (worlds_of m) n) (after_world b c d a after) ∙ put_after a ∙ ap (taken_by (worlds_of m) n d) (answered_at a is)

    pub taken_same : IsSameCopy b c → worlds_of (insert m n c) ≡ worlds_of m
    taken_same s = worlds-insert m n c ∙ ap (insert (worlds_of m) n) (same_world b c s) ∙ put_itself (worlds_of m) n (world_of b) (world_got m n b there)

    module _ {E : Type 0} (r : Result Absorbed E) (answer : IfOk r (λ a. a ≡ absorbed b d)) (after : IfOk r (λ a. IsAfter b d a c)) (same : OnErr r (IsSameCopy b c)) where
      pub each_name : c.history.name ≡ n
      each_name = go r after same
        where
          go : (r : Result Absorbed E) → IfOk r (λ a. IsAfter b d a c) → OnErr r (IsSameCopy b c) → c.history.name ≡ n
          go (Ok a) is unchanged = kept_name b c d a is ∙ named
          go (Err e) is unchanged = unchanged.history.name ∙ named

      pub each_answer : IfOk r (λ a. a ≡ answer_at (worlds_of m) n d)
      each_answer = go r answer
        where
          go : (r : Result Absorbed E) → IfOk r (λ a. a ≡ absorbed b d) → IfOk r (λ a. a ≡ answer_at (worlds_of m) n d)
          go (Ok a) is = answered_at a is
          go (Err e) is = tt

      pub each_after : OnOk r (worlds_of (insert m n c) ≡ take_in (worlds_of m) n d)
      each_after = go r answer after
        where
          go : (r : Result Absorbed E) → IfOk r (λ a. a ≡ absorbed b d) → IfOk r (λ a. IsAfter b d a c) → OnOk r (worlds_of (insert m n c) ≡ take_in (worlds_of m) n d)
          go (Ok a) is then = taken_at a is then
          go (Err e) is then = tt

      pub each_same : OnErr r (worlds_of (insert m n c) ≡ worlds_of m)
      each_same = go r same
        where
          go : (r : Result Absorbed E) → OnErr r (IsSameCopy b c) → OnErr r (worlds_of (insert m n c) ≡ worlds_of m)
          go (Ok a) unchanged = tt
          go (Err e) unchanged = taken_same unchanged

  -- a new copy
  module _ (b c : CopyOf) (none : get m n ≡ None) (named : b.history.name ≡ n) (empty : world_of b ≡ empty_world) where
    new_world : world_of b ≡ world_at (worlds_of m) n
    new_world = empty ∙ sym (world_none m n none)

    pub answered_first : (a : Absorbed) → a ≡ absorbed b d → a ≡ answer_at (worlds_of m) n d
    answered_first a is = is ∙ absorbed_named b n d named ∙ ap (λ (w : WorldOf). absorbed_by n w.replica d) new_world

    pub taken_first : (a : Absorbed) → a ≡ Took → a ≡ absorbed b d → IsAfter b d a c → worlds_of (insert m n c) ≡ take_in (worlds_of m) n d
    taken_first a took is after =
        worlds-insert m n c ∙ ap (insert (worlds_of m) n) (after_world b c d Took (subst (λ x. IsAfter b d x c) took after) ∙ ap (λ w. world_taken w d) new_world)
        ∙ ap (taken_by (worlds_of m) n d) (sym took ∙ answered_first a is)

    pub untaken_first : (a x : Absorbed) → a ≡ x → a ≡ absorbed b d → worlds_of m ≡ taken_by (worlds_of m) n d x → worlds_of m ≡ take_in (worlds_of m) n d
    untaken_first a x same is none_taken = none_taken ∙ ap (taken_by (worlds_of m) n d) (sym same ∙ answered_first a is)

-- ---- verdicts and drops

pub first_is : {A B : Type 0} {x y : A × B} → x ≡ y → x.0 ≡ y.0
first_is e = ap (λ z. z.0) e

pub second_is : {A B : Type 0} {x y : A × B} → x ≡ y → x.1 ≡ y.1
second_is e = ap (λ z. z.1) e

-- the copy in the world after a verdict
abbrev world_noted : WorldOf → IdOf → Verdict → Bool → WorldOf
world_noted w i v true = world_settled w i v
world_noted w i v false = w

noted_is : (b c : CopyOf) (i : IdOf) (v : Verdict) (w : Bool) → (w, c) ≡ note_in b i v → (w ≡ is_waiting i b.waiting) × (world_of c ≡ world_noted (world_of b) i v (is_waiting i b.waiting)) × (c.history.name ≡ b.history.name)
noted_is b c i v w is = go (is_waiting i b.waiting) is
  where
    go : (u : Bool) → (w, c) ≡ note_waiting b i v u → (w ≡ u) × (world_of c ≡ world_noted (world_of b) i v u) × (c.history.name ≡ b.history.name)
    go true e = (first_is e, ap world_of (second_is e), ap (λ (x : CopyOf). x.history.name) (second_is e))
    go false e = (first_is e, ap world_of (second_is e), ap (λ (x : CopyOf). x.history.name) (second_is e))

module _ (m : Copies) (n : Key) where
  module _ (b c : CopyOf) (there : get m n ≡ Some b) where
    pub answered_is : (i : IdOf) (w : Bool) → w ≡ is_waiting i b.waiting → w ≡ waits_at (worlds_of m) n i
    answered_is i w is = is ∙ ap (λ (x : WorldOf). is_waiting i x.replica.waiting) (sym (world_there m n b there))

    pub settled_at : (i : IdOf) (v : Verdict) → world_of c ≡ world_noted (world_of b) i v (is_waiting i b.waiting) → worlds_of (insert m n c) ≡ answer_in (worlds_of m) n i v
    settled_at i v after = worlds-insert m n c ∙ ap (insert (worlds_of m) n) after ∙ go (is_waiting i b.waiting) ∙ ap (settled_if (worlds_of m) n i v) (answered_is i (is_waiting i b.waiting) refl)
      where
        go : (u : Bool) → insert (worlds_of m) n (world_noted (world_of b) i v u) ≡ settled_if (worlds_of m) n i v u
        go true = ap (λ w. insert (worlds_of m) n (world_settled w i v)) (sym (world_there m n b there))
        go false = put_itself (worlds_of m) n (world_of b) (world_got m n b there)

    pub same_at : world_of c ≡ world_of b → worlds_of (insert m n c) ≡ worlds_of m
    same_at same = worlds-insert m n c ∙ ap (insert (worlds_of m) n) same ∙ put_itself (worlds_of m) n (world_of b) (world_got m n b there)

    module _ {E : Type 0} (r : Result Bool E) (i : IdOf) (v : Verdict) (ok : IfOk r (λ w. (w, c) ≡ note_in b i v)) (same : OnErr r (c ≡ b)) where
      pub noted_name : b.history.name ≡ n → c.history.name ≡ n
      noted_name named = go r ok same
        where
          go : (r : Result Bool E) → IfOk r (λ w. (w, c) ≡ note_in b i v) → OnErr r (c ≡ b) → c.history.name ≡ n
          go (Ok w) is unchanged = (noted_is b c i v w is).2 ∙ named
          go (Err e) is unchanged = ap (λ (x : CopyOf). x.history.name) unchanged ∙ named

      pub each_noted : IfOk r (λ w. w ≡ waits_at (worlds_of m) n i)
      each_noted = go r ok
        where
          go : (r : Result Bool E) → IfOk r (λ w. (w, c) ≡ note_in b i v) → IfOk r (λ w. w ≡ waits_at (worlds_of m) n i)
          go (Ok w) is = answered_is i w (noted_is b c i v w is).0
          go (Err e) is = tt

      pub each_settled : OnOk r (worlds_of (insert m n c) ≡ answer_in (worlds_of m) n i v)
      each_settled = go r ok
        where
          go : (r : Result Bool E) → IfOk r (λ w. (w, c) ≡ note_in b i v) → OnOk r (worlds_of (insert m n c) ≡ answer_in (worlds_of m) n i v)
          go (Ok w) is = settled_at i v (noted_is b c i v w is).1
          go (Err e) is = tt

      pub each_kept : OnErr r (worlds_of (insert m n c) ≡ worlds_of m)
      each_kept = go r same
        where
          go : (r : Result Bool E) → OnErr r (c ≡ b) → OnErr r (worlds_of (insert m n c) ≡ worlds_of m)
          go (Ok w) unchanged = tt
          go (Err e) unchanged = same_at (ap world_of unchanged)

    pub had_more : not b.dropped ≡ has_more (worlds_of m) n
    had_more = sym (ap (λ o. option_map_or (λ (w : WorldOf). not w.replica.dropped) o false) (world_got m n b there))

    pub dropped_at : c ≡ dropped_copy b → worlds_of (insert m n c) ≡ drop_in (worlds_of m) n
    dropped_at is = worlds-insert m n c ∙ ap (λ x. insert (worlds_of m) n (world_of x)) is ∙ go b.dropped refl ∙ ap (dropped_if (worlds_of m) n) had_more
      where
        go : (v : Bool) → b.dropped ≡ v → insert (worlds_of m) n (dropped (world_of b)) ≡ dropped_if (worlds_of m) n (not v)
        go true e = ap (insert (worlds_of m) n) (λ i. world (record { deltas = b.history.deltas; waiting = b.waiting; dropped = sym e i }) b.noted) ∙ put_itself (worlds_of m) n (world_of b) (world_got m n b there)
        go false e = ap (λ w. insert (worlds_of m) n (dropped w)) (sym (world_there m n b there))

  module _ (none : get m n ≡ None) where
    pub waits_none : (i : IdOf) → false ≡ waits_at (worlds_of m) n i
    waits_none i = sym (ap (λ (w : WorldOf). is_waiting i w.replica.waiting) (world_none m n none))

    pub unsettled_none : (i : IdOf) (v : Verdict) → worlds_of m ≡ answer_in (worlds_of m) n i v
    unsettled_none i v = ap (settled_if (worlds_of m) n i v) (waits_none i)

    pub had_none : false ≡ has_more (worlds_of m) n
    had_none = sym (ap (λ o. option_map_or (λ (w : WorldOf). not w.replica.dropped) o false) (world_missing m n none))

    pub undropped_none : worlds_of m ≡ drop_in (worlds_of m) n
    undropped_none = ap (dropped_if (worlds_of m) n) had_none
