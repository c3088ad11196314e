-- One more session has ended.
--     prefix_later     a beginning of what begins a list
--     served_later     a session is served from later marks
--     served_end       what a job ended with tells of its session
--     rose_from        a count that rose is no longer 0
--     same_begins      passes that have seen the same begin each other
--     begins_self      passes begin themselves
--     if_none          nothing is promised of what isn't there
--     if_more          what follows from a promise is promised as well
--     ours_none        no job runs
--     ok_more          what follows from a promise of a result
--     ok_both          what follows from two
--     ended_well       with the status 0 nothing stopped the server
--     at_door, at_start      with 7 the door did, with 9 a session that couldn't be started
--     spent_as         with 12 a shard without a turn, and with no other
--     status_known     and there is no other status
--     begins_on        what begins the beginning of others begins them
use Rattle.std.proofs.Common.{arith, inl, inr, refl, sym, ap, subst, ◌∙◌, ◌≡◌, ◌≢◌, ◌<◌, ℕ, Bool, true, false, MatchBool, true≢false, List, [], ◌++◌, length, Option, Some, None, IfSome, is_some, Result, Ok, Err, OnOk, IfErr, MatchResult, append_assoc, append-nil}
use mathlib.Core.List.{IsPrefix}
use Rattle.wave_outside.specs.Counts.{Rose}
use Rattle.wave_outside.specs.declared.link.LinkEvent.{LinkEvent}
use Rattle.shard_marks.specs.declared.mark.Mark.{Mark}
use Rattle.turn_cells.specs.declared.cells.Passes.{Passes}
use Rattle.turn_cells.specs.Cells.{AreSame, Begins, seen_at}
use Rattle.shard_marks.specs.Passes.{marks_of}
use Rattle.shard_marks.specs.Servers.{ServerOf}
use Rattle.session_steps.specs.Served.{IsOver}
use Rattle.session_steps.specs.Jobs.{IsEnded}
use Rattle.session_steps.specs.declared.end.EndCause.{EndCause}
use Rattle.wave_server.specs.Statuses.{IsStatus, IsServerStatus}
use Rattle.wave_server.specs.declared.stop.Stop.{Stop}
use Rattle.wave_server.specs.declared.stop.Stop.TheVariants.{Door, Memory, Refused, Spent as SpentStop}
use Rattle.wave_server.specs.Running.{AreOurs, IsServed}

module _ {X : Type 0} where
  pub prefix_later : (xs ys zs : List X) → IsPrefix xs ys → IsPrefix ys zs → IsPrefix xs zs
  prefix_later xs ys zs p q = (p.0 ++ q.0, sym (append_assoc xs p.0 q.0) ∙ (ap (λ ws. ws ++ q.0) p.1 ∙ q.1))

module _ (v : ServerOf) (marks marks' : ℕ → List Mark) (later : (k : ℕ) → k < 16 → IsPrefix (marks k) (marks' k)) where
  pub served_later : (es : List LinkEvent) (c : EndCause) → IsServed v marks es c → IsServed v marks' es c
  served_later es c s = record {
    own = s.own;
    begun = s.begun;
    readings = s.readings;
    added = s.added;
    begins = λ k low. prefix_later (s.own k) (marks k) (marks' k) (s.begins k low) (later k low);
    over = s.over;
  }

-- what a job ended with, by what was seen since
pub served_end : {T : Type 0} (v w : ServerOf) → w ≡ v → (ps es qs : Passes T Mark) (clock_tells : Bool) (before after : ℕ → ℕ) (events : List LinkEvent) (c : EndCause)
    → Begins es qs → IsEnded w ps es clock_tells before after events c → IsServed v (marks_of qs) events c
served_end v w same ps es qs clock_tells before after events c begins ended = record {
  own = marks_of es;
  begun = λ k. length (marks_of ps k);
  readings = ended.readings;
  added = ended.added;
  begins = begins;
  over = subst (λ x. IsOver x (marks_of es) (λ k. length (marks_of ps k)) events ended.readings ended.added c) same ended.over;
}

pub rose_from : (n m : ℕ) → Rose n m → Rose 0 m
rose_from n m rose = omega (arith, rose)

pub same_begins : {T : Type 0} (ps qs : Passes T Mark) → AreSame ps qs → Begins ps qs
same_begins ps qs same k low = ([], append-nil (seen_at ps k) ∙ sym (same k low).seen)

pub begins_on : {T : Type 0} (ps qs rs : Passes T Mark) → Begins ps qs → Begins qs rs → Begins ps rs
begins_on ps qs rs a b k low = prefix_later (seen_at ps k) (seen_at qs k) (seen_at rs k) (a k low) (b k low)

pub begins_self : {T : Type 0} (ps : Passes T Mark) → Begins ps ps
begins_self ps k low = ([], append-nil (seen_at ps k))

pub ours_none : {R H : Type 0} (hub_of : R → H) (hub : H) (js : List R) → js ≡ [] → AreOurs hub_of hub js
ours_none hub_of hub js none = subst (AreOurs hub_of hub) (sym none) (λ k x low. absurd (omega arith))

module _ {X : Type 0} (P : X → Type 0) where
  pub if_none : (o : Option X) → is_some o ≡ false → IfSome o P
  if_none None e = tt
  if_none (Some x) e = absurd (true≢false e)

  pub if_more : (Q : X → Type 0) → ((x : X) → P x → Q x) → (o : Option X) → IfSome o P → IfSome o Q
  if_more Q f None h = tt
  if_more Q f (Some x) h = f x h

pub ok_more : {A E P Q : Type 0} (r : Result A E) → (P → Q) → OnOk r P → OnOk r Q
ok_more (Ok a) f p = f p
ok_more (Err e) f p = tt

pub ok_both : {A E P Q S : Type 0} (r : Result A E) → (P → Q → S) → OnOk r P → OnOk r Q → OnOk r S
ok_both (Ok a) f p q = f p q
ok_both (Err e) f p q = tt

-- the status 0 is that of an end without a stop
pub ended_well : {A P : Type 0} (r : Result A Stop) (n : ℕ) → IfErr r (λ s. IsStatus s n) → n ≡ 0 → OnOk r P → P
ended_well (Ok a) n err none p = p
ended_well (Err Door) n err none p = absurd (let is : n ≡ 7 = err in omega (arith, is, none))
ended_well (Err Memory) n err none p = absurd (let is : n ≡ 8 = err in omega (arith, is, none))
ended_well (Err Refused) n err none p = absurd (let is : n ≡ 9 = err in omega (arith, is, none))
ended_well (Err SpentStop) n err none p = absurd (let is : n ≡ 12 = err in omega (arith, is, none))

module _ {A : Type 0} where
  pub at_door : {P : Type 0} (r : Result A Stop) (n : ℕ) → OnOk r (n ≡ 0) → IfErr r (λ s. IsStatus s n) → IfErr r (λ s. s ≡ Door → P) → n ≡ 7 → P
  at_door (Ok a) n ok err p is = absurd (let none : n ≡ 0 = ok in omega (arith, none, is))
  at_door (Err Door) n ok err p is = p refl
  at_door (Err Memory) n ok err p is = absurd (let has : n ≡ 8 = err in omega (arith, has, is))
  at_door (Err Refused) n ok err p is = absurd (let has : n ≡ 9 = err in omega (arith, has, is))
  at_door (Err SpentStop) n ok err p is = absurd (let has : n ≡ 12 = err in omega (arith, has, is))

  pub at_start : {P : Type 0} (r : Result A Stop) (n : ℕ) → OnOk r (n ≡ 0) → IfErr r (λ s. IsStatus s n) → IfErr r (λ s. s ≡ Refused → P) → n ≡ 9 → P
  at_start (Ok a) n ok err p is = absurd (let none : n ≡ 0 = ok in omega (arith, none, is))
  at_start (Err Door) n ok err p is = absurd (let has : n ≡ 7 = err in omega (arith, has, is))
  at_start (Err Memory) n ok err p is = absurd (let has : n ≡ 8 = err in omega (arith, has, is))
  at_start (Err Refused) n ok err p is = p refl
  at_start (Err SpentStop) n ok err p is = absurd (let has : n ≡ 12 = err in omega (arith, has, is))

  pub spent_as : (r : Result A Stop) (n : ℕ) (b : Bool) → OnOk r (n ≡ 0) → IfErr r (λ s. IsStatus s n) → MatchResult r (λ _. b ≡ false) (λ s. MatchBool b (s ≡ SpentStop) (s ≢ SpentStop))
      → (n ≡ 12 → b ≡ true) × (b ≡ true → n ≡ 12)
  spent_as (Ok a) n b ok err spent = (λ is. absurd (let none : n ≡ 0 = ok in omega (arith, none, is)), λ e. absurd (true≢false (sym e ∙ spent)))
  spent_as (Err s) n true ok err spent = (λ is. refl, λ e. subst (λ x. IsStatus x n) spent err)
  spent_as (Err Door) n false ok err spent = (λ is. absurd (let has : n ≡ 7 = err in omega (arith, has, is)), λ e. absurd (true≢false (sym e)))
  spent_as (Err Memory) n false ok err spent = (λ is. absurd (let has : n ≡ 8 = err in omega (arith, has, is)), λ e. absurd (true≢false (sym e)))
  spent_as (Err Refused) n false ok err spent = (λ is. absurd (let has : n ≡ 9 = err in omega (arith, has, is)), λ e. absurd (true≢false (sym e)))
  spent_as (Err SpentStop) n false ok err spent = (λ is. absurd (spent refl), λ e. absurd (true≢false (sym e)))

  pub status_known : (r : Result A Stop) (n : ℕ) → OnOk r (n ≡ 0) → IfErr r (λ s. IsStatus s n) → IsServerStatus n
  status_known (Ok a) n ok err = inl ok
  status_known (Err Door) n ok err = inr (inl err)
  status_known (Err Memory) n ok err = inr (inr (inl err))
  status_known (Err Refused) n ok err = inr (inr (inr (inl err)))
  status_known (Err SpentStop) n ok err = inr (inr (inr (inr err)))
