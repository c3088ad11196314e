-- Robots that take turns while a server runs.
--     begins_turned        passes after a turn at one shard begin with what was seen before
--     same_elsewhere       of other shards they have seen the same
--     turned_self, turned_on      no turn, and more
--     sent_none, sent_more, sent_all      something came of each edit that was submitted
--     ready_new            new robots are ready
--     ready_later          so they are at a later moment
--     ready_round          and after a round at one shard, whose edits were submitted
--     settled_below        what is left then of the shards before
--     IsAfter, after_none, after_edits      what a turn at a shard leaves
--     settled_more         one shard more is settled
--     named_there          a round gives edits of a wavelet of its shard
--     were_served          where nothing is left
use Rattle.std.proofs.Common.{◌≡◌, ◌≢◌, inl, inr, ℕ, suc, slice_get, ◌+◌, ◌<◌, ◌≤◌, Bool, true, false, ◌&&◌, nat_eq, List, [], ◌∷◌, ◌++◌, length, map, Option, Some, None, refl, sym, ap, subst, ◌∙◌, arith, append-nil, append_assoc, true≢false}
use Rattle.std.specs.List.{AllByRecursion}
use Rattle.std.proofs.lemmas.Bool.{eqb-true}
use Rattle.std.proofs.lemmas.Option.{slice_get_within}
use mathlib.Core.List.{IsPrefix}
use mathlib.Core.Logic.{dite}
use native.Mathlib.Decide.{ℕ_discrete}
use Rattle.doc_items.specs.Maps.{Key, same_text}
use Rattle.wavelet_op.specs.Deltas.{DeltaOf}
use Rattle.wavelet_op.specs.declared.delta.Submission.{Submission}
use Rattle.delta_history.specs.Histories.{HistoryOf}
use Rattle.robot_host.specs.declared.edit.RobotEdit.{RobotEdit}
use Rattle.robot_host.specs.Edits.{AreAnswered, HasAnswered}
use Rattle.robot_host.specs.Hosts.{HostOf, IsNew, AreFewer, MayTurn, IsSettled}
use Rattle.robot_host.specs.Robots.{addresses}
use Rattle.robot_host.specs.Rounds.{IsRound}
use Rattle.robot_host.proofs.EditSteps.{answered_new, answered_longer, answered_fewer, answered_round, answered_all}
use Rattle.robot_host.proofs.MayTurns.{new_may_turn, longer_may_turn}
use Rattle.robot_host.proofs.RoundSteps.{AreAlike, may_round, fewer_self, fewer_may_turn, fewer_settled}
use Rattle.turn_cells.specs.declared.cells.Passes.{Passes}
use Rattle.turn_cells.specs.Cells.{AreOthersSame, Begins, BeginsAt, seen_of}
use Rattle.wave_base.specs.Grammar.{host_of}
use Rattle.wavelet_shelf.specs.FileNames.{shard_of}
use Rattle.wavelet_shelf.specs.Hosting.{Hosted}
use Rattle.shard_marks.specs.declared.mark.Mark.{Mark}
use Rattle.shard_marks.specs.Histories.{history_of, histories_at, history_at}
use Rattle.shard_marks.specs.Marks.{is_of, replayed}
use Rattle.shard_marks.specs.Outcomes.{HasOutcome, HasOutcomeOn}
use Rattle.shard_marks.specs.Passes.{HaveTurned, marks_of}
use Rattle.shard_marks.proofs.Deciding.{outcome_since, outcome_later, outcome_on_later}
use Rattle.shard_marks.proofs.Following.{AreOf, of_replayed, deltas_follow, none_elsewhere}
use Rattle.session_hub.specs.Robots.{IsRoundAt, AreSettledAt}
use Rattle.session_hub.proofs.RobotTurns.{not_of, own_alike, elsewhere_alike, settled_elsewhere}
use Rattle.wave_server.specs.Robots.{HaveAnswered, AreReady, AreSettledBelow, WereServed}

same_Some : {X : Type 0} {x y : X} → Some x ≡ Some y → x ≡ y
same_Some e = cc

-- ---- passes

module _ {T : Type 0} (ps qs : Passes T Mark) (k : ℕ) where
  pub same_elsewhere : AreOthersSame k ps qs → (j : ℕ) → j ≢ k → marks_of qs j ≡ marks_of ps j
  same_elsewhere others j apart = ap seen_of (others j apart)

  pub begins_turned : BeginsAt ps qs k → AreOthersSame k ps qs → Begins ps qs
  begins_turned later others j low = dite (ℕ_discrete j k)
      (λ e. subst (λ (z : ℕ). BeginsAt ps qs z) (sym e) later)
      (λ ne. ([], append-nil (marks_of ps j) ∙ sym (same_elsewhere others j ne)))

prefix_later : {X : Type 0} (xs ys zs : List X) → IsPrefix xs ys → IsPrefix ys zs → IsPrefix xs zs
prefix_later xs ys zs p q = (p.0 ++ q.0, sym (append_assoc xs p.0 q.0) ∙ (ap (λ ws. ws ++ q.0) p.1 ∙ q.1))

pub turned_self : {T : Type 0} (ps : Passes T Mark) (k : ℕ) → HaveTurned k ps ps
turned_self ps k = record { later = ([], append-nil (marks_of ps k)); others = λ j apart. refl; looked = refl }

pub turned_on : {T : Type 0} (ps qs rs : Passes T Mark) (k : ℕ) → HaveTurned k ps qs → HaveTurned k qs rs → HaveTurned k ps rs
turned_on ps qs rs k a b = record { later = prefix_later (marks_of ps k) (marks_of qs k) (marks_of rs k) a.later b.later; others = λ j apart. b.others j apart ∙ a.others j apart; looked = b.looked ∙ a.looked }

-- ---- edits that are submitted in turn

module _ (d : Key) (k : ℕ) (from : List Mark) (n : Key) (es : List RobotEdit) where
  abbrev pub AreSent : ℕ → List Mark → Type 0
  AreSent i ms = (j : ℕ) (e : RobotEdit) → j < i → slice_get es j ≡ Some e → HasOutcome d k from ms n e.submission

  pub sent_none : (ms : List Mark) → AreSent 0 ms
  sent_none ms j e low = absurd (omega (arith, low))

  pub sent_more : (i : ℕ) (ms ns : List Mark) (e : RobotEdit) → IsPrefix from ms → IsPrefix ms ns → AreSent i ms → slice_get es i ≡ Some e → HasOutcome d k ms ns n e.submission → AreSent (i + 1) ns
  sent_more i ms ns e since later sent at out j x low here = dite (ℕ_discrete j i)
      (λ same. subst (λ (z : RobotEdit). HasOutcome d k from ns n z.submission) (same_Some (sym at ∙ ap (slice_get es) (sym same) ∙ here)) (outcome_since d k from ms ns n e.submission since out))
      (λ ne. outcome_later d k from ms ns n x.submission later (sent j x (omega (arith, low, ne)) here))

all_there : {A : Type 0} (P : A → Type 0) (xs : List A) → ((j : ℕ) (x : A) → slice_get xs j ≡ Some x → P x) → AllByRecursion P xs
all_there P [] f = tt
all_there P (x ∷ xs) f = (f 0 x refl, all_there P xs (λ j. f (suc j)))

pub sent_all : (d : Key) (k : ℕ) (from ms : List Mark) (n : Key) (es : List RobotEdit) (i : ℕ) → length es ≤ i → AreSent d k from n es i ms → AllByRecursion (λ e. HasOutcome d k from ms n e.submission) es
sent_all d k from ms n es i whole sent = all_there (λ (e : RobotEdit). HasOutcome d k from ms n e.submission) es (λ j e at. sent j e (let within = slice_get_within es j e at in omega (arith, within, whole)) at)

-- ---- robots

pub ready_new : (g : HostOf) → IsNew g → (d : Key) (marks : ℕ → List Mark) → AreReady d marks g
ready_new g new d marks k low n own = record { may = new_may_turn g (history_at d k (marks k) n) new; answered = answered_new (HasOutcomeOn d k (marks k) n) g (history_at d k (marks k) n) new }

module _ (d : Key) where
  answered_later : (k : ℕ) (ms ns : List Mark) (g : HostOf) (n : Key) → IsPrefix ms ns → HaveAnswered d k ms g n → HaveAnswered d k ns g n
  answered_later k ms ns g n later a =
      let f = deltas_follow d k n ms ns later in
      record {
        may = longer_may_turn g (history_at d k ms n) (history_at d k ns n) f.0 refl f.1 a.may;
        answered = answered_longer (HasOutcomeOn d k ms n) (HasOutcomeOn d k ns n) (λ x s. outcome_on_later d k ms ns n x s later) g (history_at d k ms n) (history_at d k ns n) f.0 refl f.1 a.may a.answered;
      }

  pub ready_later : (ms ns : ℕ → List Mark) (g : HostOf) → ((k : ℕ) → k < 16 → IsPrefix (ms k) (ns k)) → AreReady d ms g → AreReady d ns g
  ready_later ms ns g later ready k low n own = answered_later k (ms k) (ns k) g n (later k low) (ready k low n own)

  fewer_answered : (k : ℕ) (ms : List Mark) (g g' : HostOf) (n : Key) → AreFewer g g' → HaveAnswered d k ms g n → HaveAnswered d k ms g' n
  fewer_answered k ms g g' n w a = record { may = fewer_may_turn g g' w (history_at d k ms n) a.may; answered = answered_fewer (HasOutcomeOn d k ms n) g g' (history_at d k ms n) w a.answered }

  -- ---- the wavelet of the edits

  name_in : (k : ℕ) (hs : List Hosted) (g g' : HostOf) (n : Key) (es : List RobotEdit) → AreOf d k hs → IsRound g (map history_of hs) g' (Some n) es → is_of d k n ≡ true
  name_in k [] g g' n es of r = absurd (no_name r.1)
    where
      no_name : Some n ≡ None → ⊥
      no_name e = absurd cc
  name_in k (h ∷ hs) g g' n es of (inl e) = subst (λ z. is_of d k z ≡ true) (sym (same e.name)) of.0
    where
      same : Some n ≡ Some h.name → n ≡ h.name
      same e = cc
  name_in k (h ∷ hs) g g' n es of (inr r) = name_in k hs r.0 g' n es of.1 r.2

  pub named_there : (k : ℕ) (ms : List Mark) (g g' : HostOf) (o : Option Key) (n : Key) (es : List RobotEdit) → IsRoundAt d k ms g g' o es → o ≡ Some n → is_of d k n ≡ true
  named_there k ms g g' o n es round is = name_in k (replayed d k ms) g g' n es (of_replayed d k ms) (subst (λ z. IsRoundAt d k ms g g' z es) is round)

  pub shard_there : (k : ℕ) (n : Key) → is_of d k n ≡ true → shard_of n ≡ k
  shard_there k n own = eqb-true (shard_of n) k (second (same_text (host_of n) d) (nat_eq (shard_of n) k) own)
    where
      second : (a b : Bool) → a && b ≡ true → b ≡ true
      second true b e = e
      second false b e = absurd (true≢false (sym e))

  -- ---- a round at the shard i, whose edits were submitted

  module _ (i : ℕ) (ms qs rs : ℕ → List Mark) (g m g' : HostOf) (o : Option Key) (es : List RobotEdit) (round : IsRoundAt d i (qs i) g m o es) (w : AreFewer m g') where
    answered_one : (k : ℕ) (n : Key) → is_of d k n ≡ true → AreAlike (history_at d k (qs k) n) (histories_at d i (qs i)) → IsPrefix (qs k) (rs k) → (o ≡ Some n → AllByRecursion (λ e. HasOutcome d k (qs k) (rs k) n e.submission) es)
        → HaveAnswered d k (qs k) g n → HaveAnswered d k (rs k) g' n
    answered_one k n own alike later judged a =
        let f = deltas_follow d k n (qs k) (rs k) later in
        let h = history_at d k (qs k) n in
        let h' = history_at d k (rs k) n in
        let P = HasOutcomeOn d k (qs k) n in
        let Q = HasOutcomeOn d k (rs k) n in
        let may = may_round h (histories_at d i (qs i)) g m o es alike round a.may in
        let all = answered_round (HasOutcome d k (qs k) (rs k) n) P Q (λ x s. outcome_on_later d k (qs k) (rs k) n x s later) h (histories_at d i (qs i)) g m o es alike round (λ x s there out. record { from = qs k; there = there; outcome = out }) judged a.may a.answered in
        fewer_answered k (rs k) m g' n w (record { may = longer_may_turn m h h' f.0 refl f.1 may; answered = answered_longer Q Q (λ x s q. q) m h h' f.0 refl f.1 may all })

    pub ready_round : ((k : ℕ) → k < 16 → IsPrefix (ms k) (qs k)) → ((k : ℕ) → k < 16 → IsPrefix (qs k) (rs k)) → ((n : Key) → o ≡ Some n → AllByRecursion (λ e. HasOutcome d i (qs i) (rs i) n e.submission) es)
        → AreReady d ms g → AreReady d rs g'
    ready_round first later judged ready k low n own = dite (ℕ_discrete k i)
        (λ e. answered_one k n own (subst (λ (z : ℕ). AreAlike (history_at d z (qs z) n) (histories_at d i (qs i))) (sym e) (own_alike d i (qs i) g m n)) (later k low)
        (λ named. subst (λ (z : ℕ). AllByRecursion (λ x. HasOutcome d z (qs z) (rs z) n x.submission) es) (sym e) (judged n named)) before)
        (λ ne. answered_one k n own (elsewhere_alike d i (qs i) g m k (qs k) ne n own) (later k low)
        (λ named. absurd (true≢false (sym (named_there i (qs i) g m o n es round named) ∙ not_of d k i n own ne))) before)
      where
        before : HaveAnswered d k (qs k) g n
        before = answered_later k (ms k) (qs k) g n (first k low) (ready k low n own)

    pub settled_below : ((k : ℕ) → k ≢ i → qs k ≡ ms k) → ((k : ℕ) → k ≢ i → rs k ≡ qs k) → AreSettledBelow i d ms g → AreSettledBelow i d rs g'
    settled_below first later settled k low =
        let apart : k ≢ i = λ e. let same : k ≡ i = e in absurd (omega (arith, same, low)) in
        let before = subst (λ z. AreSettledAt d k z g) (sym (first k apart)) (settled k low) in
        let after = settled_elsewhere d i (qs i) g m k (qs k) apart o es round before in
        subst (λ z. AreSettledAt d k z g') (sym (later k apart)) (λ n some. fewer_settled m g' w (history_at d k (qs k) n) (after n some))

  -- ---- what a turn at the shard k leaves

  pub record IsAfter {T : Type 0} (k : ℕ) (ps rs : Passes T Mark) (g g' : HostOf) : Type 0 where
    pub later : Begins ps rs
    pub ready : AreReady d (marks_of ps) g → AreReady d (marks_of rs) g'
    pub settled : AreSettledBelow k d (marks_of ps) g → AreSettledBelow k d (marks_of rs) g'

  module _ {T : Type 0} (k : ℕ) (ps qs : Passes T Mark) (turned : HaveTurned k ps qs) (g m : HostOf) (o : Option Key) (es : List RobotEdit) (round : IsRoundAt d k (marks_of qs k) g m o es) where
    first_begins : Begins ps qs
    first_begins = begins_turned ps qs k turned.later turned.others

    pub after_none : o ≡ None → IsAfter k ps qs g m
    after_none none = record {
      later = first_begins;
      ready = λ ready. ready_round k (marks_of ps) (marks_of qs) (marks_of qs) g m m o es round (fewer_self m) first_begins (λ j low. ([], append-nil (marks_of qs j))) (λ n named. absurd (no_name n (sym none ∙ named))) ready;
      settled = λ settled. settled_below k (marks_of ps) (marks_of qs) (marks_of qs) g m m o es round (fewer_self m) (same_elsewhere ps qs k turned.others) (λ j apart. refl) settled;
    }
      where
        no_name : (n : Key) → None ≡ Some n → ⊥
        no_name n e = absurd cc

    pub after_edits : (rs : Passes T Mark) (g' : HostOf) (n : Key) → o ≡ Some n → HaveTurned (shard_of n) qs rs → AreFewer m g' → AllByRecursion (λ e. HasOutcome d (shard_of n) (marks_of qs (shard_of n)) (marks_of rs (shard_of n)) n e.submission) es → IsAfter k ps rs g g'
    after_edits rs g' n named sent w outcomes =
        let shard = shard_there k n (named_there k (marks_of qs k) g m o n es round named) in
        let second : HaveTurned k qs rs = subst (λ (z : ℕ). HaveTurned z qs rs) shard sent in
        let here = subst (λ (z : ℕ). AllByRecursion (λ e. HasOutcome d z (marks_of qs z) (marks_of rs z) n e.submission) es) shard outcomes in
        let begins = begins_turned qs rs k second.later second.others in
        record {
          later = λ j low. prefix_later (marks_of ps j) (marks_of qs j) (marks_of rs j) (first_begins j low) (begins j low);
          ready = λ ready. ready_round k (marks_of ps) (marks_of qs) (marks_of rs) g m g' o es round w first_begins begins (λ p is. subst (λ z. AllByRecursion (λ e. HasOutcome d k (marks_of qs k) (marks_of rs k) z e.submission) es) (same_Some (sym named ∙ is)) here) ready;
          settled = λ settled. settled_below k (marks_of ps) (marks_of qs) (marks_of rs) g m g' o es round w (same_elsewhere ps qs k turned.others) (same_elsewhere qs rs k second.others) settled;
        }

  pub settled_more : (m : ℕ) (ms : ℕ → List Mark) (g : HostOf) → AreSettledBelow m d ms g → AreSettledAt d m (ms m) g → AreSettledBelow (m + 1) d ms g
  settled_more m ms g settled here j low = dite (ℕ_discrete j m)
      (λ e. subst (λ (z : ℕ). AreSettledAt d z (ms z) g) (sym e) here)
      (λ ne. settled j (omega (arith, low, ne)))

  -- ---- at the end

  pub were_served : (ms : ℕ → List Mark) (g : HostOf) → AreReady d ms g → AreSettledBelow 16 d ms g → WereServed d ms g
  were_served ms g ready settled k low n some r s at here = go (is_of d k n) refl
    where
      h : HistoryOf
      h = history_at d k (ms k) n

      go : (b : Bool) → is_of d k n ≡ b → HasAnswered (HasOutcomeOn d k (ms k) n) (addresses g.robots) h r s (length h.deltas)
      go true own = answered_all (HasOutcomeOn d k (ms k) n) g h (settled k low n some) (ready k low n own).answered r s at here
      go false other = absurd (some (none_elsewhere d k n (ms k) other))
