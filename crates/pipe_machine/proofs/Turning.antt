-- Turns, one after the other.
--     after_more     the machine after one more
--     along_more, along_step    what a crash left stands for a history on the way
--     since_more     what stays so of the shelf
--     turn_sent      what a turn sends
--     answered_on    what is written for it, and for what follows
--     reached_more   what was reached after one more; reached_after, tried_after, by how it ended
--     faults_later, faults_rose    the count of what stores
use Rattle.std.proofs.Common.{◌≡◌, ◌↔◌, ◌≤◌, inl, inr, ℕ, zero, suc, length, take, subst, le_refl, OnErr, Bool, true, false, ◌||◌, List, [], ◌∷◌, ◌++◌, Option, Some, None, IsSome, Result, IsErrOf, refl, sym, ap, ◌∙◌, append_assoc, arith, true≢false, Ok, Err, OnOk}
use Rattle.std.specs.List.{list_any}
use Rattle.std.proofs.lemmas.List.{take_all}
use Rattle.doc_items.specs.Maps.{Key}
use Rattle.disk_model.specs.declared.disk.Disk as disk_of
use Rattle.wave_outside.specs.declared.folder.Folder as folder_of
use Rattle.wavelet_container.specs.Records.{StandsForHistory}
use Rattle.wavelet_shelf.specs.Hosting.{Hosted, deltas_in}
use Rattle.wave_outside.specs.Counts.{Rose}
use Rattle.wavelet_shelf.specs.Shelves.{container_in, hosted_of, in_folder, fault_count}
use Rattle.wavelet_shelf.specs.declared.shelf.Shelf.{Shelf}
use Rattle.wavelet_shelf.proofs.Still.{used_on, used_more, used_there}
use Rattle.wavelet_shelf.proofs.Written.{written_both, written_more}
use Rattle.line_loop.specs.Turns.{Turn, turn_at}
use Rattle.line_loop.specs.declared.line_machine.TurnFault.{TurnFault}
use Rattle.line_loop.specs.declared.line_machine.TurnFault.TheVariants.{Store}
use Rattle.pipe_machine.specs.declared.pipe.PipeMachine.{PipeMachine}
use Rattle.pipe_machine.specs.Pipes.{pipe_of, faults_where, store_faults, StandsAlong, IsCalm, IsReached, IsTried}
use Rattle.pipe_machine.specs.Keeping.{Begins, submits_to, submitted_in, IsFileAmong, StandsForEither, AreBegun, AreStepped, IsMoved, IsEnded}
use Rattle.pipe_machine.specs.Lines.{lines_of}
use Rattle.pipe_machine.specs.Machine.{Pipe, Answer, delivered, turned, turn, sent, after}
use Rattle.pipe_machine.proofs.Gathering.{lines_append}
use Rattle.pipe_machine.proofs.Moving.{begins_on}
use Rattle.pipe_machine.proofs.Trying.{begun_more, begun_both}

pub after_more : (p : Pipe) (ts : List Turn) (time : ℕ) (line : List ℕ) → after p (ts ++ turn_at time line ∷ []) ≡ (turn (after p ts) time line).pipe
after_more p [] time line = refl
after_more p (t ∷ ts) time line = after_more (turn p t.time t.line).pipe ts time line

pub answered_on : {A E : Type 0} (r : Result A E) (p q : Pipe) (out one : List ℕ) (time : ℕ) (line : List ℕ) → OnOk r (q ≡ (turn p time line).pipe) → OnOk r (one ≡ out ++ lines_of (turn p time line).sent)
    → OnOk r ((ts : List Turn) → out ++ lines_of (sent p (turn_at time line ∷ ts)) ≡ one ++ lines_of (sent q ts))
answered_on (Ok a) p q out one time line e f = λ ts.
    let t = turn p time line in
    ap (λ l. out ++ l) (lines_append t.sent (sent t.pipe ts)) ∙ sym (append_assoc out (lines_of t.sent) (lines_of (sent t.pipe ts))) ∙ (λ i. sym f i ++ lines_of (sent (sym e i) ts))
answered_on (Err x) p q out one time line e f = tt

pub turn_sent : (one two out : List ℕ) (a : Answer) (p : Pipe) → p ≡ a.pipe → one ≡ out ++ lines_of a.sent → two ≡ one ++ lines_of (delivered p).sent → two ≡ out ++ lines_of (turned a).sent
turn_sent one two out a p e f h =
    h ∙ (λ i. f i ++ lines_of (delivered (e i)).sent) ∙ append_assoc out (lines_of a.sent) (lines_of (delivered a.pipe).sent) ∙ ap (λ l. out ++ l) (sym (lines_append a.sent (delivered a.pipe).sent))

-- ---- the turns before each crash

front : (ts rest : List Turn) (k : ℕ) → (j : ℕ) × (take j (ts ++ rest) ≡ take k ts)
front [] rest zero = (0, refl)
front [] rest (suc k) = (0, refl)
front (t ∷ ts) rest zero = (0, refl)
front (t ∷ ts) rest (suc k) = let j = front ts rest k in (suc j.0, ap (λ l. t ∷ l) j.1)

pub along_more : (p : Pipe) (n : Key) (ts rest : List Turn) (bytes : List ℕ) → StandsAlong p n ts bytes → StandsAlong p n (ts ++ rest) bytes
along_more p n ts rest bytes stands =
    let j = front ts rest stands.0 in
    (j.0, subst (λ l. StandsForHistory n (deltas_in (after p l).hosted n) bytes) (sym j.1) stands.1)

-- the history of all these turns, or of one more
pub along_step : (p : Pipe) (n : Key) (ts : List Turn) (t : Turn) (here next : List Hosted) → (after p ts).hosted ≡ here → (after p (ts ++ t ∷ [])).hosted ≡ next
    → (bytes : List ℕ) → StandsForEither n (deltas_in here n) (deltas_in next n) bytes → StandsAlong p n (ts ++ t ∷ []) bytes
along_step p n ts t here next is leads bytes (inl stands) = along_more p n ts (t ∷ []) bytes (
  length ts,
  subst (λ l. StandsForHistory n (deltas_in (after p l).hosted n) bytes) (sym (take_all (length ts) ts (le_refl _))) (subst (λ hs. StandsForHistory n (deltas_in hs n) bytes) (sym is) stands),
)
along_step p n ts t here next is leads bytes (inr stands) = (
  length (ts ++ t ∷ []),
  subst (λ l. StandsForHistory n (deltas_in (after p l).hosted n) bytes) (sym (take_all (length (ts ++ t ∷ [])) (ts ++ t ∷ []) (le_refl _))) (subst (λ hs. StandsForHistory n (deltas_in hs n) bytes) (sym leads) stands),
)

none_of : (a b : Bool) → (a || b) ≡ false → (a ≡ false) × (b ≡ false)
none_of true b e = absurd (true≢false e)
none_of false b e = (refl, e)

any_more : {X : Type 0} (p : X → Bool) (xs : List X) (x : X) → list_any p (xs ++ x ∷ []) ≡ (list_any p xs || (p x || false))
any_more p [] x = refl
any_more p (y ∷ ys) x = go (p y) (any_more p ys x)
  where
    go : (b : Bool) → list_any p (ys ++ x ∷ []) ≡ (list_any p ys || (p x || false)) → (b || list_any p (ys ++ x ∷ [])) ≡ ((b || list_any p ys) || (p x || false))
    go true e = refl
    go false e = e

or_left : (a b : Bool) → a ≡ true → (a || b) ≡ true
or_left a b e = ap (λ z. z || b) e

or_right : (a b : Bool) → b ≡ true → (a || (b || false)) ≡ true
or_right true b e = refl
or_right false b e = ap (λ z. z || false) e

apart : (b : Bool) → (b || false) ≡ false → b ≡ false
apart true e = absurd (true≢false e)
apart false e = refl

where_later : {F : Type 0} (o p : Option F) (a b : ℕ) → (IsSome o ↔ IsSome p) → a ≤ b → faults_where o a ≤ faults_where p b
where_later None None a b e h = omega arith
where_later None (Some y) a b e h = omega arith
where_later (Some x) None a b e h = absurd (true≢false (sym (e.0 refl)))
where_later (Some x) (Some y) a b e h = h

where_rose : {F : Type 0} (o p : Option F) (a b : ℕ) → IsSome o → (IsSome o ↔ IsSome p) → Rose a b → Rose (faults_where o a) (faults_where p b)
where_rose None p a b some e h = absurd (true≢false (sym some))
where_rose (Some x) None a b some e h = absurd (true≢false (sym (e.0 refl)))
where_rose (Some x) (Some y) a b some e h = h

module _ {F D : Type 0} {folder : folder_of.Ghosts F D} {disk : disk_of.Ghosts D} where
  pub since_more : (a b c : Shelf F D folder disk) (ts : List Turn) (time : ℕ) (line : List ℕ) → IsMoved (submitted_in ts) a b → IsMoved (submits_to line) b c → IsMoved (submitted_in (ts ++ turn_at time line ∷ [])) a c
  since_more a b c ts time line m n = record {
    grown = λ k. begins_on (deltas_in (hosted_of a) k) (deltas_in (hosted_of b) k) (deltas_in (hosted_of c) k) (m.grown k) (n.grown k);
    others = λ k other. let none = none_of (submitted_in ts k) (submits_to line k || false) (sym (any_more (λ (t : Turn). submits_to t.line k) ts (turn_at time line)) ∙ other) in
        n.others k (apart (submits_to line k) none.1) ∙ m.others k none.0;
    kept = λ k. n.kept (m.kept k);
    used =
        let all = IsFileAmong (submitted_in (ts ++ turn_at time line ∷ [])) in
        used_on folder all (in_folder a) (in_folder b) (in_folder c)
        (used_more folder (IsFileAmong (submitted_in ts)) all (λ l x. (x.0, any_more (λ (t : Turn). submits_to t.line x.0) ts (turn_at time line) ∙ or_left (submitted_in ts x.0) (submits_to line x.0 || false) x.1, x.2)) (in_folder a) (in_folder b) m.used)
        (used_more folder (IsFileAmong (submits_to line)) all (λ l x. (x.0, any_more (λ (t : Turn). submits_to t.line x.0) ts (turn_at time line) ∙ or_right (submitted_in ts x.0) (submits_to line x.0) x.1, x.2)) (in_folder b) (in_folder c) n.used);
    later = omega (arith, m.later, n.later);
  }

  pub reached_more : (a m b : PipeMachine F D folder disk) (ts : List Turn) (time : ℕ) (line : List ℕ) → IsReached a ts m → pipe_of b ≡ (turn (pipe_of m) time line).pipe → (IsCalm m → IsCalm b) → ((n : Key) → Begins (deltas_in (hosted_of m.shelf) n) (deltas_in (hosted_of b.shelf) n))
      → AreStepped m.shelf b.shelf (turn (pipe_of m) time line).pipe.hosted → IsReached a (ts ++ turn_at time line ∷ []) b
  reached_more a m b ts time line r is calm grows stepped =
      let p = pipe_of a in
      let next = (turn (pipe_of m) time line).pipe.hosted in
      let leads : after p (ts ++ turn_at time line ∷ []) ≡ (turn (pipe_of m) time line).pipe = after_more p ts time line ∙ ap (λ q. (turn q time line).pipe) r.pipe in
      record {
        pipe = leads ∙ sym is;
        calm = λ c. calm (r.calm c);
        moments = λ c n.
            let along = StandsAlong p n (ts ++ turn_at time line ∷ []) in
            let one = written_more (StandsAlong p n ts) along (along_more p n ts (turn_at time line ∷ [])) (container_in a.shelf n) (container_in m.shelf n) (r.moments c n) in
            let two = written_more (StandsForEither n (deltas_in (hosted_of m.shelf) n) (deltas_in next n)) along (along_step p n ts (turn_at time line) (pipe_of m).hosted next (ap (λ (q : Pipe). q.hosted) r.pipe) (ap (λ (q : Pipe). q.hosted) leads))
            (container_in m.shelf n) (container_in b.shelf n) (stepped.moments (r.calm c).0 (r.calm c).1 n) in
            written_both along (container_in a.shelf n) (container_in m.shelf n) (container_in b.shelf n) one two;
        begun = begun_both a.shelf m.shelf b.shelf (hosted_of b.shelf) (begun_more a.shelf m.shelf (hosted_of m.shelf) (hosted_of b.shelf) grows r.begun)
            (subst (λ hs. AreBegun m.shelf b.shelf hs) (sym (ap (λ (q : Pipe). q.hosted) is)) stepped.begun);
      }

  pub reached_after : {A : Type 0} (r : Result A TurnFault) (a b : PipeMachine F D folder disk) (may : Key → Bool) (time : ℕ) (line : List ℕ) → OnOk r (pipe_of b ≡ (turn (pipe_of a) time line).pipe)
      → IsMoved may a.shelf b.shelf → IsEnded a.shelf b.shelf (turn (pipe_of a) time line).pipe.hosted r → OnOk r ((start : PipeMachine F D folder disk) (ts : List Turn) → IsReached start ts a → IsReached start (ts ++ turn_at time line ∷ []) b)
  reached_after (Ok x) a b may time line is moved ended = λ start ts r. reached_more start a b ts time line r is (λ calm. (moved.kept calm.0, ended.settled calm.0 calm.1)) moved.grown ended.stepped
  reached_after (Err e) a b may time line is moved ended = tt

  pub tried_after : {A : Type 0} (r : Result A TurnFault) (a b : PipeMachine F D folder disk) (time : ℕ) (line : List ℕ) → IsEnded a.shelf b.shelf (turn (pipe_of a) time line).pipe.hosted r → OnErr r (IsTried a (turn_at time line) b)
  tried_after (Ok x) a b time line ended = tt
  tried_after (Err e) a b time line ended = record { to = ended.tried; stepped = ended.stepped }

  pub faults_later : (a b : Shelf F D folder disk) (may : Key → Bool) → IsMoved may a b → store_faults a ≤ store_faults b
  faults_later a b may m = where_later (in_folder a) (in_folder b) (fault_count a) (fault_count b) (used_there folder (IsFileAmong may) (in_folder a) (in_folder b) m.used) m.later

  pub faults_rose : {A : Type 0} (a b : Shelf F D folder disk) (may : Key → Bool) (after : List Hosted) (r : Result A TurnFault) → IsMoved may a b → IsEnded a b after r → IsErrOf r Store → Rose (store_faults a) (store_faults b)
  faults_rose a b may after r m e store = where_rose (in_folder a) (in_folder b) (fault_count a) (fault_count b) (e.store store) (used_there folder (IsFileAmong may) (in_folder a) (in_folder b) m.used) (e.failed store)
