-- Turns at a shard, and at a hub.
--     each_some          what is so of a value that is there
--     answered_by, given_by      the answer to a submission in a turn, and to what a copy was given
--     at_moment          what is so of the copies at the last mark of a shard is so of those that its marks give
--     grown_later        what begins a list begins a longer one
--     on_ok, later_of, closed_each     what holds always; what begins an equal list; so it is of each value at a place
--     shard_moment, shard_number       the same, of a shard that was lent; its number
--     begun_at           a pass of a hub has seen how the marks of its shard begin
--     attached_moment, frames_moment, after_moment, told_moment     what a shard that was lent gives, by the marks
--     founded_on         so it has after a turn at one shard
--     spent_at           why no turn was given
--     shard_small        a wavelet's shard is one of sixteen
--     stands_at          what an index gave stands at the place of the shard that it is
--     with_pass          passes of which one is another
--     IsTurnAt, turn_at  what an index gave of cells and of passes, at the place of a shard
--     founded_same, split_own     passes that have seen the same are of the hub too, and so are second ones
--     on_err, spent_exit what holds always; why no turn was given, where an error goes on
--     others_at, turned_at, unadded_at, own_after, seen_now, look_at, answered_at, given_at     what a turn at one shard leaves of the passes
use Rattle.std.proofs.Common.{map, Result, Ok, Err, OnOk, ◌≡◌, ℕ, ◌+◌, ◌<◌, ◌≤◌, true, List, ◌++◌, length, Option, Some, None, IfSome, slice_get, set, refl, sym, ap, subst, ◌∙◌, arith, length-append, length-set, ◌⊎◌, inl, inr, append_assoc, [], ◌∷◌, OnErr, IfOk, IfErr, IsErrAnd, get_or, ◌%◌}
use Rattle.std.specs.Vec.{with_item}
use mathlib.Core.Logic.{dite}
use mathlib.Core.List.{IsPrefix}
use native.Mathlib.Decide.{ℕ_discrete}
use Rattle.doc_items.specs.Maps.{Key}
use Rattle.disk_model.specs.declared.disk.Disk as disk_of
use Rattle.wave_outside.specs.declared.folder.Folder as folder_of
use Rattle.wavelet_op.specs.declared.delta.Submission.{Submission}
use Rattle.session_core.specs.Answers.{attached}
use Rattle.session_core.specs.Deliveries.{delivered, after_delivery}
use Rattle.session_core.specs.declared.request.SubmitAnswer.{SubmitAnswer}
use Rattle.session_core.specs.declared.session.Session.{Session}
use Rattle.message_json.specs.declared.message.Message.{Message}
use Rattle.wave_base.specs.Versions.{VersionAt}
use Rattle.turn_lock.specs.Passes.{IsOneMore, seen, loads, added, IsOf}
use Rattle.turn_lock.specs.Turns.{turn_limit}
use Rattle.turn_lock.specs.declared.cell.Pass.{Pass}
use Rattle.turn_lock.specs.declared.cell.Spent.{Spent as NoTurn}
use Rattle.turn_lock.specs.declared.cell.TurnCell.{TurnCell}
use Rattle.turn_cells.specs.declared.cells.Passes.{Passes}
use Rattle.turn_cells.specs.Cells.{AreOf, AreOthersSame, ArePairs, BeginsAt, IsOfAt, seen_of, loads_of, added_of, ticket_of, added_at}
use Rattle.turn_cells.proofs.Places.{get_set_same, get_set_other, each_set, at_there}
use Rattle.wavelet_shelf.specs.FileNames.{shard_of, first_byte}
use Rattle.wave_hash.specs.Chain.{zero_hash_of}
use Rattle.session_hub.specs.declared.fault.HubFault.{HubFault}
use Rattle.session_hub.specs.declared.fault.HubFault.TheVariants.{Spent, Memory}
use Rattle.shard_marks.specs.declared.mark.Mark.{Mark}
use Rattle.session_hub.specs.declared.hub.Hub.{Hub}
use Rattle.session_hub.specs.declared.shard.Shard.{Shard}
use Rattle.shard_marks.specs.Answers.{IsAnswer, IsAnswered}
use Rattle.shard_marks.specs.Looks.{IsLook}
use Rattle.shard_marks.specs.declared.look.Look.{Look}
use Rattle.session_hub.specs.Entries.{entries_of, copies_at}
use Rattle.session_hub.specs.Records.{mark_of}
use Rattle.shard_marks.specs.Passes.{marks_of, HaveTurned, IsSpentAt}
use Rattle.session_hub.specs.Hubs.{AreFounded, AreOfHub}
use Rattle.shard_marks.specs.Frames.{frames_of}
use Rattle.shard_marks.specs.Marks.{is_founded, founded, shown_at}
use Rattle.shard_marks.specs.Servers.{ServerOf, server}
use Rattle.shard_marks.specs.Answers.{IsJudged}
use Rattle.shard_marks.specs.Givings.{IsGiven, IsGivenFrom, IsGivenBy}
use Rattle.shard_marks.specs.declared.giving.Given.{Given}
use Rattle.session_hub.specs.Turns.{IsBegun, IsAnsweredBy, IsGivenIn, IsFault}
use Rattle.shard_marks.proofs.Founded.{founded_is, founded_later}

pub each_some : {X : Type 0} (P : X → Type 0) (o : Option X) → ((x : X) → o ≡ Some x → P x) → IfSome o P
each_some P None so = tt
each_some P (Some x) so = so x refl

prefix_length : {X : Type 0} (xs ys : List X) → IsPrefix xs ys → length xs ≤ length ys
prefix_length xs ys p = let longer = length-append xs p.0 in let whole = ap length p.1 in omega (arith, longer, whole)

-- `e` and `j` are the shard's own domain and number, and `rs` and `os` its marks after the first one, before and after
module _ {T : Type 0} (p q : Pass T Mark) (d : Key) (k : ℕ) (e : Key) (j : ℕ) (rs os : List Mark) where
  pub answered_by : (peers : List Key) (n : Key) (s : Submission) (t : ℕ) (a : SubmitAnswer) → is_founded d k (seen p) ≡ true → IsPrefix (seen p) (founded e j rs) → IsJudged (server e peers) j (founded e j rs) os n s t a
      → seen q ≡ os → added q + length (founded e j rs) ≡ added p + length os → IsAnsweredBy p q (server d peers) k n s t a
  answered_by peers n s t a own begins judged last count =
      let is = founded_is d k e j rs (seen p) own begins in
      let longer = judged.longer in
      let front : length (seen p) ≤ length (founded e j rs) = prefix_length (seen p) (founded e j rs) begins in
      let whole : length (seen q) ≡ length os = ap length last in
      record {
        gained = judged.gained;
        added = omega (arith, longer, count);
        grown = omega (arith, longer, front, whole);
        answer = subst (λ (z : List Mark). IsAnswer (server d peers) k z n s t a judged.gained) (sym last) (subst (λ (z : Key × ℕ). IsAnswer (server z.0 peers) z.1 os n s t a judged.gained) (λ i. (is.0 i, is.1 i)) judged.answer);
      }

  pub given_by : (m : Mark) (a : Given) → is_founded d k (seen p) ≡ true → IsPrefix (seen p) (founded e j rs) → IsGivenFrom e j (founded e j rs) os m a → seen q ≡ os
      → added q + length (founded e j rs) ≡ added p + length os → IsGivenIn p q d k m a
  given_by m a own begins by last count =
      let is = founded_is d k e j rs (seen p) own begins in
      let longer = by.longer in
      let front : length (seen p) ≤ length (founded e j rs) = prefix_length (seen p) (founded e j rs) begins in
      let whole : length (seen q) ≡ length os = ap length last in
      record {
        gained = by.gained;
        added = omega (arith, longer, count);
        grown = omega (arith, longer, front, whole);
        answer = subst (λ (z : List Mark). IsGiven d k z m a by.gained) (sym last) (subst (λ (z : Key × ℕ). IsGiven z.0 z.1 os m a by.gained) (λ i. (is.0 i, is.1 i)) by.answer);
      }

-- what is so of the shard's own domain, number and marks is so of these
pub at_moment : (P : Key → ℕ → List Mark → Type 0) (d : Key) (k : ℕ) (e : Key) (j : ℕ) (rs before now : List Mark) → is_founded d k before ≡ true → IsPrefix before (founded e j rs) → now ≡ founded e j rs → P e j (founded e j rs) → P d k now
at_moment P d k e j rs before now own begins last so =
    let is = founded_is d k e j rs before own begins in
    subst (P d k) (sym last) (subst (λ (z : Key × ℕ). P z.0 z.1 (founded e j rs)) (λ i. (is.0 i, is.1 i)) so)

pub on_ok : {A E P : Type 0} (o : Result A E) → P → OnOk o P
on_ok (Ok a) p = p
on_ok (Err e) p = tt

pub later_of : {X : Type 0} (xs ys zs : List X) → IsPrefix xs ys → zs ≡ ys → IsPrefix xs zs
later_of xs ys zs p e = (p.0, p.1 ∙ sym e)

-- what begins a list begins one that is the same or has one more, too
pub grown_later : {X : Type 0} (xs ys us zs ws : List X) → IsPrefix xs ys → us ≡ ys → (zs ≡ us) ⊎ IsOneMore us zs → ws ≡ zs → IsPrefix xs ws
grown_later xs ys us zs ws p e (inl same) last = (p.0, p.1 ∙ sym e ∙ sym same ∙ sym last)
grown_later xs ys us zs ws p e (inr more) last = (p.0 ++ more.0 ∷ [], sym (append_assoc xs p.0 (more.0 ∷ [])) ∙ ap (λ v. v ++ more.0 ∷ []) (p.1 ∙ sym e) ∙ sym more.1 ∙ sym last)

pub closed_each : {A V : Type 0} (items : A → List V) (P : ℕ → V → Type 0) (o : Option A) → IfSome o (λ a. (k : ℕ) (v : V) → slice_get (items a) k ≡ Some v → P k v) → IfSome o (λ a. (k : ℕ) → IfSome (slice_get (items a) k) (P k))
closed_each items P None all = tt
closed_each items P (Some a) all = λ k. each_some (P k) (slice_get (items a) k) (all k)

module _ {F D : Type 0} {folder : folder_of.Ghosts F D} {disk : disk_of.Ghosts D} where
  -- what is so of a shard that was lent, and is that of the cell, is so of what a pass has then seen
  pub shard_moment : (P : Key → ℕ → List Mark → Type 0) (xs zs : List Mark) (v w : Shard F D folder disk) (d : Key) (k : ℕ) → is_founded d k xs ≡ true → IsPrefix xs (entries_of v) → w ≡ v → zs ≡ entries_of v → P w.domain w.number (entries_of w) → P d k zs
  shard_moment P xs zs v w d k own begins same last so =
      at_moment P d k v.domain v.number (map mark_of v.records.items) xs zs own begins last (subst (λ (s : Shard F D folder disk). P s.domain s.number (entries_of s)) same so)

  pub shard_number : (xs : List Mark) (v w : Shard F D folder disk) (d : Key) (k : ℕ) → is_founded d k xs ≡ true → IsPrefix xs (entries_of v) → w ≡ v → k ≡ w.number
  shard_number xs v w d k own begins same = sym (founded_is d k v.domain v.number (map mark_of v.records.items) xs own begins).1 ∙ ap (λ (s : Shard F D folder disk). s.number) (sym same)

module _ {F D : Type 0} {folder : folder_of.Ghosts F D} {disk : disk_of.Ghosts D} (h : Hub F D folder disk) (ps : Passes (Shard F D folder disk) Mark) where
  pub founded_at : (k : ℕ) (p : Pass (Shard F D folder disk) Mark) → AreFounded h ps → k < 16 → slice_get ps.list.items k ≡ Some p → is_founded h.domain k (seen p) ≡ true
  founded_at k p all l at = subst (λ (o : Option (Pass (Shard F D folder disk) Mark)). is_founded h.domain k (seen_of o) ≡ true) at (all k l)

  pub begun_at : (k : ℕ) (p : Pass (Shard F D folder disk) Mark) → AreFounded h ps → k < 16 → slice_get ps.list.items k ≡ Some p → IsBegun k (seen p)
  begun_at k p all l at = (h.domain, founded_at k p all l at)

  pub founded_on : (k : ℕ) (qs : Passes (Shard F D folder disk) Mark) → AreFounded h ps → BeginsAt ps qs k → AreOthersSame k ps qs → AreFounded h qs
  founded_on k qs all later others j l = dite (ℕ_discrete j k)
      (λ e. founded_later h.domain j (marks_of ps j) (marks_of qs j) (all j l) (subst (λ (z : ℕ). BeginsAt ps qs z) (sym e) later))
      (λ ne. subst (λ (o : Option (Pass (Shard F D folder disk) Mark)). is_founded h.domain j (seen_of o) ≡ true) (sym (others j ne)) (all j l))

module _ {T : Type 0} where
  pub spent_at : (qs : Passes T Mark) (k : ℕ) (q : Pass T Mark) (e : HubFault) → slice_get qs.list.items k ≡ Some q → IsFault q e → (s : NoTurn) → e ≡ Spent s → IsSpentAt qs k s
  spent_at qs k q (Spent r) at f s is =
      let same = same_Spent is in
      record { limit = subst (λ (z : NoTurn). turn_limit ≤ z.ticket) same f.0; ticket = ap (λ (o : Option (Pass T Mark)). ticket_of o) at ∙ f.1 ∙ ap (λ (z : NoTurn). z.ticket) same }
    where
      same_Spent : Spent r ≡ Spent s → r ≡ s
      same_Spent e = cc
  spent_at qs k q Memory at f s is = absurd cc

-- the pass q stands where p stood
module _ {F D : Type 0} {folder : folder_of.Ghosts F D} {disk : disk_of.Ghosts D} (ps qs : Passes (Shard F D folder disk) Mark) (k : ℕ) (p q : Pass (Shard F D folder disk) Mark) (at : slice_get ps.list.items k ≡ Some p) (is : qs.list.items ≡ set ps.list.items k q) where
  pub now_at : slice_get qs.list.items k ≡ Some q
  now_at = ap (λ l. slice_get l k) is ∙ get_set_same ps.list.items k q p at

  pub others_at : AreOthersSame k ps qs
  others_at j ne = ap (λ l. slice_get l j) is ∙ get_set_other ps.list.items k j q ne

  -- what is so of the marks that it has seen
  pub seen_now : (P : List Mark → Type 0) → P (seen q) → P (marks_of qs k)
  seen_now P so = subst (λ (o : Option (Pass (Shard F D folder disk) Mark)). P (seen_of o)) (sym now_at) so

  seen_then : (P : List Mark → Type 0) → P (seen p) → P (marks_of ps k)
  seen_then P so = subst (λ (o : Option (Pass (Shard F D folder disk) Mark)). P (seen_of o)) (sym at) so

  later_at : IsPrefix (seen p) (seen q) → BeginsAt ps qs k
  later_at later = seen_then (λ ms. IsPrefix ms (marks_of qs k)) (seen_now (λ ms. IsPrefix (seen p) ms) later)

  pub turned_at : IsPrefix (seen p) (seen q) → loads q ≡ loads p → HaveTurned k ps qs
  turned_at later looked = record { later = later_at later; others = others_at; looked = ap (λ o. loads_of o) now_at ∙ looked ∙ sym (ap (λ o. loads_of o) at) }

  pub unadded_at : added q ≡ added p → added_at qs k ≡ added_at ps k
  unadded_at same = ap (λ o. added_of o) now_at ∙ same ∙ sym (ap (λ o. added_of o) at)

  pub look_at : (l : Look) → l.shard ≡ k → l.length ≡ length (seen q) → IsLook k (marks_of qs k) l
  look_at l shard size = record { shard = shard; length = seen_now (λ ms. l.length ≡ length ms) size }

  pub answered_at : (v : ServerOf) (n : Key) (s : Submission) (t : ℕ) (a : SubmitAnswer) → IsAnsweredBy p q v k n s t a → IsAnswered v k ps qs n s t a
  answered_at v n s t a by = record {
    gained = by.gained;
    added = ap (λ o. added_of o) now_at ∙ by.added ∙ sym (ap (λ o. added_of o + by.gained) at);
    grown = seen_then (λ ms. length ms + by.gained ≤ length (marks_of qs k)) (seen_now (λ ms. length (seen p) + by.gained ≤ length ms) by.grown);
    answer = seen_now (λ ms. IsAnswer v k ms n s t a by.gained) by.answer;
  }

  pub given_at : (d : Key) (m : Mark) (a : Given) → IsGivenIn p q d k m a → IsGivenBy d k ps qs m a
  given_at d m a by = record {
    gained = by.gained;
    added = ap (λ o. added_of o) now_at ∙ by.added ∙ sym (ap (λ o. added_of o + by.gained) at);
    grown = seen_then (λ ms. length ms + by.gained ≤ length (marks_of qs k)) (seen_now (λ ms. length (seen p) + by.gained ≤ length ms) by.grown);
    answer = seen_now (λ ms. IsGiven d k ms m a by.gained) by.answer;
  }

  pub own_after : (h : Hub F D folder disk) (c : TurnCell (Shard F D folder disk) Mark) → AreOfHub h ps → slice_get h.cells.list.items k ≡ Some c → IsOf c q → IsPrefix (seen p) (seen q) → AreOfHub h qs
  own_after h c own cell of later = (
    (
      ap length is ∙ length-set ps.list.items k q ∙ own.0.0,
      subst (λ (l : List (Pass (Shard F D folder disk) Mark)). ArePairs 16 h.cells.list.items l) (sym is)
          (each_set (λ j z. IsOfAt (slice_get h.cells.list.items j) z) 16 ps.list.items k q p at own.0.1 (subst (λ (o : Option (TurnCell (Shard F D folder disk) Mark)). IsOfAt o (Some q)) (sym cell) of)),
    ),
    founded_on h ps k qs own.1 (later_at later) others_at,
  )

-- what a shard that was lent gives is what the marks give that a pass has then seen
module _ {F D : Type 0} {folder : folder_of.Ghosts F D} {disk : disk_of.Ghosts D} (xs zs : List Mark) (v w : Shard F D folder disk) (d : Key) (k : ℕ) (own : is_founded d k xs ≡ true) (begins : IsPrefix xs (entries_of v)) (same : w ≡ v) where
  pub attached_moment : zs ≡ entries_of v → (r : Session × Message) (s : Session) (n : Key) (f : Option VersionAt) → r ≡ attached (copies_at w) s n f → r ≡ attached (shown_at d k zs) s n f
  attached_moment last r s n f so = shard_moment (λ d k ms. r ≡ attached (shown_at d k ms) s n f) xs zs v w d k own begins same last so

  pub frames_moment : zs ≡ entries_of v → (ts : List (List ℕ)) (s : Session) → ts ≡ frames_of (delivered (copies_at w) s) → ts ≡ frames_of (delivered (shown_at d k zs) s)
  frames_moment last ts s so = shard_moment (λ d k ms. ts ≡ frames_of (delivered (shown_at d k ms) s)) xs zs v w d k own begins same last so

  pub after_moment : zs ≡ entries_of v → (x s : Session) → x ≡ after_delivery (copies_at w) s → x ≡ after_delivery (shown_at d k zs) s
  after_moment last x s so = shard_moment (λ d k ms. x ≡ after_delivery (shown_at d k ms) s) xs zs v w d k own begins same last so

  pub told_moment : zs ≡ entries_of v → (x : Session) → delivered (copies_at w) x ≡ [] → delivered (shown_at d k zs) x ≡ []
  told_moment last x so = shard_moment (λ d k ms. delivered (shown_at d k ms) x ≡ []) xs zs v w d k own begins same last so

rest_small : (b : ℕ) → b % 16 < 16
rest_small b = omega arith

pub shard_small : (n : Key) → shard_of n < 16
shard_small n = rest_small (first_byte (zero_hash_of n))

pub stands_at : {A : Type 0} (xs : List A) (i k : ℕ) (x : A) → length xs ≡ 16 → i ≡ k → k < 16 → x ≡ get_or xs i x → slice_get xs k ≡ Some x
stands_at xs i k x size is l e = ap (slice_get xs) (sym is) ∙ at_there xs i x (omega (arith, size, is, l)) e

pub on_err : {A E P : Type 0} (o : Result A E) → P → OnErr o P
on_err (Ok a) p = tt
on_err (Err e) p = p

module _ {T : Type 0} where
  abbrev pub with_pass : Passes T Mark → ℕ → Pass T Mark → Passes T Mark
  with_pass ps i q = record { list = with_item ps.list i q }

  pub spent_exit : {A : Type 0} (qs : Passes T Mark) (k : ℕ) (q : Pass T Mark) (r : Result A HubFault) (e : HubFault) → slice_get qs.list.items k ≡ Some q → IsErrAnd r (λ y. y ≡ e) → IsFault q e → IfErr r (λ y. (s : NoTurn) → y ≡ Spent s → IsSpentAt qs k s)
  spent_exit qs k q (Ok a) e at is f = tt
  spent_exit qs k q (Err y) e at is f = spent_at qs k q y at (subst (IsFault q) (sym is) f)

module _ {F D : Type 0} {folder : folder_of.Ghosts F D} {disk : disk_of.Ghosts D} (h : Hub F D folder disk) (ps : Passes (Shard F D folder disk) Mark) (i k : ℕ) (c : TurnCell (Shard F D folder disk) Mark) (p : Pass (Shard F D folder disk) Mark) where
  pub record IsTurnAt : Type 0 where
    pub cell : slice_get h.cells.list.items k ≡ Some c
    pub at : slice_get ps.list.items k ≡ Some p
    pub own : IsOf c p
    pub founded : is_founded h.domain k (seen p) ≡ true
    pub is : (q : Pass (Shard F D folder disk) Mark) → set ps.list.items i q ≡ set ps.list.items k q

  pub turn_at : AreOfHub h ps → i ≡ k → k < 16 → c ≡ get_or h.cells.list.items i c → p ≡ get_or ps.list.items i p → IsTurnAt
  turn_at own is l ce pe =
      let cell = stands_at h.cells.list.items i k c h.cells.sixteen is l ce in
      let at = stands_at ps.list.items i k p own.0.0 is l pe in
      record {
        cell = cell;
        at = at;
        own = subst (λ (z : Option (TurnCell (Shard F D folder disk) Mark) × Option (Pass (Shard F D folder disk) Mark)). IsOfAt z.0 z.1) (λ j. (cell j, at j)) (own.0.1 k l);
        founded = founded_at h ps k p own.1 l at;
        is = λ q. ap (λ (z : ℕ). set ps.list.items z q) is;
      }

module _ {F D : Type 0} {folder : folder_of.Ghosts F D} {disk : disk_of.Ghosts D} (h : Hub F D folder disk) (ps : Passes (Shard F D folder disk) Mark) (all : AreFounded h ps) where
  pub founded_same : (qs : Passes (Shard F D folder disk) Mark) → ((k : ℕ) → k < 16 → marks_of qs k ≡ marks_of ps k) → AreFounded h qs
  founded_same qs same k l = subst (λ (ms : List Mark). is_founded h.domain k ms ≡ true) (sym (same k l)) (all k l)

  pub split_own : {E : Type 0} (r : Result (Passes (Shard F D folder disk) Mark) E) → IfOk r (AreOf h.cells) → IfOk r (λ qs. (k : ℕ) → k < 16 → marks_of qs k ≡ marks_of ps k) → IfOk r (AreOfHub h)
  split_own (Ok qs) own same = (own, founded_same qs same)
  split_own (Err e) own same = tt
