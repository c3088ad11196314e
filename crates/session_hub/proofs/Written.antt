-- Texts that are kept, while more deltas come.
--     written_at         a text at a place is that of its update
--     none_written       no text is
--     written_more       so they are with one text more
--     placed_text, update_there     a text that is that of a place is that of the delta there, and the other way round
--     Grow f g           to the deltas of each name more may have come
--     written_grown      the texts are those of their places still
--     written_later, written_queued, written_given      so they are after a submission to a hosted wavelet, and to a copy, and after a copy was given
--                                                       something
--     placed_in          deltas that stand at their places in the copies stand there
--     each_ok            what was made over any deltas was made over these
use Rattle.std.proofs.Common.{◌≡◌, ◌≢◌, ℕ, zero, suc, Bool, true, false, List, [], ◌∷◌, ◌++◌, drop, slice_get, cond, ◌||◌, Option, None, Some, option_map, unwrap_or, Result, Ok, Err, IfOk, refl, sym, ap, subst, ◌∙◌, append-nil, true≢false}
use Rattle.std.proofs.lemmas.List.{map-append}
use Rattle.std.proofs.lemmas.Option.{slice_get-map}
use Rattle.std.proofs.lemmas.List.Elements.{All-weaker}
use Rattle.std.specs.Cmp.Lexicographic.{bytes_decides}
use Rattle.std.specs.List.{All}
use Rattle.std.specs.FinMap.{get, insert}
use Rattle.doc_items.specs.Maps.{Key, same_text}
use Rattle.doc_items.proofs.Maps.{tie, tied}
use Rattle.wavelet_op.specs.Deltas.{DeltaOf}
use Rattle.wavelet_op.specs.declared.delta.Submission.{Submission}
use Rattle.delta_history.specs.Copying.{AreAscending}
use Rattle.delta_history.specs.Histories.{HistoryOf}
use Rattle.delta_history.specs.Legal.{has_id}
use Rattle.message_json.specs.declared.message.Message.TheVariants as message
use Rattle.session_core.specs.Access.{Shown}
use Rattle.session_core.specs.News.{deltas_of, IsPlaced}
use Rattle.session_core.specs.declared.news.News.{News}
use Rattle.session_core.specs.declared.news.News.TheVariants.{Update, Message}
use Rattle.session_core.specs.declared.news.News.TheVariants.{Applied as NewsApplied}
use Rattle.wavelet_shelf.specs.Hosting.{Hosted, names_of, deltas_in, copy_of, IsCopyOf, with_added, judged_in, after_submission}
use Rattle.wavelet_shelf.proofs.Growing.{grows_alone}
use Rattle.wavelet_shelf.proofs.Names.{own}
use Rattle.hosted_copies.specs.Domains.{is_hosted_by, hosted_by}
use Rattle.hosted_copies.specs.Shown.{IsSameShown}
use Rattle.hosted_copies.proofs.Hosts.{hosted_ascend, own_added}
use Rattle.peer_turns.specs.declared.absorbed.Absorbed.{Absorbed}
use Rattle.peer_turns.specs.declared.absorbed.Absorbed.TheVariants.{Old, Gap, Diverged, NotLegal, Took}
use Rattle.follower_rules.specs.Replicas.{ReplicaOf, is_waiting, queue}
use Rattle.replica_store.specs.Worlds.{WorldOf, empty_world, Worlds, world_at, world_queued, with_queued, world_taken, taken_by, answer_at, world_settled, settled_if, waits_at, dropped, dropped_if, has_more}
use Rattle.replica_store.proofs.Stored.{get_put}
use Rattle.shard_copies.specs.Shown.{deltas_among, copy_among, shown_among}
use Rattle.shard_marks.specs.declared.mark.Mark.{Mark}
use Rattle.shard_marks.specs.declared.mark.Mark.TheVariants.{Began, Applied, Fault, Queued, Answered, Dropped}
use Rattle.shard_marks.specs.Frames.{frame_of}
use Rattle.shard_marks.specs.Givings.{after_given}
use Rattle.shard_marks.proofs.Copying.{IsGift}
use Rattle.session_hub.specs.Texts.{update_in, AreWritten, IsPlacedIn}
use Rattle.session_hub.specs.declared.texts.Text.{Text}

same_some : {A : Type 0} {x y : A} → Some x ≡ Some y → x ≡ y
same_some e = cc

written_there : (f : Key → List DeltaOf) (ws : List Text) (i : ℕ) (w : Text) → AreWritten f ws → slice_get ws i ≡ Some w → update_in f w.name w.place ≡ Some w.bytes.items
written_there f ws i w all at =
    let left = slice_get-map (λ (t : Text). update_in f t.name t.place) ws i ∙ ap (option_map (λ (t : Text). update_in f t.name t.place)) at in
    let right = slice_get-map (λ (t : Text). Some t.bytes.items) ws i ∙ ap (option_map (λ (t : Text). Some t.bytes.items)) at in
    same_some (sym left ∙ ap (λ l. slice_get l i) all ∙ right)

pub written_at : (f : Key → List DeltaOf) (ws : List Text) (i : ℕ) (w : Text) (n : Key) (p : ℕ) → AreWritten f ws → slice_get ws i ≡ Some w → w.name ≡ n → w.place ≡ p → update_in f n p ≡ Some w.bytes.items
written_at f ws i w n p all at name place = subst (λ (z : Key × ℕ). update_in f z.0 z.1 ≡ Some w.bytes.items) (λ j. (name j, place j)) (written_there f ws i w all at)

pub none_written : (f : Key → List DeltaOf) (ws : List Text) → ws ≡ [] → AreWritten f ws
none_written f ws e = subst (AreWritten f) (sym e) refl

one_more : (f : Key → List DeltaOf) (ws : List Text) (w : Text) → AreWritten f ws → update_in f w.name w.place ≡ Some w.bytes.items → AreWritten f (ws ++ w ∷ [])
one_more f ws w all one =
    map-append (λ (t : Text). update_in f t.name t.place) ws (w ∷ [])
    ∙ (λ i. all i ++ one i ∷ [])
    ∙ sym (map-append (λ (t : Text). Some t.bytes.items) ws (w ∷ []))

pub written_more : (f : Key → List DeltaOf) (ws vs : List Text) (w : Text) (n : Key) (p : ℕ) (v : List ℕ) → AreWritten f ws → vs ≡ ws ++ w ∷ [] → update_in f n p ≡ Some v → w.name ≡ n → w.place ≡ p → w.bytes.items ≡ v → AreWritten f vs
written_more f ws vs w n p v all is one name place bytes =
    let here : update_in f w.name w.place ≡ Some w.bytes.items = (λ j. update_in f (name j) (place j)) ∙ one ∙ ap Some (sym bytes) in
    subst (AreWritten f) (sym is) (one_more f ws w all here)

pub placed_text : (f : Key → List DeltaOf) (n : Key) (p : ℕ) (d : DeltaOf) (v : List ℕ) → update_in f n p ≡ Some v → slice_get (f n) p ≡ Some d → v ≡ frame_of (message.Update n d)
placed_text f n p d v text at = same_some (sym text ∙ ap (option_map (λ x. frame_of (message.Update n x))) at)

pub update_there : (f : Key → List DeltaOf) (n : Key) (p : ℕ) (d : DeltaOf) (v : List ℕ) → slice_get (f n) p ≡ Some d → v ≡ frame_of (message.Update n d) → update_in f n p ≡ Some v
update_there f n p d v at is = ap (option_map (λ x. frame_of (message.Update n x))) at ∙ ap Some (sym is)

-- ---- deltas that more come to

front_stays : {A B : Type 0} (g : A → B) (xs ys : List A) (i : ℕ) (v : B) → option_map g (slice_get xs i) ≡ Some v → option_map g (slice_get (xs ++ ys) i) ≡ Some v
front_stays g [] ys i v e = absurd cc
front_stays g (x ∷ xs) ys zero v e = e
front_stays g (x ∷ xs) ys (suc i) v e = front_stays g xs ys i v e

abbrev pub Grow : (Key → List DeltaOf) → (Key → List DeltaOf) → Type 0
Grow f g = (n : Key) → (more : List DeltaOf) × (g n ≡ f n ++ more)

pub written_grown : (f g : Key → List DeltaOf) → Grow f g → (ws : List Text) → AreWritten f ws → AreWritten g ws
written_grown f g grow [] all = refl
written_grown f g grow (w ∷ ws) all =
    let here : update_in f w.name w.place ≡ Some w.bytes.items = same_some (ap (λ l. slice_get l 0) all) in
    let more = grow w.name in
    let text : DeltaOf → List ℕ = λ x. frame_of (message.Update w.name x) in
    let one : update_in g w.name w.place ≡ Some w.bytes.items = ap (λ l. option_map text (slice_get l w.place)) more.1 ∙ front_stays text (f w.name) more.0 w.place w.bytes.items here in
    let rest = written_grown f g grow ws (ap (drop 1) all) in
    λ i. one i ∷ rest i

-- after a submission to a hosted wavelet
module _ (d : Key) (hs gs : List Hosted) (cs : Worlds) (n : Key) (s : Submission) (t : ℕ) (ascend : AreAscending (names_of hs)) (hosted : is_hosted_by d n ≡ true) (after : gs ≡ after_submission hs n s t) where
  abbrev before : Key → List DeltaOf
  before = deltas_among d (hosted_by d hs) cs

  abbrev later : Key → List DeltaOf
  later = deltas_among d (hosted_by d gs) cs

  hosted_grow : (o : Option DeltaOf) → hosted_by d gs ≡ with_added (hosted_by d hs) n o → (m : Key) → (more : List DeltaOf) × (deltas_in (hosted_by d gs) m ≡ deltas_in (hosted_by d hs) m ++ more)
  hosted_grow None is m = ([], ap (λ l. deltas_in l m) is ∙ sym (append-nil (deltas_in (hosted_by d hs) m)))
  hosted_grow (Some x) is m = go (same_text m n) refl
    where
      go : (b : Bool) → same_text m n ≡ b → (more : List DeltaOf) × (deltas_in (hosted_by d gs) m ≡ deltas_in (hosted_by d hs) m ++ more)
      go true e =
          let same : m ≡ n = (bytes_decides m n).0 e in
          (x ∷ [], ap (λ l. deltas_in l m) is ∙ ap (deltas_in (with_added (hosted_by d hs) n (Some x))) same ∙ grows_alone.there (hosted_by d hs) n x (hosted_ascend d hs ascend) ∙ ap (λ k. deltas_in (hosted_by d hs) k ++ x ∷ []) (sym same))
      go false e =
          let other : m ≢ n = λ same. true≢false (sym (subst (λ k. same_text m k ≡ true) same (own m)) ∙ e) in
          ([], ap (λ l. deltas_in l m) is ∙ grows_alone.others (hosted_by d hs) n x m other ∙ sym (append-nil (deltas_in (hosted_by d hs) m)))

  submitted_grow : Grow before later
  submitted_grow m = go (is_hosted_by d m)
    where
      o : Option DeltaOf
      o = (judged_in hs n s t).1

      is : hosted_by d gs ≡ with_added (hosted_by d hs) n o
      is = ap (hosted_by d) after ∙ own_added d hs n o ascend hosted

      go : (b : Bool) → (more : List DeltaOf) × (cond b (deltas_in (hosted_by d gs) m) (world_at cs m).replica.deltas ≡ cond b (deltas_in (hosted_by d hs) m) (world_at cs m).replica.deltas ++ more)
      go true = hosted_grow o is m
      go false = ([], sym (append-nil (world_at cs m).replica.deltas))

  pub written_later : (ws : List Text) → AreWritten before ws → AreWritten later ws
  written_later ws all = written_grown before later submitted_grow ws all

-- after a submission to a copy, and after it was given something
module _ (d : Key) (hs : List Hosted) (cs : Worlds) where
  abbrev given_deltas : Worlds → Key → List DeltaOf
  given_deltas ws n = (world_at ws n).replica.deltas

  put_grow : (x : Key) (w : WorldOf) → (more : List DeltaOf) × (w.replica.deltas ≡ given_deltas cs x ++ more) → Grow (given_deltas cs) (given_deltas (insert cs x w))
  put_grow x w grown n = go (tie n x) refl
    where
      at : world_at (insert cs x w) n ≡ unwrap_or (cond (tie n x) (Some w) (get cs n)) empty_world
      at = ap (λ o. unwrap_or o empty_world) (get_put cs x w n)

      go : (b : Bool) → tie n x ≡ b → (more : List DeltaOf) × (given_deltas (insert cs x w) n ≡ given_deltas cs n ++ more)
      go true e = (grown.0, ap (λ (v : WorldOf). v.replica.deltas) (at ∙ ap (λ b. unwrap_or (cond b (Some w) (get cs n)) empty_world) e) ∙ grown.1 ∙ ap (λ k. given_deltas cs k ++ grown.0) (sym (tied n x e)))
      go false e = ([], ap (λ (v : WorldOf). v.replica.deltas) (at ∙ ap (λ b. unwrap_or (cond b (Some w) (get cs n)) empty_world) e) ∙ sym (append-nil (given_deltas cs n)))

  stay : (n : Key) → (more : List DeltaOf) × (given_deltas cs n ≡ given_deltas cs n ++ more)
  stay n = ([], sym (append-nil (given_deltas cs n)))

  gift_grow : (m : Mark) → IsGift m → Grow (given_deltas cs) (given_deltas (after_given cs m))
  gift_grow (Began e j) g = absurd g
  gift_grow (Applied n x) g = go (answer_at cs n x)
    where
      go : (a : Absorbed) → Grow (given_deltas cs) (given_deltas (taken_by cs n x a))
      go Old = stay
      go Gap = stay
      go (Diverged mine theirs) = stay
      go NotLegal = stay
      go Took = put_grow n (world_taken (world_at cs n) x) (x ∷ [], refl)
  gift_grow (Fault n i) g = absurd g
  gift_grow (Queued n s) g = absurd g
  gift_grow (Answered n i v) g = go (waits_at cs n i)
    where
      go : (b : Bool) → Grow (given_deltas cs) (given_deltas (settled_if cs n i v b))
      go true = put_grow n (world_settled (world_at cs n) i v) (stay n)
      go false = stay
  gift_grow (Dropped n) g = go (has_more cs n)
    where
      go : (b : Bool) → Grow (given_deltas cs) (given_deltas (dropped_if cs n b))
      go true = put_grow n (dropped (world_at cs n)) (stay n)
      go false = stay

  -- deltas that grew in the world
  grown_given : (ds : Worlds) → Grow (given_deltas cs) (given_deltas ds) → (ws : List Text) → AreWritten (deltas_among d hs cs) ws → AreWritten (deltas_among d hs ds) ws
  grown_given ds given ws all = written_grown (deltas_among d hs cs) (deltas_among d hs ds) (λ n. go n (is_hosted_by d n)) ws all
    where
      go : (n : Key) (b : Bool) → (more : List DeltaOf) × (cond b (deltas_in hs n) (given_deltas ds n) ≡ cond b (deltas_in hs n) (given_deltas cs n) ++ more)
      go n true = ([], sym (append-nil (deltas_in hs n)))
      go n false = given n

  queue_deltas : (r : ReplicaOf) (s : Submission) → (queue r s).deltas ≡ r.deltas
  queue_deltas r s = go (has_id s.id r.deltas || is_waiting s.id r.waiting)
    where
      go : (b : Bool) → (cond b r (record { deltas = r.deltas; waiting = r.waiting ++ s ∷ []; dropped = r.dropped })).deltas ≡ r.deltas
      go true = refl
      go false = refl

  pub written_queued : (n : Key) (s : Submission) (ds : Worlds) → ds ≡ with_queued cs n s → (ws : List Text) → AreWritten (deltas_among d hs cs) ws → AreWritten (deltas_among d hs ds) ws
  written_queued n s ds after = grown_given ds (λ m. let h = grow m in (h.0, ap (λ c. given_deltas c m) after ∙ h.1))
    where
      grow : Grow (given_deltas cs) (given_deltas (with_queued cs n s))
      grow = put_grow n (world_queued (world_at cs n) s) ([], queue_deltas (world_at cs n).replica s ∙ sym (append-nil (given_deltas cs n)))

  pub written_given : (m : Mark) → IsGift m → (ds : Worlds) → ds ≡ after_given cs m → (ws : List Text) → AreWritten (deltas_among d hs cs) ws → AreWritten (deltas_among d hs ds) ws
  written_given m g ds after = grown_given ds (λ n. let h = gift_grow m g n in (h.0, ap (λ c. given_deltas c n) after ∙ h.1))

-- ---- what sessions are sent

copied_deltas : (n : Key) (ds : List DeltaOf) → deltas_of (copy_of n ds) ≡ ds
copied_deltas n [] = refl
copied_deltas n (d ∷ ds) = refl

same_deltas : (o p : Option HistoryOf) → IsCopyOf o p → deltas_of o ≡ deltas_of p
same_deltas None None e = refl
same_deltas None (Some h) e = absurd e
same_deltas (Some g) None e = absurd e
same_deltas (Some g) (Some h) e = e.1

module _ (c : Shown) (d : Key) (hs : List Hosted) (cs : Worlds) (same : IsSameShown c (shown_among d hs cs)) where
  deltas_there : (n : Key) → deltas_of (c.copy n) ≡ deltas_among d hs cs n
  deltas_there n = same_deltas (c.copy n) (copy_among d hs cs n) (same.copy n) ∙ copied_deltas n (deltas_among d hs cs n)

  placed_one : (x : News) → IsPlaced c x → IsPlacedIn (deltas_among d hs cs) x
  placed_one (Update name place delta) at = ap (λ l. slice_get l place) (sym (deltas_there name.now)) ∙ at
  placed_one (NewsApplied name place delta) at = ap (λ l. slice_get l place) (sym (deltas_there name.now)) ∙ at
  placed_one (Message m) at = tt

  pub placed_in : (xs : List News) → All (IsPlaced c) xs → All (IsPlacedIn (deltas_among d hs cs)) xs
  placed_in xs all = All-weaker (IsPlaced c) (IsPlacedIn (deltas_among d hs cs)) placed_one xs all

-- what was made over any deltas was made over these
pub each_ok : {A E : Type 0} (P : A → (Key → List DeltaOf) → Type 0) (R S : (Key → List DeltaOf) → Type 0) (r : Result A E) → IfOk r (λ v. (f : Key → List DeltaOf) → R f → S f → P v f) → (f : Key → List DeltaOf) → R f → S f → IfOk r (λ v. P v f)
each_ok P R S (Ok v) all f a b = all f a b
each_ok P R S (Err e) all f a b = tt
