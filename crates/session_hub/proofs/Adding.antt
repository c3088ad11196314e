-- The marks by which a history grows.
--     grown_at        the delta of a submission stands where the history ended before; where none was accepted, nothing stands there
--     grown_marks     a mark for it
--     last_marks      a mark of one record more
--     gift_marks      a mark of what a copy was given
--     queued_where    a copy to which a submission of an id was made that it doesn't keep
use Rattle.std.proofs.Common.{◌≡◌, ℕ, Bool, List, [], ◌∷◌, ◌++◌, length, map, slice_get, Option, Some, None, ap, ◌∙◌, arith}
use Rattle.std.proofs.lemmas.List.{map-append}
use Rattle.std.proofs.lemmas.Option.{slice_get_past}
use Rattle.doc_items.specs.Maps.{Key}
use Rattle.wavelet_op.specs.Deltas.{DeltaOf}
use Rattle.wavelet_op.specs.declared.delta.Submission.{Submission}
use Rattle.delta_history.specs.Copying.{AreAscending}
use Rattle.replica_store.specs.Worlds.{Worlds, kept_at, with_queued, queued_if, queue_in}
use Rattle.turn_cells.proofs.Places.{get_last}
use Rattle.wavelet_shelf.specs.Hosting.{Hosted, names_of, deltas_in, with_added, judged_in, after_submission}
use Rattle.wavelet_shelf.proofs.Growing.{grows_alone}
use Rattle.shard_marks.specs.declared.mark.Mark.{Mark}
use Rattle.shard_marks.specs.Givings.{marks_if}
use Rattle.shard_marks.specs.Marks.{founded}
use Rattle.shard_marks.proofs.Replaying.{noted}
use Rattle.session_hub.specs.declared.record.Record.{Record}
use Rattle.session_hub.specs.Records.{mark_of, marks_in}

pub grown_at : (hs gs : List Hosted) (n : Key) (s : Submission) (t : ℕ) → AreAscending (names_of hs) → gs ≡ after_submission hs n s t → slice_get (deltas_in gs n) (length (deltas_in hs n)) ≡ (judged_in hs n s t).1
grown_at hs gs n s t ascend after = ap (λ l. slice_get (deltas_in l n) (length (deltas_in hs n))) after ∙ go (judged_in hs n s t).1
  where
    go : (o : Option DeltaOf) → slice_get (deltas_in (with_added hs n o) n) (length (deltas_in hs n)) ≡ o
    go None = slice_get_past (deltas_in hs n) (length (deltas_in hs n)) (omega arith)
    go (Some d) = ap (λ ds. slice_get ds (length (deltas_in hs n))) (grows_alone.there hs n d ascend) ∙ get_last (deltas_in hs n) d

module _ (d : Key) (k : ℕ) (rs os : List Record) where
  pub grown_marks : (n : Key) (o p : Option DeltaOf) → o ≡ p → map mark_of os ≡ map mark_of rs ++ noted n o → marks_in d k os ≡ marks_in d k rs ++ noted n p
  grown_marks n o p same e = ap (founded d k) (e ∙ ap (λ q. map mark_of rs ++ noted n q) same)

  pub last_marks : (m : Mark) (r : Record) → mark_of r ≡ m → os ≡ rs ++ r ∷ [] → marks_in d k os ≡ marks_in d k rs ++ m ∷ []
  last_marks m r same e = ap (founded d k) (ap (map mark_of) e ∙ map-append mark_of rs (r ∷ []) ∙ ap (λ m. map mark_of rs ++ m ∷ []) same)

  pub gift_marks : (b : Bool) (m : Mark) (r : Record) → mark_of r ≡ m → map mark_of os ≡ map mark_of rs ++ marks_if b (mark_of r) → marks_in d k os ≡ marks_in d k rs ++ marks_if b m
  gift_marks b m r same e = ap (founded d k) (e ∙ ap (λ z. map mark_of rs ++ marks_if b z) same)

-- the copies after an equal submission of an id that isn't kept
pub queued_where : (cs gs : Worlds) (n : Key) (s x : Submission) → kept_at cs n s.id ≡ None → x ≡ s → gs ≡ queue_in cs n x → gs ≡ with_queued cs n s
queued_where cs gs n s x unkept same after = after ∙ ap (queue_in cs n) same ∙ ap (queued_if cs n s) unkept
