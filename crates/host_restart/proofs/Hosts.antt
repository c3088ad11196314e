-- A container and the world's host.
--     begun, started  a new container
--     taken           after a submission
--     images_are      what a crash leaves while it is taken
--     loaded          a container that was loaded of an image
use Rattle.std.proofs.Common.{◌≡◌, ℕ, inl, false, List, [], ◌∷◌, ◌++◌, Option, Some, None, Result, Ok, Err, OnOk, OnErr, IfOk, IfSome, MatchResult, refl, sym, ap, subst, ◌∙◌, append-nil}
use Rattle.doc_items.specs.Maps.{Key}
use Rattle.doc_op.proofs.Applying.{no_value, same_Some}
use Rattle.wavelet_op.specs.Deltas.{DeltaOf}
use Rattle.wavelet_op.specs.declared.delta.Submission.{Submission}
use Rattle.delta_history.specs.Histories.{IsSameHistory}
use Rattle.delta_history.specs.Verdicts.{judge}
use Rattle.disk_model.specs.Disk.{LeavesOnly}
use Rattle.disk_model.specs.declared.disk.Disk.{Ghosts}
use Rattle.delta_journal.specs.Journal.{on_disk, left_over, needs_repair}
use Rattle.delta_journal.specs.declared.journal.Journal.{Journal}
use Rattle.wavelet_container.specs.Containers.{history_of, journal_of, OfBoth, Moments, IsHeld}
use Rattle.wavelet_container.specs.Decisions.{judged}
use Rattle.wavelet_container.specs.Stores.{IsGrownBy, IsStored, StandsForOneMore, MayFollow, IsLeftOver}
use Rattle.wavelet_container.specs.declared.container.Container.{Container}
use Rattle.wavelet_container.proofs.Journals.{sure_none}
use Rattle.wave_world.specs.Worlds.{Mem, World, Event, world_of}
use Rattle.wave_world.proofs.Restarts.{accepted_is_one_event}
use Rattle.wave_world.proofs.Versions.{world_converges}
use Rattle.host_restart.specs.Restarts.{AreLeft, IsReached, IsOnce, IsHostOf, IsHostAfter, AreImages}
use Rattle.host_restart.proofs.Restarts.{left_is_accepted}

module _ {K : Type 0} {disk : Ghosts K} where
  -- ---- a journal of which no repair is pending

  sure_held : (c : Container K disk) (j : Journal K disk) → journal_of c ≡ Some j → IsHeld c → IfSome (journal_of c) (λ x. needs_repair x ≡ false) → IsStored (history_of c) j × (left_over j ≡ [])
  sure_held c j e held whole =
      let same : held.0 ≡ j = same_Some (sym held.1 ∙ e) in
      let sure : needs_repair j ≡ false = subst (λ (o : Option (Journal K disk)). IfSome o (λ x. needs_repair x ≡ false)) e whole in
      (subst (IsStored (history_of c)) same held.2, sure_none j sure)

  pub begun : (name : Key) (c : Container K disk) → (history_of c).name ≡ name → (history_of c).deltas ≡ [] → IsHeld c → IfSome (journal_of c) (λ x. needs_repair x ≡ false) → IsHostOf name [] c
  begun name c named empty held whole = record { named = named; host = empty; held = λ j e. (let s = sure_held c j e held whole in (s.0, inl s.1)) }

  pub started : {E : Type 0} (r : Result (Container K disk) E) (T : Type 0) (name : Key) → IfOk r (λ c. (history_of c).name ≡ name) → IfOk r (λ c. (history_of c).deltas ≡ []) → IfOk r (λ c. T → IsHeld c)
      → IfOk r (λ c. IfSome (journal_of c) (λ j. needs_repair j ≡ false)) → IfOk r (λ c. T → IsHostOf name [] c)
  started (Ok c) T name named empty held whole = λ told. begun name c named empty (held told) whole
  started (Err e) T name named empty held whole = tt

  -- ---- a submission

  module _ (name : Key) (events : List Event) (s : Submission) (t : ℕ) (old new : Container K disk) where
    abbrev pub w : World
    w = world_of name events

    verdict_is : IsHostOf name events old → judged (history_of old) s t ≡ judge name w.host s t
    verdict_is is = λ i. judge (is.named i) (is.host i) s t

    kept_left : (o n : Option (Journal K disk)) → Mem s w.submissions → ((i : Journal K disk) → o ≡ Some i → IsStored (history_of old) i × AreLeft name w (left_over i)) → OfBoth o n (λ i j. IsStored (history_of old) i → IsStored (history_of new) j)
        → OfBoth o n (λ i j. IsLeftOver (left_over i) (judge name w.host s t).1 (left_over j)) → (j : Journal K disk) → n ≡ Some j → IsStored (history_of new) j × AreLeft name w (left_over j)
    kept_left None None m f a b j e = no_value e
    kept_left None (Some x) m f a b j e = absurd a
    kept_left (Some i) None m f a b j e = no_value e
    kept_left (Some i) (Some x) m f a b j e =
        let p = f i refl in
        subst (λ z. IsStored (history_of new) z × AreLeft name w (left_over z)) (same_Some e) (a p.0, left_is_accepted name w (left_over i) (left_over x) s t p.1 m b)

    sure_left : (more : List Event) (o n : Option (Journal K disk)) → ((i : Journal K disk) → o ≡ Some i → IsStored (history_of old) i × AreLeft name w (left_over i)) → OfBoth o n (λ i j. IsStored (history_of old) i → IsStored (history_of new) j)
        → OfBoth o n (λ i j. needs_repair j ≡ false) → (j : Journal K disk) → n ≡ Some j → IsStored (history_of new) j × AreLeft name (world_of name more) (left_over j)
    sure_left more None None f a b j e = no_value e
    sure_left more None (Some x) f a b j e = absurd a
    sure_left more (Some i) None f a b j e = no_value e
    sure_left more (Some i) (Some x) f a b j e = subst (λ z. IsStored (history_of new) z × AreLeft name (world_of name more) (left_over z)) (same_Some e) (a (f i refl).0, inl (sure_none x b))

    here : IsHostOf name events new → IsHostAfter name events new
    here is = record { more = []; is = subst (λ es. IsHostOf name es new) (sym (append-nil events)) is; converged = world_converges name (events ++ []) }

    refused : IsHostOf name events old → Mem s w.submissions → IsSameHistory (history_of old) (history_of new) → OfBoth (journal_of old) (journal_of new) (λ i j. IsStored (history_of old) i → IsStored (history_of new) j)
        → OfBoth (journal_of old) (journal_of new) (λ i j. IsLeftOver (left_over i) (judged (history_of old) s t).1 (left_over j)) → IsHostAfter name events new
    refused is m same stored left = here (record {
      named = same.name ∙ is.named;
      host = same.deltas ∙ is.host;
      held = kept_left (journal_of old) (journal_of new) m is.held stored (subst (λ v. OfBoth (journal_of old) (journal_of new) (λ i j. IsLeftOver (left_over i) v.1 (left_over j))) (verdict_is is) left);
    })

    answered : IsHostOf name events old → Mem s w.submissions → (a : Option DeltaOf) → (judge name w.host s t).1 ≡ a → IsGrownBy (history_of old) a (history_of new) → OfBoth (journal_of old) (journal_of new) (λ i j. IsStored (history_of old) i → IsStored (history_of new) j)
        → OfBoth (journal_of old) (journal_of new) (λ i j. needs_repair j ≡ false) → IsHostAfter name events new
    answered is m None e same stored done = here (record { named = same.name ∙ is.named; host = same.deltas ∙ is.host; held = sure_left events (journal_of old) (journal_of new) is.held stored done })
    answered is m (Some d) e grown stored done =
        let one = accepted_is_one_event name events s t (judge name w.host s t).0 d m (λ i. ((judge name w.host s t).0, e i)) in
        record {
          more = one.event ∷ [];
          is = record {
            named = grown.name ∙ is.named;
            host = grown.deltas ∙ ap (λ ds. ds ++ d ∷ []) is.host ∙ sym one.host;
            held = sure_left (events ++ one.event ∷ []) (journal_of old) (journal_of new) is.held stored done;
          };
          converged = one.converged;
        }

    pub taken : {A E : Type 0} (r : Result A E) → IsHostOf name events old → Mem s w.submissions → OnOk r (IsGrownBy (history_of old) (judged (history_of old) s t).1 (history_of new)) → OnErr r (IsSameHistory (history_of old) (history_of new))
        → OfBoth (journal_of old) (journal_of new) (λ i j. IsStored (history_of old) i → IsStored (history_of new) j) → OnOk r (OfBoth (journal_of old) (journal_of new) (λ i j. needs_repair j ≡ false))
        → OfBoth (journal_of old) (journal_of new) (λ i j. IsLeftOver (left_over i) (judged (history_of old) s t).1 (left_over j)) → IsHostAfter name events new
    taken (Ok v) is m grown same stored done left = answered is m (judge name w.host s t).1 refl (subst (λ v. IsGrownBy (history_of old) v.1 (history_of new)) (verdict_is is) grown) stored done
    taken (Err e) is m grown same stored done left = refused is m same stored left

    images_at : (o n : Option (Journal K disk)) → IsHostOf name events old → ((i : Journal K disk) → o ≡ Some i → IsStored (history_of old) i × AreLeft name w (left_over i)) → OfBoth o n (λ i j. IsStored (history_of old) i → Moments (history_of old) s t i j) → OfBoth o n (AreImages name w s t)
    images_at None None is f a = tt
    images_at None (Some x) is f a = a
    images_at (Some i) None is f a = a
    images_at (Some i) (Some x) is f a =
        subst (λ P. LeavesOnly (on_disk i) (on_disk x) P) (λ k. StandsForOneMore (is.named k) (is.host k) (MayFollow (left_over i) (judge (is.named k) (is.host k) s t).1)) (a (f i refl).0)

    pub images_are : IsHostOf name events old → OfBoth (journal_of old) (journal_of new) (λ i j. IsStored (history_of old) i → Moments (history_of old) s t i j) → OfBoth (journal_of old) (journal_of new) (AreImages name w s t)
    images_are is moments = images_at (journal_of old) (journal_of new) is is.held moments

  -- ---- what was loaded

  pub loaded : {E : Type 0} (r : Result (Container K disk) E) (Q : E → Type 0) (name : Key) (events : List Event) (ds : List DeltaOf) → IsReached name events ds → IsOnce name (world_of name events) ds
      → IfOk r (λ c. (history_of c).name ≡ name) → IfOk r IsHeld → IfOk r (λ c. IfSome (journal_of c) (λ j. needs_repair j ≡ false)) → MatchResult r (λ c. (history_of c).deltas ≡ ds) Q
      → MatchResult r (λ c. IsHostAfter name events c × IsOnce name (world_of name events) (history_of c).deltas) Q
  loaded (Ok c) Q name events ds reached once named held whole same = (
    record {
      more = reached.more;
      is = record { named = named; host = same ∙ sym reached.host; held = λ j e. (let s = sure_held c j e held whole in (s.0, inl s.1)) };
      converged = reached.converged;
    },
    subst (IsOnce name (world_of name events)) (sym same) once,
  )
  loaded (Err e) Q name events ds reached once named held whole q = q
