-- What sessions see of copies that are kept is what they see of them as they are in the world.
--     same_copy, same_drop, same_outcome     of one name that another domain hosts
--     same_kept                              of all
--     lent_there                             a hosted name has a history there
use Rattle.std.proofs.Common.{◌≡◌, Bool, true, false, cond, List, [], ◌∷◌, Option, None, Some, IsSome, IfSome, option_and_then, refl, sym, ap, subst, ◌∙◌, true≢false}
use Rattle.std.specs.Option.{option_map_or}
use Rattle.std.specs.FinMap.{get}
use Rattle.doc_items.specs.Maps.{Key}
use Rattle.wave_base.specs.Versions.{IdOf}
use Rattle.wavelet_op.specs.declared.verdict.Verdict.{Verdict}
use Rattle.wavelet_op.specs.Deltas.{DeltaOf}
use Rattle.delta_history.specs.Histories.{HistoryOf}
use Rattle.delta_history.specs.Points.{start}
use Rattle.delta_history.specs.Verdicts.{kept}
use Rattle.disk_model.specs.declared.disk.Disk as disk_of
use Rattle.wave_outside.specs.declared.folder.Folder as folder_of
use Rattle.wavelet_shelf.specs.Hosting.{deltas_in, copy_of, IsCopyOf}
use Rattle.wavelet_shelf.specs.Shelves.{hosted_of, copies_of, shown_of, shown_copy}
use Rattle.wavelet_shelf.specs.declared.shelf.Shelf.{Shelf}
use Rattle.hosted_copies.specs.Domains.{is_hosted_by, hosted_by, copy_by, outcome_by, shown_by}
use Rattle.hosted_copies.specs.Shown.{shown_in, outcome_in, IsSameShown}
use Rattle.replica_store.specs.Copies.{CopyOf}
use Rattle.replica_store.specs.Settling.{outcome, outcome_kept as known}
use Rattle.replica_store.specs.Worlds.{WorldOf, Copies, AreNamed, worlds_of, world_at, outcome_at}
use Rattle.replica_store.proofs.Stored.{named_get, world_there, world_none}
use Rattle.shard_copies.specs.Kept.{copy_kept, drop_kept, outcome_kept, shown_kept}
use Rattle.shard_copies.specs.Shown.{shown_among}

alike : (h : HistoryOf) (n : Key) (ds : List DeltaOf) → h.name ≡ n → h.deltas ≡ ds → IsCopyOf (shown_of h ds) (copy_of n ds)
alike h n [] named e = tt
alike h n (d ∷ ds) named e = (named, e)

abbrev seen_copy : CopyOf → Option HistoryOf
seen_copy c = shown_copy c.history

module _ (m : Copies) (named : AreNamed m) (n : Key) where
  abbrev world : WorldOf
  world = world_at (worlds_of m) n

  abbrev known_by : IdOf → WorldOf → Option Verdict
  known_by i w = known i w.noted (kept i (start n) w.replica.deltas)

  pub same_copy : IsCopyOf (copy_kept m n) (copy_of n world.replica.deltas)
  same_copy = go (get m n) refl
    where
      go : (o : Option CopyOf) → get m n ≡ o → IsCopyOf (copy_kept m n) (copy_of n world.replica.deltas)
      go None e = subst (λ o. IsCopyOf (option_and_then seen_copy o) (copy_of n world.replica.deltas)) (sym e) (subst (λ (w : WorldOf). IsCopyOf None (copy_of n w.replica.deltas)) (sym (world_none m n e)) tt)
      go (Some c) e =
          subst (λ o. IsCopyOf (option_and_then seen_copy o) (copy_of n world.replica.deltas)) (sym e)
          (subst (λ (w : WorldOf). IsCopyOf (seen_copy c) (copy_of n w.replica.deltas)) (sym (world_there m n c e)) (alike c.history n c.history.deltas (named_get m n c named e) refl))

  pub same_drop : drop_kept m n ≡ world.replica.dropped
  same_drop = go (get m n) refl
    where
      go : (o : Option CopyOf) → get m n ≡ o → drop_kept m n ≡ world.replica.dropped
      go None e = ap (λ o. option_map_or (λ (c : CopyOf). c.dropped) o false) e ∙ sym (ap (λ (w : WorldOf). w.replica.dropped) (world_none m n e))
      go (Some c) e = ap (λ o. option_map_or (λ (c : CopyOf). c.dropped) o false) e ∙ sym (ap (λ (w : WorldOf). w.replica.dropped) (world_there m n c e))

  pub same_outcome : (i : IdOf) → outcome_kept m n i ≡ outcome_at (worlds_of m) n i
  same_outcome i = go (get m n) refl
    where
      go : (o : Option CopyOf) → get m n ≡ o → outcome_kept m n i ≡ outcome_at (worlds_of m) n i
      go None e = ap (λ o. option_and_then (λ c. outcome c i) o) e ∙ sym (ap (known_by i) (world_none m n e))
      go (Some c) e =
          ap (λ o. option_and_then (λ c. outcome c i) o) e
          ∙ (λ j. known i c.noted (kept i (start (named_get m n c named e j)) c.history.deltas))
          ∙ sym (ap (known_by i) (world_there m n c e))

module _ {F D : Type 0} {folder : folder_of.Ghosts F D} {disk : disk_of.Ghosts D} where
  pub same_kept : (d : Key) (s : Shelf F D folder disk) (m : Copies) → IsSameShown (shown_by d s) (shown_in (hosted_by d (hosted_of s))) → AreNamed m
      → IsSameShown (shown_kept d s m) (shown_among d (hosted_by d (hosted_of s)) (worlds_of m))
  same_kept d s m hosted named = record {
    copy = λ n. go_copy n (is_hosted_by d n);
    hosts = refl;
    drops = λ n. go_drop n (is_hosted_by d n);
    outcome = λ n i. go_outcome n i (is_hosted_by d n);
  }
    where
      go_copy : (n : Key) (b : Bool) → IsCopyOf (cond b (copy_by d s n) (copy_kept m n)) (copy_of n (cond b (deltas_in (hosted_by d (hosted_of s)) n) (world_at (worlds_of m) n).replica.deltas))
      go_copy n true = hosted.copy n
      go_copy n false = same_copy m named n

      go_drop : (n : Key) (b : Bool) → cond b false (drop_kept m n) ≡ cond b false (world_at (worlds_of m) n).replica.dropped
      go_drop n true = refl
      go_drop n false = same_drop m named n

      go_outcome : (n : Key) (i : IdOf) (b : Bool) → cond b (outcome_by d s n i) (outcome_kept m n i) ≡ cond b (outcome_in (hosted_by d (hosted_of s)) n i) (outcome_at (worlds_of m) n i)
      go_outcome n i true = hosted.outcome n i
      go_outcome n i false = same_outcome m named n i

  there : (d : Key) (s : Shelf F D folder disk) (m : Copies) (n : Key) → IsSome (copy_by d s n) → IsSome (cond (is_hosted_by d n) (copy_by d s n) (copy_kept m n))
  there d s m n some = go (is_hosted_by d n) some
    where
      go : (b : Bool) → IsSome (cond b (copies_of s n) None) → IsSome (cond b (cond b (copies_of s n) None) (copy_kept m n))
      go true e = e
      go false e = absurd (true≢false (sym e))

  pub lent_there : (d : Key) (s : Shelf F D folder disk) (m : Copies) {A : Type 0} (f : A → Key) (r : Option A) → IfSome r (λ n. IsSome (copy_by d s (f n)))
      → IfSome r (λ n. IsSome (cond (is_hosted_by d (f n)) (copy_by d s (f n)) (copy_kept m (f n))))
  lent_there d s m f None e = tt
  lent_there d s m f (Some n) e = there d s m (f n) e
