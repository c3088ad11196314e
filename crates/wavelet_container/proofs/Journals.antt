-- A history and its journal, from one call to the next.
--     sure_none           where no repair is pending nothing is left over
--     stands_for          a file that stands for a history's records stands for the history
--     stored_either       what stands for the records, or for those and what is left over
--     within_none         where nothing is left over the file stands for the history
--     moved_same          nothing was done
--     moved_repair        a repair, whether it succeeded or not
--     moved_append        a record was put after the others, or it was tried
--     moved_on            one call after another
--     every_image         where no repair is pending every image stands for the history
use Rattle.std.proofs.Common.{◌≡◌, ◌⊎◌, inl, inr, ⊎_elim, ℕ, ◌≤◌, false, List, [], ◌∷◌, ◌++◌, Option, Some, refl, sym, ap, subst, ◌∙◌, arith, append-nil, le_refl}
use Rattle.std.specs.List.{AllByRecursion}
use Rattle.std.proofs.lemmas.List.{map-append}
use Rattle.disk_model.specs.Disk.{DiskView, IsClocked, Kept, LeavesOnly}
use Rattle.disk_model.specs.declared.disk.Disk.{Ghosts}
use Rattle.disk_model.proofs.Moments.{started, joined, weaker}
use Rattle.wavelet_op.specs.Deltas.{DeltaOf}
use Rattle.wavelet_codec.specs.Spelling.{delta_bytes, IsDelta}
use Rattle.delta_history.specs.Histories.{HistoryOf, IsSameHistory, IsGrown}
use Rattle.delta_history.specs.Legal.{IsNext, IsLegal}
use Rattle.delta_history.proofs.Chains.{goes_on}
use Rattle.delta_history.proofs.Pushes.{moved}
use Rattle.delta_journal.specs.File.{StandsFor, StandsForEither}
use Rattle.delta_journal.specs.Journal.{IsJournal, WhereHeld, on_disk, left_over, needs_repair}
use Rattle.delta_journal.specs.Stage.{left_over_at, is_unsure_at}
use Rattle.delta_journal.specs.declared.journal.Journal.{Journal}
use Rattle.delta_journal.specs.declared.stage.Stage.{Stage}
use Rattle.delta_journal.specs.declared.stage.Stage.TheVariants.{Blank, Shut, Opening, Headed, Adding}
use Rattle.delta_journal.proofs.Stages.{journal_stands, sure_stands}
use Rattle.wavelet_container.specs.Records.{records_of, StandsForHistory}
use Rattle.wavelet_container.specs.Stores.{IsPending, IsStored, IsMoved, IsWithin, MayFollow, StandsForOneMore}

sure_none_at : (stage : Stage) → is_unsure_at stage ≡ false → left_over_at stage ≡ []
sure_none_at Blank e = refl
sure_none_at Shut e = refl
sure_none_at Opening e = refl
sure_none_at Headed e = refl
sure_none_at (Adding block) e = absurd (cc)

pub sure_none : {K : Type 0} {disk : Ghosts K} (j : Journal K disk) → needs_repair j ≡ false → left_over j ≡ []
sure_none j e = sure_none_at j.stage e

-- ---- files

pub spelled_more : (ds : List DeltaOf) (d : DeltaOf) → AllByRecursion IsDelta ds → IsDelta d → AllByRecursion IsDelta (ds ++ d ∷ [])
spelled_more [] d s is = (is, tt)
spelled_more (e ∷ ds) d s is = (s.0, spelled_more ds d s.1 is)

pub records_more : (ds : List DeltaOf) (d : DeltaOf) → records_of (ds ++ d ∷ []) ≡ records_of ds ++ delta_bytes d ∷ []
records_more ds d = map-append delta_bytes ds (d ∷ [])

-- a delta that may be after the others
pub record IsComing (h : HistoryOf) (d : DeltaOf) : Type 0 where
  pub is : IsDelta d
  pub next : IsNext h.name h.deltas d

one_more : (h : HistoryOf) (d : DeltaOf) (file : List ℕ) → IsLegal h.name h.deltas → AllByRecursion IsDelta h.deltas → IsComing h d → StandsFor h.name (records_of h.deltas ++ delta_bytes d ∷ []) file → StandsForHistory h.name (h.deltas ++ d ∷ []) file
one_more h d file l s c stands = record {
  stands = subst (λ r. StandsFor h.name r file) (sym (records_more h.deltas d)) stands;
  legal = goes_on h.name h.deltas d l c.next;
  spelled = spelled_more h.deltas d s c.is;
}

-- what stands for the records, or for those and one of a delta that has P
either : (h : HistoryOf) (d : DeltaOf) (P : DeltaOf → Type 0) (file : List ℕ) → IsLegal h.name h.deltas → AllByRecursion IsDelta h.deltas → IsComing h d → P d → StandsForEither h.name (records_of h.deltas) (delta_bytes d ∷ []) file → StandsForOneMore h.name h.deltas P file
either h d P file l s c p (inl stands) = inl (record { stands = stands; legal = l; spelled = s })
either h d P file l s c p (inr stands) = inr (d, p, one_more h d file l s c stands)

left_either : (h : HistoryOf) (left : List (List ℕ)) (P : DeltaOf → Type 0) (file : List ℕ) → IsLegal h.name h.deltas → AllByRecursion IsDelta h.deltas → IsPending h left → ((d : DeltaOf) → left ≡ delta_bytes d ∷ [] → P d) → StandsForEither h.name (records_of h.deltas) left file → StandsForOneMore h.name h.deltas P file
left_either h left P file l s pending p (inl stands) = inl (record { stands = stands; legal = l; spelled = s })
left_either h left P file l s (inl none) p (inr stands) = inl (record { stands = subst (λ r. StandsFor h.name r file) (ap (λ z. records_of h.deltas ++ z) none ∙ append-nil (records_of h.deltas)) stands; legal = l; spelled = s })
left_either h left P file l s (inr one) p (inr stands) =
    inr (one.0, p one.0 one.1, one_more h one.0 file l s (record { is = one.2; next = one.3 }) (subst (λ z. StandsFor h.name (records_of h.deltas ++ z) file) one.1 stands))

no_left : {T : Type 0} {x : List ℕ} {xs : List (List ℕ)} → [] ≡ x ∷ xs → T
no_left e = absurd (cc)

kept_by : (P Q : List ℕ → Type 0) (v : DiskView) → ((c : List ℕ) → P c → Q c) → Kept v P → Kept v Q
kept_by P Q v f k = record { now = f v.seen k.now; left = λ c l. f c (k.left c l) }

follows_none : (left : List (List ℕ)) (added : Option DeltaOf) (before : List (List ℕ)) (d : DeltaOf) → left ≡ [] → MayFollow left added d → MayFollow before added d
follows_none left added before d none (inl one) = absurd (no_cons (sym none ∙ one))
  where
    no_cons : {x : List ℕ} {xs : List (List ℕ)} → [] ≡ x ∷ xs → ⊥
    no_cons e = cc
follows_none left added before d none (inr is) = inr is

pub grown_from : (g m h : HistoryOf) (x d : DeltaOf) → IsSameHistory g m → IsGrown m x h → x ≡ d → IsGrown g d h
grown_from g m h x d same grown is = record { name = grown.name ∙ same.name; deltas = grown.deltas ∙ (λ i. same.deltas i ++ is i ∷ []) }

module _ {K : Type 0} {disk : Ghosts K} where
  pub sure_images : (h : HistoryOf) (j : Journal K disk) → IsStored h j → needs_repair j ≡ false → (c : List ℕ) → (on_disk j).may_leave c → StandsForHistory h.name h.deltas c
  sure_images h j s sure c left = record {
    stands = sure_stands j.stage h.name (records_of h.deltas) c sure s.held.empty (s.held.file.left c left);
    legal = s.legal;
    spelled = s.spelled;
  }

  sure_file : (h : HistoryOf) (j : Journal K disk) → IsStored h j → needs_repair j ≡ false → Kept (on_disk j) (StandsForHistory h.name h.deltas)
  sure_file h j s sure = record {
    now = record { stands = sure_stands j.stage h.name (records_of h.deltas) (on_disk j).seen sure s.held.empty s.held.file.now; legal = s.legal; spelled = s.spelled };
    left = sure_images h j s sure;
  }

  pub within_none : (h : HistoryOf) (j : Journal K disk) (P : DeltaOf → Type 0) → IsStored h j → left_over j ≡ [] → IsWithin h.name h.deltas P j
  within_none h j P s none =
      kept_by (StandsForEither h.name (records_of h.deltas) (left_over j)) (StandsForOneMore h.name h.deltas P) (on_disk j)
      (λ c e. left_either h (left_over j) P c s.legal s.spelled (inl none) (λ d one. no_left (sym none ∙ one)) e) (journal_stands h.name (records_of h.deltas) j s.held)

  same_stored : (g h : HistoryOf) (i j : Journal K disk) → IsSameHistory g h → IsStored g i → IsJournal g.name (records_of g.deltas) j → IsPending g (left_over j) → IsStored h j
  same_stored g h i j same s held pending = record {
    held = subst (λ n. IsJournal n (records_of h.deltas) j) (sym same.name) (subst (λ ds. IsJournal g.name (records_of ds) j) (sym same.deltas) held);
    legal = subst (λ n. IsLegal n h.deltas) (sym same.name) (subst (λ ds. IsLegal g.name ds) (sym same.deltas) s.legal);
    spelled = subst (λ ds. AllByRecursion IsDelta ds) (sym same.deltas) s.spelled;
    pending = ⊎_elim (λ none. inl none) (λ one. inr (one.0, one.1, one.2, moved g h one.0 same one.3)) pending;
  }

  pub stored_at_start : (h : HistoryOf) (name text : List ℕ) (j : Journal K disk) → h.name ≡ name → h.deltas ≡ [] → text ≡ name → IsJournal text [] j → needs_repair j ≡ false → IsStored h j
  stored_at_start h name text j named empty said held sure = record {
    held = subst (λ n. IsJournal n (records_of h.deltas) j) (said ∙ sym named) (subst (λ ds. IsJournal text (records_of ds) j) (sym empty) held);
    legal = subst (λ ds. IsLegal h.name ds) (sym empty) tt;
    spelled = subst (λ ds. AllByRecursion IsDelta ds) (sym empty) tt;
    pending = inl (sure_none j sure);
  }

  pub moved_same : (g h : HistoryOf) (j : Journal K disk) (added : Option DeltaOf) → IsClocked (on_disk j) → needs_repair j ≡ false → IsSameHistory g h → IsMoved g h j j added
  moved_same g h j added clocked sure same = record {
    stored = λ s. same_stored g h j j same s s.held s.pending;
    moments = λ s. started (on_disk j) _ clocked (λ c left. inl (sure_images g j s sure c left));
    left = inr (inl refl);
    within = λ s none. within_none g j (λ d. added ≡ Some d) s none;
    later = le_refl _;
  }

  pub moved_repair : (g : HistoryOf) (i j : Journal K disk) (added : Option DeltaOf)
      → WhereHeld i (λ name records. LeavesOnly (on_disk i) (on_disk j) (StandsForEither name records (left_over i)))
      → WhereHeld i (λ name records. IsJournal name records j)
      → (left_over j ≡ []) ⊎ (left_over j ≡ left_over i) → (on_disk i).faults ≤ (on_disk j).faults → IsMoved g g i j added
  moved_repair g i j added moments held left later = record {
    stored = repaired;
    moments = λ s. weaker (on_disk i) (on_disk j) _ _ (λ c either. left_either g (left_over i) (MayFollow (left_over i) added) c s.legal s.spelled s.pending (λ d is. inl is) either) (moments g.name (records_of g.deltas) s.held);
    left = ⊎_elim (λ none. inl none) (λ same. inr (inl same)) left;
    within = λ s none. within_none g j (λ d. added ≡ Some d) (repaired s) (⊎_elim (λ gone. gone) (λ same. same ∙ none) left);
    later = later;
  }
    where
      repaired : IsStored g i → IsStored g j
      repaired s = same_stored g g i j (record { name = refl; deltas = refl }) s (held g.name (records_of g.deltas) s.held) (⊎_elim (λ none. inl none) (λ same. subst (IsPending g) (sym same) s.pending) left)

  -- the call on the disk failed
  pub moved_failed : (g h : HistoryOf) (d : DeltaOf) (bytes : List ℕ) (i j : Journal K disk) (added : Option DeltaOf) → bytes ≡ delta_bytes d → IsComing g d → added ≡ Some d → IsSameHistory g h
      → WhereHeld i (λ name records. LeavesOnly (on_disk i) (on_disk j) (StandsForEither name records (bytes ∷ [])))
      → WhereHeld i (λ name records. IsJournal name records j)
      → (left_over j ≡ []) ⊎ (left_over j ≡ bytes ∷ []) → (on_disk i).faults ≤ (on_disk j).faults → IsMoved g h i j added
  moved_failed g h d bytes i j added spells c is same moments held left later =
      let now : (left_over j ≡ []) ⊎ (left_over j ≡ delta_bytes d ∷ []) = ⊎_elim (λ none. inl none) (λ one. inr (one ∙ ap (λ b. b ∷ []) spells)) left in
      record {
        stored = λ s. same_stored g h i j same s (held g.name (records_of g.deltas) s.held) (⊎_elim (λ none. inl none) (λ one. inr (d, one, c.is, c.next)) now);
        moments = λ s. weaker (on_disk i) (on_disk j) _ _ (λ x either_one. either g d (MayFollow (left_over i) added) x s.legal s.spelled c (inr is) (subst (λ b. StandsForEither g.name (records_of g.deltas) (b ∷ []) x) spells either_one)) (moments g.name (records_of g.deltas) s.held);
        left = ⊎_elim (λ none. inl none) (λ one. inr (inr (d, is, one, c.is))) now;
        within = λ s none. kept_by (StandsForEither g.name (records_of g.deltas) (left_over j)) (StandsForOneMore g.name g.deltas (λ d. added ≡ Some d)) (on_disk j)
            (λ x e. ⊎_elim
            (λ gone. left_either g (left_over j) (λ d. added ≡ Some d) x s.legal s.spelled (inl gone) (λ y one. no_left (sym gone ∙ one)) e)
            (λ one. either g d (λ d. added ≡ Some d) x s.legal s.spelled c is (subst (λ l. StandsForEither g.name (records_of g.deltas) l x) one e))
            now)
            (journal_stands g.name (records_of g.deltas) j (held g.name (records_of g.deltas) s.held));
        later = later;
      }

  -- it succeeded
  pub moved_grown : (g h : HistoryOf) (d : DeltaOf) (bytes : List ℕ) (i j : Journal K disk) (added : Option DeltaOf) → bytes ≡ delta_bytes d → IsComing g d → added ≡ Some d → IsGrown g d h
      → WhereHeld i (λ name records. LeavesOnly (on_disk i) (on_disk j) (StandsForEither name records (bytes ∷ [])))
      → WhereHeld i (λ name records. IsJournal name (records ++ bytes ∷ []) j)
      → needs_repair j ≡ false → (on_disk i).faults ≤ (on_disk j).faults → IsMoved g h i j added
  moved_grown g h d bytes i j added spells c is grown moments held sure later = record {
    stored = grown_stored;
    moments = λ s. weaker (on_disk i) (on_disk j) _ _ (λ x either_one. either g d (MayFollow (left_over i) added) x s.legal s.spelled c (inr is) (subst (λ b. StandsForEither g.name (records_of g.deltas) (b ∷ []) x) spells either_one)) (moments g.name (records_of g.deltas) s.held);
    left = inl (sure_none j sure);
    within = λ s none. kept_by (StandsForHistory h.name h.deltas) (StandsForOneMore g.name g.deltas (λ d. added ≡ Some d)) (on_disk j)
        (λ x stands. inr (d, is, subst (λ n. StandsForHistory n (g.deltas ++ d ∷ []) x) grown.name (subst (λ ds. StandsForHistory h.name ds x) grown.deltas stands)))
        (sure_file h j (grown_stored s) sure);
    later = later;
  }
    where
      grown_stored : IsStored g i → IsStored h j
      grown_stored s =
          let records : records_of g.deltas ++ bytes ∷ [] ≡ records_of h.deltas = ap (λ b. records_of g.deltas ++ b ∷ []) spells ∙ sym (records_more g.deltas d) ∙ ap records_of (sym grown.deltas) in
          record {
            held = subst (λ n. IsJournal n (records_of h.deltas) j) (sym grown.name) (subst (λ r. IsJournal g.name r j) records (held g.name (records_of g.deltas) s.held));
            legal = subst (λ n. IsLegal n h.deltas) (sym grown.name) (subst (λ ds. IsLegal g.name ds) (sym grown.deltas) (goes_on g.name g.deltas d s.legal c.next));
            spelled = subst (λ ds. AllByRecursion IsDelta ds) (sym grown.deltas) (spelled_more g.deltas d s.spelled c.is);
            pending = inl (sure_none j sure);
          }

  pub moved_on : (g h : HistoryOf) (i m j : Journal K disk) (added : Option DeltaOf) → IsMoved g g i m added → needs_repair m ≡ false → IsMoved g h m j added → IsMoved g h i j added
  moved_on g h i m j added first sure second =
      let none = sure_none m sure in
      record {
        stored = λ s. second.stored (first.stored s);
        moments = λ s. joined (on_disk i) (on_disk m) (on_disk j) _ (first.moments s) (weaker (on_disk m) (on_disk j) _ _ (λ c more. ⊎_elim (λ here. inl here) (λ one. inr (one.0, follows_none (left_over m) added (left_over i) one.0 none one.1, one.2)) more) (second.moments (first.stored s)));
        left = ⊎_elim (λ gone. inl gone) (λ more. ⊎_elim (λ same. inl (same ∙ none)) (λ one. inr (inr one)) more) second.left;
        within = λ s start. second.within (first.stored s) none;
        later = let a = first.later in let b = second.later in omega (arith, a, b);
      }
