-- What sessions see of a shelf.
--     same_shown      it is what they see of its histories
--     same_hosted     what they see of what a domain hosts there is what they see of these histories
--     hosted_there    a name that it hosts has a copy
use Rattle.std.proofs.Common.{◌≡◌, ◌≢◌, ℕ, Bool, true, false, cond, List, [], ◌∷◌, slice_get, Option, None, Some, IsSome, IfSome, Bor, option_copied, refl, sym, ap, subst, ◌∙◌, option_map}
use Rattle.doc_items.specs.Maps.{Key}
use Rattle.wave_base.specs.Versions.{IdOf}
use Rattle.wavelet_op.specs.Deltas.{DeltaOf}
use Rattle.delta_history.specs.Copying.{AreAscending, kept_in}
use Rattle.delta_history.specs.Histories.{HistoryOf}
use Rattle.delta_history.specs.Points.{start}
use Rattle.delta_history.specs.Verdicts.{kept}
use Rattle.disk_model.specs.declared.disk.Disk as disk_of
use Rattle.wave_outside.specs.declared.folder.Folder as folder_of
use Rattle.session_core.specs.Access.{shown}
use Rattle.wavelet_shelf.specs.Hosting.{names_of, deltas_in, copy_of, copy_in, IsCopyOf, HaveDeltas}
use Rattle.wavelet_shelf.specs.Shelves.{acknowledged, hosted_of, copies_of, outcome_of}
use Rattle.wavelet_shelf.specs.declared.shelf.Shelf.{Shelf}
use Rattle.wavelet_shelf.proofs.Sharing.{named_deltas}
use Rattle.hosted_copies.specs.Domains.{is_hosted_by, hosted_by, copy_by, outcome_by, shown_by}
use Rattle.hosted_copies.specs.Shown.{nothing_dropped, shown_in, IsSameShown}
use Rattle.hosted_copies.proofs.Hosts.{own_copy, other_copy}

kept_alike : (o p : Option HistoryOf) (i : IdOf) → IsCopyOf o p → kept_in o i ≡ kept_in p i
kept_alike None None i e = refl
kept_alike None (Some h) i e = absurd e
kept_alike (Some g) None i e = absurd e
kept_alike (Some g) (Some h) i e = (λ k. kept i (start (e.0 k)) (e.1 k))

some_copy : (n : Key) (ds : List DeltaOf) (o : Option HistoryOf) → ds ≢ [] → IsCopyOf o (copy_of n ds) → IsSome o
some_copy n [] o some same = absurd (some refl)
some_copy n (d ∷ ds) None some same = absurd same
some_copy n (d ∷ ds) (Some h) some same = refl

module _ {F D : Type 0} {folder : folder_of.Ghosts F D} {disk : disk_of.Ghosts D} where
  pub same_shown : (s : Shelf F D folder disk) → ((n : Key) → IsCopyOf (copies_of s n) (copy_in (hosted_of s) n))
      → IsSameShown (shown (λ n. copies_of s n) (names_of (hosted_of s)) nothing_dropped (λ n i. outcome_of s n i)) (shown_in (hosted_of s))
  same_shown s copies = record {
    copy = copies;
    hosts = refl;
    drops = λ n. refl;
    outcome = λ n i. ap (option_map acknowledged) (kept_alike (copies_of s n) (copy_in (hosted_of s) n) i (copies n));
  }

  module _ (domain : Key) (s : Shelf F D folder disk) (copies : (n : Key) → IsCopyOf (copies_of s n) (copy_in (hosted_of s) n)) where
    hosted_copy : (n : Key) (b : Bool) → is_hosted_by domain n ≡ b → IsCopyOf (cond b (copies_of s n) None) (copy_in (hosted_by domain (hosted_of s)) n)
    hosted_copy n true own = subst (λ c. IsCopyOf (copies_of s n) c) (sym (own_copy domain (hosted_of s) n own)) (copies n)
    hosted_copy n false other = subst (λ c. IsCopyOf None c) (sym (other_copy domain (hosted_of s) n other)) tt

    hosted_outcome : (n : Key) (i : IdOf) (b : Bool) → is_hosted_by domain n ≡ b → cond b (outcome_of s n i) None ≡ option_map acknowledged (kept_in (copy_in (hosted_by domain (hosted_of s)) n) i)
    hosted_outcome n i true own = ap (option_map acknowledged) (kept_alike (copies_of s n) (copy_in (hosted_of s) n) i (copies n) ∙ sym (ap (λ c. kept_in c i) (own_copy domain (hosted_of s) n own)))
    hosted_outcome n i false other = sym (ap (λ c. option_map acknowledged (kept_in c i)) (other_copy domain (hosted_of s) n other))

    pub same_hosted : IsSameShown (shown_by domain s) (shown_in (hosted_by domain (hosted_of s)))
    same_hosted = record {
      copy = λ n. hosted_copy n (is_hosted_by domain n) refl;
      hosts = refl;
      drops = λ n. refl;
      outcome = λ n i. hosted_outcome n i (is_hosted_by domain n) refl;
    }

  pub hosted_there : (domain : Key) (s : Shelf F D folder disk) → ((n : Key) → IsCopyOf (copy_by domain s n) (copy_in (hosted_by domain (hosted_of s)) n)) → AreAscending (names_of (hosted_by domain (hosted_of s))) → HaveDeltas (hosted_by domain (hosted_of s))
      → (i : ℕ) (n : Key) → slice_get (names_of (hosted_by domain (hosted_of s))) i ≡ Some n → IsSome (copy_by domain s n)
  hosted_there domain s same ascend have i n e = some_copy n (deltas_in (hosted_by domain (hosted_of s)) n) (copy_by domain s n) (named_deltas (hosted_by domain (hosted_of s)) i n ascend have e) (same n)

pub lent_there : (P : Key → Type 0) (r : Option (Bor Key)) (o : Option Key) → option_copied r ≡ o → ((n : Key) → o ≡ Some n → P n) → IfSome r (λ n. P n.now)
lent_there P None o e so = tt
lent_there P (Some n) o e so = so n.now (sym e)
