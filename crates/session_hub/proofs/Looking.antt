-- Names that are looked at for a peer.
--     spot_less, spot_same, spot_more, spot_last     the spot of a name, by how it compares with the one at a place
--     name_here, names_to, names_insert               names that were lent, at a place, up to it, and with one put there
--     due_of                                         the names that a shard looks at are due
--     shard_news, shard_after                        what is new to a session by the names that a shard looks at, and the session then
--     told_from                                      what a peer was told of whosever marks it was told of the shard that was lent
use Rattle.std.proofs.Common.{Less, Equal, Greater, ◌≡◌, ◌≢◌, inl, inr, ◌<◌, ◌+◌, ◌-◌, ℕ, zero, suc, true, List, [], ◌∷◌, ◌++◌, length, map, take, drop, get_or, refl, sym, ap, subst, ◌∙◌, arith, append_assoc, add-one}
use Rattle.std.specs.Prelude.{insert}
use Rattle.std.specs.Cmp.Lexicographic.{slice_cmp}
use Rattle.std.specs.Ordering.{nat_cmp}
use Rattle.std.proofs.Math.Seq.{drop-cons}
use Rattle.std.proofs.lemmas.List.{drop-map, take_more, get_or-map, length-map, map-append}
use mathlib.Core.List.{IsPrefix}
use Rattle.doc_items.specs.Maps.{Key}
use Rattle.disk_model.specs.declared.disk.Disk as disk_of
use Rattle.wave_outside.specs.declared.folder.Folder as folder_of
use Rattle.session_core.specs.declared.session.Session.{Session}
use Rattle.session_core.specs.Access.{Shown, with_hosts}
use Rattle.session_core.specs.Deliveries.{delivered, after_delivery}
use Rattle.replica_store.specs.Worlds.{worlds_of}
use Rattle.wavelet_shelf.specs.Hosting.{Hosted, names_of}
use Rattle.wavelet_shelf.specs.Shelves.{hosted_of}
use Rattle.hosted_copies.specs.Domains.{hosted_by}
use Rattle.hosted_copies.specs.Shown.{IsSameShown}
use Rattle.shard_copies.specs.Kept.{shown_kept}
use Rattle.shard_copies.specs.Shown.{shown_among}
use Rattle.shard_marks.specs.Histories.{are_sound}
use Rattle.shard_marks.specs.declared.mark.Mark.{Mark}
use Rattle.shard_marks.specs.Marks.{founded, replayed}
use Rattle.shard_marks.specs.Told.{AreToldAt, AreToldFrom, AreDue, name_put, name_put_by, published}
use Rattle.shard_marks.proofs.Founded.{founded_is}
use Rattle.shard_marks.proofs.Publishing.{due_news, due_after, told_later}
use Rattle.shard_marks.proofs.Seeing.{named_at, named_after_at}
use Rattle.session_hub.specs.declared.record.Record.{Record}
use Rattle.session_hub.specs.declared.shard.Shard.{Shard}
use Rattle.session_hub.specs.Entries.{entries_of, copies_at}
use Rattle.session_hub.specs.Published.{AreLookedAt}
use Rattle.session_hub.specs.Records.{mark_of, marks_in}

-- ---- spots

module _ (n : Key) (ks : List Key) (i : ℕ) (before : name_put n ks ≡ take i ks ++ name_put n (drop i ks)) where
  module _ (x : Key) (rest : List Key) (here : drop i ks ≡ x ∷ rest) where
    pub spot_less : slice_cmp nat_cmp n x ≡ Less → name_put n ks ≡ insert ks i n
    spot_less e = before ∙ ap (λ l. take i ks ++ l) (ap (name_put n) here ∙ ap (λ o. name_put_by o n x rest (name_put n rest)) e ∙ ap (λ l. n ∷ l) (sym here))

    pub spot_same : slice_cmp nat_cmp n x ≡ Equal → name_put n ks ≡ take i ks ++ drop i ks
    spot_same e = before ∙ ap (λ l. take i ks ++ l) (ap (name_put n) here ∙ ap (λ o. name_put_by o n x rest (name_put n rest)) e ∙ sym here)

    pub spot_more : slice_cmp nat_cmp n x ≡ Greater → name_put n ks ≡ (take i ks ++ x ∷ []) ++ name_put n rest
    spot_more e = before ∙ ap (λ l. take i ks ++ l) (ap (name_put n) here ∙ ap (λ o. name_put_by o n x rest (name_put n rest)) e) ∙ sym (append_assoc (take i ks) (x ∷ []) (name_put n rest))

  pub spot_last : drop i ks ≡ [] → name_put n ks ≡ insert ks i n
  spot_last none = before ∙ ap (λ l. take i ks ++ l) (ap (name_put n) none ∙ ap (λ l. n ∷ l) (sym none))

-- what stands at a place of a list of names, by those that were lent
module _ {B : Type 0} (f : B → Key) where
  module _ (xs : List B) (i : ℕ) (x : B) (below : i < length xs) (is : x ≡ get_or xs i x) where
    pub name_here : drop i (map f xs) ≡ f x ∷ drop (i + 1) (map f xs)
    name_here =
        drop-map f i xs ∙ ap (map f) (drop-cons xs i x below) ∙ (λ j. f (sym is j) ∷ map f (drop (sym (add-one i) j) xs))
        ∙ ap (λ l. f x ∷ l) (sym (drop-map f (i + 1) xs))

    pub names_to : take (i + 1) (map f xs) ≡ take i (map f xs) ++ f x ∷ []
    names_to =
        take_more (map f xs) i (f x) (omega (arith, below, length-map xs f))
        ∙ ap (λ k. take i (map f xs) ++ k ∷ []) (get_or-map f xs i x (f x) below ∙ ap f (sym is))

  map_take : (i : ℕ) (xs : List B) → map f (take i xs) ≡ take i (map f xs)
  map_take zero xs = refl
  map_take (suc i) [] = refl
  map_take (suc i) (x ∷ xs) = ap (λ l. f x ∷ l) (map_take i xs)

  pub names_insert : (xs : List B) (i : ℕ) (x : B) → map f (insert xs i x) ≡ insert (map f xs) i (f x)
  names_insert xs i x = map-append f (take i xs) (x ∷ drop i xs) ∙ (λ j. map_take i xs j ++ f x ∷ sym (drop-map f i xs) j)

-- ---- names

-- the names by the marks after the first one, where some were sent
due_rest : (d : Key) (k : ℕ) (rs : List Record) (n : ℕ) → n ≢ 0 → drop n (marks_in d k rs) ≡ map mark_of (drop (n - 1) rs)
due_rest d k rs zero some = absurd (some refl)
due_rest d k rs (suc n) some = drop-map mark_of n rs ∙ ap (λ i. map mark_of (drop i rs)) (before_next n)
  where
    before_next : (n : ℕ) → n ≡ suc n - 1
    before_next n = omega arith

pub due_of : (d : Key) (k : ℕ) (rs : List Record) (s : Session) (n : ℕ) (hs : List Hosted) (ns : List Key) → hs ≡ replayed d k (marks_in d k rs)
    → AreLookedAt d hs rs s n ns → AreDue d k (marks_in d k rs) s n ns
due_of d k rs s n hs ns is (inl other) = inl other
due_of d k rs s n hs ns is (inr (inl all)) = inr (inl (all ∙ ap names_of is))
due_of d k rs s n hs ns is (inr (inr since)) = inr (inr (since.0, since.1 ∙ ap (published d []) (sym (due_rest d k rs n since.0))))

-- ---- what was told

module _ {F D : Type 0} {folder : folder_of.Ghosts F D} {disk : disk_of.Ghosts D} where
  pub told_from : (xs : List Mark) (v w : Shard F D folder disk) (s : Session) (n : ℕ) → AreToldFrom xs s n → IsPrefix xs (entries_of v) → w ≡ v → AreToldAt w.domain w.number (entries_of w) s n
  told_from xs v w s n from begins same =
      let is = founded_is from.domain from.number v.domain v.number (map mark_of v.records.items) xs from.founded begins in
      let now = told_later from.domain from.number xs (entries_of v) s n begins from.told in
      subst (λ (y : Shard F D folder disk). AreToldAt y.domain y.number (entries_of y) s n) (sym same)
      (subst (λ (z : Key × ℕ). AreToldAt z.0 z.1 (entries_of v) s n) (λ i. (sym is.0 i, sym is.1 i)) now)

  -- what is new to a session by the names that the shard looks at
  module _ (v : Shard F D folder disk) (same : IsSameShown (shown_kept v.domain v.shelf v.replicas) (shown_among v.domain (hosted_by v.domain (hosted_of v.shelf)) (worlds_of v.replicas)))
      (s : Session) (n : ℕ) (at : AreToldAt v.domain v.number (entries_of v) s n) (ns : List Key)
      (looked : AreLookedAt v.domain (hosted_by v.domain (hosted_of v.shelf)) v.records.items s n ns) where
    abbrev kept : Shown
    kept = shown_kept v.domain v.shelf v.replicas

    due : AreDue v.domain v.number (entries_of v) s n ns
    due = due_of v.domain v.number v.records.items s n (hosted_by v.domain (hosted_of v.shelf)) ns v.replay looked

    sound : are_sound (replayed v.domain v.number (entries_of v)) ≡ true
    sound = ap are_sound (sym v.replay) ∙ v.sound

    pub shard_news : delivered (with_hosts kept ns) s ≡ delivered (copies_at v) s
    shard_news =
        named_at kept v.domain v.number (entries_of v) (hosted_by v.domain (hosted_of v.shelf)) (worlds_of v.replicas) same v.replay v.copies ns s
        ∙ due_news v.domain v.number (entries_of v) v.own sound s n at ns due

    pub shard_after : after_delivery (with_hosts kept ns) s ≡ after_delivery (copies_at v) s
    shard_after =
        named_after_at kept v.domain v.number (entries_of v) (hosted_by v.domain (hosted_of v.shelf)) (worlds_of v.replicas) same v.replay v.copies ns s
        ∙ due_after v.domain v.number (entries_of v) v.own sound s n at ns due
