-- Histories that a domain hosts stay sound.
--     sound_copy       the history of a name on a shelf, by the copy of it
--     sound_added      so are all where one of them grows
--     sound_later      after a submission
--     sound_more       one history after the other
use Rattle.std.proofs.Common.{Less, Equal, Greater, ◌≡◌, ℕ, true, ◌&&◌, cond, List, [], ◌∷◌, ◌++◌, Option, Some, None, IfSome, refl, sym, ap, subst, ◌∙◌}
use Rattle.std.specs.Cmp.Lexicographic.{slice_cmp}
use Rattle.std.specs.Ordering.{nat_cmp}
use Rattle.std.specs.declared.cmp.Ordering.{Ordering}
use Rattle.std.proofs.lemmas.Bool.{and_parts, and_from}
use Rattle.doc_items.specs.Maps.{Key, same_text}
use Rattle.wavelet_op.specs.Deltas.{DeltaOf}
use Rattle.wavelet_op.specs.declared.delta.Submission.{Submission}
use Rattle.delta_history.specs.Copying.{AreAscending}
use Rattle.delta_history.specs.Histories.{HistoryOf}
use Rattle.delta_history.specs.Legal.{IsLegal}
use Rattle.wavelet_shelf.specs.Hosting.{Hosted, names_of, deltas_in, begun, grown, grown_by, grown_in, with_added, judged_in, after_submission, copy_of, IsCopyOf}
use Rattle.wavelet_shelf.proofs.Growing.{grows_alone, no_deltas}
use Rattle.wavelet_shelf.proofs.Names.{own, unlike_above, any, tied}
use Rattle.hosted_copies.specs.Domains.{is_hosted_by, hosted_by, one_of}
use Rattle.hosted_copies.proofs.Hosts.{own_deltas, hosted_ascend, own_added}
use Rattle.shard_marks.specs.Histories.{hosted_as, is_sound, are_sound}
use Rattle.shard_marks.proofs.Telling.{legal_sound}

pub sound_copy : (n : Key) (ds : List DeltaOf) (o : Option HistoryOf) → IsCopyOf o (copy_of n ds) → IfSome o (λ h. IsLegal h.name h.deltas) → is_sound (hosted_as n ds) ≡ true
sound_copy n [] o same legal = refl
sound_copy n (d ∷ ds) None same legal = absurd same
sound_copy n (d ∷ ds) (Some h) same legal = subst (λ (z : Key × List DeltaOf). is_sound (hosted_as z.0 z.1) ≡ true) (λ i. (same.0 i, same.1 i)) (legal_sound h.name h.deltas legal)

-- ---- one of them grows

sound_grown : (hs : List Hosted) (n : Key) (x : DeltaOf) → AreAscending (names_of hs) → is_sound (hosted_as n (deltas_in hs n ++ x ∷ [])) ≡ true → are_sound hs ≡ true → are_sound (grown_in hs n x) ≡ true
sound_grown [] n x a one all = ap (λ b. b && true) one
sound_grown (h ∷ hs) n x a one all = go (slice_cmp nat_cmp n h.name) refl (sound_grown hs n x (any h.name (names_of hs) a))
  where
    parts : (is_sound h ≡ true) × (are_sound hs ≡ true)
    parts = and_parts (is_sound h) (are_sound hs) all

    go : (o : Ordering) → slice_cmp nat_cmp n h.name ≡ o → (is_sound (hosted_as n (deltas_in hs n ++ x ∷ [])) ≡ true → are_sound hs ≡ true → are_sound (grown_in hs n x) ≡ true) → are_sound (grown_by o h hs (grown_in hs n x) n x) ≡ true
    go Less e again =
        let first : is_sound (begun n x) ≡ true = ap (λ ds. is_sound (hosted_as n (ds ++ x ∷ []))) (sym (no_deltas n (h ∷ hs) (e, a))) ∙ one in
        and_from (is_sound (begun n x)) (are_sound (h ∷ hs)) first all
    go Equal e again =
        let same : n ≡ h.name = tied n h.name e in
        let there : deltas_in (h ∷ hs) n ≡ h.deltas = ap (λ t. cond t h.deltas (deltas_in hs n)) (subst (λ k. same_text n k ≡ true) same (own n)) in
        let here : is_sound (grown h x) ≡ true = (λ i. is_sound (hosted_as (sym same i) (sym there i ++ x ∷ []))) ∙ one in
        and_from (is_sound (grown h x)) (are_sound hs) here parts.1
    go Greater e again =
        let there : deltas_in (h ∷ hs) n ≡ deltas_in hs n = ap (λ t. cond t h.deltas (deltas_in hs n)) (unlike_above n h.name e) in
        let rest : is_sound (hosted_as n (deltas_in hs n ++ x ∷ [])) ≡ true = ap (λ ds. is_sound (hosted_as n (ds ++ x ∷ []))) (sym there) ∙ one in
        and_from (is_sound h) (are_sound (grown_in hs n x)) parts.0 (again rest parts.1)

pub sound_added : (hs : List Hosted) (n : Key) (o : Option DeltaOf) → AreAscending (names_of hs) → is_sound (hosted_as n (deltas_in (with_added hs n o) n)) ≡ true → are_sound hs ≡ true → are_sound (with_added hs n o) ≡ true
sound_added hs n None a one all = all
sound_added hs n (Some x) a one all = sound_grown hs n x a (ap (λ ds. is_sound (hosted_as n ds)) (sym (grows_alone.there hs n x a)) ∙ one) all

pub sound_later : (d : Key) (hs gs : List Hosted) (n : Key) (s : Submission) (t : ℕ) → AreAscending (names_of hs) → is_hosted_by d n ≡ true → gs ≡ after_submission hs n s t → is_sound (hosted_as n (deltas_in gs n)) ≡ true
    → are_sound (hosted_by d hs) ≡ true → are_sound (hosted_by d gs) ≡ true
sound_later d hs gs n s t ascend hosted after one all =
    let o : Option DeltaOf = (judged_in hs n s t).1 in
    let is : hosted_by d gs ≡ with_added (hosted_by d hs) n o = ap (hosted_by d) after ∙ own_added d hs n o ascend hosted in
    let here : is_sound (hosted_as n (deltas_in (with_added (hosted_by d hs) n o) n)) ≡ true =
    ap (λ gs. is_sound (hosted_as n (deltas_in gs n))) (sym is) ∙ ap (λ ds. is_sound (hosted_as n ds)) (own_deltas d gs n hosted) ∙ one in
    ap are_sound is ∙ sound_added (hosted_by d hs) n o (hosted_ascend d hs ascend) here all

-- ---- one after the other

pub sound_more : (hs : List Hosted) (o : Option Hosted) (gs : List Hosted) → hs ≡ one_of o ++ gs → IfSome o (λ h. is_sound h ≡ true) → are_sound gs ≡ true → are_sound hs ≡ true
sound_more hs None gs is one all = ap are_sound is ∙ all
sound_more hs (Some h) gs is one all = ap are_sound is ∙ and_from (is_sound h) (are_sound gs) one all
