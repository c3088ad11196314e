-- One delta after the other.
--     updates_on, applieds_on     the messages of one more
--     place_of_delta              the place of one in the copy
--     on_ok                       what follows where it went well
use Rattle.std.proofs.Common.{◌≡◌, ◌+◌, ℕ, zero, suc, List, [], ◌∷◌, ◌++◌, drop, slice_get, Some, Result, Ok, Err, OnOk, sym, ap, ◌∙◌, add-one, append_assoc}
use Rattle.doc_items.specs.Maps.{Key}
use Rattle.wavelet_op.specs.Deltas.{DeltaOf}
use Rattle.delta_history.specs.Histories.{HistoryOf}
use Rattle.message_json.specs.declared.message.Message.{Message}
use Rattle.message_json.specs.declared.message.Message.TheVariants.{Update, Applied}
use Rattle.session_core.specs.Access.{Shown}
use Rattle.session_core.specs.Deliveries.{updates, applieds}
use Rattle.session_core.specs.News.{deltas_of}

some_same : {A : Type 0} (x y : A) → Some x ≡ Some y → x ≡ y
some_same x y e = cc

next : (ds : List DeltaOf) (i : ℕ) (d : DeltaOf) → slice_get ds i ≡ Some d → drop i ds ≡ d ∷ drop (i + 1) ds
next ds i d e = go ds i e ∙ ap (λ n. d ∷ drop n ds) (sym (add-one i))
  where
    go : (xs : List DeltaOf) (j : ℕ) → slice_get xs j ≡ Some d → drop j xs ≡ d ∷ drop (suc j) xs
    go [] j h = absurd cc
    go (x ∷ xs) zero h = ap (λ y. y ∷ xs) (some_same x d h)
    go (x ∷ xs) (suc j) h = go xs j h

pub updates_on : (name : Key) (ds : List DeltaOf) (i : ℕ) (d : DeltaOf) (all old new : List Message) → slice_get ds i ≡ Some d → all ≡ old ++ updates name (drop i ds) → new ≡ old ++ Update name d ∷ [] → all ≡ new ++ updates name (drop (i + 1) ds)
updates_on name ds i d all old new got h e =
    h ∙ ap (λ l. old ++ updates name l) (next ds i d got) ∙ sym (append_assoc old (Update name d ∷ []) (updates name (drop (i + 1) ds))) ∙ ap (λ l. l ++ updates name (drop (i + 1) ds)) (sym e)

pub applieds_on : (name : Key) (ds : List DeltaOf) (i : ℕ) (d : DeltaOf) (all old new : List Message) → slice_get ds i ≡ Some d → all ≡ old ++ applieds name (drop i ds) → new ≡ old ++ Applied name d ∷ [] → all ≡ new ++ applieds name (drop (i + 1) ds)
applieds_on name ds i d all old new got h e =
    h ∙ ap (λ l. old ++ applieds name l) (next ds i d got) ∙ sym (append_assoc old (Applied name d ∷ []) (applieds name (drop (i + 1) ds))) ∙ ap (λ l. l ++ applieds name (drop (i + 1) ds)) (sym e)

pub place_of_delta : (c : Shown) (name : Key) (h : HistoryOf) (ds : List DeltaOf) (i : ℕ) (d : DeltaOf) → c.copy name ≡ Some h → ds ≡ h.deltas → slice_get ds i ≡ Some d → slice_get (deltas_of (c.copy name)) i ≡ Some d
place_of_delta c name h ds i d copy deltas got = ap (λ o. slice_get (deltas_of o) i) copy ∙ ap (λ l. slice_get l i) (sym deltas) ∙ got

pub on_ok : {A E P Q : Type 0} (r : Result A E) → (P → Q) → OnOk r P → OnOk r Q
on_ok (Ok a) f p = f p
on_ok (Err e) f p = tt
