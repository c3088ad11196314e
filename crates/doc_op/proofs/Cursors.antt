-- What is left of a component, and how a cursor goes on.
--     mapped_twice             the actions of a text
--     kept_left, text_left     what is left of a retain's and of a text's actions
--     built_is_sound           an operation can be walked
--     some_changes             an update that isn't empty
--     touched_on               keys at which changes started or ended, past one boundary more
use Rattle.std.proofs.Common.{◌≡◌, ◌≢◌, ℕ, zero, suc, ◌-◌, ◌<◌, List, [], ◌∷◌, ◌++◌, length, map, drop, replicate, refl, sym, ap, subst, ◌∙◌, arith, Option, None, option_map}
use Rattle.std.proofs.lemmas.List.{drop-replicate, drop-map}
use Rattle.std.specs.Ordering.{nat_cmp}
use Rattle.std.specs.Cmp.Lexicographic.{slice_cmp}
use Rattle.std.specs.FinMap.{get, get-empty}
use Rattle.doc_items.specs.Changes.{ChangeSet, change_set, none_running, after_boundary, IsAscending}
use Rattle.doc_items.specs.declared.change.Boundary.{Boundary}
use Rattle.doc_items.specs.declared.change.Change.{Change}
use Rattle.doc_items.proofs.ChangeSets.{key, get_change}
use Rattle.change_table.specs.Keys.{boundary_keys, Touches}
use Rattle.change_table.proofs.Agreement.{touches_on, touches_boundary}
use Rattle.doc_op.proofs.Applying.{no_value}
use Rattle.doc_items.specs.declared.item.Content.{Content}
use Rattle.doc_items.specs.declared.item.Content.TheVariants.{Character}
use Rattle.doc_op.specs.declared.component.Component.{Component}
use Rattle.doc_op.specs.declared.component.Component.TheVariants.{Retain, Characters, ElementStart, ElementEnd, DeleteCharacters, DeleteElementStart, DeleteElementEnd, ReplaceAttributes, UpdateAttributes, AnnotationBoundary}
use Rattle.doc_op.specs.Actions.{Action, keep, running}
use Rattle.doc_op.specs.Cursors.{IsFitAt, IsSound, IsSoundFrom}
use Rattle.doc_op.specs.Refusals.{zero_fault, refusal, BuiltFrom, IsBuilt}
use Rattle.doc_op.proofs.Built.{none_first, ascending_of_update, fits_of_boundary}
use Rattle.doc_op.proofs.Lengths.{running-add}

pub mapped_twice : (f : Content → Action) (text : List ℕ) → map f (map Character text) ≡ map (λ c. f (Character c)) text
mapped_twice f [] = refl
mapped_twice f (c ∷ text) = ap (λ acts. f (Character c) ∷ acts) (mapped_twice f text)

pub some_text : (text : List ℕ) → 0 < length (map Character text) → 0 < length text
some_text [] h = h
some_text (c ∷ text) h = omega arith

-- what is left of a text's actions
pub text_left : (f : Content → Action) (text : List ℕ) (used : ℕ) → map f (map Character (drop used text)) ≡ drop used (map (λ c. f (Character c)) text)
text_left f text used = mapped_twice f (drop used text) ∙ sym (drop-map (λ c. f (Character c)) used text)

-- what is left of a retain's
pub kept_left : (u : ChangeSet) (count used : ℕ) → drop used (replicate count (keep u)) ≡ replicate (count - used) (keep u)
kept_left u count used = drop-replicate used count (keep u)

-- ---- an operation can be walked

some_len : (n : ℕ) → zero_fault n ≡ None → 0 < n
some_len zero e = absurd (cc)
some_len (suc n) e = omega arith

fit_of : (done : List Component) (c : Component) → refusal done c ≡ None → IsFitAt (running done) c
fit_of done (UpdateAttributes changes) e = ascending_of_update done changes e
fit_of done (AnnotationBoundary b) e = fits_of_boundary done b e
fit_of done (Retain n) e = tt
fit_of done (Characters text) e = tt
fit_of done (ElementStart kind attributes) e = tt
fit_of done ElementEnd e = tt
fit_of done (DeleteCharacters text) e = tt
fit_of done (DeleteElementStart kind attributes) e = tt
fit_of done DeleteElementEnd e = tt
fit_of done (ReplaceAttributes old new) e = tt

sound_of : (done : List Component) (c : Component) → refusal done c ≡ None → IsSound (running done) c
sound_of done c e = (some_len _ (none_first _ _ e).0, fit_of done c e)

sound_from : (done cs : List Component) → BuiltFrom done cs → IsSoundFrom (running done) cs
sound_from done [] h = tt
sound_from done (c ∷ cs) h = (sound_of done c h.0, subst (λ u. IsSoundFrom u cs) (running-add done c) (sound_from (done ++ c ∷ []) cs h.1))

pub built_is_sound : (cs : List Component) → IsBuilt cs → IsSoundFrom (running []) cs
built_is_sound cs h = sound_from [] cs h

-- a list of changes that isn't empty is no empty set
pub some_changes : (cs : List Change) → 0 < length cs → IsAscending cs → change_set cs ≢ none_running
some_changes [] h a e = absurd (omega (arith, h))
some_changes (c ∷ cs) h a e = no_value (sym (get-empty (slice_cmp nat_cmp) (key c)) ∙ ap (λ u. get u (key c)) (sym e) ∙ get_change (c ∷ cs) 0 c a (omega arith) refl)

-- what started or ended at one boundary more
pub touched_on : (t s r : Option (List (List ℕ))) (u w v : ChangeSet) (b : Boundary) → Touches t u s w → r ≡ option_map (λ keys. keys ++ boundary_keys b) s → v ≡ after_boundary w b → Touches t u r v
touched_on t s r u w v b h e f =
    let more = option_map (λ (keys : List (List ℕ)). keys ++ boundary_keys b) s in
    subst (λ k. Touches t u k v) (sym e) (subst (λ x. Touches t u more x) (sym f) (touches_on t s more u w (after_boundary w b) h (touches_boundary s w b)))
