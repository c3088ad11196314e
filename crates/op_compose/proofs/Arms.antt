-- What each arm of the walk keeps, as what is done and what is still to come.
use Rattle.std.proofs.Common.{◌≡◌, ℕ, ◌+◌, ◌<◌, Bool, true, false, List, [], ◌++◌, length, map, replicate, refl, sym, ap, subst, ◌∙◌, arith, Err, Option, Some}
use Rattle.std.proofs.lemmas.Bool.{and_parts}
use Rattle.std.proofs.lemmas.List.{append-nil, length-map}
use Rattle.doc_items.specs.Changes.{ChangeSet}
use Rattle.doc_items.specs.declared.item.Content.{Content}
use Rattle.change_view.specs.declared.rule.Rule.TheVariants.{Second, Then}
use Rattle.change_view.specs.declared.rule.Test.TheVariants.{OldIsThere}
use Rattle.change_view.specs.Sets.{joined, passes}
use Rattle.change_table.specs.declared.joint.Joint.{Joint}
use Rattle.change_table.specs.Joints.{together}
use Rattle.doc_op.specs.Actions.{AttributeChange, Action, Keep, insertion, deletion}
use Rattle.doc_op.specs.Apply.{put_content}
use Rattle.doc_op.specs.Normal.{shown_last}
use Rattle.doc_op.specs.declared.run.AttributePart.{AttributePart}
use Rattle.op_runs.specs.Kept.{kept_change, IsFitPartOf}
use Rattle.op_compose.specs.Chains.{then, attributes_back, attributes_then}
use Rattle.op_compose.specs.Compose.{ahead, compose}
use Rattle.op_runs.specs.Contents.{common}
use Rattle.op_compose.specs.Weaves.{IsInStepBut, IsKeptTwice, IsInsertedAfter, IsDeletedBefore}
use Rattle.op_compose.proofs.Fronts.{stops}
use Rattle.op_compose.proofs.Fronts as fronts
use Rattle.op_compose.proofs.Rooms.{IsLonger, kept_longer, inserted_longer, deleted_longer}
use Rattle.op_compose.proofs.Touches.{just_kept}
use Rattle.op_compose.proofs.Rows.{keeps_meet, keeps_stop, inserted_keep_meet, inserted_keep_stop, keep_deleted_meet, keep_deleted_stop, inserted_deleted_meet, inserted_deleted_unnamed, inserted_deleted_unlike}
use Rattle.op_runs.proofs.Runs.{common_le}

-- ---- both keep

twice_if : (t b : Bool) (j : Joint) (o a : AttributeChange) (n : ℕ) (out out' : List Action) → t ≡ b → IsKeptTwice t j o a n out out' → IsKeptTwice b j o a n out out'
twice_if t b j o a n out out' e h = subst (λ x. IsKeptTwice x j o a n out out') e h

pub both_kept : (out out' : List Action) (k n m : ℕ) (j : Joint) (o a : AttributeChange) (t : Bool) → n ≡ m → t ≡ true → j.rule ≡ Then → IsKeptTwice t j o a n out out'
    → (f s : List Action) → ahead out k (compose (replicate n (Keep j.first.now o) ++ f) (replicate m (Keep j.second.now a) ++ s)) ≡ ahead out' (k + n) (compose f s)
both_kept out out' k n m j o a t same is rule h f s =
    let d = twice_if t true j o a n out out' is h in
    let v = ap (λ r. out ++ replicate n (Keep (joined r j.first.now j.second.now) (attributes_then o a))) rule in
    ap (λ i. ahead out k (compose (replicate n (Keep j.first.now o) ++ f) (replicate i (Keep j.second.now a) ++ s))) (sym same)
    ∙ fronts.passes out k _ _ _ out' (k + n) n (d.1 ∙ v) refl (keeps_meet n j.first.now j.second.now o a d.0) f s

pub both_refused : (out out' : List Action) (k n m : ℕ) (j : Joint) (o a : AttributeChange) (t : Bool) → n ≡ m → 0 < n → t ≡ false → IsKeptTwice t j o a n out out'
    → (f s : List Action) → ahead out k (compose (replicate n (Keep j.first.now o) ++ f) (replicate m (Keep j.second.now a) ++ s)) ≡ Err k
both_refused out out' k n m j o a t same some is h f s =
    ap (λ i. ahead out k (compose (replicate n (Keep j.first.now o) ++ f) (replicate i (Keep j.second.now a) ++ s))) (sym same)
    ∙ stops out k _ _ 0 k (omega arith) (keeps_stop n j.first.now j.second.now o a some (twice_if t false j o a n out out' is h)) f s

pub both_within : (out out' : List Action) (n : ℕ) (j : Joint) (o a : AttributeChange) (t : Bool) → t ≡ true → IsKeptTwice t j o a n out out' → IsLonger out out' n
both_within out out' n j o a t is h = kept_longer out out' (together j) (attributes_then o a) n (twice_if t true j o a n out out' is h).1

pub both_in_step : (touched : Option (List (List ℕ))) (out out' : List Action) (n : ℕ) (j : Joint) (o a : AttributeChange) (t : Bool) → 0 < n → t ≡ true → j.rule ≡ Then → IsKeptTwice t j o a n out out' → touched ≡ Some []
    → IsInStepBut touched (shown_last out') (then j.first.now j.second.now) j.first.now j.second.now
both_in_step touched out out' n j o a t some is rule h none =
    let d = twice_if t true j o a n out out' is h in
    let v = ap (λ r. out ++ replicate n (Keep (joined r j.first.now j.second.now) (attributes_then o a))) rule in
    just_kept touched out out' n (attributes_then o a) j.first.now j.second.now some (d.1 ∙ v) (and_parts _ _ d.0).0 none

-- ---- the first inserts, the second keeps

inserted_if : (t b : Bool) (w u : ChangeSet) (a : AttributeChange) (cs : List Content) (out out' : List Action) → t ≡ b → IsInsertedAfter t w u a cs out out' → IsInsertedAfter b w u a cs out out'
inserted_if t b w u a cs out out' e h = subst (λ x. IsInsertedAfter x w u a cs out out') e h

pub inserted_kept : (out out' : List Action) (k n : ℕ) (w u : ChangeSet) (part : Option AttributePart) (cs : List Content) (t : Bool) → n ≡ length cs → t ≡ true → IsInsertedAfter t w u (kept_change part) cs out out'
    → (f s : List Action) → ahead out k (compose (map (insertion w) cs ++ f) (replicate n (Keep u (kept_change part)) ++ s)) ≡ ahead out' (k + n) (compose f s)
inserted_kept out out' k n w u part cs t same is h f s =
    let d = inserted_if t true w u (kept_change part) cs out out' is h in
    ap (λ j. ahead out k (compose (map (insertion w) cs ++ f) (replicate j (Keep u (kept_change part)) ++ s))) same
    ∙ fronts.passes out k _ _ _ out' (k + n) (length cs) d.1 (ap (λ j. k + j) same) (inserted_keep_meet cs w u (kept_change part) d.0) f s

pub inserted_refused : (out out' : List Action) (k n : ℕ) (w u : ChangeSet) (part : Option AttributePart) (cs : List Content) (t : Bool) → n ≡ length cs → 0 < n → IsFitPartOf n part → t ≡ false → IsInsertedAfter t w u (kept_change part) cs out out'
    → (f s : List Action) → ahead out k (compose (map (insertion w) cs ++ f) (replicate n (Keep u (kept_change part)) ++ s)) ≡ Err k
inserted_refused out out' k n w u part cs t same some fit is h f s =
    ap (λ j. ahead out k (compose (map (insertion w) cs ++ f) (replicate j (Keep u (kept_change part)) ++ s))) same
    ∙ stops out k _ _ 0 k (omega arith) (inserted_keep_stop n cs w u part same some fit (inserted_if t false w u (kept_change part) cs out out' is h)) f s

pub inserted_within : (out out' : List Action) (n : ℕ) (w u : ChangeSet) (a : AttributeChange) (cs : List Content) (t : Bool) → n ≡ length cs → t ≡ true → IsInsertedAfter t w u a cs out out' → IsLonger out out' n
inserted_within out out' n w u a cs t same is h = inserted_longer out out' (joined Second w u) (map (put_content a) cs) n (inserted_if t true w u a cs out out' is h).1 (same ∙ sym (length-map cs (put_content a)))

-- ---- the first keeps, the second deletes

deleted_if : (t b : Bool) (u w : ChangeSet) (a : AttributeChange) (cs : List Content) (out out' : List Action) → t ≡ b → IsDeletedBefore t u w a cs out out' → IsDeletedBefore b u w a cs out out'
deleted_if t b u w a cs out out' e h = subst (λ x. IsDeletedBefore x u w a cs out out') e h

pub kept_deleted : (out out' : List Action) (k n : ℕ) (w u : ChangeSet) (part : Option AttributePart) (cs : List Content) (t : Bool) → n ≡ length cs → t ≡ true → IsDeletedBefore t u w (kept_change part) cs out out'
    → (f s : List Action) → ahead out k (compose (replicate n (Keep w (kept_change part)) ++ f) (map (deletion u) cs ++ s)) ≡ ahead out' (k + n) (compose f s)
kept_deleted out out' k n w u part cs t same is h f s =
    let d = deleted_if t true u w (kept_change part) cs out out' is h in
    ap (λ j. ahead out k (compose (replicate j (Keep w (kept_change part)) ++ f) (map (deletion u) cs ++ s))) same
    ∙ fronts.passes out k _ _ _ out' (k + n) (length cs) d.1 (ap (λ j. k + j) same) (keep_deleted_meet cs w u (kept_change part) d.0) f s

pub kept_refused : (out out' : List Action) (k n : ℕ) (w u : ChangeSet) (part : Option AttributePart) (cs : List Content) (t : Bool) → n ≡ length cs → 0 < n → IsFitPartOf n part → t ≡ false → IsDeletedBefore t u w (kept_change part) cs out out'
    → (f s : List Action) → ahead out k (compose (replicate n (Keep w (kept_change part)) ++ f) (map (deletion u) cs ++ s)) ≡ Err k
kept_refused out out' k n w u part cs t same some fit is h f s =
    ap (λ j. ahead out k (compose (replicate j (Keep w (kept_change part)) ++ f) (map (deletion u) cs ++ s))) same
    ∙ stops out k _ _ 0 k (omega arith) (keep_deleted_stop n cs w u part same some fit (deleted_if t false u w (kept_change part) cs out out' is h)) f s

pub deleted_within : (out out' : List Action) (n : ℕ) (u w : ChangeSet) (a : AttributeChange) (cs : List Content) (t : Bool) → n ≡ length cs → t ≡ true → IsDeletedBefore t u w a cs out out' → IsLonger out out' n
deleted_within out out' n u w a cs t same is h = deleted_longer out out' (joined Second u w) (map (put_content (attributes_back a)) cs) n (deleted_if t true u w a cs out out' is h).1 (same ∙ sym (length-map cs (put_content (attributes_back a))))

-- ---- the first inserts, the second deletes

pub both_gone : (out : List Action) (k n j : ℕ) (w u : ChangeSet) (cs es : List Content) (t : Bool) → length cs ≡ length es → n ≡ length cs → j ≡ common es cs → (j < n → ⊥) → t ≡ passes OldIsThere w u → t ≡ true
    → (f s : List Action) → ahead out k (compose (map (insertion w) cs ++ f) (map (deletion u) es ++ s)) ≡ ahead out (k + n) (compose f s)
both_gone out k n j w u cs es t same e is all c h f s =
    let whole : common es cs ≡ length cs = omega (arith, common_le es cs, same, is, e, all) in
    fronts.passes out k _ _ [] out (k + n) (length cs) (sym (append-nil out)) (ap (λ x. k + x) e) (inserted_deleted_meet cs es w u same (sym c ∙ h) whole) f s

pub gone_unlike : (out : List Action) (k n j : ℕ) (w u : ChangeSet) (cs es : List Content) (t : Bool) → length cs ≡ length es → n ≡ length cs → j ≡ common es cs → j < n → t ≡ passes OldIsThere w u → t ≡ true
    → (f s : List Action) → ahead out k (compose (map (insertion w) cs ++ f) (map (deletion u) es ++ s)) ≡ Err (k + j)
gone_unlike out k n j w u cs es t same e is fewer c h f s =
    stops out k _ _ (common es cs) (k + j) (ap (λ x. k + x) is) (inserted_deleted_unlike cs es w u same (sym c ∙ h) (omega (arith, is, e, fewer))) f s

pub gone_unnamed : (out : List Action) (k : ℕ) (w u : ChangeSet) (cs es : List Content) (t : Bool) → 0 < length cs → length cs ≡ length es → t ≡ passes OldIsThere w u → t ≡ false
    → (f s : List Action) → ahead out k (compose (map (insertion w) cs ++ f) (map (deletion u) es ++ s)) ≡ Err k
gone_unnamed out k w u cs es t some same c h f s = stops out k _ _ 0 k (omega arith) (inserted_deleted_unnamed cs es w u some same (sym c ∙ h)) f s
