-- The image of a choice is one that a crash may leave.
use Rattle.std.proofs.Common.{◌≡◌, ◌⊎◌, inl, inr, ℕ, ◌+◌, ◌-◌, ◌≤◌, zero, suc, Bool, true, false, cond, List, [], ◌∷◌, ◌++◌, length, drop, replicate, sym, ap, ◌∙◌, subst, refl, arith, append_assoc, length-append}
use Rattle.std.proofs.lemmas.List.{append-nil, take_all, drop_all, length-replicate}
use Rattle.disk_model.specs.Disk.{Torn, overwritten}
use Rattle.disk_model.specs.Steps.{file_step, left_step, left_after, left_of, placed, is_chosen, image_step, image_from, next_number}
use Rattle.disk_model.specs.declared.memory.Step.{Step}
use Rattle.disk_model.specs.declared.memory.Step.TheVariants.{Wrote, Synced}
use Rattle.disk_model.proofs.Torn.{torn_same, torn_overwritten}

torn_within : (at : ℕ) (bytes f : List ℕ) → at ≤ length f → Torn at (length bytes) f (placed f at bytes)
torn_within at bytes f le =
    let none : at - length f ≡ 0 = omega arith in
    let same : f ++ replicate (at - length f) 0 ≡ f = ap (λ (n : ℕ). f ++ replicate n 0) none ∙ append-nil f in
    subst (λ (g : List ℕ). Torn at (length bytes) f (overwritten g at bytes)) (sym same) (torn_overwritten at bytes f le)

torn_beyond : (at : ℕ) (bytes f : List ℕ) → length f ≤ at → Torn at (length bytes) f (placed f at bytes)
torn_beyond at bytes f le =
    let zeros : List ℕ = replicate (at - length f) 0 in
    let e : List ℕ = f ++ zeros in
    let size : length e ≡ at = omega (arith, length-append f zeros, length-replicate {A = ℕ} (at - length f) 0) in
    let n = at + length bytes in
    let none : drop n e ≡ [] = drop_all n e (omega (arith, size)) in
    let is : overwritten e at bytes ≡ e ++ bytes = ap (λ (l : List ℕ). l ++ bytes ++ drop n e) (take_all at e (omega (arith, size))) ∙ ap (λ (l : List ℕ). (e ++ bytes) ++ l) none ∙ append-nil (e ++ bytes) in
    let long : length (overwritten e at bytes) ≡ n = ap length is ∙ omega (arith, length-append e bytes, size) in
    record {
      before = (zeros ++ bytes, is ∙ append_assoc f zeros bytes ∙ ap (λ (l : List ℕ). l ++ (zeros ++ bytes)) (sym (take_all at f le)));
      after = drop_all n (overwritten e at bytes) (omega (arith, long)) ∙ sym (drop_all n f (omega (arith, le)));
      no_shorter = omega (arith, long, le);
      no_longer = omega (arith, long, le);
    }

either : (m n : ℕ) → (m ≤ n) ⊎ (n ≤ m)
either zero n = inl (omega arith)
either (suc m) zero = inr (omega arith)
either (suc m) (suc n) = elim (either m n) [ inl le ↦ inl (omega (arith, le)) | inr le ↦ inr (omega (arith, le)) ]

pub torn_placed : (at : ℕ) (bytes f : List ℕ) → Torn at (length bytes) f (placed f at bytes)
torn_placed at bytes f = elim (either at (length f)) [ inl le ↦ torn_within at bytes f le | inr le ↦ torn_beyond at bytes f le ]

chosen_write : (b : Bool) (at : ℕ) (bytes image : List ℕ) → Torn at (length bytes) image (cond b (placed image at bytes) image)
chosen_write true at bytes image = torn_placed at bytes image
chosen_write false at bytes image = torn_same at (length bytes) image

chosen_step : (choice number : ℕ) (file image : List ℕ) (left : List ℕ → Type 0) (step : Step) → left image → left_step file left step (image_step choice number file image step)
chosen_step choice number file image left (Wrote at bytes) had = (image, had, chosen_write (is_chosen choice number) at bytes.items image)
chosen_step choice number file image left Synced had = refl

pub chosen_left : (choice number : ℕ) (file image : List ℕ) (left : List ℕ → Type 0) (steps : List Step) → left image → left_after file left steps (image_from choice number file image steps)
chosen_left choice number file image left [] had = had
chosen_left choice number file image left (step ∷ steps) had =
    chosen_left choice (next_number number step) (file_step file step) (image_step choice number file image step) (left_step file left step) steps (chosen_step choice number file image left step had)

pub chosen_is_left : (choice : ℕ) (first : List ℕ) (steps : List Step) → left_of first steps (image_from choice 0 first first steps)
chosen_is_left choice first steps = chosen_left choice 0 first first (λ c. c ≡ first) steps refl
