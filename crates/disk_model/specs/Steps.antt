-- What steps make of a file: `file_after` is the file, `left_of` are the images that a crash may leave after them,
-- `since_of` those that it might have left since a moment, and `image_from` is the image of a choice; and
-- which calls are to fail.
use Rattle.std.specs.Prelude.{◌≡◌, ℕ, ◌+◌, ◌-◌, ◌%◌, ◌≤◌, Bool, false, cond, nat_eq, nat_le, ◌||◌, List, [], ◌∷◌, ◌++◌, length, take, replicate, Option, Some, None, Vec}
use Rattle.std.specs.Int.{bit_at}
use Rattle.std.specs.List.{list_any}
use Rattle.std.specs.declared.alloc.Global.{Global}
use Rattle.disk_model.specs.Disk.{Torn, overwritten}
use Rattle.disk_model.specs.declared.memory.Step.{Step}
use Rattle.disk_model.specs.declared.memory.Step.TheVariants.{Wrote, Synced}

-- the file after one more step
abbrev pub file_step : List ℕ → Step → List ℕ
file_step file (Wrote at bytes) = overwritten file at bytes.items
file_step file Synced = file

-- the file after these steps
abbrev pub file_after : List ℕ → List Step → List ℕ
file_after file [] = file
file_after file (step ∷ steps) = file_after (file_step file step) steps

-- what a crash may leave after one more step on this file
abbrev pub left_step : List ℕ → (List ℕ → Type 0) → Step → List ℕ → Type 0
left_step file left (Wrote at bytes) = λ c. (d : List ℕ) × left d × Torn at (length bytes.items) d c
left_step file left Synced = λ c. c ≡ file

-- what a crash may leave after these steps on this file
abbrev pub left_after : List ℕ → (List ℕ → Type 0) → List Step → List ℕ → Type 0
left_after file left [] = left
left_after file left (step ∷ steps) = left_after (file_step file step) (left_step file left step) steps

-- what a crash may leave after these steps on a file that was synced
abbrev pub left_of : List ℕ → List Step → List ℕ → Type 0
left_of first steps = left_after first (λ c. c ≡ first) steps

-- what a crash might have left after the first t steps, or later
abbrev pub since_of : List ℕ → List Step → ℕ → List ℕ → Type 0
since_of first steps t c = (k : ℕ) × (t ≤ k) × (k ≤ length steps) × left_of first (take k steps) c

-- the file before the first step, where it was kept, and else the file now
abbrev pub file_before : Option (Vec ℕ Global) → List ℕ → List ℕ
file_before None now = now
file_before (Some file) now = file.items

-- the file with these bytes at this offset, and 0 between its end and there
abbrev pub placed : List ℕ → ℕ → List ℕ → List ℕ
placed file at bytes = overwritten (file ++ replicate (at - length file) 0) at bytes

-- whether the image of a choice has the write of this number: bit number modulo 64
abbrev pub is_chosen : ℕ → ℕ → Bool
is_chosen choice number = nat_eq (bit_at choice (number % 64)) 1

-- the image after one more step on this file; the step has this number since the last sync
abbrev pub image_step : ℕ → ℕ → List ℕ → List ℕ → Step → List ℕ
image_step choice number file image (Wrote at bytes) = cond (is_chosen choice number) (placed image at bytes.items) image
image_step choice number file image Synced = file

-- the number of the next step since the last sync
abbrev pub next_number : ℕ → Step → ℕ
next_number number (Wrote at bytes) = number + 1
next_number number Synced = 0

-- The image of a choice, from this file and this image of it on: of the writes since the last sync it has the
-- chosen ones.
abbrev pub image_from : ℕ → ℕ → List ℕ → List ℕ → List Step → List ℕ
image_from choice number file image [] = image
image_from choice number file image (step ∷ steps) =
    image_from choice (next_number number step) (file_step file step) (image_step choice number file image step) steps

-- whether all calls from some number on fail, and this is one of them
abbrev pub is_stopped : Option ℕ → ℕ → Bool
is_stopped None number = false
is_stopped (Some first) number = nat_le first number

-- whether the call of this number is to fail
abbrev pub is_to_fail : List ℕ → Option ℕ → ℕ → Bool
is_to_fail failing stop number = is_stopped stop number || list_any (λ n. nat_eq n number) failing
