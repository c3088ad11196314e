-- One more step joins those that a `MemoryDisk` keeps.
use Rattle.std.proofs.Common.{◌≡◌, ◌≢◌, inl, inr, ℕ, ◌+◌, ◌≤◌, List, [], ◌∷◌, ◌++◌, length, take, Option, Vec, sym, ap, ◌∙◌, subst, refl, arith, length-append}
use Rattle.std.proofs.lemmas.List.{take_all, take-append-le}
use Rattle.std.proofs.lemmas.Bool.{cases_eq}
use Rattle.std.specs.declared.alloc.Global.{Global}
use Rattle.disk_model.specs.Disk.{Torn, Elapses}
use Rattle.disk_model.specs.Memory.{view_of}
use Rattle.disk_model.proofs.Torn.{torn_same}
use Rattle.disk_model.specs.Steps.{file_step, file_after, file_before, left_step, left_after, left_of}
use Rattle.disk_model.specs.declared.memory.Step.{Step}
use Rattle.disk_model.specs.declared.memory.Step.TheVariants.{Wrote, Synced}

pub file_after-push : (file : List ℕ) (steps : List Step) (step : Step) → file_after file (steps ++ step ∷ []) ≡ file_step (file_after file steps) step
file_after-push file [] step = refl
file_after-push file (s ∷ steps) step = file_after-push (file_step file s) steps step

left_push : (file : List ℕ) (left : List ℕ → Type 0) (steps : List Step) (step : Step) (c : List ℕ)
    → left_after file left (steps ++ step ∷ []) c → left_step (file_after file steps) (left_after file left steps) step c
left_push file left [] step c so = so
left_push file left (s ∷ steps) step c so = left_push (file_step file s) (left_step file left s) steps step c so

-- the file is still what the steps make of the first one
pub whole_after : (first later_first file later_file : List ℕ) (steps later : List Step) (step : Step) → file ≡ file_after first steps → later_file ≡ file_step file step
    → later_first ≡ first → later ≡ steps ++ step ∷ [] → later_file ≡ file_after later_first later
whole_after first later_first file later_file steps later step whole is same grown =
    is ∙ ap (λ (f : List ℕ). file_step f step) whole ∙ sym (file_after-push first steps step) ∙ ap (λ (l : List Step). file_after first l) (sym grown) ∙ ap (λ (f : List ℕ). file_after f later) (sym same)

grown : (first later_first : List ℕ) (steps later : List Step) (step : Step) → later_first ≡ first → later ≡ steps ++ step ∷ []
    → (c : List ℕ) → left_of later_first later c → left_step (file_after first steps) (left_of first steps) step c
grown first later_first steps later step same is c left =
    let there = subst (λ (f : List ℕ). left_of f later c) same left in
    let here = subst (λ (l : List Step). left_of first l c) is there in
    left_push first (λ f. f ≡ first) steps step c here

pub crash_write : (first later_first : List ℕ) (steps later : List Step) (at : ℕ) (v : Vec ℕ Global) (bytes : List ℕ) → later_first ≡ first → v.items ≡ bytes
    → later ≡ steps ++ Wrote at v ∷ [] → (c : List ℕ) → left_of later_first later c → (d : List ℕ) × left_of first steps d × Torn at (length bytes) d c
crash_write first later_first steps later at v bytes same same_bytes is c left =
    let from = grown first later_first steps later (Wrote at v) same is c left in
    (from.0, from.1, subst (λ (b : List ℕ). Torn at (length b) from.0 c) same_bytes from.2)

pub crash_none : (first later_first : List ℕ) (steps later : List Step) (at n : ℕ) → later_first ≡ first → later ≡ steps
    → (c : List ℕ) → left_of later_first later c → (d : List ℕ) × left_of first steps d × Torn at n d c
crash_none first later_first steps later at n same is c left =
    (c, subst (λ (l : List Step). left_of first l c) is (subst (λ (f : List ℕ). left_of f later c) same left), torn_same at n c)

pub crash_sync : (first later_first file : List ℕ) (steps later : List Step) → file ≡ file_after first steps → later_first ≡ first → later ≡ steps ++ Synced ∷ []
    → (c : List ℕ) → left_of later_first later c → c ≡ file
crash_sync first later_first file steps later whole same is c left = grown first later_first steps later Synced same is c left ∙ sym whole

pub time_push : (file later_file first later_first : List ℕ) (steps later : List Step) (faults later_faults : ℕ) (step : Step) → later_first ≡ first → later ≡ steps ++ step ∷ []
    → Elapses (view_of file first steps faults) (view_of later_file later_first later later_faults)
time_push file later_file first later_first steps later faults later_faults step same is = record {
  later = omega (arith, long);
  nothing_else = λ t c le since. elim (cases_eq since.0 (length steps + 1)) [
    | inl past ↦ inr (subst (λ (l : List Step). left_of later_first l c) (take_all since.0 later (omega (arith, long, past))) since.3)
    | inr other ↦ inl (since.0, since.1, before since.0 other since.2, subst (λ (f : List ℕ). left_of f (take since.0 steps) c) same (subst (λ (l : List Step). left_of later_first l c) (front since.0 (before since.0 other since.2)) since.3))
  ];
  keeps = λ t c le since. (since.0, since.1, omega (arith, long, since.2), subst (λ (f : List ℕ). left_of f (take since.0 later) c) (sym same) (subst (λ (l : List Step). left_of first l c) (sym (front since.0 since.2)) since.3));
}
  where
    long : length later ≡ length steps + 1
    long = ap length is ∙ length-append steps (step ∷ [])

    before : (k : ℕ) → k ≢ length steps + 1 → k ≤ length later → k ≤ length steps
    before k other le = omega (arith, long)

    front : (k : ℕ) → k ≤ length steps → take k later ≡ take k steps
    front k le = ap (λ (l : List Step). take k l) is ∙ take-append-le k steps (step ∷ []) le

-- the first file is the same, whichever way the file of now is named
pub first_same : (old new : Option (Vec ℕ Global)) (named file : List ℕ) → named ≡ file → file_before new named ≡ file_before old named → file_before new file ≡ file_before old file
first_same old new named file is same = subst (λ (f : List ℕ). file_before new f ≡ file_before old f) is same
