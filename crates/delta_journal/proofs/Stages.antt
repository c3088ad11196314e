-- What a journal's file stands for at each stage.
use Rattle.std.proofs.Common.{◌≡◌, ◌⊎◌, inl, inr, ℕ, ◌+◌, List, [], ◌∷◌, ◌++◌, length, true, false, refl, sym, ◌∙◌, ap, subst, arith, append_assoc, length-append}
use Rattle.std.specs.Prelude.{Result, Ok, Err, OnErr}
use Rattle.std.proofs.lemmas.List.{append-nil}
use Rattle.disk_model.specs.Disk.{DiskView, Kept, overwritten}
use Rattle.disk_model.proofs.Moments.{kept_weaker}
use Rattle.disk_model.specs.declared.disk.Disk.{Ghosts}
use Rattle.delta_journal.specs.File.{Closed, StandsFor, StandsForEither, header, framed, blocks, opened}
use Rattle.delta_journal.specs.Shape.{Staged, HasShape, Spares}
use Rattle.delta_journal.specs.Stage.{IsEmptyAt, IsBlock, HasBlock, front_at, shape_at, left_over_at, record_in, is_unsure_at, repaired_at}
use Rattle.delta_journal.specs.Journal.{IsJournal, on_disk, left_over}
use Rattle.delta_journal.specs.declared.journal.Journal.{Journal}
use Rattle.delta_journal.specs.declared.stage.Stage.{Stage}
use Rattle.delta_journal.specs.declared.stage.Stage.TheVariants.{Blank, Shut, Opening, Headed, Adding}
use Rattle.delta_journal.proofs.Files.{staged_meaning, staged_shut}

pub on_err : {T E P : Type 0} (result : Result T E) → P → OnErr result P
on_err (Ok value) so = tt
on_err (Err fault) so = so

pub blocks-push : (records : List (List ℕ)) (more : List ℕ) → blocks (records ++ more ∷ []) ≡ blocks records ++ 1 ∷ framed more
blocks-push [] more = ap (λ (l : List ℕ). 1 ∷ l) (append-nil (framed more))
blocks-push (bytes ∷ records) more =
    ap (λ (l : List ℕ). 1 ∷ (framed bytes ++ l)) (blocks-push records more) ∙ ap (λ (l : List ℕ). 1 ∷ l) (sym (append_assoc (framed bytes) (blocks records) (1 ∷ framed more)))

pub opened-push : (name : List ℕ) (records : List (List ℕ)) (more : List ℕ) → opened name records ++ 1 ∷ framed more ≡ opened name (records ++ more ∷ [])
opened-push name records more =
    ap (λ (l : List ℕ). 1 ∷ l) (append_assoc (header name) (blocks records) (1 ∷ framed more)) ∙ ap (λ (l : List ℕ). 1 ∷ (header name ++ l)) (sym (blocks-push records more))

pub opened-none : (name : List ℕ) (records : List (List ℕ)) → records ≡ [] → 1 ∷ header name ≡ opened name records
opened-none name records none = ap (λ (l : List ℕ). 1 ∷ l) (sym (append-nil (header name))) ∙ ap (opened name) (sym none)

-- after the records the gate is closed, or it is open with this body after it and a closed gate
abbrev pub IsOpenOrClosed : List ℕ → List ℕ → List ℕ → Type 0
IsOpenOrClosed front body file = Closed front file ⊎ Closed (front ++ 1 ∷ body) file

pub header_stands : (name : List ℕ) (records : List (List ℕ)) (c : List ℕ) → records ≡ [] → IsOpenOrClosed [] (header name) c → StandsFor name records c
header_stands name records c none (inl closed) = inl (none, inr closed)
header_stands name records c none (inr is_open) = inr (subst (λ (f : List ℕ). Closed f c) (opened-none name records none) is_open)

pub record_stands : (name : List ℕ) (records : List (List ℕ)) (more c : List ℕ) → IsOpenOrClosed (opened name records) (framed more) c → StandsForEither name records (more ∷ []) c
record_stands name records more c (inl closed) = inl (inr closed)
record_stands name records more c (inr is_open) = inr (inr (subst (λ (f : List ℕ). Closed f c) (opened-push name records more) is_open))

-- the place of the gate after one record more
pub place_after : (name : List ℕ) (records : List (List ℕ)) (block : List ℕ) (place : ℕ) → place ≡ length (opened name records) → IsBlock block
    → place + length block ≡ length (opened name (records ++ record_in block ∷ []))
place_after name records block place at is =
    let front = opened name records in
    let body = framed (record_in block) in
    let size : length block ≡ length body + 1 = ap length is ∙ length-append body (0 ∷ []) in
    let joined : length (front ++ 1 ∷ body) ≡ length front + length (1 ∷ body) = length-append front (1 ∷ body) in
    let sum : place + length block ≡ length (front ++ 1 ∷ body) = omega arith in
    sum ∙ ap length (opened-push name records (record_in block))

pub place_headed : (name : List ℕ) (records : List (List ℕ)) (block : List ℕ) → records ≡ [] → block ≡ header name ++ 0 ∷ [] → length block ≡ length (opened name records)
place_headed name records block none is = omega (arith, ap length is, length-append (header name) (0 ∷ []), ap length (opened-none name records none))

-- a file at this stage stands for these records, or for these and the one left over
pub shape_stands : (stage : Stage) (name : List ℕ) (records : List (List ℕ)) (c : List ℕ) → IsEmptyAt stage records → HasBlock stage → HasShape (shape_at stage name records) c
    → StandsForEither name records (left_over_at stage) c
shape_stands Blank name records c none block has = inl (inl (none, inl has))
shape_stands Shut name records c none block has = inl (inl (none, inr has))
shape_stands Opening name records c none block has = inl (header_stands name records c none (staged_meaning [] (header name) c has))
shape_stands Headed name records c none block has = inl (inr has)
shape_stands (Adding b) name records c none block has =
    record_stands name records (record_in b.items) c (staged_meaning (opened name records) (framed (record_in b.items)) c (subst (λ (l : List ℕ). Staged (opened name records) l c) block has))

pub journal_stands : {K : Type 0} {disk : Ghosts K} (name : List ℕ) (records : List (List ℕ)) (journal : Journal K disk) → IsJournal name records journal
    → Kept (on_disk journal) (StandsForEither name records (left_over journal))
journal_stands name records journal is = record {
  now = shape_stands journal.stage name records _ is.empty is.block is.file.now;
  left = λ c left. shape_stands journal.stage name records c is.empty is.block (is.file.left c left);
}

module _ {K : Type 0} {disk : Ghosts K} (name : List ℕ) (records : List (List ℕ)) (journal : Journal K disk) (is : IsJournal name records journal) where
  pub headed_file : journal.stage ≡ Headed → Kept (on_disk journal) (Closed (opened name records))
  headed_file at = subst (λ (s : Stage). Kept (on_disk journal) (HasShape (shape_at s name records))) at is.file

  pub headed_place : journal.stage ≡ Headed → journal.place ≡ length (opened name records)
  headed_place at = is.place ∙ ap (λ (s : Stage). length (front_at s name records)) at

  pub shut_file : journal.stage ≡ Shut → Kept (on_disk journal) (Closed [])
  shut_file at = subst (λ (s : Stage). Kept (on_disk journal) (HasShape (shape_at s name records))) at is.file

  pub shut_place : journal.stage ≡ Shut → journal.place ≡ 0
  shut_place at = is.place ∙ ap (λ (s : Stage). length (front_at s name records)) at

  pub shut_none : journal.stage ≡ Shut → records ≡ []
  shut_none at = subst (λ (s : Stage). IsEmptyAt s records) at is.empty

-- the gate that may be open is written anew
pub repair_spares : (stage : Stage) (name : List ℕ) (records : List (List ℕ)) (place : ℕ) → is_unsure_at stage ≡ true → place ≡ length (front_at stage name records) → Spares (shape_at stage name records) place 1
repair_spares Blank name records place unsure at = cc unsure
repair_spares Shut name records place unsure at = cc unsure
repair_spares Opening name records place unsure at = (at, refl)
repair_spares Headed name records place unsure at = cc unsure
repair_spares (Adding block) name records place unsure at = (at, refl)

pub repair_shape : (stage : Stage) (name : List ℕ) (records : List (List ℕ)) (d c : List ℕ) → is_unsure_at stage ≡ true → HasShape (shape_at stage name records) d
    → c ≡ overwritten d (length (front_at stage name records)) (0 ∷ []) → HasShape (shape_at (repaired_at stage) name records) c
repair_shape Blank name records d c unsure has is = cc unsure
repair_shape Shut name records d c unsure has is = cc unsure
repair_shape Opening name records d c unsure has is = staged_shut [] (header name ++ 0 ∷ []) d c has is
repair_shape Headed name records d c unsure has is = cc unsure
repair_shape (Adding block) name records d c unsure has is = staged_shut (opened name records) block.items d c has is

pub front-repaired : (stage : Stage) (name : List ℕ) (records : List (List ℕ)) → front_at (repaired_at stage) name records ≡ front_at stage name records
front-repaired Blank name records = refl
front-repaired Shut name records = refl
front-repaired Opening name records = refl
front-repaired Headed name records = refl
front-repaired (Adding block) name records = refl

pub repair_empty : (stage : Stage) (records : List (List ℕ)) → IsEmptyAt stage records → IsEmptyAt (repaired_at stage) records
repair_empty Blank records none = none
repair_empty Shut records none = none
repair_empty Opening records none = none
repair_empty Headed records none = none
repair_empty (Adding block) records none = tt

pub repair_block : (stage : Stage) → HasBlock (repaired_at stage)
repair_block Blank = tt
repair_block Shut = tt
repair_block Opening = tt
repair_block Headed = tt
repair_block (Adding block) = tt

pub repair_stands : (stage : Stage) (name : List ℕ) (records : List (List ℕ)) (c : List ℕ) → is_unsure_at stage ≡ true → IsEmptyAt stage records → HasShape (shape_at (repaired_at stage) name records) c → StandsFor name records c
repair_stands Blank name records c unsure none has = cc unsure
repair_stands Shut name records c unsure none has = cc unsure
repair_stands Opening name records c unsure none has = inl (none, inr has)
repair_stands Headed name records c unsure none has = cc unsure
repair_stands (Adding block) name records c unsure none has = inr has

module _ {K : Type 0} {disk : Ghosts K} (name : List ℕ) (records : List (List ℕ)) (journal : Journal K disk) (is : IsJournal name records journal) where
  pub headed_images : journal.stage ≡ Headed → (c : List ℕ) → (on_disk journal).may_leave c → StandsFor name records c
  headed_images at c left = inr ((headed_file name records journal is at).left c left)

  -- the file once the gate in question is written closed
  pub repair_file : (new : DiskView) → is_unsure_at journal.stage ≡ true → Kept new (λ c. c ≡ overwritten (on_disk journal).seen journal.place (0 ∷ []))
      → Kept new (HasShape (shape_at (repaired_at journal.stage) name records))
  repair_file new unsure written = kept_weaker new (λ c. c ≡ overwritten (on_disk journal).seen journal.place (0 ∷ [])) (HasShape (shape_at (repaired_at journal.stage) name records))
      (λ c so. repair_shape journal.stage name records (on_disk journal).seen c unsure is.file.now (so ∙ ap (λ (p : ℕ). overwritten (on_disk journal).seen p (0 ∷ [])) is.place)) written

pub sure_stands : (stage : Stage) (name : List ℕ) (records : List (List ℕ)) (c : List ℕ) → is_unsure_at stage ≡ false → IsEmptyAt stage records → HasShape (shape_at stage name records) c → StandsFor name records c
sure_stands Blank name records c sure none has = inl (none, inl has)
sure_stands Shut name records c sure none has = inl (none, inr has)
sure_stands Opening name records c sure none has = cc sure
sure_stands Headed name records c sure none has = inr has
sure_stands (Adding block) name records c sure none has = cc sure
