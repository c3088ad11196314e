-- How far a journal's file is, by the stage that the journal keeps. The gate in question is the header's where there
-- is no header yet, and else the one after the records.
use Rattle.std.specs.Prelude.{◌≡◌, ℕ, ◌+◌, ◌-◌, Bool, true, false, List, [], ◌∷◌, ◌++◌, length, take, drop}
use Rattle.delta_journal.specs.File.{header, framed, opened}
use Rattle.delta_journal.specs.Shape.{Shape, no_gate, shut_gate, any_gate}
use Rattle.delta_journal.specs.declared.stage.Stage.{Stage}
use Rattle.delta_journal.specs.declared.stage.Stage.TheVariants.{Blank, Shut, Opening, Headed, Adding}

-- what stands before the gate in question
abbrev pub front_at : Stage → List ℕ → List (List ℕ) → List ℕ
front_at Blank name records = []
front_at Shut name records = []
front_at Opening name records = []
front_at Headed name records = opened name records
front_at (Adding block) name records = opened name records

-- without a header there are no records
abbrev pub IsEmptyAt : Stage → List (List ℕ) → Type 0
IsEmptyAt Blank records = records ≡ []
IsEmptyAt Shut records = records ≡ []
IsEmptyAt Opening records = records ≡ []
IsEmptyAt Headed records = Unit {0}
IsEmptyAt (Adding block) records = Unit {0}

-- the shape of the file, and of each image
abbrev pub shape_at : Stage → List ℕ → List (List ℕ) → Shape
shape_at Blank name records = no_gate
shape_at Shut name records = shut_gate []
shape_at Opening name records = any_gate [] (header name ++ 0 ∷ [])
shape_at Headed name records = shut_gate (opened name records)
shape_at (Adding block) name records = any_gate (opened name records) block.items

-- the record in a block: a length of eight bytes, the record and a closed gate
abbrev pub record_in : List ℕ → List ℕ
record_in block = take (length block - 9) (drop 8 block)

-- the record that a crash may leave after the others
abbrev pub left_over_at : Stage → List (List ℕ)
left_over_at Blank = []
left_over_at Shut = []
left_over_at Opening = []
left_over_at Headed = []
left_over_at (Adding block) = record_in block.items ∷ []

-- a block is one record's
abbrev pub IsBlock : List ℕ → Type 0
IsBlock block = block ≡ framed (record_in block) ++ 0 ∷ []

-- the block after the gate in question, where there is one, is one record's
abbrev pub HasBlock : Stage → Type 0
HasBlock Blank = Unit {0}
HasBlock Shut = Unit {0}
HasBlock Opening = Unit {0}
HasBlock Headed = Unit {0}
HasBlock (Adding block) = IsBlock block.items

-- the gate in question may be open
abbrev pub is_unsure_at : Stage → Bool
is_unsure_at Blank = false
is_unsure_at Shut = false
is_unsure_at Opening = true
is_unsure_at Headed = false
is_unsure_at (Adding block) = true

-- the stage once the gate in question is closed again
abbrev pub repaired_at : Stage → Stage
repaired_at Blank = Blank
repaired_at Shut = Shut
repaired_at Opening = Shut
repaired_at Headed = Headed
repaired_at (Adding block) = Headed

-- how many bytes the file has at least, with the gate in question at `place`
abbrev pub least_length : Stage → ℕ → ℕ
least_length Blank place = 0
least_length Shut place = place + 1
least_length Opening place = place + 1
least_length Headed place = place + 1
least_length (Adding block) place = place + 1
