use Rattle.std.proofs.Common.{◌≡◌, ◌≤◌, ◌++◌, length, drop}
use Rattle.wave_index.specs.Titles.{max_title, title}
use Rattle.wave_index.proofs.Titles.{rest_of}
use Rattle.wave_index.proofs.title.title.Given as goal

abbrev pub invariant-loop-place : goal.invariant-loop-place
invariant-loop-place l = record {
  read : l.text.items ++ rest_of l.text.items (drop l.place l.document) ≡ title l.document;
  short : length l.text.items ≤ max_title;
}
