-- Counts in range, as tests.
use Rattle.std.proofs.Common.{◌≡◌, ◌≤◌, ℕ, true}
use Rattle.std.proofs.lemmas.Bool.{le-leb}
use Rattle.doc_items.specs.Limits.{max_count}
use Rattle.wavelet_json.specs.Good.{is_count}

pub counts : (n : ℕ) → n ≤ max_count → is_count n ≡ true
counts n h = le-leb n max_count h
