-- What an object in memory shows: `bytes_left` and `bytes_written`, its bytes; `source_calls` and `sink_calls`, its
-- calls, of which `fails_next` tells whether the next one fails, and `WasCalled` what one leaves.
use Rattle.std.specs.Prelude.{◌≡◌, ℕ, ◌==◌, Bool, List, drop, MatchResult, Result}
use Rattle.std.specs.List.{list_any}
use Rattle.wave_outside.specs.Counts.{raised}
use Rattle.wave_outside.specs.declared.calls.Calls.{Calls}
use Rattle.wave_outside.specs.declared.memory.MemorySource.{MemorySource}
use Rattle.wave_outside.specs.declared.memory.MemorySink.{MemorySink}

-- the bytes that are still to be read
abbrev pub bytes_left : MemorySource → List ℕ
bytes_left s = drop s.at s.bytes.items

-- the bytes that were written
abbrev pub bytes_written : MemorySink → List ℕ
bytes_written s = s.bytes.items

abbrev pub source_calls : MemorySource → Calls
source_calls s = s.calls

abbrev pub sink_calls : MemorySink → Calls
sink_calls s = s.calls

-- the number of the next call is among those that fail
abbrev pub fails_next : Calls → Bool
fails_next c = list_any (λ n. n == c.made) c.failing.items

-- no call was made yet, and those with these numbers fail
pub record IsUncalled (c : Calls) (numbers : List ℕ) : Type 0 where
  pub made : c.made ≡ 0
  pub failing : c.failing.items ≡ numbers
  pub faults : c.faults.count ≡ 0

-- one call was made, and the count of faults rose exactly if it failed
pub record WasCalled {T E : Type 0} (old new : Calls) (result : Result T E) : Type 0 where
  pub made : new.made ≡ raised old.made
  pub failing : new.failing ≡ old.failing
  pub faults : MatchResult result (λ _. new.faults.count ≡ old.faults.count) (λ _. new.faults.count ≡ raised old.faults.count)
