-- What is read as it was written.
--     is_count n                    at most max_count
--     IsGoodHash h                  a hash that is read back
--     IsGoodVersion v               a version in range with such a hash
--     IsGoodReason r, IsGoodVerdict v     a reason, a verdict whose versions and hashes are so
use Rattle.std.specs.Prelude.{◌≡◌, ℕ, Bool, true, nat_le, List, Some}
use Rattle.doc_items.specs.Limits.{max_count}
use Rattle.wave_base.specs.Versions.{VersionAt}
use Rattle.json_fields.specs.Read.{hash_of}
use Rattle.json_fields.specs.Write.{bytes_data}
use Rattle.wavelet_op.specs.declared.verdict.Verdict.{Verdict}
use Rattle.wavelet_op.specs.declared.verdict.Verdict.TheVariants as verdict
use Rattle.wavelet_json.specs.declared.reason.UnopenedReason.{UnopenedReason}
use Rattle.wavelet_json.specs.declared.reason.UnopenedReason.TheVariants as unopened

abbrev pub is_count : ℕ → Bool
is_count n = nat_le n max_count

abbrev pub IsGoodHash : List ℕ → Type 0
IsGoodHash h = hash_of (bytes_data h) ≡ Some h

abbrev pub IsGoodVersion : VersionAt → Type 0
IsGoodVersion v = (is_count v.version ≡ true) × IsGoodHash v.hash

abbrev pub IsGoodReason : UnopenedReason → Type 0
IsGoodReason unopened.NotParticipant = Unit {0}
IsGoodReason (unopened.UnknownVersion head) = IsGoodVersion head
IsGoodReason (unopened.WrongHash host) = IsGoodHash host
IsGoodReason unopened.TooLarge = Unit {0}

abbrev pub IsGoodVerdict : Verdict → Type 0
IsGoodVerdict (verdict.Ack place to) = IsGoodVersion to
IsGoodVerdict verdict.NotParticipant = Unit {0}
IsGoodVerdict verdict.ReadOnly = Unit {0}
IsGoodVerdict (verdict.UnknownVersion head) = IsGoodVersion head
IsGoodVerdict (verdict.WrongHash host) = IsGoodHash host
IsGoodVerdict (verdict.Invalid index) = Unit {0}
IsGoodVerdict (verdict.Full head) = IsGoodVersion head
