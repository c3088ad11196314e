-- Verdicts and reasons not to open a wavelet, in the members of an object that has `others` members beside theirs.
--     index_of d                           the index of an operation, 0 to 999
--     refusal_named others kind d          a verdict other than an acknowledgement, by the name of its reason
--     refusal_of others d                  so in the member `reason`, with the members that this reason has
--     ack_of others d                      an acknowledgement, in the members `at`, `version` and `hash`
--     answer_of d                          an object that holds a verdict alone
--     unopened_named kind d, unopened_of d     so why a wavelet wasn't opened, beside two other members
--     IsTold v                             the verdict's numbers are in range
--     with_version, with_reason, with_verdict, with_unopened      the members that are written, put among others
--     is_refusal v                         the verdict is no acknowledgement
use Rattle.std.specs.Prelude.{◌≤◌, ℕ, ◌+◌, Bool, true, false, if◌then◌else◌, List, Option, Some, None, is_some, option_map, option_and_then, codes}
use Rattle.std.specs.Str.{bytes_eq}
use Rattle.serde_json.specs.Data.{Data, Members, string, put}
use Rattle.serde_json.specs.Find.{get, as_str}
use Rattle.doc_items.specs.Limits.{max_count}
use Rattle.op_json.specs.Read.{whole_number}
use Rattle.wavelet_op.specs.declared.verdict.Verdict.{Verdict}
use Rattle.wavelet_op.specs.declared.verdict.Verdict.TheVariants.{Ack, NotParticipant, ReadOnly, UnknownVersion, WrongHash, Invalid, Full}
use Rattle.wave_base.specs.Versions.{VersionAt}
use Rattle.json_fields.specs.Write.{count_data, bytes_data}
use Rattle.json_fields.specs.Read.{in_member, within, count_of, hash_of, version_of}
use Rattle.wavelet_json.specs.Operations.{of_members}
use Rattle.wavelet_json.specs.declared.reason.UnopenedReason.{UnopenedReason}
use Rattle.wavelet_json.specs.declared.reason.UnopenedReason.TheVariants as unopened

abbrev pub index_of : Data → Option ℕ
index_of d = within 999 (whole_number d)

abbrev pub refusal_named : ℕ → List ℕ → Data → Option Verdict
refusal_named others kind d = if bytes_eq kind (codes "NotParticipant") then of_members (others + 1) d (Some NotParticipant)
    else (if bytes_eq kind (codes "ReadOnly") then of_members (others + 1) d (Some ReadOnly)
    else (if bytes_eq kind (codes "UnknownVersion") then of_members (others + 3) d (option_map UnknownVersion (version_of d))
    else (if bytes_eq kind (codes "WrongHash") then of_members (others + 2) d (option_map WrongHash (in_member hash_of (codes "hash") d))
    else (if bytes_eq kind (codes "Invalid") then of_members (others + 2) d (option_map Invalid (in_member index_of (codes "index") d))
    else (if bytes_eq kind (codes "Full") then of_members (others + 3) d (option_map Full (version_of d))
    else None)))))

abbrev pub refusal_of : ℕ → Data → Option Verdict
refusal_of others d = option_and_then (λ kind. refusal_named others kind d) (in_member as_str (codes "reason") d)

abbrev pub ack_of : ℕ → Data → Option Verdict
ack_of others d = of_members (others + 3) d
    (option_and_then (λ place. option_map (λ to. Ack place to) (version_of d)) (in_member count_of (codes "at") d))

abbrev pub answer_of : Data → Option Verdict
answer_of d = if is_some (get (codes "reason") d) then refusal_of 0 d else ack_of 0 d

-- ---- wavelets that weren't opened

abbrev pub unopened_named : List ℕ → Data → Option UnopenedReason
unopened_named kind d = if bytes_eq kind (codes "NotParticipant") then of_members 3 d (Some unopened.NotParticipant)
    else (if bytes_eq kind (codes "UnknownVersion") then of_members 5 d (option_map unopened.UnknownVersion (version_of d))
    else (if bytes_eq kind (codes "WrongHash") then of_members 4 d (option_map unopened.WrongHash (in_member hash_of (codes "hash") d))
    else (if bytes_eq kind (codes "TooLarge") then of_members 3 d (Some unopened.TooLarge)
    else None)))

abbrev pub unopened_of : Data → Option UnopenedReason
unopened_of d = option_and_then (λ kind. unopened_named kind d) (in_member as_str (codes "reason") d)

-- ---- in range

abbrev pub IsTold : Verdict → Type 0
IsTold (Ack place to) = place ≤ max_count
IsTold NotParticipant = Unit {0}
IsTold ReadOnly = Unit {0}
IsTold (UnknownVersion head) = Unit {0}
IsTold (WrongHash host) = Unit {0}
IsTold (Invalid index) = index ≤ 999
IsTold (Full head) = Unit {0}

abbrev pub is_refusal : Verdict → Bool
is_refusal (Ack place to) = false
is_refusal NotParticipant = true
is_refusal ReadOnly = true
is_refusal (UnknownVersion head) = true
is_refusal (WrongHash host) = true
is_refusal (Invalid index) = true
is_refusal (Full head) = true

-- ---- written

abbrev pub with_version : VersionAt → Members → Members
with_version v ms = put (codes "hash") (bytes_data v.hash) (put (codes "version") (count_data v.version) ms)

abbrev pub with_reason : List ℕ → Members → Members
with_reason name ms = put (codes "reason") (string name) ms

abbrev pub with_verdict : Verdict → Members → Members
with_verdict (Ack place to) ms = put (codes "at") (count_data place) (with_version to ms)
with_verdict NotParticipant ms = with_reason (codes "NotParticipant") ms
with_verdict ReadOnly ms = with_reason (codes "ReadOnly") ms
with_verdict (UnknownVersion head) ms = with_version head (with_reason (codes "UnknownVersion") ms)
with_verdict (WrongHash host) ms = put (codes "hash") (bytes_data host) (with_reason (codes "WrongHash") ms)
with_verdict (Invalid index) ms = put (codes "index") (count_data index) (with_reason (codes "Invalid") ms)
with_verdict (Full head) ms = with_version head (with_reason (codes "Full") ms)

abbrev pub with_unopened : UnopenedReason → Members → Members
with_unopened unopened.NotParticipant ms = with_reason (codes "NotParticipant") ms
with_unopened (unopened.UnknownVersion head) ms = with_version head (with_reason (codes "UnknownVersion") ms)
with_unopened (unopened.WrongHash host) ms = put (codes "hash") (bytes_data host) (with_reason (codes "WrongHash") ms)
with_unopened unopened.TooLarge ms = with_reason (codes "TooLarge") ms
