-- Reasons, by their names.
--     closed_named t, closed_of d     why a wavelet is open no more
--     bad_named t, bad_of d           why a message was refused
--     closed_name r, bad_name r       what is written for each
use Rattle.std.specs.Prelude.{ℕ, if◌then◌else◌, List, Option, Some, None, option_and_then, codes}
use Rattle.std.specs.Str.{bytes_eq}
use Rattle.serde_json.specs.Data.{Data}
use Rattle.serde_json.specs.Find.{as_str}
use Rattle.wavelet_json.specs.declared.reason.ClosedReason.{ClosedReason}
use Rattle.wavelet_json.specs.declared.reason.ClosedReason.TheVariants.{Asked, Access}
use Rattle.wavelet_json.specs.declared.reason.BadReason.{BadReason}
use Rattle.wavelet_json.specs.declared.reason.BadReason.TheVariants.{TooLong, NotJson, TooMany, NotMessage, BadUser, NotOpen, NoHost, Store}

-- ---- read

abbrev pub closed_named : List ℕ → Option ClosedReason
closed_named t = if bytes_eq t (codes "asked") then Some Asked else (if bytes_eq t (codes "access") then Some Access else None)

abbrev pub closed_of : Data → Option ClosedReason
closed_of d = option_and_then closed_named (as_str d)

abbrev pub bad_named : List ℕ → Option BadReason
bad_named t = if bytes_eq t (codes "TooLong") then Some TooLong
    else (if bytes_eq t (codes "NotJson") then Some NotJson
    else (if bytes_eq t (codes "TooMany") then Some TooMany
    else (if bytes_eq t (codes "NotMessage") then Some NotMessage
    else (if bytes_eq t (codes "BadUser") then Some BadUser
    else (if bytes_eq t (codes "NotOpen") then Some NotOpen
    else (if bytes_eq t (codes "NoHost") then Some NoHost
    else (if bytes_eq t (codes "Store") then Some Store
    else None)))))))

abbrev pub bad_of : Data → Option BadReason
bad_of d = option_and_then bad_named (as_str d)

-- ---- written

abbrev pub closed_name : ClosedReason → List ℕ
closed_name Asked = codes "asked"
closed_name Access = codes "access"

abbrev pub bad_name : BadReason → List ℕ
bad_name TooLong = codes "TooLong"
bad_name NotJson = codes "NotJson"
bad_name TooMany = codes "TooMany"
bad_name NotMessage = codes "NotMessage"
bad_name BadUser = codes "BadUser"
bad_name NotOpen = codes "NotOpen"
bad_name NoHost = codes "NoHost"
bad_name Store = codes "Store"
