-- The line that tells of a load.
--     line n s      `load N version V items I hash X`, with the hash in base64 (RFC 4648), and a line feed
use Rattle.std.specs.Prelude.{ℕ, List, ◌++◌, codes, decimal}
use Rattle.base64.specs.Engines.{standard}
use Rattle.base64.specs.GeneralPurpose.{encode_of}
use Rattle.load_script.specs.declared.summary.Summary.{Summary}

abbrev pub line : ℕ → Summary → List ℕ
line n s = codes "load " ++ decimal n ++ codes " version " ++ decimal s.version ++ codes " items " ++ decimal s.items ++ codes " hash "
    ++ encode_of standard s.hash ++ codes "\n"
