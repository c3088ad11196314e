-- What is written for each kind of value.
--     count_data n         a number
--     bytes_data b         the base64 of bytes: standard alphabet, with padding (RFC 4648)
use Rattle.std.specs.Prelude.{ℕ, List}
use Rattle.base64.specs.Engines.{standard}
use Rattle.base64.specs.GeneralPurpose.{encode_of}
use Rattle.serde_json.specs.Data.{Data, number, unsigned, string}

abbrev pub count_data : ℕ → Data
count_data n = number (unsigned n)

abbrev pub bytes_data : List ℕ → Data
bytes_data b = string (encode_of standard b)
