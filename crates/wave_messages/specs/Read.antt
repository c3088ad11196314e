-- What bytes are read as: the first of the refusals that holds, in this order, or the message.
--     Kind               too many bytes, no JSON, a submission of more than 1,000 operations, none of the table
--     items_len ds       how many items an array has
--     is_handed_in d     an object whose `type` is that of a submission, from a client or from another domain
--     too_many d         such an object whose `operations` are an array of more than 1,000 items
--     judged d           what the value is read as
--     data_of b          the value of a JSON text in UTF-8
--     read_of b limit    what bytes are read as under a limit
--     max_client         the most bytes of a message from a client, and of a line
--     named_session d    the session that a value names
--     line_of d, line_read b     a value, and bytes, as a line: the session and its message; or the session that is named, and why
--                        there is none
use Rattle.std.specs.Prelude.{ℕ, suc, nat_lt, List, length, Bool, false, ◌&&◌, ◌||◌, if◌then◌else◌, Option, Some, None, option_and_then, Result, Ok, Err, codes}
use Rattle.std.specs.Option.{option_map_or, ok_or}
use Rattle.std.specs.Str.{bytes_eq, is_utf8}
use Rattle.serde_json.specs.Data.{Data, Items, no_items, item}
use Rattle.serde_json.specs.Find.{get, as_str, as_array}
use Rattle.serde_json.specs.Read.{read}
use Rattle.wave_base.specs.Grammar.{is_id}
use Rattle.json_fields.specs.Read.{in_member, good_text, has_members}
use Rattle.message_json.specs.Read.{message_of}
use Rattle.message_json.specs.declared.message.Message.{Message}
use Rattle.wave_messages.specs.declared.fault.Kind.{Kind}
use Rattle.wave_messages.specs.declared.fault.Kind.TheVariants.{TooLong, NotJson, TooMany, NotMessage}

-- ---- messages

abbrev pub items_len : Items → ℕ
items_len no_items = 0
items_len (item d ds) = suc (items_len ds)

abbrev pub is_kind_handed_in : List ℕ → Bool
is_kind_handed_in kind = bytes_eq kind (codes "submit") || bytes_eq kind (codes "relay")

abbrev pub is_handed_in : Data → Bool
is_handed_in d = option_map_or is_kind_handed_in (in_member as_str (codes "type") d) false

abbrev pub is_long : Data → Bool
is_long d = option_map_or (λ ds. nat_lt 1000 (items_len ds)) (in_member as_array (codes "operations") d) false

abbrev pub too_many : Data → Bool
too_many d = is_handed_in d && is_long d

abbrev pub judged : Data → Result Message Kind
judged d = if too_many d then Err TooMany else ok_or (message_of d) NotMessage

abbrev pub data_of : List ℕ → Option Data
data_of b = if is_utf8 b then read b else None

abbrev pub if_data : {X : Type 0} → X → (Data → X) → Option Data → X
if_data x f None = x
if_data x f (Some d) = f d

abbrev pub read_of : List ℕ → ℕ → Result Message Kind
read_of b limit = if nat_lt limit (length b) then Err TooLong else if_data (Err NotJson) judged (data_of b)

-- ---- lines

abbrev pub max_client : ℕ
max_client = 1048576

abbrev pub named_session : Data → Option (List ℕ)
named_session d = in_member (good_text is_id) (codes "session") d

abbrev pub Refused : Type 0
Refused = Option (List ℕ) × Kind

-- the session with what its message is read as
abbrev pub to_session : List ℕ → Result Message Kind → Result (List ℕ × Message) Refused
to_session session (Ok m) = Ok (session, m)
to_session session (Err k) = Err (Some session, k)

-- a session and a message that stand alone in the object
abbrev pub framed : Data → Option (List ℕ × Data)
framed d = if has_members 2 d then option_and_then (λ session. option_and_then (λ m. Some (session, m)) (get (codes "message") d))
    (named_session d) else None

abbrev pub line_in : Option (List ℕ) → Option (List ℕ × Data) → Result (List ℕ × Message) Refused
line_in named None = Err (named, NotMessage)
line_in named (Some p) = to_session p.0 (judged p.1)

abbrev pub line_of : Data → Result (List ℕ × Message) Refused
line_of d = line_in (named_session d) (framed d)

abbrev pub line_read : List ℕ → Result (List ℕ × Message) Refused
line_read b = if nat_lt max_client (length b) then Err (None, TooLong) else if_data (Err (None, NotJson)) line_of (data_of b)
