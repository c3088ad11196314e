-- What is written is read.
--     few_of             a value that is a message hands in no more than 1,000 operations
--     if_ok_to           one fact of what is given, for another
--     message_read       what is written of a message is read as the message
--     line_read_back     so of a line
use Rattle.std.proofs.Common.{◌≡◌, ◌≤◌, ℕ, ◌+◌, Bool, true, false, cond, ◌&&◌, ◌||◌, nat_lt, if◌then◌else◌, List, [], ◌∷◌, ◌++◌, length, Option, Some, None, Ok, Err, refl, ap, subst, ◌∙◌, arith, option_and_then, nat_le, length-append, Result, IfOk, codes}
use Rattle.std.specs.Option.{option_map, option_map_or, ok_or}
use Rattle.std.specs.Str.{bytes_eq}
use Rattle.std.specs.Cmp.Lexicographic.{bytes_decides}
use Rattle.std.proofs.lemmas.Bool.{and_parts}
use Rattle.std.proofs.lemmas.Bool.Decides.{nat_tests}
use Rattle.serde_json.specs.Data.{Data, Items, no_items, item}
use Rattle.serde_json.specs.Find.{get, as_str, as_array}
use Rattle.doc_op.proofs.Applying.{no_value, same_Some, mapped, passed}
use Rattle.op_json.specs.Read.{list_from}
use Rattle.wave_base.specs.Grammar.{is_id}
use Rattle.wavelet_op.specs.Deltas.{is_count}
use Rattle.wavelet_op.specs.declared.op.WaveletOp.{WaveletOp}
use Rattle.wavelet_op.proofs.Partial.{and_then_some}
use Rattle.json_fields.specs.Read.{has_members, in_member, version_of, id_of}
use Rattle.wavelet_json.specs.Operations.{of_members, op_of, op_list, ops_of}
use Rattle.message_json.specs.Read.{wavelet_of, serial_of, submit_of, relay_of, message_named, message_of}
use Rattle.message_json.specs.Write.{message_data}
use Rattle.message_json.specs.declared.message.Message.{Message}
use Rattle.message_json.specs.declared.message.Message.TheVariants.{Submit, Relay}
use Rattle.wave_messages.specs.Read.{items_len, is_kind_handed_in, is_long, too_many, judged, data_of, if_data, read_of, max_client, to_session, line_of, line_read}
use Rattle.wave_messages.specs.Write.{line_data}
use Rattle.wave_messages.specs.declared.fault.Kind.TheVariants.{TooLong, NotJson, TooMany, NotMessage}

-- ---- no more than 1,000 operations

listed : {X : Type 0} (f : Data → Option X) (found out : List X) (ds : Items) → list_from f found ds ≡ Some out → length out ≡ length found + items_len ds
listed f found out no_items e = let same = ap length (same_Some e) in omega (arith, same)
listed f found out (item d ds) e =
    let x = and_then_some (f d) (λ x. list_from f (found ++ x ∷ []) ds) out e in
    let rest = listed f (found ++ x.0 ∷ []) out ds x.2 in
    omega (arith, rest, length-append found (x.0 ∷ []))

at_most : (a b : ℕ) → nat_le a b ≡ true → a ≤ b
at_most a b h = grind (arith, nat_tests)

not_above : (a b : ℕ) → a ≤ b → nat_lt b a ≡ false
not_above a b h = grind (arith, nat_tests)

-- operations that are read are few
few_given : (d : Data) (os : List WaveletOp) → in_member ops_of (codes "operations") d ≡ Some os → is_long d ≡ false
few_given d os e =
    let x = and_then_some (get (codes "operations") d) ops_of os e in
    let l = and_then_some (op_list x.0) (λ ops. cond (is_count (length ops)) (Some ops) None) os x.2 in
    let t = passed (is_count (length l.0)) (Some l.0) os l.2 in
    let a = and_then_some (as_array x.0) (list_from op_of []) l.0 l.1 in
    let counted = listed op_of [] l.0 a.0 a.2 in
    let few = at_most (length l.0) 1000 (and_parts (nat_le 1 (length l.0)) (nat_le (length l.0) 1000) t.test).1 in
    let is : in_member as_array (codes "operations") d ≡ Some a.0 = ap (option_and_then as_array) x.1 ∙ a.1 in
    ap (λ o. option_map_or (λ ds. nat_lt 1000 (items_len ds)) o false) is ∙ not_above (items_len a.0) 1000 (omega (arith, counted, few))

given : {X : Type 0} (n : ℕ) (d : Data) (o : Option X) (y : X) → of_members n d o ≡ Some y → o ≡ Some y
given n d o y e = go (has_members n d) e
  where
    go : (b : Bool) → (if b then o else None) ≡ Some y → o ≡ Some y
    go true h = h
    go false h = no_value h

few_in_submit : (d : Data) (m : Message) → submit_of d ≡ Some m → is_long d ≡ false
few_in_submit d m e =
    let w = and_then_some (wavelet_of d) (λ name. option_and_then (λ serial. option_and_then (λ from. option_map (λ ops. Submit name serial.0 serial.1 from ops) (in_member ops_of (codes "operations") d)) (version_of d)) (serial_of d)) m (given 7 d _ m e) in
    let s = and_then_some (serial_of d) (λ serial. option_and_then (λ from. option_map (λ ops. Submit w.0 serial.0 serial.1 from ops) (in_member ops_of (codes "operations") d)) (version_of d)) m w.2 in
    let v = and_then_some (version_of d) (λ from. option_map (λ ops. Submit w.0 s.0.0 s.0.1 from ops) (in_member ops_of (codes "operations") d)) m s.2 in
    let o = mapped (λ ops. Submit w.0 s.0.0 s.0.1 v.0 ops) (in_member ops_of (codes "operations") d) m v.2 in
    few_given d o.value o.had

few_in_relay : (d : Data) (m : Message) → relay_of d ≡ Some m → is_long d ≡ false
few_in_relay d m e =
    let w = and_then_some (wavelet_of d) (λ name. option_and_then (λ id. option_and_then (λ from. option_map (λ ops. Relay name (record { id = id; at = from; ops = ops })) (in_member ops_of (codes "operations") d)) (version_of d)) (id_of d)) m (given 8 d _ m e) in
    let i = and_then_some (id_of d) (λ id. option_and_then (λ from. option_map (λ ops. Relay w.0 (record { id = id; at = from; ops = ops })) (in_member ops_of (codes "operations") d)) (version_of d)) m w.2 in
    let v = and_then_some (version_of d) (λ from. option_map (λ ops. Relay w.0 (record { id = i.0; at = from; ops = ops })) (in_member ops_of (codes "operations") d)) m i.2 in
    let o = mapped (λ ops. Relay w.0 (record { id = i.0; at = v.0; ops = ops })) (in_member ops_of (codes "operations") d) m v.2 in
    few_given d o.value o.had

pub few_of : (d : Data) (m : Message) → message_of d ≡ Some m → too_many d ≡ false
few_of d m e =
    let k = and_then_some (in_member as_str (codes "type") d) (λ kind. message_named kind d) m e in
    ap (λ o. option_map_or is_kind_handed_in o false && is_long d) k.1 ∙ go (bytes_eq k.0 (codes "submit")) (bytes_eq k.0 (codes "relay")) k.0 k.2 refl refl
  where
    named : (kind name : List ℕ) → bytes_eq kind name ≡ true → message_named kind d ≡ Some m → message_named name d ≡ Some m
    named kind name p h = subst (λ z. message_named z d ≡ Some m) ((bytes_decides kind name).0 p) h

    go : (b c : Bool) (kind : List ℕ) → message_named kind d ≡ Some m → bytes_eq kind (codes "submit") ≡ b → bytes_eq kind (codes "relay") ≡ c → ((b || c) && is_long d) ≡ false
    go true c kind h p q = few_in_submit d m (named kind (codes "submit") p h)
    go false true kind h p q = few_in_relay d m (named kind (codes "relay") q h)
    go false false kind h p q = refl

pub judged_as : (d : Data) (m : Message) → message_of d ≡ Some m → judged d ≡ Ok m
judged_as d m e = ap (λ b. if b then Err TooMany else ok_or (message_of d) NotMessage) (few_of d m e) ∙ ap (λ o. ok_or o NotMessage) e

-- ---- bytes

pub if_ok_to : {A E : Type 0} (r : Result A E) (P Q : A → Type 0) → ((a : A) → P a → Q a) → IfOk r P → IfOk r Q
if_ok_to (Ok a) P Q f h = f a h
if_ok_to (Err e) P Q f h = tt

pub message_read : (b : List ℕ) (d : Data) (m : Message) (limit : ℕ) → data_of b ≡ Some d → message_of d ≡ Some m → length b ≤ limit → read_of b limit ≡ Ok m
message_read b d m limit h e l =
    ap (λ t. if t then Err TooLong else if_data (Err NotJson) judged (data_of b)) (not_above (length b) limit l)
    ∙ ap (if_data (Err NotJson) judged) h
    ∙ judged_as d m e

framed_back : (session : List ℕ) (m : Message) → message_of (message_data m) ≡ Some m → is_id session ≡ true → line_of (line_data session (message_data m)) ≡ Ok (session, m)
framed_back session m e i = rw i (ap (to_session session) (judged_as (message_data m) m e))

pub line_read_back : (b session : List ℕ) (m : Message) → data_of b ≡ Some (line_data session (message_data m)) → message_of (message_data m) ≡ Some m → is_id session ≡ true → length b ≤ max_client
    → line_read b ≡ Ok (session, m)
line_read_back b session m h e i l =
    ap (λ t. if t then Err (None, TooLong) else if_data (Err (None, NotJson)) line_of (data_of b)) (not_above (length b) max_client l)
    ∙ ap (if_data (Err (None, NotJson)) line_of) h
    ∙ framed_back session m e i
