-- The members of an object, counted.
use Rattle.std.proofs.Common.{◌≡◌, List, [], ◌∷◌, length, String, refl, arith}
use Rattle.std.specs.declared.alloc.Global.{Global}
use Rattle.serde_json.specs.declared.value.Value.{Value}
use Rattle.serde_json.specs.View.{members_view}
use Rattle.op_json.specs.Members.{members_len}

pub members_len-view : (entries : List (String Global × Value)) → members_len (members_view entries) ≡ length entries
members_len-view [] = refl
members_len-view (e ∷ entries) = omega (arith, members_len-view entries)
