-- Items, counted.
use Rattle.std.proofs.Common.{◌≡◌, suc, List, [], ◌∷◌, length, ap, refl}
use Rattle.serde_json.specs.View.{items_view}
use Rattle.serde_json.specs.declared.value.Value.{Value}
use Rattle.wave_messages.specs.Read.{items_len}

pub long_items : (vs : List Value) → items_len (items_view vs) ≡ length vs
long_items [] = refl
long_items (v ∷ vs) = ap (λ n. suc n) (long_items vs)
