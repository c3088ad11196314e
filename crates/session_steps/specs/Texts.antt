-- Texts as their bytes: `text_of` one, `texts_of` a list of them.
use Rattle.std.specs.Prelude.{ℕ, List, Vec, map}
use Rattle.std.specs.declared.alloc.Global.{Global}

abbrev pub text_of : Vec ℕ Global → List ℕ
text_of v = v.items

abbrev pub texts_of : List (Vec ℕ Global) → List (List ℕ)
texts_of vs = map text_of vs
