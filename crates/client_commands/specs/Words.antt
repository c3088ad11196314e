-- The words of a line, with one space between each two.
--     space, has_space t       a space; there is one in a text
--     split f t                what f makes of what stands before and after the first space; None where there is none
--     single f t               what f makes of a text without a space; None where there is one
--     checked b t              the text, where the test holds
--     role_named t             the role of a word
--     stretch_from s n         so many items from a place on
--     spot_at d p              a place in a document; None where a word isn't in its grammar
--     stretch_at d f n         a stretch of a document
use Rattle.std.specs.Prelude.{ℕ, ◌==◌, Bool, true, false, cond, List, Option, None, Some, codes, option_and_then}
use Rattle.std.specs.List.{list_any}
use Rattle.std.specs.Option.{option_map}
use Rattle.doc_items.specs.Maps.{Key, same_text}
use Rattle.wave_base.specs.Grammar.{is_id, before, behind}
use Rattle.wave_screen.specs.Numerals.{number}
use Rattle.wavelet_op.specs.declared.role.Role.{Role}
use Rattle.wavelet_op.specs.declared.role.Role.TheVariants.{Full, ReadOnly}
use Rattle.client_commands.specs.declared.command.Spot.{Spot}
use Rattle.client_commands.specs.declared.command.Stretch.{Stretch}

abbrev pub space : ℕ
space = 32

abbrev pub has_space : List ℕ → Bool
has_space t = list_any (λ b. b == space) t

module _ {X : Type 0} where
  abbrev pub split : (Key → Key → Option X) → Key → Option X
  split f t = cond (has_space t) (f (before space t) (behind space t)) None

  abbrev pub single : (Key → Option X) → Key → Option X
  single f t = cond (has_space t) None (f t)

abbrev pub checked : Bool → Key → Option Key
checked false t = None
checked true t = Some t

abbrev pub role_named : Key → Option Role
role_named t = cond (same_text t (codes "full")) (Some Full) (cond (same_text t (codes "read")) (Some ReadOnly) None)

-- ---- places

abbrev pub stretch_from : Spot → ℕ → Stretch
stretch_from s n = record { document = s.document; from = s.place; count = n }

abbrev pub spot_of : Option Key → Option ℕ → Option Spot
spot_of None p = None
spot_of (Some d) None = None
spot_of (Some d) (Some p) = Some (record { document = d; place = p })

abbrev pub spot_at : Key → Key → Option Spot
spot_at d p = spot_of (checked (is_id d) d) (number p)

abbrev pub stretch_of : Option Spot → Option ℕ → Option Stretch
stretch_of None n = None
stretch_of (Some s) None = None
stretch_of (Some s) (Some n) = Some (stretch_from s n)

abbrev pub stretch_at : Key → Key → Key → Option Stretch
stretch_at d f n = stretch_of (spot_at d f) (number n)
