-- Spellings differ.
use Rattle.std.proofs.Common.{◌≡◌, ℕ, List, [], ◌++◌, sym, ap, ◌∙◌, append-nil}
use Rattle.doc_op.specs.declared.component.Component.{Component}
use Rattle.doc_op.specs.Actions.{actions}
use Rattle.doc_op.specs.Normal.{normal_form}
use Rattle.op_codec.specs.Spelling.{spelling}
use Rattle.op_codec.specs.Canonical.{canonical, IsSpelling}
use Rattle.op_codec.proofs.Whole.{read_once}

pub apart : (a b : List Component) (rest : List ℕ) → IsSpelling a → IsSpelling b → spelling a ++ rest ≡ spelling b → (a ≡ b) × (rest ≡ [])
apart a b rest x y e = read_once a b rest [] x.built x.spelled y.built y.spelled (e ∙ sym (append-nil (spelling b)))

pub alike : (a b : List Component) → actions a ≡ actions b → canonical a ≡ canonical b
alike a b e = ap (λ acts. spelling (normal_form acts)) e
