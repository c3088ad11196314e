-- Changed versions as they are kept.
--     Versions               the versions by the names of documents
--     version_in m d         that of a document; 0 where none is noted
--     IsThere m d           a version is kept of the document
--     KeepsAll m n           the versions stay, and what is there stays there
--     HasRoom m o            there is one for the document that an operation is on
--     is_retain c            the component lets items stay
--     KeepsVersions m ds     the versions that are kept are the changed versions after deltas
use Rattle.std.specs.Prelude.{◌≡◌, ℕ, Bool, true, false, IsSome, unwrap_or, List}
use Rattle.std.specs.BTreeMap as tree
use Rattle.std.specs.Cmp.Lexicographic.{slice_cmp}
use Rattle.std.specs.Ordering.{nat_cmp}
use Rattle.doc_items.specs.Maps.{Key}
use Rattle.doc_op.specs.declared.component.Component.{Component}
use Rattle.doc_op.specs.declared.component.Component.TheVariants.{Retain}
use Rattle.wavelet_op.specs.Deltas.{DeltaOf}
use Rattle.wavelet_op.specs.declared.op.WaveletOp.{WaveletOp}
use Rattle.wavelet_op.specs.declared.op.WaveletOp.TheVariants.{NoOp, Add, Remove, Mutate, SetRole}
use Rattle.wave_index.specs.Changes.{changed_version}

abbrev pub Versions : Type 0
Versions = tree.BTreeMap Key ℕ

abbrev pub version_in : Versions → Key → ℕ
version_in m d = unwrap_or (tree.get (slice_cmp nat_cmp) m d) 0

abbrev pub IsThere : Versions → Key → Type 0
IsThere m d = IsSome (tree.get (slice_cmp nat_cmp) m d)

pub record KeepsAll (m n : Versions) : Type 0 where
  pub same : (d : Key) → version_in n d ≡ version_in m d
  pub stay : (d : Key) → IsThere m d → IsThere n d

abbrev pub HasRoom : Versions → WaveletOp → Type 0
HasRoom m NoOp = Unit {0}
HasRoom m (Add address) = Unit {0}
HasRoom m (Remove address) = Unit {0}
HasRoom m (Mutate document op) = IsThere m document
HasRoom m (SetRole address old new) = Unit {0}

abbrev pub is_retain : Component → Bool
is_retain (Retain n) = true
is_retain c = false

abbrev pub KeepsVersions : Versions → List DeltaOf → Type 0
KeepsVersions m ds = (d : Key) → version_in m d ≡ changed_version d ds
