-- Legal histories.
--     max_delta                   how many bytes a delta has at most
--     has_id i ds                 a delta has this id
--     adds_first acts a           the first act adds the address
--     standing ds p a acts        what the author of further acts may do: by the role at p, which is the head of the history; in an
--                                 empty history by adding itself first
--     may_write r                 operations may be submitted
--     IsNext name ds d            the delta may come next in the history
--     IsLegalFrom name before ds  each of the deltas may come next, after those before
--     IsLegal name ds             each of the deltas may come next, from the start of the history on
use Rattle.std.specs.Prelude.{◌≡◌, ◌≤◌, ℕ, Bool, true, false, cond, ◌||◌, List, [], ◌∷◌, ◌++◌, length, Option, Some, None}
use Rattle.doc_items.specs.Limits.{max_count}
use Rattle.doc_items.specs.Maps.{Key, same_text}
use Rattle.wave_base.specs.Versions.{IdOf, same_id}
use Rattle.wavelet_op.specs.Acts.{Act, Idle, Adds, Removes, Sets, Mutates, AreNormal}
use Rattle.wavelet_op.specs.Deltas.{DeltaOf, is_count}
use Rattle.wavelet_op.specs.States.{role_of}
use Rattle.wavelet_op.specs.declared.role.Role.{Role}
use Rattle.wavelet_op.specs.declared.role.Role.TheVariants.{Full, ReadOnly}
use Rattle.wavelet_codec.specs.Spelling.{delta_bytes}
use Rattle.wavelet_state.specs.Snapshots.{max_inserted}
use Rattle.delta_history.specs.Points.{Point, start, acts_of, next_point, replay}

abbrev pub max_delta : ℕ
max_delta = 1048576

abbrev pub has_id : IdOf → List DeltaOf → Bool
has_id i [] = false
has_id i (d ∷ ds) = same_id i d.id || has_id i ds

abbrev pub adds : Act → Key → Bool
adds Idle a = false
adds (Adds b) a = same_text a b
adds (Removes b) a = false
adds (Sets b old new) a = false
adds (Mutates d acts) a = false

abbrev pub adds_first : List Act → Key → Bool
adds_first [] a = false
adds_first (act ∷ more) a = adds act a

abbrev pub standing : List DeltaOf → Point → Key → List Act → Option Role
standing [] p a acts = cond (adds_first acts a) (Some Full) None
standing (d ∷ ds) p a acts = role_of p.state a

abbrev pub may_write : Option Role → Bool
may_write None = false
may_write (Some Full) = true
may_write (Some ReadOnly) = false

pub record IsNext (name : List ℕ) (ds : List DeltaOf) (d : DeltaOf) : Type 0 where
  pub here : Point
  pub after : Point
  pub is_head : replay (start name) ds ≡ Some here
  pub starts : d.from ≡ here.at
  pub goes : next_point here d ≡ Some after
  pub some_ops : is_count (length d.ops) ≡ true
  pub normal : AreNormal d.ops
  pub new : has_id d.id ds ≡ false
  pub author : may_write (standing ds here d.id.author (acts_of d)) ≡ true
  pub counted : after.at.version ≤ max_count
  pub held : after.count ≤ max_inserted
  pub short : length (delta_bytes d) ≤ max_delta

abbrev pub IsLegalFrom : List ℕ → List DeltaOf → List DeltaOf → Type 0
IsLegalFrom name before [] = Unit {0}
IsLegalFrom name before (d ∷ ds) = IsNext name before d × IsLegalFrom name (before ++ d ∷ []) ds

abbrev pub IsLegal : List ℕ → List DeltaOf → Type 0
IsLegal name ds = IsLegalFrom name [] ds
