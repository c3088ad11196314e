-- Change sets that aren't empty, as updates have to be.
--     HasKey u        a key that changes
--     not_none        a set with one isn't empty
--     has_first       the set of a list that isn't empty has one
--     some_change     so it isn't empty
use Rattle.std.proofs.Common.{◌≡◌, ◌≢◌, ◌<◌, refl, sym, ap, ◌∙◌, arith, List, [], ◌∷◌, length, Some}
use Rattle.std.specs.FinMap.{get, get-empty}
use Rattle.std.specs.Ordering.{nat_cmp}
use Rattle.std.specs.Cmp.Lexicographic.{slice_cmp}
use Rattle.std.specs.Str.{encode_utf8_all}
use Rattle.doc_items.specs.Maps.{Key}
use Rattle.doc_items.specs.Changes.{KeyChange, ChangeSet, key_change, change_set, none_running, IsAscending}
use Rattle.doc_items.specs.declared.change.Change.{Change}
use Rattle.doc_items.proofs.ChangeSets.{get_change}
use Rattle.doc_op.proofs.Applying.{no_value}

-- a key that changes
pub record HasKey (u : ChangeSet) : Type 0 where
  pub key : Key
  pub change : KeyChange
  pub is : get u key ≡ Some change

pub not_none : (u : ChangeSet) → HasKey u → u ≢ none_running
not_none u h e = no_value (sym (get-empty (slice_cmp nat_cmp) h.key) ∙ ap (λ x. get x h.key) (sym e) ∙ h.is)

pub has_first : (cs : List Change) → 0 < length cs → IsAscending cs → HasKey (change_set cs)
has_first [] s a = absurd (omega (arith, s))
has_first (c ∷ cs) s a = record { key = encode_utf8_all c.key; change = key_change c; is = get_change (c ∷ cs) 0 c a (omega arith) refl }

pub some_change : (cs : List Change) (u : ChangeSet) → 0 < length cs → IsAscending cs → u ≡ change_set cs → u ≢ none_running
some_change cs u s a e f = not_none (change_set cs) (has_first cs s a) (sym e ∙ f)
