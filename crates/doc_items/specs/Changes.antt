-- Change sets: what becomes of the values of some keys.
--     KeyChange             a key's old and new value, each perhaps absent
--     ChangeSet             from keys to their changes; a key in it is changed even where old equals new
--     agrees c m, put c m   the map has each old value;  each new value is set
--     back c                old and new exchanged
--     change_set cs         the changes of a list
--     before a b            a text comes before another in byte order
--     ascends p k           a key is the first of its list, or comes after the key p
--     IsAscending cs        the keys of a list of changes ascend, so that none stands twice
--     Fits us b             the running changes us can go past the boundary: its keys ascend, those that end run, and none
--                           both ends and changes
--     after_boundary u b    the changes that run after a boundary: keys that end leave, keys that change enter
--     none_running          no changes
use Rattle.std.specs.Prelude.{◌≡◌, ℕ, List, [], ◌∷◌, Bool, true, false, Option, None, Some}
use Rattle.std.specs.Ordering.{nat_cmp, is_lt, eq_by_cmp}
use Rattle.std.specs.Cmp.Lexicographic.{slice_cmp}
use Rattle.std.specs.List.{list_any}
use Rattle.std.specs.Option.{option_map}
use Rattle.std.specs.Str.{encode_utf8_all}
use Rattle.std.specs.FinMap.{empty, insert, remove, contains_key}
use Rattle.doc_items.specs.Maps.{Key, Map, same_value, each, merge, matches}
use Rattle.doc_items.specs.declared.change.Change.{Change}
use Rattle.doc_items.specs.declared.change.Boundary.{Boundary}

pub record KeyChange : Type 0 where
  pub old : Option Key
  pub new : Option Key

abbrev pub ChangeSet : Type 0
ChangeSet = Map KeyChange

-- ---- at one key

abbrev pub fits_old : Option KeyChange → Option Key → Bool
fits_old None v = true
fits_old (Some c) v = same_value c.old v

abbrev pub set_new : Option KeyChange → Option Key → Option Key
set_new None v = v
set_new (Some c) v = c.new

abbrev pub turned : KeyChange → KeyChange
turned c = record { old = c.new; new = c.old }

-- ---- of whole sets

abbrev pub agrees : ChangeSet → Map Key → Bool
agrees c m = matches fits_old c m

abbrev pub put : ChangeSet → Map Key → Map Key
put c m = merge set_new c m

abbrev pub back : ChangeSet → ChangeSet
back c = each turned c

-- ---- as components write them

abbrev pub key_change : Change → KeyChange
key_change c = record { old = option_map encode_utf8_all c.old; new = option_map encode_utf8_all c.new }

abbrev pub without : ChangeSet → List (List ℕ) → ChangeSet
without u [] = u
without u (k ∷ ks) = without (remove u (encode_utf8_all k)) ks

abbrev pub with_changes : ChangeSet → List Change → ChangeSet
with_changes u [] = u
with_changes u (c ∷ cs) = with_changes (insert u (encode_utf8_all c.key) (key_change c)) cs

abbrev pub none_running : ChangeSet
none_running = empty

abbrev pub change_set : List Change → ChangeSet
change_set cs = with_changes none_running cs

abbrev pub after_boundary : ChangeSet → Boundary → ChangeSet
after_boundary u b = with_changes (without u b.end) b.change

-- ---- the order of keys

abbrev pub before : List ℕ → List ℕ → Bool
before a b = is_lt (slice_cmp nat_cmp (encode_utf8_all a) (encode_utf8_all b))

abbrev pub same_key : List ℕ → List ℕ → Bool
same_key a b = eq_by_cmp (slice_cmp nat_cmp) (encode_utf8_all a) (encode_utf8_all b)

abbrev pub ascends : Option (List ℕ) → List ℕ → Bool
ascends None k = true
ascends (Some p) k = before p k

abbrev pub AscendsFrom : Option (List ℕ) → List Change → Type 0
AscendsFrom p [] = Unit {0}
AscendsFrom p (c ∷ cs) = (ascends p c.key ≡ true) × AscendsFrom (Some c.key) cs

abbrev pub IsAscending : List Change → Type 0
IsAscending cs = AscendsFrom None cs

abbrev pub is_named : List (List ℕ) → List ℕ → Bool
is_named ends k = list_any (same_key k) ends

-- the ends ascend from p on, and run under u
abbrev pub EndsFit : ChangeSet → Option (List ℕ) → List (List ℕ) → Type 0
EndsFit u p [] = Unit {0}
EndsFit u p (k ∷ ks) = (ascends p k ≡ true) × (contains_key u (encode_utf8_all k) ≡ true) × EndsFit u (Some k) ks

abbrev pub NoneNamed : List (List ℕ) → List Change → Type 0
NoneNamed ends [] = Unit {0}
NoneNamed ends (c ∷ cs) = (is_named ends c.key ≡ false) × NoneNamed ends cs

abbrev pub Fits : ChangeSet → Boundary → Type 0
Fits u b = EndsFit u None b.end × IsAscending b.change × NoneNamed b.end b.change
