-- A change set as a list of borrowed changes whose keys rise in byte order, and two such lists side by side.
--     value_of, entry_of    a borrowed change, without and with its key
--     of_change c           what an owned change means
--     view_of cs            the change set of a list of borrowed changes
--     IsView cs             their keys rise, and all are texts
--     rises, all_texts      the keys of entries rise;  all their keys and values are texts
--     Meeting, pairs        the keys of two lists in order, each with what either list has there
--     made f ps             what f makes of the two at each key
--     all_pass p ps         the two pass p at each key
--     inserted_entries es   the entries with a new value, as absent before
use Rattle.std.specs.Prelude.{◌≡◌, Bool, true, ◌&&◌, List, [], ◌∷◌, map, Option, None, Some}
use Rattle.std.specs.Option.{option_copied}
use Rattle.std.specs.Ordering.{nat_cmp}
use Rattle.std.specs.Str.{encode_utf8_all}
use Rattle.std.specs.Cmp.Lexicographic.{slice_cmp}
use Rattle.std.specs.FinMap.{get, from_sorted, is_sorted}
use Rattle.std.specs.FinMap.Entries.{by_order}
use Rattle.doc_items.specs.Maps.{Key, Map, entry, set_key}
use Rattle.doc_items.specs.Changes.{KeyChange, ChangeSet, key_change, turned, fits_old}
use Rattle.doc_items.specs.declared.change.Change.{Change}
use Rattle.change_view.specs.declared.entry.ChangeRef.{ChangeRef}
use Rattle.change_view.specs.Sets.{one_inserted, one_deleted, fresh}
use Rattle.change_view.specs.Texts.{is_text_change, AreTexts}

abbrev pub Entry : Type 0
Entry = Key × KeyChange

abbrev pub value_of : ChangeRef → KeyChange
value_of c = record { old = option_copied c.old; new = option_copied c.new }

abbrev pub entry_of : ChangeRef → Entry
entry_of c = (c.key.now, value_of c)

abbrev pub of_change : Change → Entry
of_change c = (encode_utf8_all c.key, key_change c)

abbrev pub view_of : List ChangeRef → ChangeSet
view_of cs = from_sorted (map entry_of cs)

abbrev pub rises : List Entry → Bool
rises es = is_sorted (slice_cmp nat_cmp) es

abbrev pub all_texts : List Entry → Bool
all_texts [] = true
all_texts (e ∷ es) = is_text_change e.0 e.1 && all_texts es

abbrev pub IsView : List ChangeRef → Type 0
IsView cs = (rises (map entry_of cs) ≡ true) × AreTexts (view_of cs)

-- ---- two lists side by side

pub record Meeting : Type 0 where
  pub key : Key
  pub first : Option KeyChange
  pub second : Option KeyChange

abbrev pub alone : Entry → Meeting
alone e = record { key = e.0; first = Some e.1; second = None }

abbrev pub alone_second : Entry → Meeting
alone_second e = record { key = e.0; first = None; second = Some e.1 }

abbrev pub met : Entry → Entry → Meeting
met e f = record { key = e.0; first = Some e.1; second = Some f.1 }

abbrev pub pairs : List Entry → List Entry → List Meeting
pairs [] [] = []
pairs [] (f ∷ fs) = alone_second f ∷ pairs [] fs
pairs (e ∷ es) [] = alone e ∷ pairs es []
pairs (e ∷ es) (f ∷ fs) = by_order (slice_cmp nat_cmp e.0 f.0) (alone e ∷ pairs es (f ∷ fs)) (met e f ∷ pairs es fs)
    (alone_second f ∷ pairs (e ∷ es) fs)

abbrev pub made : (Option KeyChange → Option KeyChange → Option KeyChange) → List Meeting → List Entry
made f [] = []
made f (m ∷ ms) = entry m.key (f m.first m.second) (made f ms)

abbrev pub all_pass : (Option KeyChange → Option KeyChange → Bool) → List Meeting → Bool
all_pass p [] = true
all_pass p (m ∷ ms) = p m.first m.second && all_pass p ms

-- ---- one list

abbrev pub inserted_entries : List Entry → List Entry
inserted_entries [] = []
inserted_entries (e ∷ es) = entry e.0 (one_inserted e.1) (inserted_entries es)

-- ---- entries one by one

abbrev pub turned_entry : Entry → Entry
turned_entry e = (e.0, turned e.1)

abbrev pub deleted_entry : Entry → Entry
deleted_entry e = (e.0, one_deleted e.1)

abbrev pub fresh_entry : Key × Key → Entry
fresh_entry e = (e.0, fresh e.1)

abbrev pub all_fit : List Entry → Map Key → Bool
all_fit [] m = true
all_fit (e ∷ es) m = fits_old (Some e.1) (get m e.0) && all_fit es m

abbrev pub put_all : List Entry → Map Key → Map Key
put_all [] m = m
put_all (e ∷ es) m = put_all es (set_key m e.0 e.1.new)
