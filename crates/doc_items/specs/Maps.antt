-- Finite maps from texts, and how to make one from others key by key. A key is the list of its UTF-8 bytes, so that the
-- order of a map is byte order; a text that a map of texts gives is such a list, too.
--     Key, Map X                          UTF-8 bytes; a map from them to values of X
--     same_text, same_value, same_values  tests of ≡ on texts, on optional texts, on maps of texts
--     is_next last k                      the key is the first of a list, or comes after the last one in byte order
--     tabulate ks g                       the map that has g's value at each of the keys ks
--     each f m                            the map that has f of each of m's values
--     merge f m n                         the map that has f of m's and n's value at each key
--     matches p m n                       p of m's and n's value at each key of either
--     set_key m k v                       m with v at k; None takes k away
--     strings es                          the map of these stored strings to values
--     shared t                            the map of a table that may be absent
--     listed r                            what is left of a walk that may be absent
--     stored, map_code                    the map of these stored strings to strings, and its code
use Rattle.std.specs.Prelude.{ℕ, Bool, true, ◌&&◌, List, [], ◌∷◌, ◌++◌, map, nat_eq, Option, None, Some, string_bytes, String}
use Rattle.std.specs.Option.{option_eq, option_map}
use Rattle.std.specs.Ordering.{nat_cmp, is_lt}
use Rattle.std.specs.Cmp.Lexicographic.{slice_cmp, pointwise}
use Rattle.std.specs.Coded.{Coded, coded_ℕ, coded_list}
use Rattle.std.specs.FinMap.{FinMap, get, keys, empty, from_entries, insert, remove, code}
use Rattle.std.specs.Global.{Global}
use Rattle.std.specs.declared.sync.Arc.{Arc}
use Rattle.std.specs.Arc.{arc_value}

abbrev pub Key : Type 0
Key = List ℕ

abbrev pub Map : Type 0 → Type 0
Map X = FinMap {K = List ℕ} (slice_cmp nat_cmp) X

abbrev pub same_text : List ℕ → List ℕ → Bool
same_text a b = pointwise nat_eq a b

abbrev pub same_value : Option Key → Option Key → Bool
same_value a b = option_eq same_text a b

abbrev pub is_next : Option Key → Key → Bool
is_next None k = true
is_next (Some last) k = is_lt (slice_cmp nat_cmp last k)

module _ {X : Type 0} where
  abbrev pub entry : Key → Option X → List (Key × X) → List (Key × X)
  entry k None es = es
  entry k (Some x) es = (k, x) ∷ es

  abbrev pub table : List Key → (Key → Option X) → List (Key × X)
  table [] g = []
  table (k ∷ ks) g = entry k (g k) (table ks g)

  unfoldable pub tabulate : List Key → (Key → Option X) → Map X
  tabulate ks g = from_entries (table ks g)

  abbrev pub set_key : Map X → Key → Option X → Map X
  set_key m k None = remove m k
  set_key m k (Some v) = insert m k v

module _ {X Z : Type 0} where
  unfoldable pub each : (X → Z) → Map X → Map Z
  each f m = tabulate (keys m) (λ k. option_map f (get m k))

abbrev pub every : (Key → Bool) → List Key → Bool
every p [] = true
every p (k ∷ ks) = p k && every p ks

module _ {X Y : Type 0} where
  unfoldable pub merge : {Z : Type 0} → (Option X → Option Y → Option Z) → Map X → Map Y → Map Z
  merge f m n = tabulate (keys m ++ keys n) (λ k. f (get m k) (get n k))

  unfoldable pub matches : (Option X → Option Y → Bool) → Map X → Map Y → Bool
  matches p m n = every (λ k. p (get m k) (get n k)) (keys m ++ keys n)

abbrev pub same_values : Map Key → Map Key → Bool
same_values m n = matches same_value m n

-- ---- as stored

abbrev pub strings : {X : Type 0} → List (String Global × X) → Map X
strings es = from_entries (map (λ e. (string_bytes e.0, e.1)) es)

abbrev pub pair_of : String Global × String Global → Key × Key
pair_of e = (string_bytes e.0, string_bytes e.1)

abbrev pub stored : List (String Global × String Global) → Map Key
stored es = from_entries (map pair_of es)

abbrev pub map_code : Coded (Map Key)
map_code = code (coded_list coded_ℕ) (coded_list coded_ℕ)

abbrev pub shared : Option (Arc (Map Key) Global) → Map Key
shared None = empty
shared (Some table) = arc_value table

abbrev pub listed : Option (List (String Global × String Global)) → List (String Global × String Global)
listed None = []
listed (Some rest) = rest
