-- What a user has, and where a word stands. Only wavelets count in which the user is a participant at the head.
--     sees t user             the user is a participant at the head of the history
--     line t mark             what the inbox shows of a history
--     lines_of ts user marks  what the inbox shows of histories, in order
--     inbox m user marks      what the inbox shows of all histories, in byte order of their names
--     is_hit s w d            the document has the word, and isn't the manifest
--     hit_at n d              a hit
--     hits_of t w             the documents of a history that have the word, in byte order of their names
--     hits_among ts user w    the hits in histories, in order
--     search m user w         the hits in all histories, in byte order of their names
--     hits_at m user w n      the hits in the history of a name, if there is one
use Rattle.std.specs.Prelude.{ℕ, Bool, cond, ◌&&◌, not, nat_lt, is_some, List, [], ◌∷◌, ◌++◌, map}
use Rattle.std.specs.FinMap.{entries, get, keys}
use Rattle.std.specs.Option.{option_map_or}
use Rattle.std.specs.List.{filter}
use Rattle.doc_items.specs.Maps.{Key, same_text}
use Rattle.wavelet_op.specs.States.{State, role_of, document_of}
use Rattle.document_words.specs.Words.{document_words, occurrences}
use Rattle.wave_index.specs.Blips.{manifest, threads, title_of, unread}
use Rattle.wave_index.specs.Taken.{TakenOf, Histories, point_of}
use Rattle.wave_index.specs.declared.answers.InboxLine.{InboxLine}
use Rattle.wave_index.specs.declared.answers.Hit.{Hit}

abbrev pub sees : TakenOf → Key → Bool
sees t user = is_some (role_of (point_of t).state user)

-- ---- the inbox

abbrev pub line : TakenOf → ℕ → InboxLine
line t mark = record {
  name = t.name;
  version = (point_of t).at.version;
  unread = unread t.deltas mark (threads (point_of t).state);
  title = title_of (point_of t).state (threads (point_of t).state);
}

abbrev pub line_for : TakenOf → Key → ℕ → List InboxLine
line_for t user mark = cond (sees t user) (line t mark ∷ []) []

abbrev pub lines_of : List (Key × TakenOf) → Key → (Key → ℕ) → List InboxLine
lines_of [] user marks = []
lines_of (e ∷ es) user marks = line_for e.1 user (marks e.0) ++ lines_of es user marks

abbrev pub inbox : Histories → Key → (Key → ℕ) → List InboxLine
inbox m user marks = lines_of (entries m) user marks

-- ---- search

abbrev pub is_hit : State → Key → Key → Bool
is_hit s w d = not (same_text d manifest) && nat_lt 0 (occurrences w (document_words (document_of s d)))

abbrev pub hit_at : Key → Key → Hit
hit_at n d = record { name = n; document = d }

abbrev pub hits_of : TakenOf → Key → List Hit
hits_of t w = map (hit_at t.name) (filter (is_hit (point_of t).state w) (keys (point_of t).state.documents))

abbrev pub hits_for : TakenOf → Key → Key → List Hit
hits_for t user w = cond (sees t user) (hits_of t w) []

abbrev pub hits_among : List (Key × TakenOf) → Key → Key → List Hit
hits_among [] user w = []
hits_among (e ∷ es) user w = hits_for e.1 user w ++ hits_among es user w

abbrev pub hits_at : Histories → Key → Key → Key → List Hit
hits_at m user w n = option_map_or (λ t. hits_for t user w) (get m n) []

abbrev pub search : Histories → Key → Key → List Hit
search m user w = hits_among (entries m) user w
