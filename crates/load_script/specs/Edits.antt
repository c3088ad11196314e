-- What a follower's user does to the document, with numbers that are drawn. An edit that is refused changes nothing.
--     letters f          the items of the document on the follower's screen
--     changed f acts     the follower with these acts after what is pending
--     mutated f acts     so, with these actions on the document
--     typed f place n    the n-th letter of the alphabet is typed at a place; both are counted from 0
--     erasure items place o      the actions that erase the item at a place, if it is o; None where it is no character
--     erased f place     the item at a place is erased, if it is a character
--     invited f          all users are added
--     types x f, erases x f      a letter is typed at a place; the item at a place is erased, or a letter typed where there is no item.
--                        Place and letter are drawn, in this order, from x on; and the state after the draws
use Rattle.std.specs.Prelude.{ℕ, zero, suc, ◌+◌, List, [], ◌∷◌, map, length, slice_get, Option, Some, None, Ok, Err}
use Rattle.std.specs.Option.{option_map_or}
use Rattle.doc_items.specs.declared.item.Content.{Content}
use Rattle.doc_items.specs.declared.item.Content.TheVariants.{Character, Start, End}
use Rattle.doc_items.specs.declared.item.Item.{Item}
use Rattle.doc_op.specs.Actions.{Action}
use Rattle.op_build.specs.Plans.{typing, erasing}
use Rattle.wavelet_op.specs.Acts.{Act, Adds, Mutates}
use Rattle.wavelet_op.specs.States.{document_of}
use Rattle.follower_rules.specs.Followers.{FollowerOf, screen}
use Rattle.follower_rules.specs.Submitting.{Edited, edit}
use Rattle.load_script.specs.Draws.{next, drawn}
use Rattle.load_script.specs.Names.{the_document, users}

unfoldable pub letters : FollowerOf → List Item
letters f = option_map_or (λ s. document_of s the_document) (screen f) []

abbrev pub unless_refused : FollowerOf → Edited → FollowerOf
unless_refused f (Ok g) = g
unless_refused f (Err e) = f

unfoldable pub changed : FollowerOf → List Act → FollowerOf
changed f acts = unless_refused f (edit f acts)

abbrev pub mutated : FollowerOf → List Action → FollowerOf
mutated f acts = changed f (Mutates the_document acts ∷ [])

-- ---- one edit

abbrev pub letter : ℕ → ℕ
letter n = 97 + n

abbrev pub typed : FollowerOf → ℕ → ℕ → FollowerOf
typed f place n = mutated f (typing (letters f) place (letter n ∷ []))

abbrev pub erasure_of : List Item → ℕ → Content → Option (List Action)
erasure_of items place (Character c) = Some (erasing items place 1)
erasure_of items place (Start kind attributes) = None
erasure_of items place End = None

abbrev pub erasure : List Item → ℕ → Option Item → Option (List Action)
erasure items place None = None
erasure items place (Some i) = erasure_of items place i.content

abbrev pub erased : FollowerOf → ℕ → FollowerOf
erased f place = option_map_or (mutated f) (erasure (letters f) place (slice_get (letters f) place)) f

unfoldable pub invited : FollowerOf → FollowerOf
invited f = changed f (map Adds users)

-- ---- with numbers that are drawn

unfoldable pub types : ℕ → FollowerOf → ℕ × FollowerOf
types x f = (next (next x), typed f (drawn (suc (length (letters f))) x) (drawn 26 (next x)))

abbrev pub erases_one : ℕ → FollowerOf → ℕ → ℕ × FollowerOf
erases_one x f zero = types x f
erases_one x f (suc n) = (next x, erased f (drawn (suc n) x))

unfoldable pub erases : ℕ → FollowerOf → ℕ × FollowerOf
erases x f = erases_one x f (length (letters f))
