-- Two lists of spans, met.
--     left l            the spans that are left of a list, of whose first some items were passed
--     Alike l m         the same items with the same changes, and ends at the same places
--     IsHead old n c new     n items are left of the first span, and have the changes c
--     IsMet first second one two     both lists, cut at the places where either ends a span
--     IsMeeting, Goes  the way there, and a step on it
use Rattle.std.specs.Prelude.{◌≡◌, ℕ, ◌+◌, ◌-◌, ◌<◌, ◌^◌, ◌||◌, Bool, true, false, List, [], ◌∷◌, ◌++◌, map}
use Rattle.doc_items.specs.declared.change.Change.{Change}
use Rattle.annotation_track.specs.declared.spans.Span.{Span}
use Rattle.annotation_track.specs.declared.meet.Left.{Left}
use Rattle.annotation_track.specs.Spans.{items_of, total, ends, has, is_end}

abbrev pub left_of : List Span → ℕ → List Span
left_of [] n = []
left_of (s ∷ ss) n = record { count = s.count - n; changes = s.changes } ∷ ss

abbrev pub left : Left → List Span
left l = left_of l.rest.now l.passed

pub record Alike (l m : List Span) : Type 0 where
  pub items : items_of l ≡ items_of m
  pub total : total l ≡ total m
  pub ends : (n : ℕ) → ends n l ≡ ends n m

pub record IsHead (old : Left) (n : ℕ) (c : List Change) (new : Left) : Type 0 where
  pub some : 0 < n
  pub fits : new.passed + n < 2 ^ 64
  pub others : List Span
  pub is : left new ≡ record { count = n; changes = c } ∷ others
  pub alike : Alike (left old) (left new)

abbrev pub count_of : Span → ℕ
count_of s = s.count

pub record IsMet (first second one two : List Span) : Type 0 where
  pub items_one : items_of one ≡ items_of first
  pub items_two : items_of two ≡ items_of second
  pub counts : map count_of one ≡ map count_of two
  pub places : (p : ℕ) → is_end p one ≡ (is_end p first || is_end p second)

-- one and two are what was cut so far, l and r what is left of both lists
pub record IsMeeting (first second l r one two : List Span) : Type 0 where
  pub items_one : items_of one ++ items_of l ≡ items_of first
  pub items_two : items_of two ++ items_of r ≡ items_of second
  pub totals : total l ≡ total r
  pub counts : map count_of one ≡ map count_of two
  pub places : (p : ℕ) → (is_end p one || (has p (ends (total one) l) || has p (ends (total one) r))) ≡ (is_end p first || is_end p second)

-- a step that cuts a span, or finds that nothing is left
abbrev pub Goes : Bool → List Span → List Span → Left → Left → List Span → List Span → Type 0
Goes true first second l r one two = IsMeeting first second (left l) (left r) one two
Goes false first second l r one two = IsMet first second one two
