-- What the steps of the walk keep, whatever actions follow.
--     levels cs n            the depth after these contents, from the depth n before them
--     NoInsert l             the actions don't begin with an insertion, so that one of the earlier operation comes first
--     expects w ls es        what comes out in the end, where these actions are still to come
--     Passed, PassedEarlier  the walk went past actions of both, or an insertion of the earlier operation
--     Refused                the walk is refused within these actions
--     HasRoomForOne          an output has room for one item more
--     IsWithin w, HasRoom w n, Grows     no output is longer than the walk's length;  it has room for n items;  it has n more
--     HasRoomForBoth w x y   x and y are fit runs of items that stay, equally long, and the walk has room for them
--     IsInserted, IsDeleted, IsDeletedBehind     what an insertion makes of the two sides, and a deletion of one
--     can_stay x u y w       the two runs of items can stay in both ways
--     IsKept                 what a run of items that stay makes of a side
--     AreBothKept, AreKept   what two such runs make of the walk;  or they can't stay, and nothing happens
use Rattle.std.specs.Prelude.{◌≡◌, ℕ, ◌+◌, ◌<◌, ◌≤◌, Bool, true, false, ◌&&◌, List, [], ◌∷◌, ◌++◌, length, map, replicate, Err}
use Rattle.doc_items.specs.Balance.{level}
use Rattle.doc_items.specs.Changes.{ChangeSet, back}
use Rattle.doc_items.specs.Limits.{max_count}
use Rattle.doc_items.specs.Maps.{matches, merge}
use Rattle.doc_items.specs.declared.item.Content.{Content}
use Rattle.doc_items.specs.declared.item.Item.{Item}
use Rattle.change_view.specs.Rules.{one_second_turned, same_old}
use Rattle.change_view.specs.Sets.{as_inserted}
use Rattle.doc_op.specs.Actions.{AttributeChange, Action, Keep, Ins, insertion, deletion}
use Rattle.doc_op.specs.Apply.{put_content}
use Rattle.doc_op.specs.Lengths.{input_len, output_len}
use Rattle.op_transform.specs.Crossing.{cross, over, under, attributes_cross, attributes_over, attributes_under, keep_all}
use Rattle.op_runs.specs.Contents.{all_agree}
use Rattle.op_runs.specs.Kept.{kept_change, IsFitKept}
use Rattle.op_runs.specs.Rooms.{HasRoomFor}
use Rattle.op_transform.specs.Transform.{Outcome, front, earlier_inserts, transform_from}
use Rattle.op_transform.specs.declared.fault.TransformFault.{TransformFault}
use Rattle.op_transform.specs.declared.fault.TransformFault.TheVariants.{CountTooLarge, Conflict, Memory}
use Rattle.op_transform.specs.declared.side.Side.{Side}
use Rattle.op_runs.specs.declared.kept.Kept.{Kept}
use Rattle.op_transform.specs.declared.walk.Walk.{Walk}

abbrev pub levels : List Content → ℕ → ℕ
levels [] n = n
levels (c ∷ cs) n = levels cs (level c n)

abbrev pub NoInsert : List Action → Type 0
NoInsert l = (y : Item) (k b d : ℕ) (es : List Action) → transform_from k b l d (Ins y ∷ es)
    ≡ earlier_inserts b y (transform_from k b l d es)

-- ---- the walk

abbrev pub expects : Walk → List Action → List Action → Outcome
expects w ls es = front w.later.out w.earlier.out (transform_from w.place w.later.depth ls w.earlier.depth es)

abbrev pub Passed : Walk → List Action → List Action → Walk → Type 0
Passed old x y new = (ls es : List Action) → expects old (x ++ ls) (y ++ es) ≡ expects new ls es

abbrev pub PassedEarlier : Walk → List Action → Walk → Type 0
PassedEarlier old y new = (ls es : List Action) → NoInsert ls → expects old ls (y ++ es) ≡ expects new ls es

abbrev pub Refused : Walk → List Action → List Action → TransformFault → Type 0
Refused old x y CountTooLarge = ⊥
Refused old x y (Conflict k) = (ls es : List Action) → expects old (x ++ ls) (y ++ es) ≡ Err k
Refused old x y Memory = Unit {0}

-- ---- lengths

abbrev pub HasRoomForOne : List Action → Type 0
HasRoomForOne acts = HasRoomFor acts 1

-- an output and its open elements are within these bounds
abbrev pub IsSideWithin : Side → ℕ → ℕ → Type 0
IsSideWithin s place n = (input_len s.out ≤ n) × (output_len s.out ≤ n) × (s.depth ≤ place)

abbrev pub IsWithin : Walk → Type 0
IsWithin w = IsSideWithin w.later w.place w.length × IsSideWithin w.earlier w.place w.length × (w.place ≤ w.length)

abbrev pub HasRoom : Walk → ℕ → Type 0
HasRoom w n = IsWithin w × (w.length + n ≤ max_count)

pub record HasRoomForBoth (w : Walk) (x y : Kept) : Type 0 where
  pub fit_x : IsFitKept x
  pub fit_y : IsFitKept y
  pub same : x.count ≡ y.count
  pub room : HasRoom w x.count

abbrev pub Grows : Walk → ℕ → Walk → Type 0
Grows old n new = IsWithin new × (new.length ≡ old.length + n)

-- ---- the two sides

pub record IsInserted (u : ChangeSet) (cs : List Content) (mine other mine_after other_after : Side) : Type 0 where
  pub free : other.depth ≡ 0 → (mine_after.out ≡ mine.out ++ map (insertion u) cs)
      × (other_after.out ≡ other.out ++ replicate (length cs) keep_all)
  pub under : 0 < other.depth → (mine_after.out ≡ mine.out) × (other_after.out ≡ other.out ++ map (deletion (back (as_inserted u))) cs)
  pub depth : mine_after.depth ≡ mine.depth
  pub other_depth : other_after.depth ≡ other.depth

pub record IsDeleted (w : ChangeSet) (cs : List Content) (side after : Side) : Type 0 where
  pub out : after.out ≡ side.out ++ map (deletion w) cs
  pub depth : after.depth ≡ levels cs side.depth

-- a deletion of cs with the names v, where the other operation keeps them under the changes u and a
abbrev pub IsDeletedBehind : Bool → ChangeSet → ChangeSet → AttributeChange → List Content → Side → Side → Type 0
IsDeletedBehind false v u a cs side after = (all_agree a cs && matches same_old v u) ≡ false
IsDeletedBehind true v u a cs side after = ((all_agree a cs && matches same_old v u) ≡ true)
    × IsDeleted (merge one_second_turned v u) (map (put_content a) cs) side after

pub record IsKept (n : ℕ) (u : ChangeSet) (a : AttributeChange) (side after : Side) : Type 0 where
  pub out : after.out ≡ side.out ++ replicate n (Keep u a)
  pub depth : after.depth ≡ side.depth

abbrev pub can_stay : Kept → ChangeSet → Kept → ChangeSet → Bool
can_stay x u y w = cross u w && attributes_cross (kept_change x.part) (kept_change y.part)

-- the later operation keeps x where u runs, the earlier one y where w runs
pub record AreBothKept (x : Kept) (u : ChangeSet) (y : Kept) (w : ChangeSet) (done after : Walk) : Type 0 where
  pub stays : can_stay x u y w ≡ true
  pub later : IsKept x.count (over u w) (attributes_over (kept_change x.part) (kept_change y.part)) done.later after.later
  pub earlier : IsKept y.count (under w u) (attributes_under (kept_change y.part) (kept_change x.part)) done.earlier after.earlier
  pub place : after.place ≡ done.place
  pub length : after.length ≡ done.length

abbrev pub AreKept : Bool → Kept → ChangeSet → Kept → ChangeSet → Walk → Walk → Type 0
AreKept false x u y w done after = (can_stay x u y w ≡ false) × (after ≡ done)
AreKept true x u y w done after = AreBothKept x u y w done after
