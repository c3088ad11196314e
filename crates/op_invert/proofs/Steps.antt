-- Steps of the walk that makes the inverse.
--     undone_kept, undone_inserted, undone_deleted, undone_nothing     a run of one kind is passed
--     room_first, room_after     room for the next run, and for what is after it
--     walk_starts, walk_goes      the whole walk
--     put_on, put_all             items are put back, piece by piece
use Rattle.std.proofs.Common.{◌≡◌, ℕ, zero, suc, ◌+◌, ◌-◌, ◌<◌, ◌≤◌, List, [], ◌∷◌, ◌++◌, length, map, replicate, take, drop, refl, sym, ap, subst, ◌∙◌, arith, append_assoc, append-nil, length-append, length-drop}
use Rattle.std.proofs.lemmas.List.{drop-drop, drop_at, length-take-le, map-append}
use Rattle.doc_items.specs.Limits.{max_count}
use Rattle.doc_items.specs.Changes.{ChangeSet, back}
use Rattle.doc_items.specs.declared.item.Content.{Content}
use Rattle.doc_items.specs.declared.item.Item.{Item}
use Rattle.change_view.specs.Sets.{as_inserted}
use Rattle.doc_op.specs.Actions.{AttributeChange, Action, Keep, Ins, insertion, deletion}
use Rattle.doc_op.specs.Lengths.{input_len, output_len}
use Rattle.doc_op.proofs.Lengths.{input_len-append, output_len-append, input_len-kept, output_len-kept, input_len-insertions, output_len-insertions, input_len-deletions, output_len-deletions}
use Rattle.op_compose.specs.Chains.{attributes_back}
use Rattle.op_transform.proofs.Rows.{deletes_all}
use Rattle.op_invert.specs.Inverse.{inverse}
use Rattle.op_invert.specs.Walks.{expects, HasRoom, Undone}
use Rattle.op_invert.specs.declared.reversal.Reversal.{Reversal}
use Rattle.op_invert.proofs.Lengths.{input_of_items, output_of_items}
use Rattle.op_invert.proofs.Reading.{IsNext}

-- ---- the inverse of a run, and of what is after it

inverse_kept : (n : ℕ) (u : ChangeSet) (a : AttributeChange) (items : List Item) (more : List Action) → n ≤ length items
    → inverse (replicate n (Keep u a) ++ more) items ≡ replicate n (Keep (back u) (attributes_back a)) ++ inverse more (drop n items)
inverse_kept zero u a items more h = refl
inverse_kept (suc n) u a [] more h = absurd (omega (arith, h))
inverse_kept (suc n) u a (i ∷ items) more h = ap (λ (acts : List Action). Keep (back u) (attributes_back a) ∷ acts) (inverse_kept n u a items more (omega (arith, h)))

inverse_inserted : (cs : List Content) (u : ChangeSet) (items : List Item) (more : List Action)
    → inverse (map (insertion u) cs ++ more) items ≡ map (deletion (back (as_inserted u))) cs ++ inverse more items
inverse_inserted [] u items more = refl
inverse_inserted (c ∷ cs) u items more = λ i. sym (deletes_all u c) i ∷ inverse_inserted cs u items more i

inverse_deleted : (cs : List Content) (u : ChangeSet) (items : List Item) (more : List Action) → length cs ≤ length items
    → inverse (map (deletion u) cs ++ more) items ≡ map Ins (take (length cs) items) ++ inverse more (drop (length cs) items)
inverse_deleted [] u items more h = refl
inverse_deleted (c ∷ cs) u [] more h = absurd (omega (arith, h))
inverse_deleted (c ∷ cs) u (i ∷ items) more h = ap (λ (acts : List Action). Ins i ∷ acts) (inverse_deleted cs u items more (omega (arith, h)))

-- ---- one run is passed

-- n items are passed, and what is made of the actions is written
record IsWritten (items : List Item) (acts made : List Action) (n : ℕ) (old new : Reversal) : Type 0 where
  is : (more : List Action) → inverse (acts ++ more) (drop old.place items) ≡ made ++ inverse more (drop n (drop old.place items))
  taken : input_len acts ≡ n
  input : input_len made ≡ output_len acts
  output : output_len made ≡ n
  out : new.out ≡ old.out ++ made
  place : new.place ≡ old.place + n

written : (items : List Item) (acts made : List Action) (n : ℕ) (old new : Reversal) → IsWritten items acts made n old new → Undone items acts old new
written items acts made n old new w = record {
  is = λ more.
      let rest : drop n (drop old.place items) ≡ drop new.place items = drop-drop n old.place items ∙ ap (λ k. drop k items) (sym w.place) in
      ap (λ (x : List Action). old.out ++ x) (w.is more)
      ∙ sym (append_assoc old.out made (inverse more (drop n (drop old.place items))))
      ∙ (λ i. sym w.out i ++ inverse more (rest i));
  place = omega (arith, w.place, w.taken);
  input = omega (arith, ap input_len w.out, input_len-append old.out made, w.input);
  output = omega (arith, ap output_len w.out, output_len-append old.out made, w.output, w.taken);
}

-- a run that stays, under the changes u
pub undone_kept : (items : List Item) (front : List Action) (old new : Reversal) (u w : ChangeSet) (a : AttributeChange) (n : ℕ)
    → replicate n (Keep u a) ≡ front → w ≡ u → old.place + n ≤ length items
    → new.out ≡ old.out ++ replicate n (Keep (back w) (attributes_back a)) → new.place ≡ old.place + n → Undone items front old new
undone_kept items front old new u w a n e f fits out place =
    let left = length-drop old.place items in
    subst (λ (acts : List Action). Undone items acts old new) e
    (written items (replicate n (Keep u a)) (replicate n (Keep (back u) (attributes_back a))) n old new (record {
      is = λ more. inverse_kept n u a (drop old.place items) more (omega (arith, left, fits));
      taken = input_len-kept n u a;
      input = input_len-kept n (back u) (attributes_back a) ∙ sym (output_len-kept n u a);
      output = output_len-kept n (back u) (attributes_back a);
      out = out ∙ ap (λ (v : ChangeSet). old.out ++ replicate n (Keep (back v) (attributes_back a))) f;
      place = place;
    }))

-- a run that is inserted
pub undone_inserted : (items : List Item) (front : List Action) (old new : Reversal) (u w : ChangeSet) (cs : List Content)
    → map (insertion u) cs ≡ front → w ≡ u
    → new.out ≡ old.out ++ map (deletion (back (as_inserted w))) cs → new.place ≡ old.place → Undone items front old new
undone_inserted items front old new u w cs e f out place =
    let named = back (as_inserted u) in
    subst (λ (acts : List Action). Undone items acts old new) e
    (written items (map (insertion u) cs) (map (deletion named) cs) 0 old new (record {
      is = λ more. inverse_inserted cs u (drop old.place items) more;
      taken = input_len-insertions u cs;
      input = input_len-deletions named cs ∙ sym (output_len-insertions u cs);
      output = output_len-deletions named cs;
      out = out ∙ ap (λ (v : ChangeSet). old.out ++ map (deletion (back (as_inserted v))) cs) f;
      place = omega (arith, place);
    }))

-- a run that is deleted
pub undone_deleted : (items : List Item) (front : List Action) (old new : Reversal) (u : ChangeSet) (cs : List Content) (n : ℕ)
    → map (deletion u) cs ≡ front → n ≡ length cs → old.place + n ≤ length items
    → new.out ≡ old.out ++ map Ins (take n (drop old.place items)) → new.place ≡ old.place + n → Undone items front old new
undone_deleted items front old new u cs n e f fits out place =
    let rest = drop old.place items in
    let left = length-drop old.place items in
    let made = take (length cs) rest in
    let len : length made ≡ length cs = length-take-le (length cs) rest (omega (arith, left, fits, f)) in
    subst (λ (acts : List Action). Undone items acts old new) e
    (written items (map (deletion u) cs) (map Ins made) (length cs) old new (record {
      is = λ more. inverse_deleted cs u rest more (omega (arith, left, fits, f));
      taken = input_len-deletions u cs;
      input = input_of_items made ∙ sym (output_len-deletions u cs);
      output = output_of_items made ∙ len;
      out = out ∙ ap (λ k. old.out ++ map Ins (take k rest)) f;
      place = place ∙ ap (λ k. old.place + k) f;
    }))

pub undone_nothing : (items : List Item) (front : List Action) (r : Reversal) → [] ≡ front → Undone items front r r
undone_nothing items front r e = subst (λ (acts : List Action). Undone items acts r r) e (record { is = λ more. refl; place = omega arith; input = omega arith; output = omega arith })

-- ---- room

pub room_first : (items : List Item) (r : Reversal) (front behind : List Action) → HasRoom items r (front ++ behind) → HasRoom items r front
room_first items r front behind h =
    let i = input_len-append front behind in
    let o = output_len-append front behind in
    record { place = omega (arith, h.place, i); input = omega (arith, h.input, o); output = omega (arith, h.output, i) }

room_after : (items : List Item) (old new : Reversal) (front behind : List Action) → HasRoom items old (front ++ behind) → Undone items front old new → HasRoom items new behind
room_after items old new front behind h w =
    let i = input_len-append front behind in
    let o = output_len-append front behind in
    record { place = omega (arith, h.place, w.place, i); input = omega (arith, h.input, w.input, o); output = omega (arith, h.output, w.output, i) }

-- ---- the whole walk

-- what the walk keeps, where these actions are still to come
pub record IsOnWay (items : List Item) (all : List Action) (r : Reversal) (acts : List Action) : Type 0 where
  pub is : expects items r acts ≡ inverse all items
  pub room : HasRoom items r acts

pub walk_starts : (items : List Item) (all acts : List Action) (r : Reversal) → r.out ≡ [] → r.place ≡ 0 → acts ≡ all → input_len all ≡ length items → input_len all ≤ max_count → output_len all ≤ max_count → IsOnWay items all r acts
walk_starts items all acts r out place e whole i o = record {
  is = λ k. out k ++ inverse (e k) (drop (place k) items);
  room = record {
    place = omega (arith, place, whole, ap input_len e);
    input = omega (arith, ap input_len out, o, ap output_len e);
    output = omega (arith, ap output_len out, i, ap input_len e);
  };
}

pub walk_goes : (items : List Item) (all front behind left : List Action) (old new : Reversal) (n : ℕ) → IsOnWay items all old (front ++ behind) → Undone items front old new → n ≡ length front → left ≡ drop n (front ++ behind) → IsOnWay items all new left
walk_goes items all front behind left old new n h w count e =
    let rest : left ≡ behind = e ∙ drop_at front behind n (sym count) in
    subst (IsOnWay items all new) (sym rest) (record { is = sym (w.is behind) ∙ h.is; room = room_after items old new front behind h.room w })

pub walk_ends : (items : List Item) (all front behind : List Action) (old new : Reversal) → IsOnWay items all old (front ++ behind) → Undone items front old new → front ++ behind ≡ [] → new.out ≡ inverse all items
walk_ends items all front behind old new h w e =
    let some = ap length e ∙ refl in
    let n = length-append front behind in
    let first : front ≡ [] = empty front (omega (arith, some, n)) in
    let second : behind ≡ [] = empty behind (omega (arith, some, n)) in
    sym (append-nil new.out) ∙ ap (λ (acts : List Action). new.out ++ inverse acts (drop new.place items)) (sym second) ∙ sym (w.is behind) ∙ h.is
  where
    empty : (acts : List Action) → length acts ≡ 0 → acts ≡ []
    empty [] z = refl
    empty (a ∷ acts) z = absurd (omega (arith, z))

pub fewer : (front behind left : List Action) (n : ℕ) → n ≡ length front → 0 < n → left ≡ drop n (front ++ behind) → length left < length (front ++ behind)
fewer front behind left n count some e =
    let l = ap length e ∙ length-drop n (front ++ behind) in
    let m = length-append front behind in
    omega (arith, l, m, count, some)

-- ---- items are put back

-- those at p, and then those after them
pub put_on : (items next : List Item) (p left : ℕ) (out more all : List Action) (q : ℕ) → IsNext items next p left → more ≡ out ++ map Ins next → q ≡ p + length next
    → out ++ map Ins (take left (drop p items)) ≡ all → more ++ map Ins (take (left - length next) (drop q items)) ≡ all
put_on items next p left out more all q n e place is =
    let rest = take (left - length next) (drop (p + length next) items) in
    (λ i. e i ++ map Ins (take (left - length next) (drop (place i) items)))
    ∙ append_assoc out (map Ins next) (map Ins rest)
    ∙ ap (λ (acts : List Action). out ++ acts) (sym (map-append Ins next rest) ∙ ap (map Ins) (sym n.all))
    ∙ is

pub put_length : (out more : List Action) (next : List Item) → more ≡ out ++ map Ins next → output_len more ≡ output_len out + length next
put_length out more next e = ap output_len e ∙ output_len-append out (map Ins next) ∙ ap (λ k. output_len out + k) (output_of_items next)

pub put_all : (items : List Item) (p left : ℕ) (out all : List Action) → out ++ map Ins (take left (drop p items)) ≡ all → left ≤ 0 → out ≡ all
put_all items p zero out all e h = sym (append-nil out) ∙ e
put_all items p (suc left) out all e h = absurd (omega (arith, h))
