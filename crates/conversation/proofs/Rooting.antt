-- The conversation itself.
--     IsOutside, outside_step       an item before it
--     IsStartOfRoot, root_step      its start
--     rootless                      there is none
--     after_root                    nothing of the tree stands after it
--     next_new, root_placed, first_placed     one blip more
--     next_missing, next_taken, next_full     why it isn't added
use Rattle.std.proofs.Common.{◌≡◌, ◌≢◌, ◌≤◌, ◌<◌, ◌+◌, ◌-◌, ◌%◌, ◌==◌, ◌&&◌, ℕ, zero, suc, Bool, true, false, cond, not, codes, List, [], ◌∷◌, ◌++◌, length, take, drop, slice_get, Option, Some, None, refl, sym, ap, subst, ◌∙◌, arith, true≢false, append_assoc, append-nil, take-add, drop-drop}
use Rattle.std.proofs.lemmas.List.{take-append-drop}
use Rattle.std.proofs.lemmas.Bool.{and_parts, and_right}
use Rattle.std.proofs.lemmas.Bool.Decides.{Decides-eqb}
use Rattle.doc_items.specs.Balance.{BalancedFrom}
use Rattle.doc_items.specs.Maps.{Key, Map}
use Rattle.doc_items.specs.declared.item.Content.{Content}
use Rattle.doc_items.specs.declared.item.Content.TheVariants.{Character, Start, End}
use Rattle.doc_items.specs.declared.item.Item.{Item}
use Rattle.conversation.specs.declared.node.Node.{Node}
use Rattle.conversation.specs.declared.reading.Reading.{Reading}
use Rattle.conversation.specs.Trees.{start, is_named, kind_at, node_at, enters, enters_at, opened, passed, closed, step_content, step, nodes_at, shown_content, shown, tree, behind, thread_tree}
use Rattle.std.specs.Cmp.Lexicographic.{bytes_decides}
use Rattle.std.specs.FinMap.{empty}
use Rattle.std.specs.Str.{encode_utf8_all}
use Rattle.doc_items.specs.Balance.{Balanced}
use Rattle.op_build.specs.Edits.{bare, replaced}
use Rattle.conversation.specs.Contents.{id_of, IsNext, IsFirst}
use Rattle.conversation.specs.Edits.{named, is_taken, is_thread_part, is_thread, has, is_there, grown, a_blip, next_nodes, continued}
use Rattle.conversation.specs.Refusals.{next_len, IsMissing, IsTakenFault, IsAppendFault, IsNextRefused}
use Rattle.conversation.specs.declared.fault.ConversationFault.{ConversationFault}
use Rattle.conversation.specs.declared.fault.ConversationFault.TheVariants.{NoBlip, TakenId, CountTooLarge, Memory}
use Rattle.doc_items.specs.Limits.{max_count}
use Rattle.conversation.specs.Search.{IsFound, IsRoot, IsRootless, IsEnd}
use Rattle.conversation.specs.declared.search.Found.{Found}
use Rattle.conversation.proofs.Editing.{kind_even, blip_node, id_there}
use Rattle.conversation.proofs.Ends.{found_step}
use Rattle.conversation.proofs.Entering.{thread_parity, from, item, enter, after_enter, leave, after_leave}
use Rattle.conversation.proofs.Placing.{IsNew}
use Rattle.conversation.proofs.Readings.{next_item, tree_append, after_append, tree_next, after_next}

-- ---- before the conversation

pub record IsOutside (r : Reading) (c : Content) : Type 0 where
  pub inside : (step_content r c).inside ≡ 0
  pub shows : shown_content r c ≡ []

outside_of : (r : Reading) (c : Content) → r.inside ≡ 0 → (step_content r c).found ≡ false → IsOutside r c
outside_of r (Character x) n f = record { inside = n; shows = refl }
outside_of r (Start kind m) n f = go (enters r kind m) refl f
  where
    go : (t : Bool) → enters r kind m ≡ t → (cond {A = Reading} t (opened r) (passed r)).found ≡ false → IsOutside r (Start kind m)
    go true e f = absurd (true≢false f)
    go false e f = record { inside = ap (λ t. (cond {A = Reading} t (opened r) (passed r)).inside) e ∙ n; shows = ap (λ t. cond t (nodes_at r.inside m) []) e }
outside_of r End n f = go (r.passed == 0) refl
  where
    go : (t : Bool) → (r.passed == 0) ≡ t → IsOutside r End
    go true e = record { inside = ap (λ t. (cond {A = Reading} t (record { found = r.found; inside = r.inside - 1; passed = 0 }) (record { found = r.found; inside = r.inside; passed = r.passed - 1 })).inside) e ∙ omega (arith, n); shows = refl }
    go false e = record { inside = ap (λ t. (cond {A = Reading} t (record { found = r.found; inside = r.inside - 1; passed = 0 }) (record { found = r.found; inside = r.inside; passed = r.passed - 1 })).inside) e ∙ n; shows = refl }

pub outside_step : (r : Reading) (i : Item) → r.inside ≡ 0 → (step r i).found ≡ false → IsOutside r i.content
outside_step r i n f = outside_of r i.content n f

-- ---- its start

pub record IsStartOfRoot (r : Reading) (c : Content) : Type 0 where
  pub begins : step_content r c ≡ from 0
  pub shows : shown_content r c ≡ []

root_of : (r : Reading) (c : Content) → r.found ≡ false → r.inside ≡ 0 → (step_content r c).found ≡ true → IsStartOfRoot r c
root_of r (Character x) f n t = absurd (true≢false (sym t ∙ f))
root_of r (Start kind m) f n t = go (enters r kind m) refl t
  where
    go : (b : Bool) → enters r kind m ≡ b → (cond {A = Reading} b (opened r) (passed r)).found ≡ true → IsStartOfRoot r (Start kind m)
    go true e t =
        let p = (Decides-eqb r.passed 0).0 (and_parts (r.passed == 0) (enters_at r.found r.inside kind m) e).0 in
        let one : r.inside + 1 ≡ 1 = omega (arith, n) in
        record { begins = ap (λ b. cond b (opened r) (passed r)) e ∙ (λ i. record { found = true; inside = one i; passed = p i }); shows = ap (λ b. cond b (nodes_at r.inside m) []) e ∙ ap (λ k. nodes_at k m) n }
    go false e t = absurd (true≢false (sym t ∙ f))
root_of r End f n t = go (r.passed == 0) refl
  where
    go : (b : Bool) → (r.passed == 0) ≡ b → IsStartOfRoot r End
    go true e = absurd (true≢false (sym t ∙ ap (λ b. (cond {A = Reading} b (record { found = r.found; inside = r.inside - 1; passed = 0 }) (record { found = r.found; inside = r.inside; passed = r.passed - 1 })).found) e ∙ f))
    go false e = absurd (true≢false (sym t ∙ ap (λ b. (cond {A = Reading} b (record { found = r.found; inside = r.inside - 1; passed = 0 }) (record { found = r.found; inside = r.inside; passed = r.passed - 1 })).found) e ∙ f))

pub root_step : (r : Reading) (i : Item) → r.found ≡ false → r.inside ≡ 0 → (step r i).found ≡ true → IsStartOfRoot r i.content
root_step r i f n t = root_of r i.content f n t

-- ---- after it

abbrev over : ℕ → Reading
over p = record { found = true; inside = 0; passed = p }

pub after_root : (p : ℕ) (items : List Item) → tree (over p) items ≡ []
after_root p [] = refl
after_root p (i ∷ items) = go (λ q. after_root q items) i.content
  where
    go : ((q : ℕ) → tree (over q) items ≡ []) → (c : Content) → shown_content (over p) c ++ tree (step_content (over p) c) items ≡ []
    go again (Character x) = again p
    go again (Start kind m) =
        ap (λ t. cond t [] [] ++ tree (cond t (opened (over p)) (passed (over p))) items) (and_right (p == 0) (not true && is_named kind (codes "conversation")) refl) ∙ again (p + 1)
    go again End = at (p == 0)
      where
        at : (t : Bool) → tree (cond t (record { found = true; inside = 0 - 1; passed = 0 }) (record { found = true; inside = 0; passed = p - 1 })) items ≡ []
        at true = again 0
        at false = again (p - 1)

stays_found : (r : Reading) (items : List Item) → r.found ≡ true → (behind r items).found ≡ true
stays_found r [] f = f
stays_found r (i ∷ items) f = stays_found (step r i) items (found_step r i f)

take_whole : (items : List Item) → take (length items) items ≡ items
take_whole [] = refl
take_whole (i ∷ items) = ap (λ z. i ∷ z) (take_whole items)

drop_all : (items : List Item) → drop (length items) items ≡ []
drop_all [] = refl
drop_all (i ∷ items) = drop_all items

-- ---- one blip more

pub next_nest : (n : Key) (cs : List Content) → IsNext n cs → Balanced (bare cs)
next_nest n cs c =
    let is = c.is ∙ (λ i. c.begins.is i ∷ End ∷ []) in
    subst (λ z. Balanced (bare z)) (sym is) (tt, (omega arith, refl))

pub next_new : (r : Reading) (e : ℕ) (n : Key) (cs : List Content) → r ≡ from e → (e % 2 == 0) ≡ true → IsNext n cs → IsNew r (bare cs) (a_blip n e ∷ [])
next_new r e n cs at even c = subst (λ z. IsNew z (bare cs) (a_blip n e ∷ [])) (sym at) (subst (λ z. IsNew (from e) (bare z) (a_blip n e ∷ [])) (sym is) (record { shows = shows; same = same }))
  where
    is : cs ≡ Start c.begins.kind (id_of n) ∷ End ∷ []
    is = c.is ∙ (λ i. c.begins.is i ∷ End ∷ [])

    kind : encode_utf8_all c.begins.kind ≡ kind_at e
    kind = c.begins.spells ∙ kind_even e even

    shows : tree (from e) (item (Start c.begins.kind (id_of n)) empty ∷ item End empty ∷ []) ≡ a_blip n e ∷ []
    shows =
        enter e c.begins.kind (id_of n) empty n (item End empty ∷ []) kind (id_there n) ∙ ap (λ z. node_at e (id_of n) ∷ z) (leave e empty []) ∙ ap (λ z. z ∷ []) (blip_node e n even)

    same : behind (from e) (item (Start c.begins.kind (id_of n)) empty ∷ item End empty ∷ []) ≡ from e
    same = after_enter e c.begins.kind (id_of n) empty n (item End empty ∷ []) kind (id_there n) ∙ after_leave e empty []

pub thread_depth : (items : List Item) (f : Found) (t : Key) (found : IsFound (is_thread t) items f) → (found.node.depth % 2 == 0) ≡ false
thread_depth items f t found =
    let part = (and_parts (is_thread_part found.node.part) (named t found.node.id) found.passes).0 in
    thread_parity found.node.depth found.attributes (sym (ap (λ (n : Node). is_thread_part n.part) found.is) ∙ part)

pub continued_named : (t n : Key) (ns : List Node) → t ≢ [] → continued t n ns ≡ grown (is_thread t) (next_nodes n) ns
continued_named [] n ns h = absurd (h refl)
continued_named (c ∷ cs) n ns h = refl

pub there_named : (t : Key) (ns : List Node) → t ≢ [] → is_there t ns ≡ has (is_thread t) ns
there_named [] ns h = absurd (h refl)
there_named (c ∷ cs) ns h = refl

pub len_named : (t : Key) (items : List Item) → t ≢ [] → next_len t items ≡ 2
len_named [] items h = absurd (h refl)
len_named (c ∷ cs) items h = refl

-- the whole of a manifest with a conversation, and with new items at its end
module _ (items new : List Item) (f : Found) (k : ℕ) (root : IsRoot items f) (end : IsEnd f.reading (drop (f.place + 1) items) k) where
  abbrev here : ℕ
  here = f.place + 1

  abbrev rest : List Item
  rest = drop (f.place + 1) items

  abbrev pub place : ℕ
  place = f.place + 1 + k

  abbrev inside : List Node
  inside = tree f.reading (take k rest)

  begun : behind start (take here items) ≡ f.reading
  begun = after_next start items f.place root.item root.here ∙ sym root.reading

  nothing : tree start (take here items) ≡ []
  nothing = tree_next start items f.place root.item root.here ∙ ap (λ z. z ++ shown (behind start (take f.place items)) root.item) root.empty ∙ root.shows

  until : take place items ≡ take here items ++ take k rest
  until = take-add here k items

  left : drop place items ≡ drop k rest
  left = sym (drop-drop k here items)

  ended : behind start (take place items) ≡ f.reading
  ended = ap (behind start) until ∙ after_append start (take here items) (take k rest) ∙ ap (λ r. behind r (take k rest)) begun ∙ end.same

  shown_until : tree start (take place items) ≡ inside
  shown_until = ap (tree start) until ∙ tree_append start (take here items) (take k rest) ∙ (λ i. nothing i ++ tree (begun i) (take k rest))

  split : (xs : List Item) → tree start (take place items ++ xs) ≡ inside ++ tree f.reading xs
  split xs = tree_append start (take place items) xs ∙ (λ i. shown_until i ++ tree (ended i) xs)

  pub reading_is : f.reading ≡ from 0
  reading_is = λ i. record { found = root.begun.found i; inside = root.inside i; passed = root.begun.passed i }

  -- after the end of the conversation there is nothing
  over_is : (back : List Item) → tree f.reading (end.item ∷ back) ≡ []
  over_is back =
      ap (λ r. tree r (end.item ∷ back)) reading_is ∙ ap (λ c. shown_content (from 0) c ++ tree (step_content (from 0) c) back) end.ends ∙ after_root 0 back

  after_it : tree f.reading (drop k rest) ≡ []
  after_it = ap (tree f.reading) (next_item rest k end.item end.here) ∙ over_is (drop (k + 1) rest)

  whole : thread_tree items ≡ inside
  whole = ap (tree start) (sym (take-append-drop place items)) ∙ split (drop place items) ∙ ap (λ z. inside ++ z) (ap (tree f.reading) left ∙ after_it) ∙ append-nil inside

  pub root_placed : (n : Key) → IsNew f.reading new (a_blip n 0 ∷ []) → continued [] n (thread_tree items) ≡ Some (thread_tree (replaced items place 0 new))
  root_placed n is =
      let tail : drop (place + 0) items ≡ drop k rest = ap (λ z. drop z items) (omega arith) ∙ left in
      let grew : tree f.reading (new ++ drop (place + 0) items) ≡ a_blip n 0 ∷ [] =
      tree_append f.reading new (drop (place + 0) items) ∙ (λ i. is.shows i ++ tree (is.same i) (tail i)) ∙ ap (λ z. (a_blip n 0 ∷ []) ++ z) after_it in
      ap (λ z. Some (z ++ a_blip n 0 ∷ [])) whole
      ∙ ap Some (sym (ap (tree start) (append_assoc (take place items) new (drop (place + 0) items)) ∙ split (new ++ drop (place + 0) items) ∙ ap (λ z. inside ++ z) grew))

  pub root_is_found : (behind start items).found ≡ true
  root_is_found =
      ap (λ z. (behind start z).found) (sym (take-append-drop place items)) ∙ ap (λ (r : Reading). r.found) (after_append start (take place items) (drop place items) ∙ ap (λ r. behind r (drop place items)) ended) ∙ stays_found f.reading (drop place items) root.begun.found

-- a conversation that begins
pub first_nest : (n : Key) (cs : List Content) → IsFirst n cs → Balanced (bare cs)
first_nest n cs c =
    let is = c.is ∙ (λ i. c.begins.is i ∷ c.holds.is i ∷ End ∷ End ∷ []) in
    subst (λ z. Balanced (bare z)) (sym is) (tt, (tt, (omega arith, (omega arith, refl))))

first_shows : (n : Key) (cs : List Content) → IsFirst n cs → tree start (bare cs) ≡ a_blip n 0 ∷ []
first_shows n cs c = ap (λ z. tree start (bare z)) is ∙ begins ∙ inner
  where
    is : cs ≡ Start c.begins.kind empty ∷ Start c.holds.kind (id_of n) ∷ End ∷ End ∷ []
    is = c.is ∙ (λ i. c.begins.is i ∷ c.holds.is i ∷ End ∷ End ∷ [])

    opens : enters start c.begins.kind empty ≡ true
    opens = (bytes_decides (encode_utf8_all c.begins.kind) (codes "conversation")).1 c.begins.spells

    begins : tree start (item (Start c.begins.kind empty) empty ∷ item (Start c.holds.kind (id_of n)) empty ∷ item End empty ∷ item End empty ∷ []) ≡ tree (from 0) (item (Start c.holds.kind (id_of n)) empty ∷ item End empty ∷ item End empty ∷ [])
    begins = ap (λ t. cond t (nodes_at 0 empty) [] ++ tree (cond t (opened start) (passed start)) (item (Start c.holds.kind (id_of n)) empty ∷ item End empty ∷ item End empty ∷ [])) opens

    inner : tree (from 0) (item (Start c.holds.kind (id_of n)) empty ∷ item End empty ∷ item End empty ∷ []) ≡ a_blip n 0 ∷ []
    inner =
        enter 0 c.holds.kind (id_of n) empty n (item End empty ∷ item End empty ∷ []) (c.holds.spells ∙ kind_even 0 refl) (id_there n)
        ∙ ap (λ z. node_at 0 (id_of n) ∷ z) (leave 0 empty (item End empty ∷ []) ∙ after_root 0 []) ∙ ap (λ z. z ∷ []) (blip_node 0 n refl)

pub first_placed : (items : List Item) (n : Key) (cs : List Content) → IsRootless items → IsFirst n cs → continued [] n (thread_tree items) ≡ Some (thread_tree (replaced items (length items) 0 (bare cs)))
first_placed items n cs none c =
    let tail : drop (length items + 0) items ≡ [] = ap (λ z. drop z items) (omega arith) ∙ drop_all items in
    let whole : take (length items) items ++ bare cs ++ drop (length items + 0) items ≡ items ++ bare cs =
    (λ i. take_whole items i ++ bare cs ++ tail i) ∙ append-nil (items ++ bare cs) in
    ap (λ z. Some (z ++ a_blip n 0 ∷ [])) none.empty
    ∙ ap Some (sym (ap (tree start) whole ∙ tree_append start items (bare cs) ∙ (λ i. none.empty i ++ tree (none.whole i) (bare cs)) ∙ first_shows n cs c))

-- ---- refusals

pub next_missing : (items : List Item) (t n : Key) (e : ConversationFault) → is_there t (thread_tree items) ≡ false → IsMissing t e → IsNextRefused items t n e
next_missing items t n (NoBlip id) h k = (k, h)
next_missing items t n (TakenId id) h k = absurd k
next_missing items t n CountTooLarge h k = absurd k
next_missing items t n Memory h k = tt

pub next_taken : (items : List Item) (t n : Key) (e : ConversationFault) → is_there t (thread_tree items) ≡ true → is_taken n (thread_tree items) ≡ true → IsTakenFault (λ i. i ≡ n) e → IsNextRefused items t n e
next_taken items t n (NoBlip id) h a k = absurd k
next_taken items t n (TakenId id) h a k = (k, h, a)
next_taken items t n CountTooLarge h a k = absurd k
next_taken items t n Memory h a k = tt

pub next_full : (items : List Item) (t n : Key) (m : ℕ) (e : ConversationFault) → is_there t (thread_tree items) ≡ true → is_taken n (thread_tree items) ≡ false → m ≡ length items + next_len t items → IsAppendFault m e → IsNextRefused items t n e
next_full items t n m (NoBlip id) h a f k = absurd k
next_full items t n m (TakenId id) h a f k = absurd k
next_full items t n m CountTooLarge h a f k = (h, a, subst (λ z. max_count < z) f k)
next_full items t n m Memory h a f k = tt

pub next_length : (n : Key) (cs : List Content) → IsNext n cs → length cs ≡ 2
next_length n cs c = ap length c.is
