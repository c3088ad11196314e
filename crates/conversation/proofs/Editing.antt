-- Edits of a manifest, and of its tree.
--     has_there, found_has, there_is     whether a node is in the tree
--     tree_edit                 an operation that makes of the tree what it should
--     weaker, reply_taken, reply_full     refusals
--     nest                      new elements end what they begin
--     reply_new, reply_length   what new elements show
--     blip_depth, deleted_item  a blip, and one that is deleted
use Rattle.std.proofs.Common.{◌≡◌, ◌⊎◌, ◌≤◌, ◌<◌, ◌+◌, ◌-◌, ◌%◌, ◌==◌, ◌&&◌, ◌||◌, ℕ, zero, suc, Bool, true, false, cond, codes, List, [], ◌∷◌, ◌++◌, length, map, take, drop, slice_get, Option, Some, None, is_some, MatchOption, unwrap_or, refl, sym, ap, subst, ◌∙◌, arith, true≢false, append_assoc}
use Rattle.std.proofs.lemmas.List.{take-append-drop}
use Rattle.std.proofs.lemmas.Bool.{and_parts, or_parts}
use Rattle.std.proofs.lemmas.Cmp.{nat_list_cmp_total}
use Rattle.std.specs.FinMap.{get, empty, get-insert, get-empty}
use Rattle.std.specs.Option.{option_map}
use Rattle.std.specs.Ordering.{nat_cmp}
use Rattle.std.specs.Cmp.Lexicographic.{slice_cmp}
use Rattle.std.specs.Str.{encode_utf8_all}
use Rattle.doc_items.specs.Balance.{Balanced}
use Rattle.doc_items.specs.Limits.{max_count}
use Rattle.doc_items.specs.Maps.{Key, Map, set_key, same_value}
use Rattle.doc_items.specs.declared.item.Content.{Content}
use Rattle.doc_items.specs.declared.item.Content.TheVariants.{Character, Start, End}
use Rattle.doc_items.specs.declared.item.Item.{Item}
use Rattle.doc_op.proofs.Applying.{same_Some}
use Rattle.doc_op.specs.declared.component.Component.{Component}
use Rattle.doc_op.specs.Actions.{Action, actions}
use Rattle.doc_op.specs.Normal.{normal_form}
use Rattle.doc_op.specs.Structure.{Structured}
use Rattle.op_build.specs.Edits.{bare, range, attributed, attributed_content, with_attribute}
use Rattle.op_build.specs.Plans.{IsEdit}
use Rattle.conversation.specs.declared.fault.ConversationFault.{ConversationFault}
use Rattle.conversation.specs.declared.fault.ConversationFault.TheVariants.{NoBlip, TakenId, CountTooLarge, Memory}
use Rattle.conversation.specs.declared.node.Node.{Node}
use Rattle.conversation.specs.declared.node.Part.{Part}
use Rattle.conversation.specs.declared.node.Part.TheVariants.{Blip, Thread}
use Rattle.conversation.specs.declared.reading.Reading.{Reading}
use Rattle.conversation.specs.declared.search.Found.{Found}
use Rattle.conversation.specs.Contents.{IsStart, id_of, thread_of, IsReply, IsNext}
use Rattle.conversation.specs.Edits.{named, is_blip_part, is_blip, has, is_taken, a_blip, a_thread, reply_nodes, next_nodes, as_deleted, deleted}
use Rattle.conversation.specs.Refusals.{IsTreeEdit, IsTaken, IsTakenFault, IsAppendFault, AreNew, IsReplyRefused}
use Rattle.conversation.specs.Search.{IsFound}
use Rattle.conversation.specs.Trees.{start, is_named, kind_at, enters, enters_at, opened, passed, step_content, step, holds, part_at, node_at, nodes_at, shown_content, shown, tree, behind, thread_tree}
use Rattle.conversation.proofs.Entering.{even_next, even_two, odd_next, blip_parity, from, item, enter, after_enter, leave, after_leave}
use Rattle.conversation.proofs.Placing.{IsNew}
use Rattle.conversation.proofs.Readings.{next_item, tree_append, tree_next, after_next}

-- ---- whether a node is there

pub has_there : (test : Node → Bool) (front : List Node) (n : Node) (back : List Node) → test n ≡ true → has test (front ++ n ∷ back) ≡ true
has_there test [] n back p = ap (λ t. t || has test back) p
has_there test (x ∷ front) n back p = go (test x) (has_there test front n back p)
  where
    go : (t : Bool) → has test (front ++ n ∷ back) ≡ true → (t || has test (front ++ n ∷ back)) ≡ true
    go true h = refl
    go false h = h

module _ (items : List Item) (f : Found) (test : Node → Bool) (found : IsFound test items f) where
  abbrev front : List Node
  front = tree start (take f.place items)

  abbrev rest : List Item
  rest = drop (f.place + 1) items

  -- the tree, with the node that was found
  pub at_node : thread_tree items ≡ tree start (take f.place items) ++ found.node ∷ tree (step (behind start (take f.place items)) found.item) (drop (f.place + 1) items)
  at_node =
      ap (tree start) (sym (take-append-drop f.place items)) ∙ tree_append start (take f.place items) (drop f.place items)
      ∙ ap (λ z. front ++ tree (behind start (take f.place items)) z) (next_item items f.place found.item found.here)
      ∙ ap (λ z. front ++ (z ++ tree (step (behind start (take f.place items)) found.item) rest)) found.shows

  pub found_has : has test (thread_tree items) ≡ true
  found_has = ap (has test) at_node ∙ has_there test front found.node (tree (step (behind start (take f.place items)) found.item) rest) found.passes

-- ---- edits and refusals

pub tree_edit : (op : List Component) (acts : List Action) (items out : List Item) (ns : Option (List Node)) → IsEdit op acts items out → ns ≡ Some (thread_tree out) → IsTreeEdit op items ns
tree_edit op acts items out ns e t = record {
  out = out;
  makes = e.makes;
  is = t;
  normal = e.normal ∙ ap normal_form (sym e.is);
  structured = subst Structured (sym e.is) e.structured;
}

pub weaker : (P Q : Key → Type 0) (e : ConversationFault) → ((i : Key) → P i → Q i) → IsTakenFault P e → IsTakenFault Q e
weaker P Q (NoBlip id) g h = h
weaker P Q (TakenId id) g h = g id h
weaker P Q CountTooLarge g h = h
weaker P Q Memory g h = tt

pub reply_taken : (items : List Item) (b t n : Key) (e : ConversationFault) → has (is_blip b) (thread_tree items) ≡ true → IsTakenFault (IsTaken (thread_tree items) t n) e → IsReplyRefused items b t n e
reply_taken items b t n (NoBlip id) h k = absurd k
reply_taken items b t n (TakenId id) h k = (h, k)
reply_taken items b t n CountTooLarge h k = absurd k
reply_taken items b t n Memory h k = tt

pub reply_full : (items : List Item) (b t n : Key) (m : ℕ) (e : ConversationFault) → has (is_blip b) (thread_tree items) ≡ true → AreNew (thread_tree items) t n → m ≡ length items + 4 → IsAppendFault m e → IsReplyRefused items b t n e
reply_full items b t n m (NoBlip id) h a f k = absurd k
reply_full items b t n m (TakenId id) h a f k = absurd k
reply_full items b t n m CountTooLarge h a f k = (h, a, subst (λ z. max_count < z) f k)
reply_full items b t n m Memory h a f k = tt

-- ---- new elements

same_map : {m m' : Map Key} → m ≡ m' → (k : Key) → get m k ≡ get m' k
same_map e k = ap (λ z. get z k) e

pub id_there : (id : Key) → get (id_of id) (codes "id") ≡ Some id
id_there id = get-insert nat_list_cmp_total empty (codes "id") id (codes "id")

no_deleted : (id : Key) → get (id_of id) (codes "deleted") ≡ None
no_deleted id = get-insert nat_list_cmp_total empty (codes "id") id (codes "deleted") ∙ get-empty (slice_cmp nat_cmp) (codes "deleted")

no_inline : (id : Key) → get (id_of id) (codes "inline") ≡ None
no_inline id = get-insert nat_list_cmp_total empty (codes "id") id (codes "inline") ∙ get-empty (slice_cmp nat_cmp) (codes "inline")

thread_id : (inline : Bool) (id : Key) → get (thread_of inline id) (codes "id") ≡ Some id
thread_id false id = id_there id
thread_id true id = get-insert nat_list_cmp_total (id_of id) (codes "inline") (codes "true") (codes "id") ∙ id_there id

thread_inline : (inline : Bool) (id : Key) → holds (thread_of inline id) (codes "inline") ≡ inline
thread_inline false id = ap (λ o. same_value o (Some (codes "true"))) (no_inline id)
thread_inline true id = ap (λ o. same_value o (Some (codes "true"))) (get-insert nat_list_cmp_total (id_of id) (codes "inline") (codes "true") (codes "inline"))

pub blip_node : (e : ℕ) (n : Key) → (e % 2 == 0) ≡ true → node_at e (id_of n) ≡ a_blip n e
blip_node e n p =
    let part = ap (λ t. cond t (Blip (holds (id_of n) (codes "deleted"))) (Thread (holds (id_of n) (codes "inline")))) p ∙ ap Blip (ap (λ o. same_value o (Some (codes "true"))) (no_deleted n)) in
    let id = ap (λ o. unwrap_or o []) (id_there n) in
    λ i. record { depth = e; part = part i; id = id i }

thread_node : (e : ℕ) (inline : Bool) (t : Key) → (e % 2 == 0) ≡ false → node_at e (thread_of inline t) ≡ a_thread inline t e
thread_node e inline t p =
    let part = ap (λ b. cond b (Blip (holds (thread_of inline t) (codes "deleted"))) (Thread (holds (thread_of inline t) (codes "inline")))) p ∙ ap Thread (thread_inline inline t) in
    let id = ap (λ o. unwrap_or o []) (thread_id inline t) in
    λ i. record { depth = e; part = part i; id = id i }

pub kind_even : (e : ℕ) → (e % 2 == 0) ≡ true → codes "blip" ≡ kind_at e
kind_even e p = sym (ap (λ t. cond t (codes "blip") (codes "thread")) p)

kind_odd : (e : ℕ) → (e % 2 == 0) ≡ false → codes "thread" ≡ kind_at e
kind_odd e p = sym (ap (λ t. cond t (codes "blip") (codes "thread")) p)

pub at_depth : (r : Reading) (d : ℕ) → r.found ≡ true → r.inside ≡ d + 2 → r.passed ≡ 0 → r ≡ from (d + 1)
at_depth r d f n p = let at : r.inside ≡ suc (d + 1) = omega (arith, n) in λ i. record { found = f i; inside = at i; passed = p i }

pub nest : (inline : Bool) (t n : Key) (cs : List Content) → IsReply inline t n cs → Balanced (bare cs)
nest inline t n cs c =
    let is = c.is ∙ (λ i. c.begins.is i ∷ c.holds.is i ∷ End ∷ End ∷ []) in
    subst (λ z. Balanced (bare z)) (sym is) (tt, (tt, (omega arith, (omega arith, refl))))

pub reply_length : (inline : Bool) (t n : Key) (cs : List Content) → IsReply inline t n cs → length cs ≡ 4
reply_length inline t n cs c = ap length c.is

pub reply_new : (r : Reading) (d : ℕ) (inline : Bool) (t n : Key) (cs : List Content) → r.found ≡ true → r.inside ≡ d + 2 → r.passed ≡ 0 → (d % 2 == 0) ≡ true → IsReply inline t n cs → IsNew r (bare cs) (reply_nodes inline t n d)
reply_new r d inline t n cs f g p even c = subst (λ z. IsNew z (bare cs) (reply_nodes inline t n d)) (sym (at_depth r d f g p)) (subst (λ z. IsNew (from (d + 1)) (bare z) (reply_nodes inline t n d)) (sym is) (record { shows = shows; same = same }))
  where
    is : cs ≡ Start c.begins.kind (thread_of inline t) ∷ Start c.holds.kind (id_of n) ∷ End ∷ End ∷ []
    is = c.is ∙ (λ i. c.begins.is i ∷ c.holds.is i ∷ End ∷ End ∷ [])

    two : d + 2 ≡ suc (d + 1)
    two = omega arith

    odd : ((d + 1) % 2 == 0) ≡ false
    odd = even_next d even

    again : (suc (d + 1) % 2 == 0) ≡ true
    again = subst (λ z. (z % 2 == 0) ≡ true) two (even_two d even)

    first : encode_utf8_all c.begins.kind ≡ kind_at (d + 1)
    first = c.begins.spells ∙ kind_odd (d + 1) odd

    second : encode_utf8_all c.holds.kind ≡ kind_at (suc (d + 1))
    second = c.holds.spells ∙ kind_even (suc (d + 1)) again

    shows : tree (from (d + 1)) (item (Start c.begins.kind (thread_of inline t)) empty ∷ item (Start c.holds.kind (id_of n)) empty ∷ (item End empty ∷ item End empty ∷ [])) ≡ reply_nodes inline t n d
    shows =
        enter (d + 1) c.begins.kind (thread_of inline t) empty t (item (Start c.holds.kind (id_of n)) empty ∷ (item End empty ∷ item End empty ∷ [])) first (thread_id inline t)
        ∙ ap (λ z. node_at (d + 1) (thread_of inline t) ∷ z) (enter (suc (d + 1)) c.holds.kind (id_of n) empty n (item End empty ∷ item End empty ∷ []) second (id_there n))
        ∙ ap (λ z. node_at (d + 1) (thread_of inline t) ∷ node_at (suc (d + 1)) (id_of n) ∷ z) (leave (suc (d + 1)) empty (item End empty ∷ []) ∙ leave (d + 1) empty [])
        ∙ (λ i. thread_node (d + 1) inline t odd i ∷ blip_node (suc (d + 1)) n again i ∷ [])
        ∙ ap (λ e. a_thread inline t (d + 1) ∷ a_blip n e ∷ []) (sym two)

    same : behind (from (d + 1)) (item (Start c.begins.kind (thread_of inline t)) empty ∷ item (Start c.holds.kind (id_of n)) empty ∷ (item End empty ∷ item End empty ∷ [])) ≡ from (d + 1)
    same =
        after_enter (d + 1) c.begins.kind (thread_of inline t) empty t (item (Start c.holds.kind (id_of n)) empty ∷ (item End empty ∷ item End empty ∷ [])) first (thread_id inline t)
        ∙ after_enter (suc (d + 1)) c.holds.kind (id_of n) empty n (item End empty ∷ item End empty ∷ []) second (id_there n)
        ∙ after_leave (suc (d + 1)) empty (item End empty ∷ []) ∙ after_leave (d + 1) empty []

-- ---- a blip's depth

pub blip_depth : (items : List Item) (f : Found) (b : Key) (found : IsFound (is_blip b) items f) → (found.node.depth % 2 == 0) ≡ true
blip_depth items f b found =
    let part = (and_parts (is_blip_part found.node.part) (named b found.node.id) found.passes).0 in
    blip_parity found.node.depth found.attributes (sym (ap (λ (n : Node). is_blip_part n.part) found.is) ∙ part)

-- ---- a blip that is deleted

still_id : (m : Map Key) → get (set_key m (codes "deleted") (Some (codes "true"))) (codes "id") ≡ get m (codes "id")
still_id m = get-insert nat_list_cmp_total m (codes "deleted") (codes "true") (codes "id")

is_deleted : (m : Map Key) → holds (set_key m (codes "deleted") (Some (codes "true"))) (codes "deleted") ≡ true
is_deleted m = ap (λ o. same_value o (Some (codes "true"))) (get-insert nat_list_cmp_total m (codes "deleted") (codes "true") (codes "deleted"))

abbrev gone : Map Key → Map Key
gone m = set_key m (codes "deleted") (Some (codes "true"))

still_at : (found : Bool) (inside : ℕ) (kind : List ℕ) (m : Map Key) → enters_at found inside kind (gone m) ≡ enters_at found inside kind m
still_at found zero kind m = refl
still_at found (suc d) kind m = ap (λ o. is_named kind (kind_at d) && is_some o) (still_id m)

still_enters : (r : Reading) (kind : List ℕ) (m : Map Key) → enters r kind (gone m) ≡ enters r kind m
still_enters r kind m = ap (λ t. (r.passed == 0) && t) (still_at r.found r.inside kind m)

deleted_node : (d : ℕ) (m : Map Key) → is_blip_part (part_at d m) ≡ true → node_at d (gone m) ≡ as_deleted (node_at d m)
deleted_node d m p =
    let part = ap (λ t. cond t (Blip (holds (gone m) (codes "deleted"))) (Thread (holds (gone m) (codes "inline")))) (blip_parity d m p) ∙ ap Blip (is_deleted m) in
    let id = ap (λ o. unwrap_or o []) (still_id m) in
    λ i. record { depth = d; part = part i; id = id i }

pub record IsDeletion (r : Reading) (c c' : Content) (n : Node) : Type 0 where
  pub shows : shown_content r c' ≡ as_deleted n ∷ []
  pub same : step_content r c' ≡ step_content r c

head_of : {x y : Node} {xs ys : List Node} → x ∷ xs ≡ y ∷ ys → x ≡ y
head_of {x} e = ap (λ l. first_or l) e
  where
    first_or : List Node → Node
    first_or [] = x
    first_or (z ∷ zs) = z

no_node : {A : Type 0} {n : Node} {ns : List Node} → [] ≡ n ∷ ns → A
no_node e = absurd (true≢false (sym (ap filled e)))
  where
    filled : List Node → Bool
    filled [] = false
    filled (z ∷ zs) = true

deletion : (r : Reading) (c : Content) (n : Node) → is_blip_part n.part ≡ true → shown_content r c ≡ n ∷ [] → IsDeletion r c (attributed_content (codes "deleted") (Some (codes "true")) c) n
deletion r (Character x) n p e = no_node e
deletion r End n p e = no_node e
deletion r (Start kind m) n p e = go (enters r kind m) refl e
  where
    at : enters r kind m ≡ true → (k : ℕ) → r.inside ≡ k → nodes_at k m ≡ n ∷ [] → IsDeletion r (Start kind m) (Start kind (gone m)) n
    at t zero f h = no_node h
    at t (suc d) f h =
        let is : node_at d m ≡ n = head_of h in
        let blip = subst (λ (z : Node). is_blip_part z.part ≡ true) (sym is) p in
        record {
          shows = ap (λ b. cond b (nodes_at r.inside (gone m)) []) (still_enters r kind m ∙ t) ∙ ap (λ k. nodes_at k (gone m)) f ∙ ap (λ z. z ∷ []) (deleted_node d m blip ∙ ap as_deleted is);
          same = ap (λ b. cond b (opened r) (passed r)) (still_enters r kind m);
        }

    go : (t : Bool) → enters r kind m ≡ t → cond t (nodes_at r.inside m) [] ≡ n ∷ [] → IsDeletion r (Start kind m) (Start kind (gone m)) n
    go true t h = at t r.inside refl h
    go false t h = no_node h

deleted_here : (b : Key) (front : List Node) (n : Node) (back : List Node) → has (is_blip b) front ≡ false → is_blip b n ≡ true → deleted b (front ++ n ∷ back) ≡ Some (front ++ as_deleted n ∷ back)
deleted_here b [] n back h p = ap (λ t. cond t (Some (as_deleted n ∷ back)) (option_map (λ z. n ∷ z) (deleted b back))) p
deleted_here b (x ∷ front) n back h p =
    let q = or_parts (is_blip b x) (has (is_blip b) front) h in
    ap (λ t. cond t (Some (as_deleted x ∷ (front ++ n ∷ back))) (option_map (λ z. x ∷ z) (deleted b (front ++ n ∷ back)))) q.0
    ∙ ap (option_map (λ z. x ∷ z)) (deleted_here b front n back q.1 p)

pub deleted_item : (items : List Item) (f : Found) (b : Key) (found : IsFound (is_blip b) items f) → deleted b (thread_tree items) ≡ Some (thread_tree (with_attribute items f.place (codes "deleted") (Some (codes "true"))))
deleted_item items f b found =
    let before = take f.place items in
    let rest = drop (f.place + 1) items in
    let r = behind start before in
    let new : Item = attributed (codes "deleted") (Some (codes "true")) found.item in
    let blip = (and_parts (is_blip_part found.node.part) (named b found.node.id) found.passes).0 in
    let d = deletion r found.item.content found.node blip found.shows in
    let stands : range items f.place 1 ≡ found.item ∷ [] = ap (take 1) (next_item items f.place found.item found.here) in
    let tail = tree (step r found.item) rest in
    let made : thread_tree (with_attribute items f.place (codes "deleted") (Some (codes "true"))) ≡ tree start before ++ as_deleted found.node ∷ tail =
    ap (λ z. tree start (before ++ map (attributed (codes "deleted") (Some (codes "true"))) z ++ rest)) stands
    ∙ ap (tree start) (append_assoc before (new ∷ []) rest)
    ∙ tree_append start before (new ∷ rest)
    ∙ (λ i. tree start before ++ (d.shows i ++ tree (d.same i) rest)) in
    ap (deleted b) (at_node items f (is_blip b) found) ∙ deleted_here b (tree start before) found.node tail found.none found.passes ∙ ap Some (sym made)

pub there_is : (items : List Item) (test : Node → Bool) (o : Option Found) → MatchOption o (has test (thread_tree items) ≡ false) (IsFound test items) → is_some o ≡ has test (thread_tree items)
there_is items test None h = sym h
there_is items test (Some f) h = sym (found_has items f test h)
