-- What is written of a state is read as the state.
--     member_back, document_back     one participant, one document
--     members_back, documents_back   all of them
use Rattle.std.proofs.Common.{Ordering, Less, Equal, Greater, ◌≡◌, true, if◌then◌else◌, List, [], ◌∷◌, map, refl, sym, ap, subst, ◌∙◌, Option, None, Some, Ok, is_some, unwrap_or, option_and_then, append-nil}
use Rattle.std.specs.Cmp.{eq_by_cmp_equiv}
use Rattle.std.specs.Cmp.Lexicographic.{slice_cmp}
use Rattle.std.specs.FinMap.{get, insert, empty, entries, keys, get-empty}
use Rattle.std.specs.List.{All}
use Rattle.std.specs.Ordering.{nat_cmp, is_lt, is_eq}
use Rattle.std.proofs.lemmas.Cmp.{nat_list_cmp_total}
use Rattle.std.proofs.lemmas.List.Elements.{All-head, All-tail}
use Rattle.serde_json.specs.Data.{Data}
use Rattle.serde_json.specs.View.{items_of}
use Rattle.doc_items.specs.Balance.{Balanced}
use Rattle.doc_items.specs.Maps.{Key, Map, is_next, set_key}
use Rattle.doc_items.specs.declared.item.Item.{Item}
use Rattle.doc_items.proofs.Rising.{Follow, goes_before, entries_rise, rising_follow, insert_all, all_inserted}
use Rattle.doc_op.specs.Actions.{Ins, actions}
use Rattle.doc_op.specs.Apply.{apply}
use Rattle.doc_op.specs.Structure.{Structured}
use Rattle.doc_op.specs.declared.component.Component.{Component}
use Rattle.op_build.proofs.Insertions.{insertion_takes}
use Rattle.op_json.specs.Back.{IsReadBack}
use Rattle.op_json.specs.Read.{operation_of}
use Rattle.op_json.specs.Write.{op_data}
use Rattle.wave_base.specs.Grammar.{is_address, is_id}
use Rattle.wavelet_op.specs.Acts.{Sets}
use Rattle.wavelet_op.specs.States.{State, role_set, added, on_role, with_document, kept, mutate, apply_act, document_of as items_of_document}
use Rattle.wavelet_op.specs.declared.role.Role.{Role}
use Rattle.wavelet_op.specs.declared.role.Role.TheVariants.{Full}
use Rattle.wavelet_op.proofs.Maps.{set_same, set_other, set_twice}
use Rattle.wavelet_op.proofs.Structures.{mutates}
use Rattle.wavelet_json.specs.Operations.{role_of as role_read, role_data}
use Rattle.snapshot_json.specs.Back.{role_at, IsMemberBack, IsDocumentBack, AreMembersBack, AreDocumentsBack}
use Rattle.snapshot_json.specs.Read.{member_of, document_of, joined, not_empty, opened, states_from}
use Rattle.snapshot_json.specs.Write.{insertion_of, member_data, document_data}

-- ---- one

pub member_back : (s : State) (a : Key) → is_address a ≡ true → IsReadBack role_read role_data (role_at s a) → IsMemberBack s a
member_back s a h k = rw (h, k) refl

-- insertions make their items of nothing
inserts : (items : List Item) → Balanced items → mutate (map Ins items) [] ≡ Some items
inserts items b =
    let t = insertion_takes items b in
    mutates (map Ins items) [] items (subst Structured (append-nil (map Ins items)) (t.nests [] (refl, refl)))
    (ap (λ acts. apply acts []) (sym (append-nil (map Ins items))) ∙ t.makes [] [] [] refl ∙ ap Some (append-nil items))

pub document_back : (s : State) (d : Key) (op : List Component) (v : Data) → is_id d ≡ true → op ≡ insertion_of (items_of_document s d) → v ≡ op_data op → operation_of v ≡ Ok op
    → actions op ≡ map Ins (items_of_document s d) → Balanced (items_of_document s d) → is_some (kept (items_of_document s d)) ≡ true → IsDocumentBack s d
document_back s d op v h is written read acts b some =
    let k : operation_of (op_data (insertion_of (items_of_document s d))) ≡ Ok (insertion_of (items_of_document s d)) = subst (λ z. operation_of (op_data z) ≡ Ok z) is (subst (λ z. operation_of z ≡ Ok op) written read) in
    record {
      read = rw (h, k) refl;
      makes = ap (λ z. mutate (actions z) []) (sym is) ∙ ap (λ z. mutate z []) acts ∙ inserts (items_of_document s d) b;
      some = whole (items_of_document s d) some;
    }
  where
    whole : (items : List Item) → is_some (kept items) ≡ true → kept items ≡ Some items
    whole [] e = absurd (cc)
    whole (i ∷ items) e = refl

-- ---- keys that rise

never_both : (o : Ordering) → is_lt o ≡ true → is_eq o ≡ true → ⊥
never_both Less p q = absurd (cc)
never_both Equal p q = absurd (cc)
never_both Greater p q = absurd (cc)

itself : (k : Key) → is_lt (slice_cmp nat_cmp k k) ≡ true → ⊥
itself k h = never_both (slice_cmp nat_cmp k k) h ((eq_by_cmp_equiv nat_list_cmp_total).refl k)

apart : (k q : Key) → is_lt (slice_cmp nat_cmp k q) ≡ true → q ≡ k → ⊥
apart k q h e = itself k (subst (λ z. is_lt (slice_cmp nat_cmp k z) ≡ true) e h)

then_next : (last : Option Key) (k q : Key) → is_next last k ≡ true → is_lt (slice_cmp nat_cmp k q) ≡ true → is_next last q ≡ true
then_next None k q h l = refl
then_next (Some last) k q h l = goes_before last k q h l

module _ {X : Type 0} where
  -- nothing is there from the next key on
  Below : Option Key → Map X → Type 0
  Below last m = (q : Key) → is_next last q ≡ true → get m q ≡ None

  below_here : (last : Option Key) (m : Map X) (k : Key) → Below last m → is_next last k ≡ true → get m k ≡ None
  unfolding Below
  below_here last m k b h = b k h

  below_next : (last : Option Key) (m : Map X) (k : Key) (x : X) → Below last m → is_next last k ≡ true → Below (Some k) (insert m k x)
  unfolding Below
  below_next last m k x b h q l = set_other m k q (Some x) (apart k q l) ∙ b q (then_next last k q h l)

  lower : (k l : Key) (es : List (Key × X)) → is_lt (slice_cmp nat_cmp k l) ≡ true → Follow (Some l) es → Follow (Some k) es
  lower k l [] h f = tt
  lower k l (e ∷ es) h f = (goes_before k l e.0 h f.0, f.1)

  untouched : (m : Map X) (k : Key) (es : List (Key × X)) → Follow (Some k) es → get (insert_all m es) k ≡ get m k
  untouched m k [] f = refl
  untouched m k (e ∷ es) f = untouched (insert m e.0 e.1) k es (lower k e.0 es f.0 f.1) ∙ set_other m e.0 k (Some e.1) (λ same. itself k (subst (λ z. is_lt (slice_cmp nat_cmp k z) ≡ true) (sym same) f.0))

  -- the map has these entries
  AreIn : Map X → List (Key × X) → Type 0
  AreIn m [] = Unit {0}
  AreIn m (e ∷ es) = (get m e.0 ≡ Some e.1) × AreIn m es

  own_from : (m : Map X) (last : Option Key) (es : List (Key × X)) → Follow last es → AreIn (insert_all m es) es
  unfolding AreIn
  own_from m last [] f = tt
  own_from m last (e ∷ es) f = (untouched (insert m e.0 e.1) e.0 es f.1 ∙ set_same m e.0 (Some e.1), own_from (insert m e.0 e.1) (Some e.0) es f.1)

  own_entries : (m : Map X) → AreIn m (entries m)
  own_entries m = subst (λ n. AreIn n (entries m)) (all_inserted m) (own_from empty None (entries m) (rising_follow (entries m) (entries_rise m)))

  -- with the values of a function
  with_all : (Key → X) → Map X → List (Key × X) → Map X
  with_all v m [] = m
  with_all v m (e ∷ es) = with_all v (insert m e.0 (v e.0)) es

  with_own : (v : Key → X) (n m : Map X) (es : List (Key × X)) → ((k : Key) (x : X) → get n k ≡ Some x → v k ≡ x) → AreIn n es → with_all v m es ≡ insert_all m es
  unfolding AreIn with_all
  with_own v n m [] h a = refl
  with_own v n m (e ∷ es) h a = with_own v n (insert m e.0 (v e.0)) es h a.1 ∙ ap (λ x. insert_all (insert m e.0 x) es) (h e.0 e.1 a.0)

  with_entries : (v : Key → X) (m : Map X) → ((k : Key) (x : X) → get m k ≡ Some x → v k ≡ x) → with_all v empty (entries m) ≡ m
  with_entries v m h = with_own v m empty (entries m) h (own_entries m) ∙ all_inserted m

below_none : (X : Type 0) → Below {X = X} None empty
unfolding Below
below_none X q h = get-empty (slice_cmp nat_cmp) q

-- ---- participants

abbrev whole : Map Role → Map (List Item) → State
whole r m = record { roles = r; documents = m }

module _ (s : State) where
  joined_one : (m : Map Role) (docs : Map (List Item)) (a : Key) (r : Role) → get m a ≡ None → joined (whole m docs) (a, r) ≡ Some (whole (insert m a r) docs)
  unfolding apply_act
  joined_one m docs a r h =
      ap (λ o. option_and_then (λ t. apply_act t (Sets a Full r)) (on_role (whole m docs) a (added o))) h
      ∙ ap (λ o. on_role (whole (set_key m a (Some Full)) docs) a (role_set Full r o)) (set_same m a (Some Full))
      ∙ ap (λ x. Some (whole x docs)) (set_twice m a (Some Full) (Some r))

  members_from : (m : Map Role) (docs : Map (List Item)) (last : Option Key) (es : List (Key × Role)) → Follow last es → Below last m → All (IsMemberBack s) (map (λ e. e.0) es)
      → states_from member_of joined (whole m docs) last (items_of (map (member_data s) (map (λ e. e.0) es))) ≡ Some (whole (with_all (role_at s) m es) docs)
  unfolding with_all
  members_from m docs last [] f b h = refl
  members_from m docs last (e ∷ es) f b h =
      let rest = items_of (map (member_data s) (map (λ x. x.0) es)) in
      let new = insert m e.0 (role_at s e.0) in
      ap (option_and_then (λ x. if is_next last x.0 then option_and_then (λ t. states_from member_of joined t (Some x.0) rest) (joined (whole m docs) x) else None)) (All-head (IsMemberBack s) e.0 (map (λ x. x.0) es) h)
      ∙ ap (λ t. if t then option_and_then (λ t. states_from member_of joined t (Some e.0) rest) (joined (whole m docs) (e.0, role_at s e.0)) else None) f.0
      ∙ ap (option_and_then (λ t. states_from member_of joined t (Some e.0) rest)) (joined_one m docs e.0 (role_at s e.0) (below_here last m e.0 b f.0))
      ∙ members_from new docs (Some e.0) es f.1 (below_next last m e.0 (role_at s e.0) b f.0) (All-tail (IsMemberBack s) e.0 (map (λ x. x.0) es) h)

  pub members_back : All (IsMemberBack s) (keys s.roles) → AreMembersBack s
  members_back h =
      members_from empty empty None (entries s.roles) (rising_follow (entries s.roles) (entries_rise s.roles)) (below_none Role) h
      ∙ ap (λ x. Some (whole x empty)) (with_entries (role_at s) s.roles (λ k r e. ap (λ o. unwrap_or o Full) e))

  -- ---- documents

  items : Key → List Item
  items d = items_of_document s d

  opened_one : (r : Map Role) (m : Map (List Item)) (d : Key) → IsDocumentBack s d → get m d ≡ None → opened (whole r m) (d, insertion_of (items_of_document s d)) ≡ Some (whole r (insert m d (items d)))
  unfolding apply_act items
  opened_one r m d b h =
      let op = insertion_of (items_of_document s d) in
      ap (λ o. option_and_then (not_empty d) (option_and_then (λ new. Some (with_document (whole r m) d new)) (mutate (actions op) (unwrap_or o [])))) h
      ∙ ap (λ o. option_and_then (not_empty d) (option_and_then (λ new. Some (with_document (whole r m) d new)) o)) b.makes
      ∙ ap (λ o. not_empty d (whole r (set_key m d o))) b.some
      ∙ ap (λ o. if is_some (kept (unwrap_or o [])) then Some (whole r (insert m d (items d))) else None) (set_same m d (Some (items d)))
      ∙ ap (λ o. if is_some o then Some (whole r (insert m d (items d))) else None) b.some

  documents_from : (r : Map Role) (m : Map (List Item)) (last : Option Key) (es : List (Key × List Item)) → Follow last es → Below last m → All (IsDocumentBack s) (map (λ e. e.0) es)
      → states_from document_of opened (whole r m) last (items_of (map (document_data s) (map (λ e. e.0) es))) ≡ Some (whole r (with_all items m es))
  unfolding with_all
  documents_from r m last [] f b h = refl
  documents_from r m last (e ∷ es) f b h =
      let rest = items_of (map (document_data s) (map (λ x. x.0) es)) in
      let here = All-head (IsDocumentBack s) e.0 (map (λ x. x.0) es) h in
      let op = insertion_of (items_of_document s e.0) in
      ap (option_and_then (λ x. if is_next last x.0 then option_and_then (λ t. states_from document_of opened t (Some x.0) rest) (opened (whole r m) x) else None)) here.read
      ∙ ap (λ t. if t then option_and_then (λ t. states_from document_of opened t (Some e.0) rest) (opened (whole r m) (e.0, op)) else None) f.0
      ∙ ap (option_and_then (λ t. states_from document_of opened t (Some e.0) rest)) (opened_one r m e.0 here (below_here last m e.0 b f.0))
      ∙ documents_from r (insert m e.0 (items e.0)) (Some e.0) es f.1 (below_next last m e.0 (items e.0) b f.0) (All-tail (IsDocumentBack s) e.0 (map (λ x. x.0) es) h)

  own_items : (k : Key) (x : List Item) → get s.documents k ≡ Some x → items k ≡ x
  unfolding items
  own_items k x e = ap (λ (o : Option (List Item)). unwrap_or o []) e

  pub documents_back : All (IsDocumentBack s) (keys s.documents) → AreDocumentsBack s
  documents_back h r =
      documents_from r empty None (entries s.documents) (rising_follow (entries s.documents) (entries_rise s.documents)) (below_none (List Item)) h
      ∙ ap (λ x. Some (whole r x)) (with_entries items s.documents own_items)
