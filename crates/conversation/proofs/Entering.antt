-- New elements inside an element of the tree.
--     even_next, odd_next, even_two       kinds take turns
--     from e                   an element of the tree is open, and what stands in it has the depth e
--     enter, leave             an element of the tree, in two steps
--     blip_parity, thread_parity     the depth of a blip, and of a thread
use Rattle.std.proofs.Common.{◌≡◌, ◌+◌, ◌-◌, ◌%◌, ◌==◌, ◌&&◌, ◌<◌, ℕ, zero, suc, Bool, true, false, cond, codes, List, [], ◌∷◌, ◌++◌, Option, Some, None, is_some, unwrap_or, refl, sym, ap, subst, ◌∙◌, arith, true≢false}
use Rattle.std.specs.Cmp.Lexicographic.{pointwise, bytes_decides}
use Rattle.std.specs.FinMap.{get}
use Rattle.std.specs.Str.{encode_utf8_all}
use Rattle.std.proofs.lemmas.Bool.{and_from}
use Rattle.std.proofs.lemmas.Bool.Decides.{nat_tests, Decides-eqb}
use Rattle.doc_items.specs.Maps.{Key, Map}
use Rattle.doc_items.specs.declared.item.Content.{Content}
use Rattle.doc_items.specs.declared.item.Content.TheVariants.{Character, Start, End}
use Rattle.doc_items.specs.declared.item.Item.{Item}
use Rattle.conversation.specs.declared.node.Node.{Node}
use Rattle.conversation.specs.declared.node.Part.{Part}
use Rattle.conversation.specs.declared.node.Part.TheVariants.{Blip, Thread}
use Rattle.conversation.specs.declared.reading.Reading.{Reading}
use Rattle.conversation.specs.Edits.{is_blip_part, is_thread_part}
use Rattle.conversation.specs.Trees.{is_named, kind_at, enters, opened, passed, closed, step, node_at, nodes_at, part_at, holds, shown, tree, behind}

-- ---- parity

pub even_next : (d : ℕ) → (d % 2 == 0) ≡ true → ((d + 1) % 2 == 0) ≡ false
even_next d e = grind (arith, nat_tests, e)

pub odd_next : (d : ℕ) → (d % 2 == 0) ≡ false → ((d + 1) % 2 == 0) ≡ true
odd_next d e = grind (arith, nat_tests, e)

pub even_two : (d : ℕ) → (d % 2 == 0) ≡ true → ((d + 2) % 2 == 0) ≡ true
even_two d e = grind (arith, nat_tests, e)

pub blip_parity : (d : ℕ) (m : Map Key) → is_blip_part (part_at d m) ≡ true → (d % 2 == 0) ≡ true
blip_parity d m e = go (d % 2 == 0) e
  where
    go : (t : Bool) → is_blip_part (cond t (Blip (holds m (codes "deleted"))) (Thread (holds m (codes "inline")))) ≡ true → t ≡ true
    go true e = refl
    go false e = absurd (true≢false (sym e))

pub thread_parity : (d : ℕ) (m : Map Key) → is_thread_part (part_at d m) ≡ true → (d % 2 == 0) ≡ false
thread_parity d m e = go (d % 2 == 0) e
  where
    go : (t : Bool) → is_thread_part (cond t (Blip (holds m (codes "deleted"))) (Thread (holds m (codes "inline")))) ≡ true → t ≡ false
    go true e = absurd (true≢false (sym e))
    go false e = refl

-- ---- an element

abbrev pub from : ℕ → Reading
from e = record { found = true; inside = suc e; passed = 0 }

abbrev pub item : Content → Map Key → Item
item c m = record { content = c; notes = m }

entered : (e : ℕ) (k : List ℕ) (m : Map Key) (id : Key) → encode_utf8_all k ≡ kind_at e → get m (codes "id") ≡ Some id → enters (from e) k m ≡ true
entered e k m id s g = and_from _ _ ((bytes_decides (encode_utf8_all k) (kind_at e)).1 s) (ap is_some g)

opened_from : (e : ℕ) → opened (from e) ≡ from (suc e)
opened_from e = let more : suc e + 1 ≡ suc (suc e) = omega arith in λ i. record { found = true; inside = more i; passed = 0 }

closed_from : (e : ℕ) → closed (from (suc e)) ≡ from e
closed_from e = let less : suc (suc e) - 1 ≡ suc e = omega arith in λ i. record { found = true; inside = less i; passed = 0 }

pub enter : (e : ℕ) (k : List ℕ) (m n : Map Key) (id : Key) (rest : List Item) → encode_utf8_all k ≡ kind_at e → get m (codes "id") ≡ Some id → tree (from e) (item (Start k m) n ∷ rest) ≡ node_at e m ∷ tree (from (suc e)) rest
enter e k m n id rest s g =
    ap (λ t. cond t (node_at e m ∷ []) [] ++ tree (cond t (opened (from e)) (passed (from e))) rest) (entered e k m id s g) ∙ ap (λ r. node_at e m ∷ tree r rest) (opened_from e)

pub after_enter : (e : ℕ) (k : List ℕ) (m n : Map Key) (id : Key) (rest : List Item) → encode_utf8_all k ≡ kind_at e → get m (codes "id") ≡ Some id → behind (from e) (item (Start k m) n ∷ rest) ≡ behind (from (suc e)) rest
after_enter e k m n id rest s g =
    ap (λ t. behind (cond t (opened (from e)) (passed (from e))) rest) (entered e k m id s g) ∙ ap (λ r. behind r rest) (opened_from e)

pub leave : (e : ℕ) (n : Map Key) (rest : List Item) → tree (from (suc e)) (item End n ∷ rest) ≡ tree (from e) rest
leave e n rest = ap (λ r. tree r rest) (closed_from e)

pub after_leave : (e : ℕ) (n : Map Key) (rest : List Item) → behind (from (suc e)) (item End n ∷ rest) ≡ behind (from e) rest
after_leave e n rest = ap (λ r. behind r rest) (closed_from e)
