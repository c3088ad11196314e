-- Runs of items.
--     all_pushed     one run more
--     read_on        what is read from a place on, and what stands after it
--     passed_on      one run more is passed
--     pieces_pushed  one piece more
use Rattle.std.proofs.Common.{◌≡◌, ℕ, ◌+◌, ◌<◌, get_or, List, [], ◌∷◌, ◌++◌, length, take, drop, refl, sym, ap, ◌∙◌, append_assoc, append-nil}
use Rattle.std.proofs.lemmas.List.{take-append-drop, drop-drop, take_more}
use Rattle.std.specs.Arc.{arc_value}
use Rattle.std.specs.Global.{Global}
use Rattle.std.specs.declared.sync.Arc.{Arc}
use Rattle.doc_items.specs.declared.item.Item.{Item}
use Rattle.doc_pack.specs.Packed.{run_items, all_items, shared_items}
use Rattle.doc_pack.specs.declared.run.Run.{Run}

pub all_pushed : (rs new : List Run) (r : Run) → new ≡ rs ++ r ∷ [] → all_items new ≡ all_items rs ++ run_items r
all_pushed rs new r e = ap all_items e ∙ more rs
  where
    more : (rs : List Run) → all_items (rs ++ r ∷ []) ≡ all_items rs ++ run_items r
    more [] = append-nil (run_items r)
    more (x ∷ rs) = ap (λ (l : List Item). run_items x ++ l) (more rs) ∙ sym (append_assoc (run_items x) (all_items rs) (run_items r))

pub read_on : (w run out new : List Item) (p : ℕ) → out ++ drop p w ≡ w → take (length run) (drop p w) ≡ run → new ≡ out ++ run → new ++ drop (p + length run) w ≡ w
read_on w run out new p all front e =
    (λ i. (e ∙ ap (λ (l : List Item). out ++ l) (sym front)) i ++ sym (drop-drop (length run) p w) i)
    ∙ append_assoc out (take (length run) (drop p w)) (drop (length run) (drop p w))
    ∙ ap (λ (l : List Item). out ++ l) (take-append-drop (length run) (drop p w))
    ∙ all

pub passed_on : (rs : List Run) (r : Run) (i : ℕ) (w rest others : List Item) → i < length rs → r ≡ get_or rs i r → all_items (take i rs) ++ rest ≡ w → rest ≡ run_items r ++ others
    → all_items (take (i + 1) rs) ++ others ≡ w
passed_on rs r i w rest others less is all e =
    ap (λ (l : List Item). l ++ others) (all_pushed (take i rs) (take (i + 1) rs) r (take_more rs i r less ∙ ap (λ x. take i rs ++ x ∷ []) (sym is)))
    ∙ append_assoc (all_items (take i rs)) (run_items r) others
    ∙ ap (λ (l : List Item). all_items (take i rs) ++ l) (sym e)
    ∙ all

pub pieces_pushed : (ps new : List (Arc (List Item) Global)) (p : Arc (List Item) Global) → new ≡ ps ++ p ∷ [] → shared_items new ≡ shared_items ps ++ arc_value p
pieces_pushed ps new p e = ap shared_items e ∙ more ps
  where
    more : (ps : List (Arc (List Item) Global)) → shared_items (ps ++ p ∷ []) ≡ shared_items ps ++ arc_value p
    more [] = append-nil (arc_value p)
    more (x ∷ ps) = ap (λ (l : List Item). arc_value x ++ l) (more ps) ∙ sym (append_assoc (arc_value x) (shared_items ps) (arc_value p))
