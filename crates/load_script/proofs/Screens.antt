-- The document on a follower's screen.
--     letters_are                 it is that of the screen
--     letters_fit, shown_fits     it has room for an item more
use Rattle.std.proofs.Common.{◌≡◌, ℕ, ◌+◌, ◌<◌, List, [], ◌∷◌, length, Some, ap, sym, subst, ◌∙◌, arith}
use Rattle.std.specs.Option.{option_map_or}
use Rattle.doc_items.specs.Limits.{max_count}
use Rattle.doc_items.specs.Maps.{Key}
use Rattle.doc_op.proofs.Applying.{same_Some}
use Rattle.wavelet_op.specs.Acts.{Act, inserted}
use Rattle.wavelet_op.specs.States.{State, document_of, run}
use Rattle.wavelet_op.proofs.Partial.{and_then_some}
use Rattle.follower_rules.specs.Followers.{FollowerOf, run_all, inserted_all, pending, screen}
use Rattle.follower_rules.specs.Laws.{IsSmall, IsSound}
use Rattle.follower_rules.proofs.Room.{small_run}
use Rattle.load_script.specs.Edits.{letters}
use Rattle.load_script.specs.Names.{the_document}

pub letters_are : (f : FollowerOf) (s : State) → screen f ≡ Some s → letters f ≡ document_of s the_document
unfolding letters
letters_are f s e = ap (λ o. option_map_or (λ z. document_of z the_document) o []) e

small_all : (n : ℕ) (s t : State) (es : List (List Act)) → IsSmall n s → run_all s es ≡ Some t → IsSmall (n + inserted_all es) t
small_all n s t [] h e = subst (IsSmall (n + 0)) (same_Some e) (λ d. omega (arith, h d))
small_all n s t (acts ∷ rest) h e =
    let m = and_then_some (run s acts) (λ x. run_all x rest) t e in
    let k = small_all (n + inserted acts) m.0 t rest (small_run n s m.0 acts h m.1) m.2 in
    λ d. omega (arith, k d)

pub letters_fit : (f : FollowerOf) → IsSound f → length (letters f) < max_count
letters_fit f s =
    let k = small_all f.here.count f.here.state s.shown (pending f) s.place.small s.is_shown the_document in
    let e : length (letters f) ≡ length (document_of s.shown the_document) = ap length (letters_are f s.shown s.is_shown) in
    omega (arith, k, e, s.place.count, s.held)

pub shown_fits : (f : FollowerOf) (s : State) (d : Key) → IsSound f → screen f ≡ Some s → d ≡ the_document → length (document_of s d) < max_count
shown_fits f s d sound e q =
    let k = letters_fit f sound in
    let same : length (letters f) ≡ length (document_of s d) = ap length (letters_are f s e ∙ ap (document_of s) (sym q)) in
    omega (arith, k, same)
