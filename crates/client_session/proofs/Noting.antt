-- What is noted in a chain of undo.
--     value_is                what is there is what is unwrapped
--     edit_noted, edit_refused      an edit that a chain took, and one that it refused
--     undo_noted, undo_empty        an undo, and one where there is nothing to take back
--     change_noted, change_refused, change_crowded      a change by others that a chain took, and one that it refused
use Rattle.std.proofs.Common.{◌≡◌, ◌⊎◌, inl, inr, List, [], ◌∷◌, length, Option, None, Some, refl, sym, ap, ◌∙◌, option_and_then, unwrap_or}
use Rattle.std.specs.Option.{option_map}
use Rattle.wavelet_op.specs.Acts.{Act}
use Rattle.wavelet_op.specs.States.{State, run}
use Rattle.wavelet_op.specs.declared.op.WaveletOp.{WaveletOp}
use Rattle.wavelet_state.specs.Inverses.{inverse_acts}
use Rattle.follower_rules.specs.Followers.{FollowerOf}
use Rattle.follower_rules.specs.Receiving.{rebase}
use Rattle.undo_control.specs.Chains.{ChainOf, with_entry, edited, changed, undone, IsCrowded}
use Rattle.undo_control.specs.Parts.{Chain, chain_of}
use Rattle.undo_control.proofs.Crowding.{crowded_is}
use Rattle.client_session.specs.Seats.{fresh_chain, after_edit, after_undo, after_change}

pub value_is : {X : Type 0} (o : Option X) (x d : X) → o ≡ Some x → x ≡ unwrap_or o d
value_is o x d e = sym (ap (λ z. unwrap_or z d) e)

-- ---- edits

pub edit_noted : (c d : ChainOf) (acts : List Act) → edited c acts ≡ Some d → d ≡ after_edit c acts
edit_noted c d acts e = value_is (edited c acts) d c e

pub edit_refused : (c : ChainOf) (acts : List Act) → run c.state acts ≡ None → c ≡ after_edit c acts
edit_refused c acts e = sym (ap (λ (o : Option State). unwrap_or (option_map (λ t. record { state = t; entries = with_entry (inverse_acts c.state acts) c.entries }) o) c) e)

-- ---- undos

pub undo_noted : (c d : ChainOf) → undone c ≡ Some d → d ≡ after_undo c
undo_noted c d e = value_is (undone c) d c e

pub undo_empty : (c : Chain) → length c.entries ≡ 0 → chain_of c ≡ after_undo (chain_of c)
undo_empty c e = go c.entries e
  where
    go : (es : List (List WaveletOp)) → length es ≡ 0 → chain_of (record { state = c.state; entries = es }) ≡ after_undo (chain_of (record { state = c.state; entries = es }))
    go [] z = refl
    go (x ∷ es) z = absurd (cc)

-- ---- changes

pub change_noted : (f : FollowerOf) (c d : ChainOf) (acts : List Act) → changed c acts ≡ Some d → d ≡ after_change f c acts
change_noted f c d acts e = value_is (changed c acts) d (fresh_chain f) e

no_change : (c : ChainOf) (acts : List Act) → (run c.state acts ≡ None) ⊎ (rebase c.entries acts ≡ None) → changed c acts ≡ None
no_change c acts (inl e) = ap (λ o. option_and_then (λ t. option_map (λ p. record { state = t; entries = p.0 }) (rebase c.entries acts)) o) e
no_change c acts (inr e) = ap (λ o. option_and_then (λ t. option_map (λ p. record { state = t; entries = p.0 }) o) (run c.state acts)) e ∙ go (run c.state acts)
  where
    go : (o : Option State) → ◌≡◌ {A = Option ChainOf} (option_and_then (λ t. None) o) None
    go None = refl
    go (Some t) = refl

pub change_refused : (f : FollowerOf) (c : ChainOf) (acts : List Act) → (run c.state acts ≡ None) ⊎ (rebase c.entries acts ≡ None) → fresh_chain f ≡ after_change f c acts
change_refused f c acts h = sym (ap (λ o. unwrap_or o (fresh_chain f)) (no_change c acts h))

pub change_crowded : (f : FollowerOf) (c : ChainOf) (acts : List Act) → IsCrowded c.entries acts → fresh_chain f ≡ after_change f c acts
change_crowded f c acts h = change_refused f c acts (inr (crowded_is c.entries acts h))
