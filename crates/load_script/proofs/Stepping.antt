-- Steps one by one, and the follower that moves.
--     steps_none, steps_more     no step, and one more
--     made_of                    a load of these parts
--     moved_there, moved_past    the follower at a place of a list moves; there is none
--     on_ok                      what follows where a result is Ok
--     IsDrawn, stepped, stepped_past     a step with what is drawn for it
use Rattle.std.proofs.Common.{◌≡◌, ◌≤◌, ℕ, ◌+◌, List, length, map, slice_get, slice_set, Some, None, Result, Ok, Err, option_map, refl, sym, ap, ◌∙◌, add-one}
use Rattle.std.specs.Result.{OnOk}
use Rattle.std.proofs.lemmas.List.{map-set}
use Rattle.std.proofs.lemmas.Option.{slice_get-map, slice_get_past}
use Rattle.wavelet_op.specs.Deltas.{DeltaOf}
use Rattle.follower_rules.specs.Followers.{FollowerOf}
use Rattle.client_control.specs.Parts.{Parts, follower_of}
use Rattle.load_script.specs.Exchanges.{Meeting, meeting}
use Rattle.load_script.specs.Draws.{next, drawn}
use Rattle.load_script.specs.Loads.{Load, placed, moved, choice_of, turned, with_draws, step, steps}
use Rattle.load_script.specs.declared.choice.Choice.{Choice}

pub steps_none : (l : Load) → steps 0 l ≡ l
unfolding steps
steps_none l = refl

pub steps_more : (n : ℕ) (l : Load) → steps (n + 1) l ≡ step (n + 1) (steps n l)
unfolding steps
steps_more n l = rw (add-one) refl

-- ---- a follower of a list

abbrev pub made_of : ℕ → List DeltaOf → List FollowerOf → Load
made_of x h fs = record { draws = x; host = h; followers = fs }

pub moved_there : (who : ℕ) (g : Meeting → ℕ × Meeting) (l : Load) (ps : List Parts) (p q : Parts) (x : ℕ) (h : List DeltaOf) → l.followers ≡ map follower_of ps → slice_get ps who ≡ Some p
    → (x, meeting h (follower_of q)) ≡ g (meeting l.host (follower_of p)) → made_of x h (map follower_of (slice_set ps who q)) ≡ moved who g l
unfolding moved
moved_there who g l ps p q x h e got is =
    let found : slice_get l.followers who ≡ Some (follower_of p) = ap (λ z. slice_get z who) e ∙ slice_get-map follower_of ps who ∙ ap (option_map follower_of) got in
    let list : map follower_of (slice_set ps who q) ≡ slice_set l.followers who (follower_of q) = map-set follower_of ps who q ∙ ap (λ z. slice_set z who (follower_of q)) (sym e) in
    ap (made_of x h) list ∙ ap (λ o. placed l who (Some o)) is ∙ sym (ap (λ o. placed l who (option_map (λ f. g (meeting l.host f)) o)) found)

pub moved_past : (who : ℕ) (g : Meeting → ℕ × Meeting) (l : Load) (ps : List Parts) → l.followers ≡ map follower_of ps → length ps ≤ who → moved who g l ≡ l
unfolding moved
moved_past who g l ps e h =
    let none : slice_get l.followers who ≡ None = ap (λ z. slice_get z who) e ∙ slice_get-map follower_of ps who ∙ ap (option_map follower_of) (slice_get_past ps who h) in
    ap (λ o. placed l who (option_map (λ f. g (meeting l.host f)) o)) none

pub on_ok : {A E : Type 0} (r : Result A E) (P Q : Type 0) → (P → Q) → OnOk r P → OnOk r Q
on_ok (Ok x) P Q f h = f h
on_ok (Err e) P Q f h = tt

-- ---- a step

module _ (i who x1 x2 n : ℕ) (choice : Choice) (l : Load) (ps : List Parts) where
  -- what was drawn
  pub record IsDrawn : Type 0 where
    pub list : l.followers ≡ map follower_of ps
    pub is_who : who ≡ drawn 4 l.draws
    pub first : x1 ≡ next l.draws
    pub number : n ≡ drawn 4 x1
    pub is_choice : choice ≡ choice_of n
    pub second : x2 ≡ next x1

  step_is : IsDrawn → moved who (turned i choice x2) (with_draws l x2) ≡ step i l
  unfolding step
  step_is d =
      let x : x2 ≡ next (next l.draws) = d.second ∙ ap next d.first in
      let c : choice ≡ choice_of (drawn 4 (next l.draws)) = d.is_choice ∙ ap choice_of (d.number ∙ ap (drawn 4) d.first) in
      let w = d.is_who in
      λ j. moved (w j) (turned i (c j) (x j)) (with_draws l (x j))

  pub stepped : (p q : Parts) (x : ℕ) (h : List DeltaOf) → IsDrawn → slice_get ps who ≡ Some p → (x, meeting h (follower_of q)) ≡ turned i choice x2 (meeting l.host (follower_of p)) → made_of x h (map follower_of (slice_set ps who q)) ≡ step i l
  stepped p q x h d got is = moved_there who (turned i choice x2) (with_draws l x2) ps p q x h d.list got is ∙ step_is d

  pub stepped_past : IsDrawn → length ps ≤ who → with_draws l x2 ≡ step i l
  stepped_past d h = sym (moved_past who (turned i choice x2) (with_draws l x2) ps d.list h) ∙ step_is d
