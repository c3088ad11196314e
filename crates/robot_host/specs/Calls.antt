-- The calls by which a robot is shown deltas.
--     Call                        what a call of `react` that answered Ok was given, and the answer
--     with_call o name d s r      the calls with one more, where they are told
--     Given                       a delta with the state after it
--     given_in name calls         what the calls for a wavelet were given
use Rattle.std.specs.Prelude.{List, [], ◌∷◌, ◌++◌, map, filter, Option}
use Rattle.std.specs.Option.{option_map}
use Rattle.doc_items.specs.Maps.{Key, same_text}
use Rattle.wavelet_op.specs.Deltas.{DeltaOf}
use Rattle.wavelet_op.specs.States.{State}
use Rattle.robot_host.specs.declared.reaction.Reaction.{Reaction}

pub record Call : Type 0 where
  pub name : Key
  pub delta : DeltaOf
  pub state : State
  pub answer : Reaction

abbrev pub with_call : Option (List Call) → Key → DeltaOf → State → Reaction → Option (List Call)
with_call calls name d s r = option_map (λ l. l ++ record { name = name; delta = d; state = s; answer = r } ∷ []) calls

abbrev pub Given : Type 0
Given = DeltaOf × State

abbrev pub given_in : Key → List Call → List Given
given_in name calls = map (λ c. (c.delta, c.state)) (filter (λ c. same_text c.name name) calls)
