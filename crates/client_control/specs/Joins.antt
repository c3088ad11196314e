-- Entries of the queue, joined for one submission.
--     join_on acts more       acts that are compacted already, with further ones after them
--     fit r                   what is compacted, where it is few and short enough for a submission
--     gather_joined acts rest     the acts joined with as many of the entries as fit, and those that are left
--     IsCompacted ops o       the operations compacted, in normal form
--     IsJoining acts more o   those that are compacted already with others after them
--     IsFit acts o            the operations of these acts, where they are few and short enough
--     IsGathered first rest g     how many of the others are joined with the first entry
use Rattle.std.specs.Prelude.{◌≡◌, ◌≤◌, ◌<◌, List, [], ◌∷◌, length, map, drop, Option, Some, None, Result, Ok, option_and_then}
use Rattle.std.specs.Option.{option_map_or}
use Rattle.std.specs.Result.{result_ok}
use Rattle.wavelet_op.specs.Acts.{Act, meanings, AreNormal}
use Rattle.wavelet_op.specs.Compacts.{Unfit, bounded_join, act_front, compact_by, bounded_compact}
use Rattle.wavelet_op.specs.declared.op.WaveletOp.{WaveletOp}
use Rattle.follower_rules.specs.Submitting.{if_fits, Gathered, gather}
use Rattle.client_control.specs.declared.joining.Joint.{Joint}

abbrev pub Joined : Type 0
Joined = Result (List Act) Unfit

abbrev pub join_on : List Act → List Act → Joined
join_on [] more = bounded_compact more
join_on (a ∷ []) more = compact_by bounded_join a more
join_on (a ∷ b ∷ rest) more = act_front a (join_on (b ∷ rest) more)

abbrev pub fit : Joined → Option (List Act)
fit r = option_and_then if_fits (result_ok r)

abbrev pub gather_joined : List Act → List (List Act) → Gathered
gather_joined acts [] = (acts, [])
gather_joined acts (entry ∷ rest) = option_map_or (λ more. gather_joined more rest) (fit (join_on acts entry)) (acts, entry ∷ rest)

abbrev pub IsCompacted : List WaveletOp → Option (List WaveletOp) → Type 0
IsCompacted ops None = result_ok (bounded_compact (meanings ops)) ≡ None
IsCompacted ops (Some fewer) = (bounded_compact (meanings ops) ≡ Ok (meanings fewer)) × AreNormal fewer

pub record IsJoining (acts more joined : List WaveletOp) : Type 0 where
  pub is : join_on (meanings acts) (meanings more) ≡ Ok (meanings joined)
  pub normal : AreNormal joined
  pub some : 0 < length joined

abbrev pub IsFit : List Act → Option (List WaveletOp) → Type 0
IsFit acts None = if_fits acts ≡ None
IsFit acts (Some ops) = (if_fits acts ≡ Some (meanings ops)) × AreNormal ops

-- what fits of compacted acts
abbrev pub IsFitting : Joined → Option (List WaveletOp) → Type 0
IsFitting r None = fit r ≡ None
IsFitting r (Some ops) = (fit r ≡ Some (meanings ops)) × AreNormal ops

pub record IsGathered (first : List WaveletOp) (rest : List (List WaveletOp)) (g : Joint) : Type 0 where
  pub is : gather (meanings first) (map meanings rest) ≡ Some (meanings g.ops, map meanings (drop g.entries rest))
  pub within : g.entries ≤ length rest
  pub normal : AreNormal g.ops

pub record IsGathering (acts : List WaveletOp) (rest : List (List WaveletOp)) (g : Joint) : Type 0 where
  pub is : gather_joined (meanings acts) (map meanings rest) ≡ (meanings g.ops, map meanings (drop g.entries rest))
  pub within : g.entries ≤ length rest
  pub normal : AreNormal g.ops
