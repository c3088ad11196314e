-- A follower as its code keeps it: with operations in the place of acts.
--     Parts                  the parts of a follower, with its flight and its entries as operations in normal form
--     parts ..               the parts of these fields
--     flight_of g, follower_of p     the flight, the follower
--     numbered n f           the follower whose next submission has this number
--     ops_pending p          the operations that are pending: those of the flight, and then the entries
--     with_ops g o           the flight with other operations
--     settled es             nothing is pending
--     IsNormalFlight g       its operations are in normal form
--     IsKept p count kept     the follower is sound; what is pending inserts so many items, and this is the screen, if one is kept
use Rattle.std.specs.Prelude.{◌≡◌, ◌≤◌, ◌+◌, ℕ, Bool, true, false, List, [], ◌∷◌, ◌++◌, map, Option, Some, None, IfSome}
use Rattle.std.specs.List.{All}
use Rattle.std.specs.Option.{option_map}
use Rattle.doc_items.specs.Limits.{max_count}
use Rattle.doc_items.specs.Maps.{Key}
use Rattle.wave_base.specs.Versions.{VersionAt}
use Rattle.wavelet_op.specs.Acts.{meanings, AreNormal}
use Rattle.wavelet_op.specs.States.{State}
use Rattle.wavelet_op.specs.declared.op.WaveletOp.{WaveletOp}
use Rattle.delta_history.specs.Points.{Point}
use Rattle.follower_rules.specs.Followers.{ClientOf, Flight, FollowerOf, inserted_all, pending, screen}
use Rattle.follower_rules.specs.Laws.{IsSound}
use Rattle.client_control.specs.declared.flight.InFlight.{InFlight}

pub record Parts : Type 0 where
  pub name : Key
  pub client : ClientOf
  pub here : Point
  pub flight : Option InFlight
  pub queue : List (List WaveletOp)
  pub next : ℕ

abbrev pub parts : Key → Key → ℕ → VersionAt → ℕ → State → Option InFlight → List (List WaveletOp) → ℕ → Parts
parts name author client at count state flight queue next = record {
  name = name;
  client = record { author = author; client = client };
  here = record { at = at; state = state; count = count };
  flight = flight;
  queue = queue;
  next = next;
}

abbrev pub flight_of : InFlight → Flight
flight_of g = record { sent = g.sent; acts = meanings g.ops }

abbrev pub follower_of : Parts → FollowerOf
follower_of p = record {
  name = p.name;
  client = p.client;
  here = p.here;
  flight = option_map flight_of p.flight;
  queue = map meanings p.queue;
  next = p.next;
}

abbrev pub numbered : ℕ → FollowerOf → FollowerOf
numbered n f = record { name = f.name; client = f.client; here = f.here; flight = f.flight; queue = f.queue; next = n }

abbrev pub ops_flying : Option InFlight → List (List WaveletOp)
ops_flying None = []
ops_flying (Some g) = g.ops ∷ []

abbrev pub ops_pending : Parts → List (List WaveletOp)
ops_pending p = ops_flying p.flight ++ p.queue

abbrev pub with_ops : Option InFlight → Option (List WaveletOp) → Option InFlight
with_ops None o = None
with_ops (Some g) None = None
with_ops (Some g) (Some ops) = Some (record { sent = g.sent; ops = ops })

abbrev pub settled : {A : Type 0} → List A → Bool
settled [] = true
settled (x ∷ xs) = false

abbrev pub IsNormalFlight : Option InFlight → Type 0
IsNormalFlight None = Unit {0}
IsNormalFlight (Some g) = AreNormal g.ops

pub record IsKept (p : Parts) (count : ℕ) (kept : Option State) : Type 0 where
  pub sound : IsSound (follower_of p)
  pub flight_normal : IsNormalFlight p.flight
  pub queue_normal : All AreNormal p.queue
  pub held : count ≡ inserted_all (pending (follower_of p))
  pub shown : IfSome kept (λ s. screen (follower_of p) ≡ Some s)
  pub client : p.client.client ≤ max_count
  pub next : p.next ≤ max_count + 1
