-- How a run of a server ended.
--     begin_later   marks that begin with those of histories go on to do so
--     run_since     a run is one since an earlier moment of the net
--     run_of        of a server with these marks and peers
--     run_none      nothing was begun, and the status is one from 5 to 8
--     door_low, door_high, door_known     the statuses where the door can't be opened
use Rattle.std.proofs.Common.{arith, inl, inr, sym, subst, ◌∙◌, ◌≡◌, ◌⊎◌, ◌<◌, ◌≤◌, ℕ, Bool, true, false, true≢false, List, filter, length, Option, IfSome, is_some}
use Rattle.doc_items.specs.Maps.{Key}
use mathlib.Core.List.{IsPrefix}
use Rattle.wave_outside.specs.Counts.{Rose}
use Rattle.wave_outside.specs.declared.link.Link as link_of
use Rattle.wave_outside.specs.declared.net.Net as net_of
use Rattle.wavelet_shelf.specs.Hosting.{Hosted}
use Rattle.wavelet_shelf.specs.Parts.{is_in}
use Rattle.hosted_copies.specs.Domains.{hosted_by}
use Rattle.turn_cells.specs.declared.cells.Passes.{Passes}
use Rattle.shard_marks.specs.declared.mark.Mark.{Mark}
use Rattle.shard_marks.specs.Marks.{founded, loaded}
use Rattle.shard_marks.specs.Passes.{marks_of}
use Rattle.shard_marks.specs.Servers.{ServerOf}
use Rattle.robot_host.specs.Hosts.{HostOf}
use Rattle.peer_rounds.specs.Peers.{Name}
use Rattle.wave_server.specs.Counting.{HasCounted}
use Rattle.wave_server.specs.Meeting.{HasMet}
use Rattle.wave_server.specs.Running.{BeginWith, HasServed}
use Rattle.wave_server.specs.Runs.{HasRun}
use Rattle.wave_server.specs.Statuses.{IsServerStatus}
use Rattle.wave_server.specs.declared.server.Ended.{Ended}
use Rattle.wave_server.proofs.Ending.{prefix_later, if_none}

pub begin_later : (d : Key) (hs : List Hosted) (marks marks' : ℕ → List Mark) → BeginWith d hs marks → ((k : ℕ) → k < 16 → IsPrefix (marks k) (marks' k)) → BeginWith d hs marks'
begin_later d hs marks marks' begun later k low = prefix_later (founded d k (loaded (filter (λ h. is_in k h.name) (hosted_by d hs)))) (marks k) (marks' k) (begun k low) (later k low)

module _ {N L T : Type 0} (net : net_of.Ghosts N L) (link : link_of.Ghosts L) where
  pub run_since : (v : ServerOf) (own : Key) (peers : List Name) (sessions : Option ℕ) (n n' m : N) (ended : List Ended) (count : ℕ) (passes : Option (Passes T Mark)) (is_spent : Bool) (host : HostOf) (starts starts' status : ℕ)
      → net.back n' ≡ net.back n → net.line n' ≡ net.line n → net.accepted n' ≡ net.accepted n → net.door n ≤ net.door n'
      → HasRun net link v own peers sessions n' m ended count passes is_spent host starts starts' status → HasRun net link v own peers sessions n m ended count passes is_spent host starts starts' status
  run_since v own peers sessions n n' m ended count passes is_spent host starts starts' status back line accepted door r = record {
    served = subst (λ b. IfSome passes (λ p. HasServed link v (marks_of p) is_spent b (net.back m) ended)) back r.served;
    counted = subst (λ k. HasCounted sessions status (is_some passes) count k (net.accepted m)) accepted r.counted;
    met = λ zero. subst (λ b. HasMet link b (net.back m) (net.line n) (net.line m) own (length peers) ended) back
        (subst (λ l. HasMet link (net.back n') (net.back m) l (net.line m) own (length peers) ended) line (r.met zero));
    dialled = r.dialled;
    robots = r.robots;
    door = λ seven. let rose = r.door seven in omega (arith, rose, door);
    refused = r.refused;
    spent = r.spent;
  }

  pub run_of : (v w : ServerOf) (own own' : Key) (peers peers' : List Name) (sessions : Option ℕ) (n m : N) (ended : List Ended) (count : ℕ) (passes : Option (Passes T Mark)) (is_spent : Bool) (host : HostOf) (starts starts' status : ℕ)
      → v ≡ w → own ≡ own' → peers ≡ peers'
      → HasRun net link v own peers sessions n m ended count passes is_spent host starts starts' status → HasRun net link w own' peers' sessions n m ended count passes is_spent host starts starts' status
  run_of v w own own' peers peers' sessions n m ended count passes is_spent host starts starts' status whose speaks named r =
      subst (λ x. HasRun net link x own' peers' sessions n m ended count passes is_spent host starts starts' status) whose
      (subst (λ d. HasRun net link v d peers' sessions n m ended count passes is_spent host starts starts' status) speaks
      (subst (λ ps. HasRun net link v own ps sessions n m ended count passes is_spent host starts starts' status) named r))

  pub run_none : (v : ServerOf) (own : Key) (peers : List Name) (sessions : Option ℕ) (n m : N) (ended : List Ended) (count : ℕ) (passes : Option (Passes T Mark)) (is_spent : Bool) (host : HostOf) (starts starts' status : ℕ)
      → is_some passes ≡ false → is_spent ≡ false → net.accepted m ≡ net.accepted n → (status ≡ 7 → Rose (net.door n) (net.door m)) → 5 ≤ status → status ≤ 8
      → HasRun net link v own peers sessions n m ended count passes is_spent host starts starts' status
  run_none v own peers sessions n m ended count passes is_spent host starts starts' status none calm same door low high = record {
    served = if_none (λ p. HasServed link v (marks_of p) is_spent (net.back n) (net.back m) ended) passes none;
    counted = record { done = λ zero. absurd (omega (arith, low, zero)); most = λ k is. omega (arith, same) };
    met = λ zero. absurd (omega (arith, low, zero));
    dialled = λ zero. absurd (omega (arith, low, zero));
    robots = λ zero. absurd (omega (arith, low, zero));
    door = door;
    refused = λ nine. absurd (omega (arith, high, nine));
    spent = (λ twelve. absurd (omega (arith, high, twelve)), λ e. absurd (true≢false (sym e ∙ calm)));
  }

pub door_low : (status : ℕ) → (status ≡ 7) ⊎ (status ≡ 8) → 5 ≤ status
door_low status (inl e) = omega (arith, e)
door_low status (inr e) = omega (arith, e)

pub door_high : (status : ℕ) → (status ≡ 7) ⊎ (status ≡ 8) → status ≤ 8
door_high status (inl e) = omega (arith, e)
door_high status (inr e) = omega (arith, e)

pub door_known : (status : ℕ) → (status ≡ 7) ⊎ (status ≡ 8) → IsServerStatus status
door_known status (inl e) = inr (inl e)
door_known status (inr e) = inr (inr (inl e))
