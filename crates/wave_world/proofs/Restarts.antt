-- A host that goes on with what it stored.
use Rattle.std.proofs.Common.{◌≡◌, inl, [], ◌∷◌, ◌++◌, Some, refl, sym, ap, subst, ◌∙◌}
use Rattle.delta_history.specs.Legal.{IsLegal}
use Rattle.wave_world.specs.Worlds.{World, first_world, Event, HostTakes, host_answers, host_takes, happens, world_of}
use Rattle.wave_world.specs.Converged.{IsConverged, GoesOnAlike, AcceptedIsOneEvent}
use Rattle.wave_world.proofs.Members.{get_mem, mem_right}
use Rattle.wave_world.proofs.Events.{IsGood, good, happens_good}
use Rattle.wave_world.proofs.Growth.{two_runs}
use Rattle.wave_world.proofs.Judgements.{answered}
use Rattle.wave_world.proofs.Versions.{by_versions}

pub goes_on_alike : GoesOnAlike
goes_on_alike name w = refl

pub accepted_is_one_event : AcceptedIsOneEvent
accepted_is_one_event name events s reading v d m j =
    let w : World = world_of name events in
    let at = get_mem w.submissions s m in
    let e : Event = HostTakes at.0 reading in
    let is : happens name w e ≡ host_answers w s (v, Some d) = ap (host_takes name w reading) at.1 ∙ ap (host_answers w s) j in
    let after : world_of name (events ++ e ∷ []) ≡ happens name w e = two_runs name events (e ∷ []) first_world in
    let host : (world_of name (events ++ e ∷ [])).host ≡ w.host ++ d ∷ [] = ap (λ (z : World). z.host) (after ∙ is) in
    let next : IsGood name (happens name w e) = happens_good name w e (good name events) in
    let legal : IsLegal name (w.host ++ d ∷ []) = subst (IsLegal name) (ap (λ (z : World). z.host) is) next.legal in
    record {
      event = e;
      host = host;
      converged = subst (IsConverged name) (sym after) (by_versions name (happens name w e) next);
      again = λ t reading' i. answered name (w.host ++ d ∷ []) d t reading' legal (mem_right d w.host (d ∷ []) (inl refl)) i;
    }
