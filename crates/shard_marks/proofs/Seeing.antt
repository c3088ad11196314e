-- What sessions are given of a shard is what they are given of the copies that its marks give.
--     attached_at      in the answer to an `open`
--     delivered_at     in deliveries
--     after_at         and the session then
--     sent_at          whether it was sent all
--     had_at           after a `have`
--     named_at, named_after_at     of some names alone, in deliveries and then
use Rattle.std.proofs.Common.{◌≡◌, ℕ, List, Option, refl, ap, ◌∙◌}
use Rattle.doc_items.specs.Maps.{Key}
use Rattle.wave_base.specs.Versions.{VersionAt}
use Rattle.session_core.specs.declared.session.Session.{Session}
use Rattle.session_core.specs.Access.{Shown, with_hosts}
use Rattle.session_core.specs.Answers.{attached, had}
use Rattle.session_core.specs.Current.{are_sent}
use Rattle.session_core.specs.Deliveries.{delivered, after_delivery}
use Rattle.wavelet_shelf.specs.Hosting.{Hosted}
use Rattle.hosted_copies.specs.Shown.{IsSameShown}
use Rattle.hosted_copies.proofs.Alike.{attached_alike, delivered_alike, after_alike, told_alike, had_alike}
use Rattle.shard_marks.specs.declared.mark.Mark.{Mark}
use Rattle.replica_store.specs.Worlds.{Worlds}
use Rattle.shard_copies.specs.Shown.{shown_among}
use Rattle.shard_marks.specs.Marks.{replayed, copied, shown_at}

module _ (c : Shown) (d : Key) (k : ℕ) (ms : List Mark) (hs : List Hosted) (cs : Worlds) (same : IsSameShown c (shown_among d hs cs)) (replay : hs ≡ replayed d k ms) (copies : cs ≡ copied d k ms) where
  seen : shown_among d hs cs ≡ shown_at d k ms
  seen i = shown_among d (replay i) (copies i)

  pub attached_at : (s : Session) (name : Key) (from : Option VersionAt) → attached c s name from ≡ attached (shown_at d k ms) s name from
  attached_at s name from = attached_alike c (shown_among d hs cs) same s name from ∙ ap (λ x. attached x s name from) seen

  pub delivered_at : (s : Session) → delivered c s ≡ delivered (shown_at d k ms) s
  delivered_at s = delivered_alike c (shown_among d hs cs) same s ∙ ap (λ x. delivered x s) seen

  pub after_at : (s : Session) → after_delivery c s ≡ after_delivery (shown_at d k ms) s
  after_at s = after_alike c (shown_among d hs cs) same s ∙ ap (λ x. after_delivery x s) seen

  pub sent_at : (s : Session) → are_sent c s ≡ are_sent (shown_at d k ms) s
  sent_at s = told_alike c (shown_among d hs cs) same s ∙ ap (λ x. are_sent x s) seen

  pub had_at : (s : Session) (name : Key) (from : VersionAt) → had c s name from ≡ had (shown_at d k ms) s name from
  had_at s name from = had_alike c (shown_among d hs cs) same s name from ∙ ap (λ x. had x s name from) seen

  module _ (ns : List Key) where
    same_named : IsSameShown (with_hosts c ns) (with_hosts (shown_among d hs cs) ns)
    same_named = record { copy = same.copy; hosts = refl; drops = same.drops; outcome = same.outcome }

    pub named_at : (s : Session) → delivered (with_hosts c ns) s ≡ delivered (with_hosts (shown_at d k ms) ns) s
    named_at s = delivered_alike (with_hosts c ns) (with_hosts (shown_among d hs cs) ns) same_named s ∙ ap (λ x. delivered (with_hosts x ns) s) seen

    pub named_after_at : (s : Session) → after_delivery (with_hosts c ns) s ≡ after_delivery (with_hosts (shown_at d k ms) ns) s
    named_after_at s = after_alike (with_hosts c ns) (with_hosts (shown_among d hs cs) ns) same_named s ∙ ap (λ x. after_delivery (with_hosts x ns) s) seen
