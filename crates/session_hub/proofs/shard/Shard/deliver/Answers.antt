use Rattle.std.proofs.Common.{◌≡◌, [], true, map, IfOk, sym, ap, subst, ◌∙◌}
use Rattle.std.specs.List.{All}
use Rattle.message_json.specs.Write.{IsShort}
use Rattle.session_core.specs.Current.{are_sent}
use Rattle.session_core.specs.Deliveries.{delivered, after_delivery}
use Rattle.session_core.specs.News.{message_of, messages_of}
use Rattle.session_core.specs.declared.session.Session.{Session}
use Rattle.wavelet_shelf.specs.Shelves.{hosted_of}
use Rattle.hosted_copies.specs.Domains.{hosted_by}
use Rattle.replica_store.specs.Worlds.{worlds_of}
use Rattle.shard_copies.specs.Kept.{shown_kept}
use Rattle.shard_copies.specs.Shown.{deltas_among}
use Rattle.session_hub.specs.Entries.{entries_of, copies_at}
use Rattle.shard_marks.specs.Frames.{frames_of}
use Rattle.shard_marks.specs.Histories.{are_sound}
use Rattle.shard_marks.proofs.Telling.{delivered_short}
use Rattle.session_hub.proofs.Leaving.{nothing_at, news_short}
use Rattle.shard_marks.proofs.Seeing.{sent_at}
use Rattle.session_hub.proofs.Looking.{shard_news, shard_after}
use Rattle.session_hub.specs.Published.{AreLookedAt}
use Rattle.session_hub.specs.Texts.{AreWritten, IsPlacedIn}
use Rattle.session_hub.proofs.Turning.{on_ok}
use Rattle.session_hub.proofs.Written.{placed_in, each_ok}
use Rattle.session_hub.proofs.shard.Shard.deliver.Goals as goal

pub frames-requires : goal.frames-requires
frames-requires g c =
    let s = c.args.self.now in
    let hosted = hosted_by s.domain (hosted_of s.shelf) in
    let looked = subst (λ l. AreLookedAt s.domain hosted s.records.items c.args.session.now c.args.sent (map (λ n. n.now) l)) (sym c.as_slice-named.ensures.value)
    (subst (λ rs. AreLookedAt s.domain hosted rs c.args.session.now c.args.sent (map (λ n. n.now) c.in_ok-names.names.items)) c.as_slice-records.ensures.value c.in_ok-names.ensures) in
    let short = delivered_short s.domain s.number (entries_of s) c.args.session.now (ap are_sound (sym s.replay) ∙ s.sound) in
    subst (All (λ n. IsShort (message_of n))) (sym c.as_slice.ensures.value) (news_short c.in_ok-news.news.items (subst (All IsShort) (sym (c.in_ok-news.ensures.sent ∙ shard_news s c.are_shown.ensures.same c.args.session.now c.args.sent c.requires.told (map (λ n. n.now) c.as_slice-named.result.now) looked)) short))

pub returns-clause-frames : goal.returns-clause-frames
returns-clause-frames g c =
    let s = c.args.self.now in
    let hosted = hosted_by s.domain (hosted_of s.shelf) in
    let looked = subst (λ l. AreLookedAt s.domain hosted s.records.items c.args.session.now c.args.sent (map (λ n. n.now) l)) (sym c.as_slice-named.ensures.value)
    (subst (λ rs. AreLookedAt s.domain hosted rs c.args.session.now c.args.sent (map (λ n. n.now) c.in_ok-names.names.items)) c.as_slice-records.ensures.value c.in_ok-names.ensures) in
    let f = deltas_among s.domain (hosted_by s.domain (hosted_of s.shelf)) (worlds_of s.replicas) in
    let placed = subst (All (IsPlacedIn f)) (sym c.as_slice.ensures.value) (placed_in (shown_kept s.domain s.shelf s.replicas) s.domain (hosted_by s.domain (hosted_of s.shelf)) (worlds_of s.replicas) c.are_shown.ensures.same c.in_ok-news.news.items c.in_ok-news.ensures.placed) in
    let sent : messages_of c.as_slice.result.now ≡ delivered (copies_at s) c.args.session.now = ap messages_of c.as_slice.ensures.value ∙ c.in_ok-news.ensures.sent ∙ shard_news s c.are_shown.ensures.same c.args.session.now c.args.sent c.requires.told (map (λ n. n.now) c.as_slice-named.result.now) looked in
    subst (λ z. IfOk c.frames.result (λ v. map (λ f. f.items) v.items ≡ z)) (ap frames_of sent) (each_ok (λ v _. map (λ f. f.items) v.items ≡ frames_of (messages_of c.as_slice.result.now)) (λ z. AreWritten z s.texts.items) (λ z. All (IsPlacedIn z) c.as_slice.result.now) c.frames.result c.frames.ensures.frames f s.written placed)

pub returns-clause-after : goal.returns-clause-after
returns-clause-after g c =
    let s = c.args.self.now in
    let hosted = hosted_by s.domain (hosted_of s.shelf) in
    let looked = subst (λ l. AreLookedAt s.domain hosted s.records.items c.args.session.now c.args.sent (map (λ n. n.now) l)) (sym c.as_slice-named.ensures.value)
    (subst (λ rs. AreLookedAt s.domain hosted rs c.args.session.now c.args.sent (map (λ n. n.now) c.in_ok-names.names.items)) c.as_slice-records.ensures.value c.in_ok-names.ensures) in
    on_ok c.frames.result (c.in_ok-news.ensures.after ∙ shard_after s c.are_shown.ensures.same c.args.session.now c.args.sent c.requires.told (map (λ n. n.now) c.as_slice-named.result.now) looked)

pub returns-clause-told : goal.returns-clause-told
returns-clause-told g c =
    let s = c.args.self.now in
    let hosted = hosted_by s.domain (hosted_of s.shelf) in
    let looked = subst (λ l. AreLookedAt s.domain hosted s.records.items c.args.session.now c.args.sent (map (λ n. n.now) l)) (sym c.as_slice-named.ensures.value)
    (subst (λ rs. AreLookedAt s.domain hosted rs c.args.session.now c.args.sent (map (λ n. n.now) c.in_ok-names.names.items)) c.as_slice-records.ensures.value c.in_ok-names.ensures) in
    let copies = copies_at s in
    let after : c.deliver_named.new.self ≡ after_delivery copies c.args.session.now =
    c.in_ok-news.ensures.after ∙ shard_after s c.are_shown.ensures.same c.args.session.now c.args.sent c.requires.told (map (λ n. n.now) c.as_slice-named.result.now) looked in
    let told : are_sent copies c.deliver_named.new.self ≡ true =
    sym (sent_at (shown_kept s.domain s.shelf s.replicas) s.domain s.number (entries_of s) (hosted_by s.domain (hosted_of s.shelf)) (worlds_of s.replicas) c.are_shown.ensures.same s.replay s.copies c.deliver_named.new.self) ∙ c.in_ok-news.ensures.current in
    on_ok c.frames.result (subst (λ (x : Session). delivered copies x ≡ []) (sym after) (nothing_at s.domain s.number (entries_of s) c.args.session.now (ap are_sound (sym s.replay) ∙ s.sound) (subst (λ (x : Session). are_sent copies x ≡ true) after told)))

pub invariant_of-self-2-clause-written : goal.invariant_of-self-2-clause-written
invariant_of-self-2-clause-written g c =
    let s = c.args.self.now in
    let f = deltas_among s.domain (hosted_by s.domain (hosted_of s.shelf)) (worlds_of s.replicas) in
    let placed = subst (All (IsPlacedIn f)) (sym c.as_slice.ensures.value) (placed_in (shown_kept s.domain s.shelf s.replicas) s.domain (hosted_by s.domain (hosted_of s.shelf)) (worlds_of s.replicas) c.are_shown.ensures.same c.in_ok-news.news.items c.in_ok-news.ensures.placed) in
    c.frames.ensures.texts f s.written placed
