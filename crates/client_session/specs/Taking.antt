-- What a message of a server does to its wavelet.
--     Told                    the wavelet, with what is then sent and printed
--     open_at f               the opening at the follower's version
--     ask s                   the wavelet is opened again at its version, once for each version
--     ask_anyway s            the wavelet is opened again at its version, however often it was before
--     reopen s                it is opened on a new link: without a version where nothing is pending, and else at its version, with the
--                             submission in flight as it was first taken
--     ack_seat s              an acknowledgement: the first one on a wavelet that was created here opens it at its beginning
--     snapshot_seat s p       a snapshot of this name at a point
--     flies f i               the submission in flight has this id
--     chain_after own c f r   the chain after a delta that leads to the follower f: the own one leaves it
--     IsLeft r n, IsNoteOf f d n     what is to be noted in the chain
--     update_seat s d         a delta
--     refuse_seat s i said, refuse_known b s i said     a submission was refused; only one whose id is in range can be its own
--     unopen_seat s r         the wavelet wasn't opened
--     close_seat s r          it is open no more
use Rattle.std.specs.Prelude.{◌≡◌, ◌==◌, Bool, true, false, cond, List, [], ◌∷◌, Option, Some, None}
use Rattle.std.specs.Option.{option_map, option_map_or}
use Rattle.doc_items.specs.Maps.{Key, same_text}
use Rattle.wave_base.specs.Versions.{IdOf, same_id}
use Rattle.wavelet_op.specs.Acts.{Act, AreStructuredActs}
use Rattle.wavelet_op.specs.Deltas.{DeltaOf}
use Rattle.wavelet_op.specs.declared.delta.Submission.{Submission}
use Rattle.wavelet_state.specs.Snapshots.{SnapshotOf}
use Rattle.wavelet_json.specs.declared.reason.ClosedReason.{ClosedReason}
use Rattle.wavelet_json.specs.declared.reason.UnopenedReason.{UnopenedReason}
use Rattle.wavelet_json.specs.declared.reason.UnopenedReason.TheVariants as unopened
use Rattle.message_json.specs.declared.message.Message.{Message}
use Rattle.message_json.specs.declared.message.Message.TheVariants.{OpenWavelet}
use Rattle.delta_history.specs.Points.{start, acts_of}
use Rattle.follower_rules.specs.Followers.{Flight, FollowerOf, pending, refuse, point_of, take_snapshot}
use Rattle.follower_rules.specs.Receiving.{rebase, receive}
use Rattle.follower_rules.specs.declared.received.Received.{Received}
use Rattle.follower_rules.specs.declared.received.Received.TheVariants as received
use Rattle.follower_rules.specs.declared.taken.Taken.{Taken}
use Rattle.follower_rules.specs.declared.taken.Taken.TheVariants as taken
use Rattle.client_control.specs.Parts.{settled}
use Rattle.undo_control.specs.Chains.{ChainOf}
use Rattle.client_session.specs.Answers.{acts, quiet, says}
use Rattle.client_session.specs.Editing.{drop_seat, sent_message}
use Rattle.client_session.specs.Lines.{unopened_said, closed_said}
use Rattle.client_session.specs.Seats.{SeatOf, fresh_chain, after_change, noted, with_follower, anew, answered, opening}
use Rattle.client_session.specs.declared.acts.Acts.{Acts}
use Rattle.client_session.specs.declared.chain.Note.{Note}
use Rattle.client_session.specs.declared.said.Said.{Said}
use Rattle.client_session.specs.declared.said.Said.TheVariants as said

abbrev pub Told : Type 0
Told = SeatOf × Acts

-- ---- openings

abbrev pub open_plain : Key → Message
open_plain name = OpenWavelet name None

abbrev pub open_at : FollowerOf → Message
open_at f = OpenWavelet f.name (Some f.here.at)

abbrev pub asking : SeatOf → SeatOf
asking s = record { follower = s.follower; chain = s.chain; created = s.created; asked = Some s.follower.here.at.version; waits = true }

abbrev pub is_asked : SeatOf → Bool
is_asked s = option_map_or (λ v. v == s.follower.here.at.version) s.asked false

abbrev pub ask_unless : SeatOf → Said → Bool → Told
ask_unless s t true = (s, says t)
ask_unless s t false = (asking s, acts (open_at s.follower ∷ []) t)

abbrev pub ask : SeatOf → Said → Told
ask s t = ask_unless s t (is_asked s)

abbrev pub ask_anyway : SeatOf → Told
ask_anyway s = (opening s, acts (open_at s.follower ∷ []) said.Nothing)

abbrev pub flight_sent : FollowerOf → List Message
flight_sent f = sent_message f.name (option_map (λ (g : Flight). g.sent) f.flight)

abbrev pub reopened : FollowerOf → List Message
reopened f = cond (settled (pending f)) (open_plain f.name ∷ []) (open_at f ∷ flight_sent f)

abbrev pub reopen : SeatOf → SeatOf × List Message
reopen s = (opening s, reopened s.follower)

-- ---- acknowledgements

abbrev pub acknowledged : SeatOf → SeatOf
acknowledged s = record { follower = s.follower; chain = s.chain; created = false; asked = s.asked; waits = true }

abbrev pub ack_created : SeatOf → Bool → Told
ack_created s false = (s, quiet)
ack_created s true = (acknowledged s, acts (OpenWavelet s.follower.name (Some (start s.follower.name).at) ∷ []) said.Nothing)

abbrev pub ack_seat : SeatOf → Told
ack_seat s = ack_created s s.created

-- ---- snapshots

abbrev pub snapshot_told : SeatOf → Taken × FollowerOf → Told
snapshot_told s (taken.Took, f) = (anew s f, quiet)
snapshot_told s (taken.Old, f) = (with_follower s f s.chain, quiet)
snapshot_told s (taken.Pending, f) = ask (with_follower s f s.chain) said.Nothing

abbrev pub snapshot_named : SeatOf → SnapshotOf → Bool → Told
snapshot_named s x false = (s, quiet)
snapshot_named s x true = snapshot_told (answered s) (take_snapshot s.follower (point_of x))

abbrev pub snapshot_seat : SeatOf → SnapshotOf → Told
snapshot_seat s x = snapshot_named s x (same_text x.name s.follower.name)

-- ---- deltas

abbrev pub flies_as : IdOf → Option Submission → Bool
flies_as i o = option_map_or (λ (s : Submission). same_id i s.id) o false

abbrev pub flies : FollowerOf → IdOf → Bool
flies f i = flies_as i (option_map (λ (g : Flight). g.sent) f.flight)

abbrev pub Rebasing : Type 0
Rebasing = Option (List (List Act) × List Act)

abbrev pub chain_after : Bool → ChainOf → FollowerOf → Rebasing → ChainOf
chain_after true c f r = c
chain_after false c f None = fresh_chain f
chain_after false c f (Some r) = after_change f c r.1

abbrev pub chain_moved : SeatOf → DeltaOf → FollowerOf → ChainOf
chain_moved s d f = chain_after (flies s.follower d.id) s.chain f (rebase (pending s.follower) (acts_of d))

-- to be noted where a follower advances by another's delta, of which this is left
abbrev pub IsLeft : Rebasing → Note → Type 0
IsLeft r n = (f : FollowerOf) (c : ChainOf) → noted f c n ≡ chain_after false c f r

-- to be noted where a follower advances by the delta
abbrev pub IsNoteOf : FollowerOf → DeltaOf → Note → Type 0
IsNoteOf g d n = AreStructuredActs (acts_of d) → (f : FollowerOf) (c : ChainOf) → noted f c n
    ≡ chain_after (flies g d.id) c f (rebase (pending g) (acts_of d))

abbrev pub updated : SeatOf → DeltaOf → Received × FollowerOf → Told
updated s d (received.Old, f) = (with_follower s f s.chain, quiet)
updated s d (received.Gap, f) = ask (with_follower s f s.chain) said.Nothing
updated s d (received.Diverged mine theirs, f) = ask (with_follower s f s.chain) said.Diverged
updated s d (received.OtherFlight mine theirs, f) = (with_follower s f s.chain, says said.Diverged)
updated s d (received.NotNext index, f) = (with_follower s f s.chain, says said.Diverged)
updated s d (received.Advanced, f) = (with_follower s f (chain_moved s d f), quiet)

abbrev pub update_seat : SeatOf → DeltaOf → Told
update_seat s d = updated s d (receive s.follower d)

-- ---- refusals

abbrev pub refused_told : SeatOf → Said → Bool × FollowerOf → Told
refused_told s t (false, f) = (with_follower s f s.chain, says t)
refused_told s t (true, f) = (anew s f, says t)

abbrev pub refuse_seat : SeatOf → IdOf → Said → Told
refuse_seat s i t = refused_told s t (refuse s.follower i)

-- no submission has an id out of range
abbrev pub refuse_known : Bool → SeatOf → IdOf → Said → Told
refuse_known false s i t = (s, says t)
refuse_known true s i t = refuse_seat s i t

abbrev pub unopen_seat : SeatOf → UnopenedReason → Told
unopen_seat s unopened.NotParticipant = (answered s, says (unopened_said unopened.NotParticipant))
unopen_seat s (unopened.UnknownVersion head) = (answered s, says (unopened_said (unopened.UnknownVersion head)))
unopen_seat s (unopened.WrongHash host) = (answered s, says (unopened_said (unopened.WrongHash host)))
unopen_seat s unopened.TooLarge = ask_anyway s

abbrev pub close_seat : SeatOf → ClosedReason → Told
close_seat s r = (answered (drop_seat s), says (closed_said r))
