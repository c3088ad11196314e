-- What a command does to the current wavelet.
--     edit_seat s acts        an edit; what is said of its refusal
--     edit_built s b          what an edit asks for
--     IsEdited s e r          an edit at the screen
--     undo_seat s             the newest edit is taken back
--     drop_seat s             what is pending is dropped
--     screen_of s             the screen
--     handed ms t             these messages are sent, and this is said of a submission that can't be taken
--     IsUnsent e h            a submission can't be taken for this reason
--     submit_seat s           a submission of what waits, if one is taken; what is said of its refusal
use Rattle.std.specs.Prelude.{◌≡◌, ℕ, not, List, [], ◌∷◌, Option, Some, None, Ok, Err}
use Rattle.doc_items.specs.Maps.{Key}
use Rattle.wavelet_op.specs.Acts.{Act, meanings}
use Rattle.wavelet_op.specs.declared.delta.Submission.{Submission}
use Rattle.follower_rules.specs.Followers.{pending, dropped}
use Rattle.follower_rules.specs.Submitting.{Edited, Submitted, edit, submit}
use Rattle.follower_rules.specs.declared.fault.FollowerFault.{FollowerFault}
use Rattle.client_control.specs.Parts.{settled}
use Rattle.message_json.specs.declared.message.Message.{Message}
use Rattle.message_json.specs.declared.message.Message.TheVariants.{Submit}
use Rattle.wave_screen.specs.Screen.{screen_text}
use Rattle.client_commands.specs.declared.command.Edit.{Edit}
use Rattle.client_edits.specs.Asked.{IsBuilt}
use Rattle.client_edits.specs.declared.built.Built.{Built}
use Rattle.client_edits.specs.declared.built.Built.TheVariants.{Ops, Refused}
use Rattle.client_session.specs.Lines.{fault_said, IsFaultSaid}
use Rattle.client_session.specs.Seats.{SeatOf, shown, after_edit, after_undo, with_follower, anew}
use Rattle.client_session.specs.declared.acts.Handed.{Handed}
use Rattle.client_session.specs.declared.said.Said.{Said}
use Rattle.client_session.specs.declared.said.Said.TheVariants as said

-- ---- edits

abbrev pub edited_as : SeatOf → List Act → Edited → SeatOf × Said
edited_as s acts (Err e) = (s, fault_said e)
edited_as s acts (Ok f) = (with_follower s f (after_edit s.chain acts), said.Nothing)

abbrev pub edit_seat : SeatOf → List Act → SeatOf × Said
edit_seat s acts = edited_as s acts (edit s.follower acts)

abbrev pub edit_built : SeatOf → Built → SeatOf × Said
edit_built s (Ops ops) = edit_seat s (meanings ops)
edit_built s (Refused n) = (s, said.Refused n)

abbrev pub IsEdited : SeatOf → Edit → SeatOf × Said → Type 0
IsEdited s e r = (b : Built) × IsBuilt (shown s.follower) e b × (r ≡ edit_built s b)

-- ---- an undo

abbrev pub undone_as : SeatOf → Edited → SeatOf × Said
undone_as s (Err e) = (s, fault_said e)
undone_as s (Ok f) = (with_follower s f (after_undo s.chain), said.Nothing)

abbrev pub undo_by : SeatOf → List (List Act) → SeatOf × Said
undo_by s [] = (s, said.NothingToUndo)
undo_by s (entry ∷ rest) = undone_as s (edit s.follower entry)

abbrev pub undo_seat : SeatOf → SeatOf × Said
undo_seat s = undo_by s s.chain.entries

-- ---- the others

abbrev pub drop_seat : SeatOf → SeatOf
drop_seat s = anew s (dropped s.follower)

abbrev pub screen_of : SeatOf → List ℕ
screen_of s = screen_text s.follower.name s.follower.here.at.version (not (settled (pending s.follower))) (shown s.follower)

-- ---- submissions

abbrev pub submit_message : Key → Submission → Message
submit_message name s = Submit name s.id.client s.id.number s.at s.ops

abbrev pub sent_message : Key → Option Submission → List Message
sent_message name None = []
sent_message name (Some s) = submit_message name s ∷ []

abbrev pub handed : List Message → Said → Handed
handed ms t = record { send = ms; unsent = t }

abbrev pub IsUnsent : FollowerFault → Handed → Type 0
IsUnsent e h = (t : Said) × IsFaultSaid e t × (h ≡ handed [] t)

abbrev pub submitted_as : SeatOf → Submitted → SeatOf × Handed
submitted_as s (Err e) = (s, handed [] (fault_said e))
submitted_as s (Ok r) = (with_follower s r.1 s.chain, handed (sent_message s.follower.name r.0) said.Nothing)

abbrev pub submit_seat : SeatOf → SeatOf × Handed
submit_seat s = submitted_as s (submit s.follower)
