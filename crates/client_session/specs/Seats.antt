-- A wavelet of a run: its follower, with what the run keeps beside it.
--     shown f                 the follower's screen
--     fresh_chain f           a new chain of undo at the screen
--     after_edit c acts, after_undo c      the chain after an edit, and after an undo
--     after_change f c acts   the chain after a change by others that leads to the screen; a new one where an entry can't pass it
--     noted f c n             the chain with what was noted
--     SeatOf                  the follower, its chain of undo, whether it was created here and its first acknowledgement is to come, the
--                             version at which it was opened again for what it lacked, and whether an opening is unanswered
--     seat_of s               as definitions speak of it
--     new_seat n k b          of a new follower
--     with_follower s f c     another follower and chain
--     anew s f                another follower with a new chain
--     answered s, opening s   no opening is unanswered; one is
use Rattle.std.specs.Prelude.{ℕ, Bool, true, false, List, [], Option, None, unwrap_or}
use Rattle.doc_items.specs.Maps.{Key}
use Rattle.wavelet_op.specs.Acts.{Act, meanings}
use Rattle.wavelet_op.specs.States.{State, empty_state}
use Rattle.follower_rules.specs.Followers.{ClientOf, FollowerOf, new_follower, screen}
use Rattle.client_control.specs.Parts.{follower_of}
use Rattle.undo_control.specs.Chains.{ChainOf, edited, changed, undone}
use Rattle.undo_control.specs.Parts.{chain_of}
use Rattle.client_session.specs.declared.chain.Note.{Note}
use Rattle.client_session.specs.declared.chain.Note.TheVariants as note
use Rattle.client_session.specs.declared.seat.Seat.{Seat}

abbrev pub shown : FollowerOf → State
shown f = unwrap_or (screen f) empty_state

-- ---- chains of undo

abbrev pub fresh_chain : FollowerOf → ChainOf
fresh_chain f = record { state = shown f; entries = [] }

abbrev pub after_edit : ChainOf → List Act → ChainOf
after_edit c acts = unwrap_or (edited c acts) c

abbrev pub after_undo : ChainOf → ChainOf
after_undo c = unwrap_or (undone c) c

abbrev pub after_change : FollowerOf → ChainOf → List Act → ChainOf
after_change f c acts = unwrap_or (changed c acts) (fresh_chain f)

abbrev pub noted : FollowerOf → ChainOf → Note → ChainOf
noted f c note.Nothing = c
noted f c (note.Edit ops) = after_edit c (meanings ops)
noted f c (note.Change ops) = after_change f c (meanings ops)
noted f c note.Undone = after_undo c
noted f c note.Anew = fresh_chain f

-- ---- seats

pub record SeatOf : Type 0 where
  pub follower : FollowerOf
  pub chain : ChainOf
  pub created : Bool
  pub asked : Option ℕ
  pub waits : Bool

abbrev pub seat_of : Seat → SeatOf
seat_of s = record {
  follower = follower_of s.follower;
  chain = noted (follower_of s.follower)
      (chain_of s.chain) s.note;
  created = s.created;
  asked = s.asked;
  waits = s.waits;
}

abbrev pub new_seat : Key → ClientOf → Bool → SeatOf
new_seat name k created = record {
  follower = new_follower name k;
  chain = fresh_chain
      (new_follower name k);
  created = created;
  asked = None;
  waits = false;
}

abbrev pub with_follower : SeatOf → FollowerOf → ChainOf → SeatOf
with_follower s f c = record { follower = f; chain = c; created = s.created; asked = s.asked; waits = s.waits }

abbrev pub anew : SeatOf → FollowerOf → SeatOf
anew s f = with_follower s f (fresh_chain f)

abbrev pub answered : SeatOf → SeatOf
answered s = record { follower = s.follower; chain = s.chain; created = s.created; asked = s.asked; waits = false }

abbrev pub opening : SeatOf → SeatOf
opening s = record { follower = s.follower; chain = s.chain; created = s.created; asked = s.asked; waits = true }
