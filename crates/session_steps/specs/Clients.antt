-- Sessions of a server, of clients and of peers.
--     IsSessionOf v s      a session of this server; one that is nobody's yet has nothing open, and nothing waits in it
--     MayAsk s r           what such a session asks for: to open a wavelet with a user alone, and what a peer has with a peer alone
--     IsSentTo d k ms s n  of the shard with these marks, the session was sent all that there is at their length n, and what it was told
--                          stays then; 0 says nothing
--     AreSentTo d ms s ns  of each shard the session was sent all that there is at its length among ns
--     AreSentAll ms i ns   the lengths ns are those of the marks, of the first i shards
use Rattle.std.specs.Prelude.{◌≡◌, ◌≢◌, ◌<◌, ℕ, true, false, List, [], length, slice_index_or, Some}
use mathlib.Core.List.{IsPrefix}
use Rattle.doc_items.specs.Maps.{Key}
use Rattle.message_json.specs.Write.{IsShort}
use Rattle.session_core.specs.declared.request.Request.{Request}
use Rattle.session_core.specs.declared.request.Request.TheVariants as ask
use Rattle.session_core.specs.declared.session.Session.{Session}
use Rattle.session_core.specs.Deliveries.{delivered}
use Rattle.session_core.specs.Rules.{has_user, has_peer, is_new}
use Rattle.shard_marks.specs.declared.mark.Mark.{Mark}
use Rattle.shard_marks.specs.Marks.{shown_at}
use Rattle.shard_marks.specs.Servers.{ServerOf}
use Rattle.shard_marks.specs.Told.{AreToldAt}

pub record IsSessionOf (v : ServerOf) (s : Session) : Type 0 where
  pub domain : s.domain ≡ Some v.domain
  pub peers : s.peers ≡ v.peers
  pub unopened : is_new s ≡ true → s.openings ≡ []
  pub unqueued : is_new s ≡ true → s.waiting ≡ []

abbrev pub MayAsk : Session → Request → Type 0
MayAsk s (ask.Reply m) = IsShort m
MayAsk s (ask.Attach name from) = has_user s ≡ true
MayAsk s (ask.Submit name submission) = is_new s ≡ false
MayAsk s (ask.Have name from) = has_peer s ≡ true

pub record IsSentTo (d : Key) (k : ℕ) (ms : List Mark) (s : Session) (n : ℕ) : Type 0 where
  pub told : AreToldAt d k ms s n
  pub quiet : (cut : List Mark) → IsPrefix cut ms → length cut ≡ n → n ≢ 0 → delivered (shown_at d k cut) s ≡ []

abbrev pub AreSentTo : Key → (ℕ → List Mark) → Session → List ℕ → Type 0
AreSentTo d marks s lengths = (k : ℕ) → k < 16 → IsSentTo d k (marks k) s (slice_index_or lengths k 0)

abbrev pub AreSentAll : (ℕ → List Mark) → ℕ → List ℕ → Type 0
AreSentAll marks i lengths = (k : ℕ) → k < i → slice_index_or lengths k 0 ≡ length (marks k)
