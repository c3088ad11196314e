-- A snapshot is refused for its length alone.
--     large_seen      what is answered on a history that may be shown
--     large_is        so to any `open`
use Rattle.std.proofs.Common.{◌≡◌, ◌<◌, ◌≤◌, ◌==◌, ℕ, Bool, true, false, ◌&&◌, nat_le, if◌then◌else◌, List, refl, sym, ap, subst, arith, Option, None, Some}
use Rattle.std.specs.Prelude.{◌↔◌, IfSome}
use Rattle.std.specs.Cmp.Lexicographic.{pointwise}
use Rattle.std.proofs.lemmas.Bool.Decides.{nat_tests}
use Rattle.doc_items.specs.Maps.{Key}
use Rattle.wave_base.specs.Versions.{VersionAt}
use Rattle.wavelet_state.specs.Snapshots.{SnapshotOf, is_snapshot}
use Rattle.delta_history.specs.Histories.{HistoryOf, head_of, hash_found}
use Rattle.wavelet_json.specs.declared.reason.UnopenedReason.TheVariants as unopened
use Rattle.message_json.specs.declared.message.Message.{Message}
use Rattle.message_json.specs.declared.message.Message.TheVariants.{Opened, Snapshot, Unopened}
use Rattle.session_core.specs.declared.session.Session.{Session}
use Rattle.session_core.specs.Access.{Shown}
use Rattle.session_core.specs.Answers.{with_sent, snapshot_of, written_len, attached_head, attached_hash, attached_seen, seen_for, attached, IsLongHead, HasLongHead}
use Rattle.session_core.specs.Rules.{max_peer}

within : (a b : ℕ) → nat_le a b ≡ true → a ≤ b
within a b h = grind (arith, nat_tests)

beyond : (a b : ℕ) → nat_le a b ≡ false → b < a
beyond a b h = grind (arith, nat_tests)

abbrev IsTooLarge : Key → Session × Message → Type 0
IsTooLarge name r = r.1 ≡ Unopened name unopened.TooLarge

abbrev answer : Session → Key → SnapshotOf → Bool → Session × Message
answer s name x b = if b then (with_sent s name x.at.version, Snapshot x) else (s, Unopened name unopened.TooLarge)

large_at : (s : Session) (name : Key) (x : SnapshotOf) (b : Bool) → nat_le (written_len x) max_peer ≡ b → IsTooLarge name (answer s name x b) ↔ (max_peer < written_len x)
large_at s name x true e = (λ h. absurd (cc), λ l. let k = within (written_len x) max_peer e in absurd (omega (arith, k, l)))
large_at s name x false e = (λ h. beyond (written_len x) max_peer e, λ l. refl)

large_head : (s : Session) (name : Key) (x : SnapshotOf) → is_snapshot x.inserted x.state ≡ true → IsTooLarge name (attached_head s name x) ↔ (max_peer < written_len x)
large_head s name x fits =
    subst (λ r. IsTooLarge name r ↔ (max_peer < written_len x)) (sym (ap (λ b. answer s name x (b && nat_le (written_len x) max_peer)) fits))
    (large_at s name x (nat_le (written_len x) max_peer) refl)

-- with a version no answer speaks of length
short : (s : Session) (name : Key) (from head : VersionAt) (o : Option (List ℕ)) → IsTooLarge name (attached_hash s name from head o) → ⊥
short s name from head None h = cc
short s name from head (Some hash) h = go (pointwise ◌==◌ hash from.hash) h
  where
    go : (b : Bool) → IsTooLarge name (if b then (with_sent s name from.version, Opened name from.version) else (s, Unopened name (unopened.WrongHash hash))) → ⊥
    go true h = cc
    go false h = cc

abbrev pub IsFit : HistoryOf → Type 0
IsFit h = is_snapshot (head_of h).count (head_of h).state ≡ true

pub large_seen : (s : Session) (name : Key) (from : Option VersionAt) (o : Option HistoryOf) → IfSome o IsFit → IsTooLarge name (attached_seen s name from o) ↔ ((from ≡ None) × IsLongHead name o)
large_seen s name from None fits = (λ h. absurd (cc), λ l. absurd l.1)
large_seen s name None (Some h) fits = let is = large_head s name (snapshot_of name h) fits in (λ e. (refl, is.0 e), λ l. is.1 l.1)
large_seen s name (Some from) (Some h) fits = (λ e. absurd (short s name from (head_of h).at (hash_found h from.version) e), λ l. absurd (cc))

pub large_is : (c : Shown) (s t : Session) (name : Key) (from : Option VersionAt) (m : Message) → IfSome (seen_for c s.party name) IsFit → (t, m) ≡ attached c s name from
    → (m ≡ Unopened name unopened.TooLarge) ↔ ((from ≡ None) × HasLongHead c s.party name)
large_is c s t name from m fits e = subst (λ r. IsTooLarge name r ↔ ((from ≡ None) × HasLongHead c s.party name)) (sym e) (large_seen s name from (seen_for c s.party name) fits)
