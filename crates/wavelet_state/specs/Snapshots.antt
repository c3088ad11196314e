-- Snapshots as contracts see them.
--     max_inserted         the most items that the deltas of a history insert
--     SnapshotOf           the state of a wavelet at a version, with the number of items inserted up to there
--     is_snapshot n s      this number may be that of a state
--     snapshot_code        the code of a snapshot
use Rattle.std.specs.Prelude.{ℕ, Bool, ◌&&◌, nat_le, refl, List}
use Rattle.std.specs.Coded.{Coded, code_by, coded_list, coded_ℕ, coded×}
use Rattle.doc_items.specs.Maps.{Key}
use Rattle.doc_items.specs.declared.item.Item.{Item}
use Rattle.wave_base.specs.Versions.{VersionAt}
use Rattle.wavelet_op.specs.States.{State}
use Rattle.wavelet_op.specs.declared.role.Role.{Role}
use Rattle.wavelet_state.specs.Drafts.{parts_code}
use Rattle.wavelet_state.specs.Parts.{item_count}

abbrev pub max_inserted : ℕ
max_inserted = 1099511627776

pub record SnapshotOf : Type 0 where
  pub name : Key
  pub at : VersionAt
  pub inserted : ℕ
  pub state : State

abbrev pub is_snapshot : ℕ → State → Bool
is_snapshot n s = nat_le n max_inserted && nat_le (item_count s.documents) n

abbrev pub snapshot_code : Coded Role → Coded Item → Coded SnapshotOf
snapshot_code role item = code_by (Key × ((ℕ × List ℕ) × (ℕ × State)))
    (coded× (coded_list coded_ℕ) (coded× (coded× coded_ℕ (coded_list coded_ℕ)) (coded× coded_ℕ (parts_code role item))))
    (λ s. (s.name, ((s.at.version, s.at.hash), (s.inserted, s.state))))
    (λ p. record { name = p.0; at = record { version = p.1.0.0; hash = p.1.0.1 }; inserted = p.1.1.0; state = p.1.1.1 }) (λ _. refl)
