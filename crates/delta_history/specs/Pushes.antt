-- The next delta of a history.
--     IsAsked h d             what is tested but for the validity of its operations
--     IsInvalid s as e        why acts don't lead on from a state
--     IsReady h d p           the delta may come next, and p is what it leads to
--     PreparedOf              a delta with the point that it leads to
--     prepared_code           the code of such a pair
--     IsRefused h d e         why it isn't taken: it doesn't start at the head, or the longer history isn't legal
use Rattle.std.specs.Prelude.{◌≡◌, ◌≢◌, ℕ, true, List, [], ◌∷◌, ◌++◌, length, None, refl}
use Rattle.std.specs.Coded.{Coded, code_by, coded_list, coded_ℕ, coded×}
use Rattle.doc_items.specs.declared.item.Item.{Item}
use Rattle.wavelet_op.specs.Acts.{Act, AreNormal}
use Rattle.wavelet_op.specs.Deltas.{DeltaOf, is_count}
use Rattle.wavelet_op.specs.States.{State, run}
use Rattle.wavelet_op.specs.declared.role.Role.{Role}
use Rattle.wavelet_state.specs.Drafts.{parts_code}
use Rattle.delta_history.specs.declared.fault.HistoryFault.{HistoryFault}
use Rattle.delta_history.specs.declared.fault.HistoryFault.TheVariants.{NotNext, NotLegal, Memory}
use Rattle.delta_history.specs.Histories.{HistoryOf, head_of}
use Rattle.delta_history.specs.Legal.{standing, may_write, IsNext, IsLegal}
use Rattle.delta_history.specs.Points.{Point, acts_of, end_of}
use Rattle.delta_history.specs.Steps.{IsFitting}

pub record IsAsked (h : HistoryOf) (d : DeltaOf) : Type 0 where
  pub fitting : IsFitting h d
  pub some_ops : is_count (length d.ops) ≡ true
  pub normal : AreNormal d.ops
  pub author : may_write (standing h.deltas (head_of h) d.id.author (acts_of d)) ≡ true

abbrev pub IsInvalid : State → List Act → HistoryFault → Type 0
IsInvalid s acts (NotNext have got) = ⊥
IsInvalid s acts NotLegal = run s acts ≡ None
IsInvalid s acts Memory = Unit {0}

pub record IsReady (h : HistoryOf) (d : DeltaOf) (p : Point) : Type 0 where
  pub next : IsNext h.name h.deltas d
  pub leads : end_of h.name (h.deltas ++ d ∷ []) ≡ p

pub record PreparedOf : Type 0 where
  pub delta : DeltaOf
  pub after : Point

abbrev pub prepared_code : Coded DeltaOf → Coded Role → Coded Item → Coded PreparedOf
prepared_code delta role item = code_by (DeltaOf × ((ℕ × List ℕ) × (ℕ × State)))
    (coded× delta (coded× (coded× coded_ℕ (coded_list coded_ℕ)) (coded× coded_ℕ (parts_code role item))))
    (λ p. (p.delta, ((p.after.at.version, p.after.at.hash), (p.after.count, p.after.state)))) (λ q. record {
      delta = q.0;
      after = record { at = record { version = q.1.0.0; hash = q.1.0.1 }; state = q.1.1.1; count = q.1.1.0 };
    }) (λ _. refl)

abbrev pub IsRefused : HistoryOf → DeltaOf → HistoryFault → Type 0
IsRefused h d (NotNext have got) = (d.from ≢ (head_of h).at) × (have ≡ (head_of h).at) × (got ≡ d.from)
IsRefused h d NotLegal = (d.from ≡ (head_of h).at) × (¬ (IsLegal h.name (h.deltas ++ d ∷ [])))
IsRefused h d Memory = Unit {0}
