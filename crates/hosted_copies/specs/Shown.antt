-- Hosted histories, as sessions see them.
--     outcome_in hs n i     the acknowledgement that the history of the name keeps for the id
--     nothing_dropped       no copy noted a drop
--     shown_in hs           the histories as copies
--     IsSameShown c d       the copies of each name have the same name and deltas; and the hosted names, what is dropped, and the
--                           known outcomes are the same
use Rattle.std.specs.Prelude.{◌≡◌, List, Bool, false, Option}
use Rattle.std.specs.Option.{option_map}
use Rattle.doc_items.specs.Maps.{Key}
use Rattle.wave_base.specs.Versions.{IdOf}
use Rattle.wavelet_op.specs.declared.verdict.Verdict.{Verdict}
use Rattle.delta_history.specs.Copying.{kept_in}
use Rattle.session_core.specs.Access.{Shown, shown}
use Rattle.wavelet_shelf.specs.Hosting.{Hosted, names_of, copy_in, IsCopyOf}
use Rattle.wavelet_shelf.specs.Shelves.{acknowledged}

abbrev pub outcome_in : List Hosted → Key → IdOf → Option Verdict
outcome_in hs n i = option_map acknowledged (kept_in (copy_in hs n) i)

abbrev pub nothing_dropped : Key → Bool
nothing_dropped n = false

abbrev pub shown_in : List Hosted → Shown
shown_in hs = shown (copy_in hs) (names_of hs) nothing_dropped (outcome_in hs)

pub record IsSameShown (c d : Shown) : Type 0 where
  pub copy : (n : Key) → IsCopyOf (c.copy n) (d.copy n)
  pub hosts : c.hosts ≡ d.hosts
  pub drops : (n : Key) → c.drops n ≡ d.drops n
  pub outcome : (n : Key) (i : IdOf) → c.outcome n i ≡ d.outcome n i
