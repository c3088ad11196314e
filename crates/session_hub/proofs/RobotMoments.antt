-- Robots at a shard that was lent.
--     from_moment      they may take turns there, where they might by a beginning of its marks
--     round_moment, cut_moment      a round there is one over what the marks give that a pass has then seen
use Rattle.std.proofs.Common.{◌≡◌, ℕ, true, List, Option, map, sym, subst}
use mathlib.Core.List.{IsPrefix}
use Rattle.doc_items.specs.Maps.{Key}
use Rattle.disk_model.specs.declared.disk.Disk as disk_of
use Rattle.wave_outside.specs.declared.folder.Folder as folder_of
use Rattle.robot_host.specs.declared.edit.RobotEdit.{RobotEdit}
use Rattle.robot_host.specs.Hosts.{HostOf}
use Rattle.shard_marks.specs.declared.mark.Mark.{Mark}
use Rattle.shard_marks.specs.Marks.{is_founded}
use Rattle.shard_marks.proofs.Founded.{founded_is}
use Rattle.session_hub.specs.declared.shard.Shard.{Shard}
use Rattle.session_hub.specs.Entries.{entries_of}
use Rattle.session_hub.specs.Records.{mark_of}
use Rattle.session_hub.specs.Robots.{MayTurnAt, MayTurnFrom, IsRoundAt, IsRoundCutAt}
use Rattle.session_hub.proofs.RobotTurns.{later_may}
use Rattle.session_hub.proofs.Turning.{shard_moment}

module _ {F D : Type 0} {folder : folder_of.Ghosts F D} {disk : disk_of.Ghosts D} where
  pub from_moment : (xs : List Mark) (v w : Shard F D folder disk) (g : HostOf) → MayTurnFrom xs g → IsPrefix xs (entries_of v) → w ≡ v → MayTurnAt w.domain w.number (entries_of w) g
  from_moment xs v w g from begins same =
      let is = founded_is from.domain from.number v.domain v.number (map mark_of v.records.items) xs from.founded begins in
      let now = later_may from.domain from.number xs (entries_of v) g begins from.may in
      subst (λ (s : Shard F D folder disk). MayTurnAt s.domain s.number (entries_of s) g) (sym same)
      (subst (λ (z : Key × ℕ). MayTurnAt z.0 z.1 (entries_of v) g) (λ i. (sym is.0 i, sym is.1 i)) now)

  module _ (xs zs : List Mark) (v w : Shard F D folder disk) (d : Key) (k : ℕ) (own : is_founded d k xs ≡ true) (begins : IsPrefix xs (entries_of v)) (same : w ≡ v) (last : zs ≡ entries_of v) (g g' : HostOf) where
    pub round_moment : (o : Option Key) (es : List RobotEdit) → IsRoundAt w.domain w.number (entries_of w) g g' o es → IsRoundAt d k zs g g' o es
    round_moment o es round = shard_moment (λ d k ms. IsRoundAt d k ms g g' o es) xs zs v w d k own begins same last round

    pub cut_moment : IsRoundCutAt w.domain w.number (entries_of w) g g' → IsRoundCutAt d k zs g g'
    cut_moment cut = shard_moment (λ d k ms. IsRoundCutAt d k ms g g') xs zs v w d k own begins same last cut
