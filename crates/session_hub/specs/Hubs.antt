-- A hub, and passes of it.
--     server_of h             whose server it is
--     AreOfHub h ps           each pass is of the hub, and has seen the first mark of its shard at least
--     AreOfHub-prop           the same, as one fact, for the ghost field of a type that keeps it
use Rattle.std.specs.Prelude.{◌≡◌, ℕ, ◌<◌, true}
use Rattle.std.specs.Coded.{Coded-set, coded_bool, ×_prop}
use Rattle.turn_cells.specs.declared.cells.Passes.{Passes}
use Rattle.turn_cells.specs.Cells.{AreOf, AreOf-prop}
use Rattle.disk_model.specs.declared.disk.Disk as disk_of
use Rattle.wave_outside.specs.declared.folder.Folder as folder_of
use Rattle.shard_marks.specs.declared.mark.Mark.{Mark}
use Rattle.shard_marks.specs.Marks.{is_founded}
use Rattle.shard_marks.specs.Passes.{marks_of}
use Rattle.shard_marks.specs.Servers.{ServerOf, server}
use Rattle.session_hub.specs.declared.shard.Shard.{Shard}
use Rattle.session_hub.specs.declared.hub.Hub.{Hub}

module _ {F D : Type 0} {folder : folder_of.Ghosts F D} {disk : disk_of.Ghosts D} where
  abbrev pub server_of : Hub F D folder disk → ServerOf
  server_of h = server h.domain h.peers.items

  abbrev pub AreFounded : Hub F D folder disk → Passes (Shard F D folder disk) Mark → Type 0
  AreFounded h ps = (k : ℕ) → k < 16 → is_founded h.domain k (marks_of ps k) ≡ true

  abbrev pub AreOfHub : Hub F D folder disk → Passes (Shard F D folder disk) Mark → Type 0
  AreOfHub h ps = AreOf h.cells ps × AreFounded h ps

  pub AreOfHub-prop : (h : Hub F D folder disk) (ps : Passes (Shard F D folder disk) Mark) → IsProp (AreOfHub h ps)
  AreOfHub-prop h ps = ×_prop (AreOf-prop h.cells ps) (λ f g i k l. Coded-set coded_bool _ _ (f k l) (g k l) i)
