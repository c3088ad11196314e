use Rattle.std.proofs.Common.{◌≡◌, ◌≤◌, drop}
use Rattle.disk_model.specs.Steps.{image_from}
use Rattle.disk_model.specs.Memory.{chosen_image}
use Rattle.disk_model.proofs.memory.MemoryDisk.image.Given as goal

abbrev pub invariant-loop-step : goal.invariant-loop-step
invariant-loop-step l = record {
  meaning : image_from l.choice l.number l.file.items l.image.items (drop l.step-index l.self.steps.items) ≡ chosen_image l.self l.choice;
  below : l.number ≤ l.step-index;
}
