use Rattle.disk_model.specs.Memory.{disk_view}
use Rattle.disk_model.specs.Memory.{disk_view, clocked}
use Rattle.wave_outside.proofs.Handing.{untouched_file}
use Rattle.wave_outside.proofs.memory_folder.uncounted.Goals as goal

-- src/memory_folder.rt:280:1
pub returns-clause-same : goal.returns-clause-same
returns-clause-same c = untouched_file (disk_view c.args.disk) (disk_view c.take_faults-faults.new.self) (clocked c.args.disk) c.take_faults-faults.ensures.same c.take_faults-faults.ensures.time
