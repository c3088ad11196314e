use Rattle.std.proofs.Common.{refl}
use Rattle.disk_model.proofs.Pushed.{crash_sync, first_same, time_push, whole_after}
use Rattle.disk_model.proofs.calls.MemoryDiskDisk.sync.Goals as goal

pub invariant_of-self-in-Ok : goal.invariant_of-self-in-Ok
invariant_of-self-in-Ok c =
    let same = first_same c.args.self.now.first c.sync.new.first _ _ c.deref-2.ensures.value c.sync.ensures.first in
    record { whole = whole_after _ _ _ _ _ _ _ c.args.self.now.whole refl same c.in-Ok.ensures.step }

pub returns-in-Ok-clause-durable : goal.returns-in-Ok-clause-durable
returns-in-Ok-clause-durable c =
    let same = first_same c.args.self.now.first c.sync.new.first _ _ c.deref-2.ensures.value c.sync.ensures.first in
    crash_sync _ _ _ _ _ c.args.self.now.whole same c.in-Ok.ensures.step

pub returns-in-Ok-clause-time : goal.returns-in-Ok-clause-time
returns-in-Ok-clause-time c =
    let same = first_same c.args.self.now.first c.sync.new.first _ _ c.deref-2.ensures.value c.sync.ensures.first in
    time_push _ _ _ _ _ _ _ _ _ same c.in-Ok.ensures.step
