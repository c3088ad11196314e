use Rattle.std.proofs.Common.{List, ℕ, ◌∙◌, ap, sym}
use Rattle.disk_model.specs.Disk.{overwritten}
use Rattle.disk_model.specs.declared.memory.Step.TheVariants.{Wrote}
use Rattle.disk_model.proofs.Pushed.{crash_write, crash_none, time_push, whole_after}
use Rattle.disk_model.proofs.Torn.{torn_none, torn_same}
use Rattle.disk_model.proofs.calls.MemoryDiskDisk.write_at.Goals as goal

pub returns-in_err-call-clause-torn : goal.returns-in_err-call-clause-torn
returns-in_err-call-clause-torn c = torn_same _ _ _

pub returns-in_err-call-clause-crash : goal.returns-in_err-call-clause-crash
returns-in_err-call-clause-crash c x left = (x, left, torn_same _ _ _)

pub returns-then-bytes-at-clause-torn : goal.returns-then-bytes-at-clause-torn
returns-then-bytes-at-clause-torn c = torn_same _ _ _

pub returns-then-bytes-at-clause-crash : goal.returns-then-bytes-at-clause-crash
returns-then-bytes-at-clause-crash c x left = (x, left, torn_same _ _ _)

pub invariant_of-self-in-Ok : goal.invariant_of-self-in-Ok
invariant_of-self-in-Ok c =
    let step = c.in-Ok.ensures.step in
    record { whole = whole_after _ _ _ _ _ _ (Wrote c.args.at step.0) c.args.self.now.whole (c.in-Ok.ensures.file ∙ ap (λ (b : List ℕ). overwritten c.args.self.now.bytes.items c.args.at b) (sym step.1)) c.write.ensures.first step.2 }

pub returns-in-Ok-clause-crash : goal.returns-in-Ok-clause-crash
returns-in-Ok-clause-crash c = crash_write _ _ _ _ _ c.in-Ok.ensures.step.0 _ c.write.ensures.first c.in-Ok.ensures.step.1 c.in-Ok.ensures.step.2

pub returns-in-Ok-clause-time : goal.returns-in-Ok-clause-time
returns-in-Ok-clause-time c = time_push _ _ _ _ _ _ _ _ _ c.write.ensures.first c.in-Ok.ensures.step.2

pub returns-in-Err-clause-torn : goal.returns-in-Err-clause-torn
returns-in-Err-clause-torn c = torn_none _ _ _ _ c.in-Err.ensures.same_file

pub returns-in-Err-clause-crash : goal.returns-in-Err-clause-crash
returns-in-Err-clause-crash c = crash_none _ _ _ _ _ _ c.write.ensures.first c.in-Err.ensures.same_steps
