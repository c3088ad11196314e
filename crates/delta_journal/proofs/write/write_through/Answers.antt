use Rattle.delta_journal.proofs.Files.{stays_write, stays_fault, stays_sync}
use Rattle.delta_journal.proofs.write.write_through.Goals as goal

pub returns-in_err-write_at-clause-stays : goal.returns-in_err-write_at-clause-stays
returns-in_err-write_at-clause-stays g c shape spares kept =
    stays_write shape _ _ _ _ spares kept (g.met.K.Disk.clocked c.args.disk.now) c.write_at.ensures.torn c.write_at.ensures.crash c.write_at.ensures.time

pub returns-in_err-sync-clause-stays : goal.returns-in_err-sync-clause-stays
returns-in_err-sync-clause-stays g c shape spares kept =
    stays_fault shape _ _ _ _ spares kept (g.met.K.Disk.clocked c.args.disk.now) c.write_at.ensures.torn c.write_at.ensures.crash c.write_at.ensures.time _ c.in_err-sync.ensures.crash c.sync.ensures.time

pub returns-clause-stays : goal.returns-clause-stays
returns-clause-stays g c shape spares kept =
    stays_sync shape _ _ _ _ spares kept (g.met.K.Disk.clocked c.args.disk.now) c.write_at.ensures.torn c.write_at.ensures.crash c.write_at.ensures.time _ c.sync.ensures.seen c.in_ok-sync.ensures.durable c.sync.ensures.time
