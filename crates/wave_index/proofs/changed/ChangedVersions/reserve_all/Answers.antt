use Rattle.std.proofs.Common.{List, take, subst}
use Rattle.std.specs.List.{All}
use Rattle.std.proofs.lemmas.List.{take_all}
use Rattle.std.proofs.lemmas.List.Elements.{All-more}
use Rattle.wavelet_op.specs.declared.op.WaveletOp.{WaveletOp}
use Rattle.wave_index.specs.Versions.{HasRoom}
use Rattle.wave_index.proofs.Versions.{keeps_on, stays}
use Rattle.wave_index.proofs.changed.ChangedVersions.reserve_all.Goals as goal

pub loop-op-preserved : goal.loop-op-preserved
loop-op-preserved c =
    let new = c.reserve_for.new.self.map in
    let ops = c.args.ops.now in
    let i = c.loop-op.op-index in
    record {
      same = keeps_on c.args.self.now.map c.loop-op.self.map new c.loop-op.invariant.same c.in_ok-reserve_for.ensures.same;
      room = All-more (HasRoom new) ops i c.op-item.result c.loop-op-test.true (stays c.loop-op.self.map new c.in_ok-reserve_for.ensures.same.stay (take i ops) c.loop-op.invariant.room)
          (subst (λ (o : WaveletOp). HasRoom new o) c.op-item.is c.in_ok-reserve_for.ensures.room);
    }

pub returns-clause-room : goal.returns-clause-room
returns-clause-room c = subst (λ (xs : List WaveletOp). All (HasRoom c.loop-op.self.map) xs) (take_all c.loop-op.op-index c.args.ops.now c.loop-op-test.false) c.loop-op.invariant.room
