use Rattle.doc_op.proofs.UpToDate.{turned}
use Rattle.doc_op.proofs.normal_output.NormalOutput.turn.Goals as goal

pub returns-clause-known : goal.returns-clause-known
returns-clause-known c =
    let out = c.args.self.now in
    turned out.touched c.add_to.new.touched c.add_to-2.new.touched out.kind c.args.kind out.builder c.args.running.now c.requires.known c.in_ok-add_to.ensures c.in_ok-add_to-2.ensures
