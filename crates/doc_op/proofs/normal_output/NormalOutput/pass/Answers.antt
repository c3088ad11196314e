use Rattle.doc_op.proofs.UpToDate.{known_on}
use Rattle.doc_op.proofs.normal_output.NormalOutput.pass.Goals as goal

pub returns-clause-known : goal.returns-clause-known
returns-clause-known c =
    let out = c.args.self.now in
    known_on out.touched c.skip.new.touched out.kind out.builder c.args.cursor.now.under c.skip.new.self.under c.requires.known c.in_ok-skip.ensures.touched
