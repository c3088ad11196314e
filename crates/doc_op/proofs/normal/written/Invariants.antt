use Rattle.std.proofs.Common.{◌≡◌, ◌++◌, length}
use Rattle.doc_op.specs.Cursors.{left}
use Rattle.doc_op.specs.Known.{IsUpToDate}
use Rattle.doc_op.proofs.normal.written.Given as goal

abbrev pub invariant-loop-out : goal.invariant-loop-out
invariant-loop-out l = record {
  all : l.out.builder ++ left l.cursor ≡ left l.fn.cursor;
  known : IsUpToDate l.out l.cursor.under;
}

abbrev pub decreases-loop-out : goal.decreases-loop-out
decreases-loop-out l = length (left l.cursor)
