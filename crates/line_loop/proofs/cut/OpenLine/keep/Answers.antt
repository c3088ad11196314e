use Rattle.std.proofs.Common.{◌++◌, arith, take, length-append, ap, ◌∙◌, sym}
use Rattle.std.proofs.lemmas.List.{length-take}
use Rattle.std.specs.Result.{is_ok}
use Rattle.line_loop.specs.Lines.{turned}
use Rattle.line_loop.proofs.Cutting.{turned-kept, kept_is_open}
use Rattle.line_loop.proofs.cut.OpenLine.keep.Goals as goal

pub invariant_of-self : goal.invariant_of-self
invariant_of-self c =
    let both = kept_is_open (is_ok c.extend_from_slice.result) c.args.self.now.bytes.items c.args.more.now c.extend_from_slice.new.self.items c.min-count.result
    c.extend_from_slice.ensures.items (omega (arith, c.min-count.ensures, c.len.ensures, c.args.self.now.bytes.ok.0)) c.args.self.now.kept c.args.self.now.unended c.requires in
    record { unended = both.0; kept = both.1 }

pub returns : goal.returns
returns c = λ all rest.
    turned-kept c.args.self.now.bytes.items c.args.more.now c.min-count.result c.args.self.now.unended c.requires
    (λ part. omega (arith, part, c.min-count.ensures, c.len.ensures, c.args.self.now.bytes.ok.0, length-append c.args.self.now.bytes.items (take c.min-count.result c.args.more.now), length-take c.min-count.result c.args.more.now)) all rest
    ∙ ap (λ t. turned all (t ++ rest)) (sym c.in_ok-extend_from_slice.ensures.items)
