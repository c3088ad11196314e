use Rattle.std.proofs.Common.{◌≡◌, ◌-◌, ◌<◌, Some, sym, ◌∙◌, refl, arith, length, slice_get}
use Rattle.std.proofs.lemmas.Option.{slice_get_read}
use Rattle.delta_history.proofs.Finding.{at_start, behind_start, started_within, lt_true, lt_false}
use Rattle.load_script.proofs.exchange.started_below.Goals as goal

pub loop-place-init : goal.loop-place-init
loop-place-init c = record { high = omega (arith, started_within c.args.version c.args.deltas.now); bound = omega arith }

pub returns-then-starts_below-clause-value : goal.returns-then-starts_below-clause-value
returns-then-starts_below-clause-value c =
    let last = c.loop-place.place - 1 in
    let d = c.index-deltas-place.result in
    let inside : last < length c.args.deltas.now = omega (arith, c.loop-place-test.true, c.loop-place.invariant.bound) in
    let got : slice_get c.args.deltas.now last ≡ Some d = slice_get_read c.args.deltas.now (length c.args.deltas.now) last d refl inside c.index-deltas-place.is in
    let low = at_start c.args.version 0 last c.args.deltas.now d c.requires got (lt_true d.from.version c.args.version (sym c.starts_below.ensures ∙ c.if-starts_below.true)) in
    omega (arith, low, c.loop-place.invariant.high)

pub loop-place-preserved : goal.loop-place-preserved
loop-place-preserved c =
    let last = c.loop-place.place - 1 in
    let d = c.index-deltas-place.result in
    let inside : last < length c.args.deltas.now = omega (arith, c.loop-place-test.true, c.loop-place.invariant.bound) in
    let got : slice_get c.args.deltas.now last ≡ Some d = slice_get_read c.args.deltas.now (length c.args.deltas.now) last d refl inside c.index-deltas-place.is in
    record { high = behind_start c.args.version last c.args.deltas.now d got (lt_false d.from.version c.args.version (sym c.starts_below.ensures ∙ c.if-starts_below.false)); bound = omega (arith, inside) }
