use Rattle.std.proofs.Common.{◌+◌, ◌∙◌, ◌++◌, ap, sym, arith, map, drop, take-append-drop}
use Rattle.shard_marks.specs.Told.{name_put}
use Rattle.session_hub.proofs.Looking.{spot_less, spot_same, spot_more, name_here, names_to}
use Rattle.session_hub.proofs.published.spot_of.Goals as goal

pub returns-in-Less-clause-spot : goal.returns-in-Less-clause-spot
returns-in-Less-clause-spot c =
    let i = c.loop-place.place in
    let x = c.index-names-place.result in
    let ks = map (λ n. n.now) c.args.names.now in
    spot_less c.args.name.now ks i c.loop-place.invariant x.now (drop (i + 1) ks) (name_here (λ n. n.now) c.args.names.now i x (omega (arith, c.loop-place-test.true)) c.index-names-place.is) (sym c.in-Less.ensures)

pub returns-in-Equal-clause-spot : goal.returns-in-Equal-clause-spot
returns-in-Equal-clause-spot c =
    let i = c.loop-place.place in
    let x = c.index-names-place.result in
    let ks = map (λ n. n.now) c.args.names.now in
    spot_same c.args.name.now ks i c.loop-place.invariant x.now (drop (i + 1) ks) (name_here (λ n. n.now) c.args.names.now i x (omega (arith, c.loop-place-test.true)) c.index-names-place.is) (sym c.in-Equal.ensures)
    ∙ take-append-drop i ks

pub loop-place-preserved : goal.loop-place-preserved
loop-place-preserved c =
    let i = c.loop-place.place in
    let x = c.index-names-place.result in
    let ks = map (λ n. n.now) c.args.names.now in
    spot_more c.args.name.now ks i c.loop-place.invariant x.now (drop (i + 1) ks) (name_here (λ n. n.now) c.args.names.now i x (omega (arith, c.loop-place-test.true)) c.index-names-place.is) (sym c.in-Greater.ensures)
    ∙ ap (λ l. l ++ name_put c.args.name.now (drop (i + 1) ks)) (sym (names_to (λ n. n.now) c.args.names.now i x (omega (arith, c.loop-place-test.true)) c.index-names-place.is))
