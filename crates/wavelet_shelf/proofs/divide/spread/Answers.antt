use Rattle.wavelet_shelf.proofs.Parting.{start_spreading, named_last, next_absent, next_fits, spreading}
use Rattle.wavelet_shelf.proofs.divide.spread.Goals as goal

pub loop-name-init : goal.loop-name-init
loop-name-init g c = start_spreading c.args.containers.now.map.entries c.args.shelves.now c.requires.sixteen c.requires.empty c.requires.fit

pub add_to-requires-clause-named : goal.add_to-requires-clause-named
add_to-requires-clause-named g c =
    let l = c.loop-name in
    named_last l.containers.map.entries c.pop.new.self.map.entries c.in-Some.name c.in-Some.filed c.in-Some.ensures.last l.containers.in_order

pub add_to-requires-clause-absent : goal.add_to-requires-clause-absent
add_to-requires-clause-absent g c =
    let l = c.loop-name in
    next_absent c.args.containers.now.map.entries l.containers.map.entries c.pop.new.self.map.entries c.args.shelves.now l.shelves c.in-Some.name c.in-Some.filed c.in-Some.ensures.last c.args.containers.now.in_order.0 l.invariant

pub add_to-requires-clause-fits : goal.add_to-requires-clause-fits
add_to-requires-clause-fits g c =
    let l = c.loop-name in
    next_fits c.args.containers.now.map.entries l.containers.map.entries c.pop.new.self.map.entries c.args.shelves.now l.shelves c.in-Some.name c.in-Some.filed c.in-Some.ensures.last c.args.containers.now.in_order.0 l.invariant

pub loop-name-preserved : goal.loop-name-preserved
loop-name-preserved g c =
    let l = c.loop-name in
    spreading c.args.containers.now.map.entries l.containers.map.entries c.pop.new.self.map.entries c.args.shelves.now l.shelves c.in-Some.name c.in-Some.filed c.in-Some.ensures.last c.args.containers.now.in_order.0 l.invariant c.add_to.new.shelves c.in_ok-add_to.ensures.added
