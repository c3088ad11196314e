use Rattle.wavelet_shelf.proofs.Shelving.{order_popped, begun_popped}
use Rattle.wavelet_shelf.proofs.containers.Containers.pop.Goals as goal

pub invariant_of-self : goal.invariant_of-self
invariant_of-self g c = record {
  in_order = order_popped c.args.self.now.map.entries c.pop.new.self.entries c.pop.result c.pop.ensures.entries c.args.self.now.in_order;
  all_begun = λ begun. begun_popped c.args.self.now.map.entries c.pop.new.self.entries c.pop.result c.pop.ensures.entries (c.args.self.now.all_begun begun);
}
