use Rattle.wavelet_shelf.proofs.Shelving.{order_put, begun_put, put_sorted}
use Rattle.wavelet_shelf.proofs.containers.Containers.put.Goals as goal

pub invariant_of-self : goal.invariant_of-self
invariant_of-self g c =
    let old = c.args.self.now in
    let put = put_sorted old.map.entries c.insert_sorted-before.new.self.entries c.args.name c.args.filed c.insert_sorted-before.result old.in_order.0 c.requires.absent (c.insert_sorted-before.ensures.succeeds c.requires.room) c.insert_sorted-before.ensures.entries c.insert_sorted-before.ensures.index in
    record {
      in_order = order_put old.map.entries c.insert_sorted-before.new.self.entries c.args.name c.args.filed put c.requires.named old.in_order;
      all_begun = λ begun. begun_put old.map.entries c.insert_sorted-before.new.self.entries c.args.name c.args.filed put (old.all_begun (c.is_begun_with-begun.ensures.before begun)) (c.is_begun_with-begun.ensures.this begun);
    }

pub returns : goal.returns
returns g c =
    let old = c.args.self.now in
    put_sorted old.map.entries c.insert_sorted-before.new.self.entries c.args.name c.args.filed c.insert_sorted-before.result old.in_order.0 c.requires.absent (c.insert_sorted-before.ensures.succeeds c.requires.room) c.insert_sorted-before.ensures.entries c.insert_sorted-before.ensures.index
