use Rattle.std.proofs.Common.{refl, sym}
use Rattle.wavelet_shelf.specs.declared.filed.Filed.{Filed}
use Rattle.wavelet_shelf.proofs.Shelving.{order_set, begun_set}
use Rattle.wavelet_shelf.proofs.containers.Containers.submit.Goals as goal

pub returns : goal.returns
returns g c =
    let new : Filed g.row.K.Denot g.K.Disk = record { file = c.in-Some.filed.now.file; container = c.taken.new.container } in
    record { old = c.in-Some.filed.now; new = new; was = sym c.in-Some.ensures.value; is = (c.get_mut.follows.holds new).0; file = refl; taken = c.taken.ensures }

pub invariant_of-self : goal.invariant_of-self
invariant_of-self g c =
    let new : Filed g.row.K.Denot g.K.Disk = record { file = c.in-Some.filed.now.file; container = c.taken.new.container } in
    let old = c.args.self.now in
    record {
      in_order = order_set c.args.submission.now c.args.time old.map.entries (c.get_mut.follows.lender new).entries c.args.name.now c.taken.result
          (record { old = c.in-Some.filed.now; new = new; was = sym c.in-Some.ensures.value; is = (c.get_mut.follows.holds new).0; file = refl; taken = c.taken.ensures })
          old.in_order;
      all_begun = λ begun. begun_set c.args.submission.now c.args.time old.map.entries (c.get_mut.follows.lender new).entries c.args.name.now c.taken.result
          (record { old = c.in-Some.filed.now; new = new; was = sym c.in-Some.ensures.value; is = (c.get_mut.follows.holds new).0; file = refl; taken = c.taken.ensures })
          (old.all_begun begun);
    }
