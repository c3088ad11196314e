use Rattle.wavelet_shelf.proofs.Returning.{room_last, putting}
use Rattle.wavelet_shelf.proofs.close.put_all.Goals as goal

pub put_back-requires : goal.put_back-requires
put_back-requires g c =
    let l = c.loop-filed in
    record { room = room_last g.F.Folder l.folder l.containers.map.entries c.pop.new.self.map.entries c.in-Some.field-0-0 c.in-Some.filed c.in-Some.ensures.last l.containers.in_order l.invariant.room }

pub loop-filed-preserved : goal.loop-filed-preserved
loop-filed-preserved g c =
    let l = c.loop-filed in
    putting g.F.Folder c.args.folder.now l.folder c.put_back.new.folder c.args.containers.now.map.entries l.containers.map.entries c.pop.new.self.map.entries c.in-Some.field-0-0 c.in-Some.filed c.in-Some.ensures.last l.containers.in_order c.put_back.ensures l.invariant
