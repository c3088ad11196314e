use Rattle.std.proofs.Common.{◌≡◌, ◌∙◌, ◌∷◌, ◌++◌}
use Rattle.std.specs.Vec.Iter.{into_iter_items}
use Rattle.peer_rounds.specs.Peers.{held, links}
use Rattle.peer_rounds.specs.Reached.{line_then}
use Rattle.peer_rounds.proofs.Putting.{back_next, line_next, out_next}
use Rattle.peer_rounds.proofs.each.put_all.Goals as goal

pub loop-peer-preserved : goal.loop-peer-preserved
loop-peer-preserved g c =
    let p = c.in-Some.peer in
    let ps = into_iter_items c.loop-peer.peer-iterator in
    let rest = into_iter_items c.next.new.self in
    let steps : ps ≡ p ∷ rest = c.in-Some.ensures.steps.0 in
    record {
      back = back_next p ps rest steps (g.N.Net.back c.loop-peer.net) (g.N.Net.back c.put_back.new.net) (g.N.Net.back c.args.net.now ++ links c.args.peers.items)
          c.put_back.ensures.back c.loop-peer.invariant.back;
      line = line_next p ps rest steps (g.N.Net.line c.loop-peer.net) (g.N.Net.line c.put_back.new.net) (line_then c.args.peers.items (g.N.Net.line c.args.net.now))
          c.put_back.ensures.line c.loop-peer.invariant.line;
      out = out_next p ps rest steps (g.N.Net.out c.args.net.now) (g.N.Net.out c.loop-peer.net) (g.N.Net.out c.put_back.new.net) (held c.args.peers.items)
          c.put_back.ensures.out c.loop-peer.invariant.out;
      asked = λ t. c.put_back.ensures.asked t ∙ c.loop-peer.invariant.asked t;
      same = (c.put_back.ensures.same.0 ∙ c.loop-peer.invariant.same.0, c.put_back.ensures.same.1 ∙ c.loop-peer.invariant.same.1, c.put_back.ensures.same.2 ∙ c.loop-peer.invariant.same.2);
    }
