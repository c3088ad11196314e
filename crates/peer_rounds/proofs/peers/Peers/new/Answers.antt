use Rattle.std.proofs.Common.{subst, sym, ◌∙◌}
use Rattle.std.specs.Str.{encode_utf8_all}
use Rattle.peer_rounds.specs.Peers.{SpeakFor, names}
use Rattle.peer_rounds.proofs.Joining.{joined_names, joined_held, joined_ready, names_next, names_end, speak_by}
use Rattle.peer_rounds.proofs.peers.Peers.new.Goals as goal

pub loop-pair-preserved : goal.loop-pair-preserved
loop-pair-preserved g c =
    let joined = c.in_ok-add.ensures.joined in
    record {
      named = names_next c.args.own.now c.args.pairs.now c.loop-pair.pair-index (names c.loop-pair.peers.list.items) c.loop-pair.invariant.named c.pair-item.result _ _
          c.loop-pair-test.true c.pair-item.is (λ i. (c.in_ok-domain.ensures i, c.in_ok-speaker.ensures i, encode_utf8_all (c.in_ok-address.ensures i)))
          (joined_names _ _ _ joined);
      unheld = joined_held _ _ _ joined ∙ c.loop-pair.invariant.unheld;
      ready = λ tells asked. joined_ready _ _ _ joined tells asked (c.loop-pair.invariant.ready tells asked);
    }

pub returns-clause-named : goal.returns-clause-named
returns-clause-named g c = names_end c.args.own.now c.args.pairs.now c.loop-pair.pair-index (names c.loop-pair.peers.list.items) c.loop-pair.invariant.named c.loop-pair-test.false

pub returns-clause-speak : goal.returns-clause-speak
returns-clause-speak g c = subst (SpeakFor c.args.own.now) (sym (returns-clause-named g c)) (speak_by c.args.own.now c.args.pairs.now)
