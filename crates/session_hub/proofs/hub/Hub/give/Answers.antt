use Rattle.wavelet_shelf.specs.FileNames.{shard_of}
use Rattle.session_hub.proofs.Turning.{with_pass, turn_at, now_at, turned_at, own_after, given_at, unadded_at, spent_exit, on_err, shard_small}
use Rattle.shard_marks.specs.Givings.{gift_mark}
use Rattle.session_hub.proofs.hub.Hub.give.Goals as goal

-- each: what the index gave of cells and passes stands at the shard of the wavelet, and the turn there left one other pass in its place
pub give-requires-clause-own : goal.give-requires-clause-own
give-requires-clause-own g c =
    let t = turn_at c.args.self.now c.args.passes.now c.shard-shard.result (shard_of c.args.name.now) c.index.result.now c.index_mut.result.now c.requires.own c.shard-shard.ensures (shard_small c.args.name.now) c.index.ensures c.index_mut.ensures.value in
    t.own

pub give-requires-clause-begun : goal.give-requires-clause-begun
give-requires-clause-begun g c =
    let t = turn_at c.args.self.now c.args.passes.now c.shard-shard.result (shard_of c.args.name.now) c.index.result.now c.index_mut.result.now c.requires.own c.shard-shard.ensures (shard_small c.args.name.now) c.index.ensures c.index_mut.ensures.value in
    (c.args.self.now.domain, t.founded)

pub returns-clause-own : goal.returns-clause-own
returns-clause-own g c =
    let t = turn_at c.args.self.now c.args.passes.now c.shard-shard.result (shard_of c.args.name.now) c.index.result.now c.index_mut.result.now c.requires.own c.shard-shard.ensures (shard_small c.args.name.now) c.index.ensures c.index_mut.ensures.value in
    own_after c.args.passes.now (with_pass c.args.passes.now c.shard-shard.result c.give.new.pass) (shard_of c.args.name.now) c.index_mut.result.now c.give.new.pass t.at (t.is c.give.new.pass) c.args.self.now c.index.result.now c.requires.own t.cell c.give.ensures.own c.give.ensures.later

pub returns-clause-turned : goal.returns-clause-turned
returns-clause-turned g c =
    let t = turn_at c.args.self.now c.args.passes.now c.shard-shard.result (shard_of c.args.name.now) c.index.result.now c.index_mut.result.now c.requires.own c.shard-shard.ensures (shard_small c.args.name.now) c.index.ensures c.index_mut.ensures.value in
    turned_at c.args.passes.now (with_pass c.args.passes.now c.shard-shard.result c.give.new.pass) (shard_of c.args.name.now) c.index_mut.result.now c.give.new.pass t.at (t.is c.give.new.pass) c.give.ensures.later c.give.ensures.looked

pub returns-clause-given : goal.returns-clause-given
returns-clause-given g c =
    let t = turn_at c.args.self.now c.args.passes.now c.shard-shard.result (shard_of c.args.name.now) c.index.result.now c.index_mut.result.now c.requires.own c.shard-shard.ensures (shard_small c.args.name.now) c.index.ensures c.index_mut.ensures.value in
    given_at c.args.passes.now (with_pass c.args.passes.now c.shard-shard.result c.give.new.pass) (shard_of c.args.name.now) c.index_mut.result.now c.give.new.pass t.at (t.is c.give.new.pass) c.args.self.now.domain (gift_mark c.args.name.now c.args.giving.now) c.in_ok-given.given
    (c.in_ok-given.ensures.given c.args.self.now.domain t.founded)

pub returns-in_err-given-clause-own : goal.returns-in_err-given-clause-own
returns-in_err-given-clause-own g c =
    let t = turn_at c.args.self.now c.args.passes.now c.shard-shard.result (shard_of c.args.name.now) c.index.result.now c.index_mut.result.now c.requires.own c.shard-shard.ensures (shard_small c.args.name.now) c.index.ensures c.index_mut.ensures.value in
    own_after c.args.passes.now (with_pass c.args.passes.now c.shard-shard.result c.give.new.pass) (shard_of c.args.name.now) c.index_mut.result.now c.give.new.pass t.at (t.is c.give.new.pass) c.args.self.now c.index.result.now c.requires.own t.cell c.give.ensures.own c.give.ensures.later

pub returns-in_err-given-clause-turned : goal.returns-in_err-given-clause-turned
returns-in_err-given-clause-turned g c =
    let t = turn_at c.args.self.now c.args.passes.now c.shard-shard.result (shard_of c.args.name.now) c.index.result.now c.index_mut.result.now c.requires.own c.shard-shard.ensures (shard_small c.args.name.now) c.index.ensures c.index_mut.ensures.value in
    turned_at c.args.passes.now (with_pass c.args.passes.now c.shard-shard.result c.give.new.pass) (shard_of c.args.name.now) c.index_mut.result.now c.give.new.pass t.at (t.is c.give.new.pass) c.give.ensures.later c.give.ensures.looked

pub returns-in_err-given-clause-spent : goal.returns-in_err-given-clause-spent
returns-in_err-given-clause-spent g c =
    let t = turn_at c.args.self.now c.args.passes.now c.shard-shard.result (shard_of c.args.name.now) c.index.result.now c.index_mut.result.now c.requires.own c.shard-shard.ensures (shard_small c.args.name.now) c.index.ensures c.index_mut.ensures.value in
    let qs = with_pass c.args.passes.now c.shard-shard.result c.give.new.pass in
    let now = now_at c.args.passes.now qs (shard_of c.args.name.now) c.index_mut.result.now c.give.new.pass t.at (t.is c.give.new.pass) in
    spent_exit qs (shard_of c.args.name.now) c.give.new.pass c.from_residual.result c.in_err-given.field-0.0 now c.from_residual.ensures.1 c.in_err-given.ensures.fault

pub returns-in_err-given-clause-unadded : goal.returns-in_err-given-clause-unadded
returns-in_err-given-clause-unadded g c =
    let t = turn_at c.args.self.now c.args.passes.now c.shard-shard.result (shard_of c.args.name.now) c.index.result.now c.index_mut.result.now c.requires.own c.shard-shard.ensures (shard_small c.args.name.now) c.index.ensures c.index_mut.ensures.value in
    on_err c.from_residual.result (unadded_at c.args.passes.now (with_pass c.args.passes.now c.shard-shard.result c.give.new.pass) (shard_of c.args.name.now) c.index_mut.result.now c.give.new.pass t.at (t.is c.give.new.pass) c.in_err-given.ensures.unadded)
