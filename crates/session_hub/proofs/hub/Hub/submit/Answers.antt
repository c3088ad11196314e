use Rattle.std.proofs.Common.{subst}
use Rattle.wavelet_shelf.specs.FileNames.{shard_of}
use Rattle.shard_marks.specs.Servers.{server}
use Rattle.session_hub.specs.Hubs.{server_of}
use Rattle.session_hub.specs.Turns.{IsAnsweredBy}
use Rattle.session_hub.proofs.Turning.{with_pass, turn_at, now_at, turned_at, look_at, own_after, answered_at, unadded_at, spent_exit, on_err, shard_small}
use Rattle.session_hub.proofs.hub.Hub.submit.Goals as goal

-- each: what the index gave of cells and passes stands at the shard of the wavelet, and the turn there left one other pass in its place
pub submit-requires-clause-own : goal.submit-requires-clause-own
submit-requires-clause-own g c =
    let t = turn_at c.args.self.now c.args.passes.now c.shard-shard.result (shard_of c.args.name.now) c.index.result.now c.index_mut.result.now c.requires.own c.shard-shard.ensures (shard_small c.args.name.now) c.index.ensures c.index_mut.ensures.value in
    t.own

pub submit-requires-clause-begun : goal.submit-requires-clause-begun
submit-requires-clause-begun g c =
    let t = turn_at c.args.self.now c.args.passes.now c.shard-shard.result (shard_of c.args.name.now) c.index.result.now c.index_mut.result.now c.requires.own c.shard-shard.ensures (shard_small c.args.name.now) c.index.ensures c.index_mut.ensures.value in
    (c.args.self.now.domain, t.founded)

pub returns-clause-own : goal.returns-clause-own
returns-clause-own g c =
    let t = turn_at c.args.self.now c.args.passes.now c.shard-shard.result (shard_of c.args.name.now) c.index.result.now c.index_mut.result.now c.requires.own c.shard-shard.ensures (shard_small c.args.name.now) c.index.ensures c.index_mut.ensures.value in
    own_after c.args.passes.now (with_pass c.args.passes.now c.shard-shard.result c.submit.new.pass) (shard_of c.args.name.now) c.index_mut.result.now c.submit.new.pass t.at (t.is c.submit.new.pass) c.args.self.now c.index.result.now c.requires.own t.cell c.submit.ensures.own c.submit.ensures.later

pub returns-clause-turned : goal.returns-clause-turned
returns-clause-turned g c =
    let t = turn_at c.args.self.now c.args.passes.now c.shard-shard.result (shard_of c.args.name.now) c.index.result.now c.index_mut.result.now c.requires.own c.shard-shard.ensures (shard_small c.args.name.now) c.index.ensures c.index_mut.ensures.value in
    turned_at c.args.passes.now (with_pass c.args.passes.now c.shard-shard.result c.submit.new.pass) (shard_of c.args.name.now) c.index_mut.result.now c.submit.new.pass t.at (t.is c.submit.new.pass) c.submit.ensures.later c.submit.ensures.looked

pub returns-clause-look : goal.returns-clause-look
returns-clause-look g c =
    let t = turn_at c.args.self.now c.args.passes.now c.shard-shard.result (shard_of c.args.name.now) c.index.result.now c.index_mut.result.now c.requires.own c.shard-shard.ensures (shard_small c.args.name.now) c.index.ensures c.index_mut.ensures.value in
    look_at c.args.passes.now (with_pass c.args.passes.now c.shard-shard.result c.submit.new.pass) (shard_of c.args.name.now) c.index_mut.result.now c.submit.new.pass t.at (t.is c.submit.new.pass) (record { shard = c.shard-shard.result; length = c.in_ok-length.length }) c.shard-shard.ensures c.in_ok-length.ensures.length

pub returns-clause-answer : goal.returns-clause-answer
returns-clause-answer g c =
    let t = turn_at c.args.self.now c.args.passes.now c.shard-shard.result (shard_of c.args.name.now) c.index.result.now c.index_mut.result.now c.requires.own c.shard-shard.ensures (shard_small c.args.name.now) c.index.ensures c.index_mut.ensures.value in
    answered_at c.args.passes.now (with_pass c.args.passes.now c.shard-shard.result c.submit.new.pass) (shard_of c.args.name.now) c.index_mut.result.now c.submit.new.pass t.at (t.is c.submit.new.pass) (server_of c.args.self.now) c.args.name.now c.args.submission.now c.args.time c.in_ok-length.answer
    (subst (λ ps. IsAnsweredBy c.index_mut.result.now c.submit.new.pass (server c.args.self.now.domain ps) (shard_of c.args.name.now) c.args.name.now c.args.submission.now c.args.time c.in_ok-length.answer) c.as_slice.ensures.value
    (c.in_ok-length.ensures.answered c.args.self.now.domain t.founded))

pub returns-in_err-length-clause-own : goal.returns-in_err-length-clause-own
returns-in_err-length-clause-own g c =
    let t = turn_at c.args.self.now c.args.passes.now c.shard-shard.result (shard_of c.args.name.now) c.index.result.now c.index_mut.result.now c.requires.own c.shard-shard.ensures (shard_small c.args.name.now) c.index.ensures c.index_mut.ensures.value in
    own_after c.args.passes.now (with_pass c.args.passes.now c.shard-shard.result c.submit.new.pass) (shard_of c.args.name.now) c.index_mut.result.now c.submit.new.pass t.at (t.is c.submit.new.pass) c.args.self.now c.index.result.now c.requires.own t.cell c.submit.ensures.own c.submit.ensures.later

pub returns-in_err-length-clause-turned : goal.returns-in_err-length-clause-turned
returns-in_err-length-clause-turned g c =
    let t = turn_at c.args.self.now c.args.passes.now c.shard-shard.result (shard_of c.args.name.now) c.index.result.now c.index_mut.result.now c.requires.own c.shard-shard.ensures (shard_small c.args.name.now) c.index.ensures c.index_mut.ensures.value in
    turned_at c.args.passes.now (with_pass c.args.passes.now c.shard-shard.result c.submit.new.pass) (shard_of c.args.name.now) c.index_mut.result.now c.submit.new.pass t.at (t.is c.submit.new.pass) c.submit.ensures.later c.submit.ensures.looked

pub returns-in_err-length-clause-spent : goal.returns-in_err-length-clause-spent
returns-in_err-length-clause-spent g c =
    let t = turn_at c.args.self.now c.args.passes.now c.shard-shard.result (shard_of c.args.name.now) c.index.result.now c.index_mut.result.now c.requires.own c.shard-shard.ensures (shard_small c.args.name.now) c.index.ensures c.index_mut.ensures.value in
    let qs = with_pass c.args.passes.now c.shard-shard.result c.submit.new.pass in
    let now = now_at c.args.passes.now qs (shard_of c.args.name.now) c.index_mut.result.now c.submit.new.pass t.at (t.is c.submit.new.pass) in
    spent_exit qs (shard_of c.args.name.now) c.submit.new.pass c.from_residual.result c.in_err-length.field-0.0 now c.from_residual.ensures.1 c.in_err-length.ensures.fault

pub returns-in_err-length-clause-unadded : goal.returns-in_err-length-clause-unadded
returns-in_err-length-clause-unadded g c =
    let t = turn_at c.args.self.now c.args.passes.now c.shard-shard.result (shard_of c.args.name.now) c.index.result.now c.index_mut.result.now c.requires.own c.shard-shard.ensures (shard_small c.args.name.now) c.index.ensures c.index_mut.ensures.value in
    on_err c.from_residual.result (unadded_at c.args.passes.now (with_pass c.args.passes.now c.shard-shard.result c.submit.new.pass) (shard_of c.args.name.now) c.index_mut.result.now c.submit.new.pass t.at (t.is c.submit.new.pass) c.in_err-length.ensures.unadded)
