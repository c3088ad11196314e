use Rattle.std.proofs.Common.{◌≡◌}
use Rattle.session_core.specs.Answers.{had}
use Rattle.wavelet_shelf.specs.FileNames.{shard_of}
use Rattle.shard_marks.specs.Marks.{shown_at}
use Rattle.session_hub.proofs.Turning.{with_pass, turn_at, now_at, turned_at, look_at, own_after, unadded_at, seen_now, spent_exit, shard_small}
use Rattle.session_hub.proofs.hub.Hub.have.Goals as goal

-- as of a submission
pub have-requires-clause-own : goal.have-requires-clause-own
have-requires-clause-own g c =
    let t = turn_at c.args.self.now c.args.passes.now c.shard-shard.result (shard_of c.args.name.now) c.index.result.now c.index_mut.result.now c.requires.own c.shard-shard.ensures (shard_small c.args.name.now) c.index.ensures c.index_mut.ensures.value in
    t.own

pub returns-clause-own : goal.returns-clause-own
returns-clause-own g c =
    let t = turn_at c.args.self.now c.args.passes.now c.shard-shard.result (shard_of c.args.name.now) c.index.result.now c.index_mut.result.now c.requires.own c.shard-shard.ensures (shard_small c.args.name.now) c.index.ensures c.index_mut.ensures.value in
    own_after c.args.passes.now (with_pass c.args.passes.now c.shard-shard.result c.have.new.pass) (shard_of c.args.name.now) c.index_mut.result.now c.have.new.pass t.at (t.is c.have.new.pass) c.args.self.now c.index.result.now c.requires.own t.cell c.have.ensures.own c.have.ensures.later

pub returns-clause-turned : goal.returns-clause-turned
returns-clause-turned g c =
    let t = turn_at c.args.self.now c.args.passes.now c.shard-shard.result (shard_of c.args.name.now) c.index.result.now c.index_mut.result.now c.requires.own c.shard-shard.ensures (shard_small c.args.name.now) c.index.ensures c.index_mut.ensures.value in
    turned_at c.args.passes.now (with_pass c.args.passes.now c.shard-shard.result c.have.new.pass) (shard_of c.args.name.now) c.index_mut.result.now c.have.new.pass t.at (t.is c.have.new.pass) c.have.ensures.later c.have.ensures.looked

pub returns-clause-unadded : goal.returns-clause-unadded
returns-clause-unadded g c =
    let t = turn_at c.args.self.now c.args.passes.now c.shard-shard.result (shard_of c.args.name.now) c.index.result.now c.index_mut.result.now c.requires.own c.shard-shard.ensures (shard_small c.args.name.now) c.index.ensures c.index_mut.ensures.value in
    unadded_at c.args.passes.now (with_pass c.args.passes.now c.shard-shard.result c.have.new.pass) (shard_of c.args.name.now) c.index_mut.result.now c.have.new.pass t.at (t.is c.have.new.pass) c.have.ensures.unadded

pub returns-clause-look : goal.returns-clause-look
returns-clause-look g c =
    let t = turn_at c.args.self.now c.args.passes.now c.shard-shard.result (shard_of c.args.name.now) c.index.result.now c.index_mut.result.now c.requires.own c.shard-shard.ensures (shard_small c.args.name.now) c.index.ensures c.index_mut.ensures.value in
    look_at c.args.passes.now (with_pass c.args.passes.now c.shard-shard.result c.have.new.pass) (shard_of c.args.name.now) c.index_mut.result.now c.have.new.pass t.at (t.is c.have.new.pass) (record { shard = c.shard-shard.result; length = c.in_ok-length.length }) c.shard-shard.ensures c.in_ok-length.ensures.length

pub returns-clause-after : goal.returns-clause-after
returns-clause-after g c =
    let t = turn_at c.args.self.now c.args.passes.now c.shard-shard.result (shard_of c.args.name.now) c.index.result.now c.index_mut.result.now c.requires.own c.shard-shard.ensures (shard_small c.args.name.now) c.index.ensures c.index_mut.ensures.value in
    let d = c.args.self.now.domain in
    let k = shard_of c.args.name.now in
    seen_now c.args.passes.now (with_pass c.args.passes.now c.shard-shard.result c.have.new.pass) (shard_of c.args.name.now) c.index_mut.result.now c.have.new.pass t.at (t.is c.have.new.pass) (λ ms. c.have.new.session ≡ had (shown_at d k ms) c.args.session.now c.args.name.now c.args.from.now)
    (c.in_ok-length.ensures.after d k t.founded)

pub returns-in_err-length-clause-own : goal.returns-in_err-length-clause-own
returns-in_err-length-clause-own g c =
    let t = turn_at c.args.self.now c.args.passes.now c.shard-shard.result (shard_of c.args.name.now) c.index.result.now c.index_mut.result.now c.requires.own c.shard-shard.ensures (shard_small c.args.name.now) c.index.ensures c.index_mut.ensures.value in
    own_after c.args.passes.now (with_pass c.args.passes.now c.shard-shard.result c.have.new.pass) (shard_of c.args.name.now) c.index_mut.result.now c.have.new.pass t.at (t.is c.have.new.pass) c.args.self.now c.index.result.now c.requires.own t.cell c.have.ensures.own c.have.ensures.later

pub returns-in_err-length-clause-turned : goal.returns-in_err-length-clause-turned
returns-in_err-length-clause-turned g c =
    let t = turn_at c.args.self.now c.args.passes.now c.shard-shard.result (shard_of c.args.name.now) c.index.result.now c.index_mut.result.now c.requires.own c.shard-shard.ensures (shard_small c.args.name.now) c.index.ensures c.index_mut.ensures.value in
    turned_at c.args.passes.now (with_pass c.args.passes.now c.shard-shard.result c.have.new.pass) (shard_of c.args.name.now) c.index_mut.result.now c.have.new.pass t.at (t.is c.have.new.pass) c.have.ensures.later c.have.ensures.looked

pub returns-in_err-length-clause-spent : goal.returns-in_err-length-clause-spent
returns-in_err-length-clause-spent g c =
    let t = turn_at c.args.self.now c.args.passes.now c.shard-shard.result (shard_of c.args.name.now) c.index.result.now c.index_mut.result.now c.requires.own c.shard-shard.ensures (shard_small c.args.name.now) c.index.ensures c.index_mut.ensures.value in
    let qs = with_pass c.args.passes.now c.shard-shard.result c.have.new.pass in
    let now = now_at c.args.passes.now qs (shard_of c.args.name.now) c.index_mut.result.now c.have.new.pass t.at (t.is c.have.new.pass) in
    spent_exit qs (shard_of c.args.name.now) c.have.new.pass c.from_residual.result c.in_err-length.field-0.0 now c.from_residual.ensures.1 c.in_err-length.ensures.fault

pub returns-in_err-length-clause-unadded : goal.returns-in_err-length-clause-unadded
returns-in_err-length-clause-unadded g c =
    let t = turn_at c.args.self.now c.args.passes.now c.shard-shard.result (shard_of c.args.name.now) c.index.result.now c.index_mut.result.now c.requires.own c.shard-shard.ensures (shard_small c.args.name.now) c.index.ensures c.index_mut.ensures.value in
    unadded_at c.args.passes.now (with_pass c.args.passes.now c.shard-shard.result c.have.new.pass) (shard_of c.args.name.now) c.index_mut.result.now c.have.new.pass t.at (t.is c.have.new.pass) c.have.ensures.unadded
