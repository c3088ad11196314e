use Rattle.std.proofs.Common.{refl}
use Rattle.replica_store.specs.Listings.{IsSought}
use Rattle.shard_marks.specs.Marks.{copied}
use Rattle.session_hub.specs.Items.{items_of}
use Rattle.session_hub.proofs.Turning.{with_pass, turn_at, now_at, turned_at, own_after, unadded_at, seen_now, spent_exit}
use Rattle.session_hub.proofs.hub.Hub.seek_at.Goals as goal

-- as of a delivery
pub seek-requires : goal.seek-requires
seek-requires g c =
    let t = turn_at c.args.self.now c.args.passes.now c.args.shard c.args.shard c.index.result.now c.index_mut.result.now c.requires.own refl c.requires.shard c.index.ensures c.index_mut.ensures.value in
    record { own = t.own }

pub returns-clause-own : goal.returns-clause-own
returns-clause-own g c =
    let t = turn_at c.args.self.now c.args.passes.now c.args.shard c.args.shard c.index.result.now c.index_mut.result.now c.requires.own refl c.requires.shard c.index.ensures c.index_mut.ensures.value in
    own_after c.args.passes.now (with_pass c.args.passes.now c.args.shard c.seek.new.pass) c.args.shard c.index_mut.result.now c.seek.new.pass t.at (t.is c.seek.new.pass) c.args.self.now c.index.result.now c.requires.own t.cell c.seek.ensures.own c.seek.ensures.later

pub returns-clause-turned : goal.returns-clause-turned
returns-clause-turned g c =
    let t = turn_at c.args.self.now c.args.passes.now c.args.shard c.args.shard c.index.result.now c.index_mut.result.now c.requires.own refl c.requires.shard c.index.ensures c.index_mut.ensures.value in
    turned_at c.args.passes.now (with_pass c.args.passes.now c.args.shard c.seek.new.pass) c.args.shard c.index_mut.result.now c.seek.new.pass t.at (t.is c.seek.new.pass) c.seek.ensures.later c.seek.ensures.looked

pub returns-clause-unadded : goal.returns-clause-unadded
returns-clause-unadded g c =
    let t = turn_at c.args.self.now c.args.passes.now c.args.shard c.args.shard c.index.result.now c.index_mut.result.now c.requires.own refl c.requires.shard c.index.ensures c.index_mut.ensures.value in
    unadded_at c.args.passes.now (with_pass c.args.passes.now c.args.shard c.seek.new.pass) c.args.shard c.index_mut.result.now c.seek.new.pass t.at (t.is c.seek.new.pass) c.seek.ensures.unadded

pub returns-clause-sought : goal.returns-clause-sought
returns-clause-sought g c =
    let t = turn_at c.args.self.now c.args.passes.now c.args.shard c.args.shard c.index.result.now c.index_mut.result.now c.requires.own refl c.requires.shard c.index.ensures c.index_mut.ensures.value in
    let d = c.args.self.now.domain in
    seen_now c.args.passes.now (with_pass c.args.passes.now c.args.shard c.seek.new.pass) c.args.shard c.index_mut.result.now c.seek.new.pass t.at (t.is c.seek.new.pass) (λ ms. IsSought (items_of c.args.wanted c.args.domain.now (copied d c.args.shard ms)) c.args.place c.in_ok-sought.sought)
    (c.in_ok-sought.ensures.sought d c.args.shard t.founded)

pub returns-in_err-sought-clause-own : goal.returns-in_err-sought-clause-own
returns-in_err-sought-clause-own g c =
    let t = turn_at c.args.self.now c.args.passes.now c.args.shard c.args.shard c.index.result.now c.index_mut.result.now c.requires.own refl c.requires.shard c.index.ensures c.index_mut.ensures.value in
    own_after c.args.passes.now (with_pass c.args.passes.now c.args.shard c.seek.new.pass) c.args.shard c.index_mut.result.now c.seek.new.pass t.at (t.is c.seek.new.pass) c.args.self.now c.index.result.now c.requires.own t.cell c.seek.ensures.own c.seek.ensures.later

pub returns-in_err-sought-clause-turned : goal.returns-in_err-sought-clause-turned
returns-in_err-sought-clause-turned g c =
    let t = turn_at c.args.self.now c.args.passes.now c.args.shard c.args.shard c.index.result.now c.index_mut.result.now c.requires.own refl c.requires.shard c.index.ensures c.index_mut.ensures.value in
    turned_at c.args.passes.now (with_pass c.args.passes.now c.args.shard c.seek.new.pass) c.args.shard c.index_mut.result.now c.seek.new.pass t.at (t.is c.seek.new.pass) c.seek.ensures.later c.seek.ensures.looked

pub returns-in_err-sought-clause-spent : goal.returns-in_err-sought-clause-spent
returns-in_err-sought-clause-spent g c =
    let t = turn_at c.args.self.now c.args.passes.now c.args.shard c.args.shard c.index.result.now c.index_mut.result.now c.requires.own refl c.requires.shard c.index.ensures c.index_mut.ensures.value in
    let qs = with_pass c.args.passes.now c.args.shard c.seek.new.pass in
    let now = now_at c.args.passes.now qs c.args.shard c.index_mut.result.now c.seek.new.pass t.at (t.is c.seek.new.pass) in
    spent_exit qs c.args.shard c.seek.new.pass c.from_residual.result c.in_err-sought.field-0.0 now c.from_residual.ensures.1 c.in_err-sought.ensures.fault

pub returns-in_err-sought-clause-unadded : goal.returns-in_err-sought-clause-unadded
returns-in_err-sought-clause-unadded g c =
    let t = turn_at c.args.self.now c.args.passes.now c.args.shard c.args.shard c.index.result.now c.index_mut.result.now c.requires.own refl c.requires.shard c.index.ensures c.index_mut.ensures.value in
    unadded_at c.args.passes.now (with_pass c.args.passes.now c.args.shard c.seek.new.pass) c.args.shard c.index_mut.result.now c.seek.new.pass t.at (t.is c.seek.new.pass) c.seek.ensures.unadded
