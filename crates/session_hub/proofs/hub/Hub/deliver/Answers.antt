use Rattle.std.proofs.Common.{◌≡◌, [], map, refl, subst}
use Rattle.session_core.specs.Deliveries.{delivered, after_delivery}
use Rattle.shard_marks.specs.Frames.{frames_of}
use Rattle.turn_cells.specs.Cells.{seen_of}
use Rattle.shard_marks.specs.Marks.{shown_at}
use Rattle.shard_marks.specs.Told.{AreToldAt}
use Rattle.session_hub.proofs.Turning.{with_pass, turn_at, now_at, turned_at, look_at, own_after, unadded_at, seen_now, spent_exit}
use Rattle.session_hub.proofs.hub.Hub.deliver.Goals as goal

-- as of a submission, with the shard that is given
pub deliver-requires-clause-own : goal.deliver-requires-clause-own
deliver-requires-clause-own g c =
    let t = turn_at c.args.self.now c.args.passes.now c.args.shard c.args.shard c.index.result.now c.index_mut.result.now c.requires.own refl c.requires.shard c.index.ensures c.index_mut.ensures.value in
    t.own

pub deliver-requires-clause-told : goal.deliver-requires-clause-told
deliver-requires-clause-told g c =
    let t = turn_at c.args.self.now c.args.passes.now c.args.shard c.args.shard c.index.result.now c.index_mut.result.now c.requires.own refl c.requires.shard c.index.ensures c.index_mut.ensures.value in
    let d = c.args.self.now.domain in
    record { domain = d; number = c.args.shard; founded = t.founded; told = subst (λ o. AreToldAt d c.args.shard (seen_of o) c.args.session.now c.args.sent) t.at c.requires.told }

pub returns-clause-own : goal.returns-clause-own
returns-clause-own g c =
    let t = turn_at c.args.self.now c.args.passes.now c.args.shard c.args.shard c.index.result.now c.index_mut.result.now c.requires.own refl c.requires.shard c.index.ensures c.index_mut.ensures.value in
    own_after c.args.passes.now (with_pass c.args.passes.now c.args.shard c.deliver.new.pass) c.args.shard c.index_mut.result.now c.deliver.new.pass t.at (t.is c.deliver.new.pass) c.args.self.now c.index.result.now c.requires.own t.cell c.deliver.ensures.own c.deliver.ensures.later

pub returns-clause-turned : goal.returns-clause-turned
returns-clause-turned g c =
    let t = turn_at c.args.self.now c.args.passes.now c.args.shard c.args.shard c.index.result.now c.index_mut.result.now c.requires.own refl c.requires.shard c.index.ensures c.index_mut.ensures.value in
    turned_at c.args.passes.now (with_pass c.args.passes.now c.args.shard c.deliver.new.pass) c.args.shard c.index_mut.result.now c.deliver.new.pass t.at (t.is c.deliver.new.pass) c.deliver.ensures.later c.deliver.ensures.looked

pub returns-clause-unadded : goal.returns-clause-unadded
returns-clause-unadded g c =
    let t = turn_at c.args.self.now c.args.passes.now c.args.shard c.args.shard c.index.result.now c.index_mut.result.now c.requires.own refl c.requires.shard c.index.ensures c.index_mut.ensures.value in
    unadded_at c.args.passes.now (with_pass c.args.passes.now c.args.shard c.deliver.new.pass) c.args.shard c.index_mut.result.now c.deliver.new.pass t.at (t.is c.deliver.new.pass) c.deliver.ensures.unadded

pub returns-clause-look : goal.returns-clause-look
returns-clause-look g c =
    let t = turn_at c.args.self.now c.args.passes.now c.args.shard c.args.shard c.index.result.now c.index_mut.result.now c.requires.own refl c.requires.shard c.index.ensures c.index_mut.ensures.value in
    look_at c.args.passes.now (with_pass c.args.passes.now c.args.shard c.deliver.new.pass) c.args.shard c.index_mut.result.now c.deliver.new.pass t.at (t.is c.deliver.new.pass) (record { shard = c.args.shard; length = c.in_ok-length.length }) refl c.in_ok-length.ensures.length

pub returns-clause-frames : goal.returns-clause-frames
returns-clause-frames g c =
    let t = turn_at c.args.self.now c.args.passes.now c.args.shard c.args.shard c.index.result.now c.index_mut.result.now c.requires.own refl c.requires.shard c.index.ensures c.index_mut.ensures.value in
    let d = c.args.self.now.domain in
    seen_now c.args.passes.now (with_pass c.args.passes.now c.args.shard c.deliver.new.pass) c.args.shard c.index_mut.result.now c.deliver.new.pass t.at (t.is c.deliver.new.pass) (λ ms. map (λ v. v.items) c.in_ok-length.frames.items ≡ frames_of (delivered (shown_at d c.args.shard ms) c.args.session.now))
    (c.in_ok-length.ensures.frames d c.args.shard t.founded)

pub returns-clause-after : goal.returns-clause-after
returns-clause-after g c =
    let t = turn_at c.args.self.now c.args.passes.now c.args.shard c.args.shard c.index.result.now c.index_mut.result.now c.requires.own refl c.requires.shard c.index.ensures c.index_mut.ensures.value in
    let d = c.args.self.now.domain in
    seen_now c.args.passes.now (with_pass c.args.passes.now c.args.shard c.deliver.new.pass) c.args.shard c.index_mut.result.now c.deliver.new.pass t.at (t.is c.deliver.new.pass) (λ ms. c.deliver.new.session ≡ after_delivery (shown_at d c.args.shard ms) c.args.session.now)
    (c.in_ok-length.ensures.after d c.args.shard t.founded)

pub returns-clause-told : goal.returns-clause-told
returns-clause-told g c =
    let t = turn_at c.args.self.now c.args.passes.now c.args.shard c.args.shard c.index.result.now c.index_mut.result.now c.requires.own refl c.requires.shard c.index.ensures c.index_mut.ensures.value in
    let d = c.args.self.now.domain in
    seen_now c.args.passes.now (with_pass c.args.passes.now c.args.shard c.deliver.new.pass) c.args.shard c.index_mut.result.now c.deliver.new.pass t.at (t.is c.deliver.new.pass) (λ ms. delivered (shown_at d c.args.shard ms) c.deliver.new.session ≡ [])
    (c.in_ok-length.ensures.told d c.args.shard t.founded)

pub returns-in_err-length-clause-own : goal.returns-in_err-length-clause-own
returns-in_err-length-clause-own g c =
    let t = turn_at c.args.self.now c.args.passes.now c.args.shard c.args.shard c.index.result.now c.index_mut.result.now c.requires.own refl c.requires.shard c.index.ensures c.index_mut.ensures.value in
    own_after c.args.passes.now (with_pass c.args.passes.now c.args.shard c.deliver.new.pass) c.args.shard c.index_mut.result.now c.deliver.new.pass t.at (t.is c.deliver.new.pass) c.args.self.now c.index.result.now c.requires.own t.cell c.deliver.ensures.own c.deliver.ensures.later

pub returns-in_err-length-clause-turned : goal.returns-in_err-length-clause-turned
returns-in_err-length-clause-turned g c =
    let t = turn_at c.args.self.now c.args.passes.now c.args.shard c.args.shard c.index.result.now c.index_mut.result.now c.requires.own refl c.requires.shard c.index.ensures c.index_mut.ensures.value in
    turned_at c.args.passes.now (with_pass c.args.passes.now c.args.shard c.deliver.new.pass) c.args.shard c.index_mut.result.now c.deliver.new.pass t.at (t.is c.deliver.new.pass) c.deliver.ensures.later c.deliver.ensures.looked

pub returns-in_err-length-clause-spent : goal.returns-in_err-length-clause-spent
returns-in_err-length-clause-spent g c =
    let t = turn_at c.args.self.now c.args.passes.now c.args.shard c.args.shard c.index.result.now c.index_mut.result.now c.requires.own refl c.requires.shard c.index.ensures c.index_mut.ensures.value in
    let qs = with_pass c.args.passes.now c.args.shard c.deliver.new.pass in
    let now = now_at c.args.passes.now qs c.args.shard c.index_mut.result.now c.deliver.new.pass t.at (t.is c.deliver.new.pass) in
    spent_exit qs c.args.shard c.deliver.new.pass c.from_residual.result c.in_err-length.field-0.0 now c.from_residual.ensures.1 c.in_err-length.ensures.fault

pub returns-in_err-length-clause-unadded : goal.returns-in_err-length-clause-unadded
returns-in_err-length-clause-unadded g c =
    let t = turn_at c.args.self.now c.args.passes.now c.args.shard c.args.shard c.index.result.now c.index_mut.result.now c.requires.own refl c.requires.shard c.index.ensures c.index_mut.ensures.value in
    unadded_at c.args.passes.now (with_pass c.args.passes.now c.args.shard c.deliver.new.pass) c.args.shard c.index_mut.result.now c.deliver.new.pass t.at (t.is c.deliver.new.pass) c.deliver.ensures.unadded
