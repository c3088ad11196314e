use Rattle.std.proofs.Common.{rules, ◌≡◌, ◌+◌, ap, ◌∙◌, slice_get, Some, length, refl, arith, suc}
use Rattle.std.proofs.lemmas.Option.{slice_get_read}
use Rattle.state_cache.specs.States.{state_after}
use Rattle.robot_host.proofs.Walking.{gone}
use Rattle.robot_host.proofs.walk.Walk.step.Goals as goal

pub lead_on-requires : goal.lead_on-requires
lead_on-requires c =
    let at : slice_get c.args.deltas.now c.args.self.now.place ≡ Some c.index-deltas-self.result = slice_get_read c.args.deltas.now (length c.args.deltas.now) c.args.self.now.place c.index-deltas-self.result refl c.requires.within c.index-deltas-self.is in
    (gone c.args.deltas.now c.args.self.now.place c.index-deltas-self.result c.args.self.now.state c.requires.valid at c.requires.reached).valid

pub returns-clause-reached : goal.returns-clause-reached
returns-clause-reached c =
    let at : slice_get c.args.deltas.now c.args.self.now.place ≡ Some c.index-deltas-self.result = slice_get_read c.args.deltas.now (length c.args.deltas.now) c.args.self.now.place c.index-deltas-self.result refl c.requires.within c.index-deltas-self.is in
    ap (state_after c.args.deltas.now) (let e : c.args.self.now.place + 1 ≡ suc c.args.self.now.place = omega arith in e) ∙ (gone c.args.deltas.now c.args.self.now.place c.index-deltas-self.result c.args.self.now.state c.requires.valid at c.requires.reached).leads c.lead_on.new.state (search rules)
