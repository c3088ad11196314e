use Rattle.std.proofs.Common.{refl}
use Rattle.std.proofs.lemmas.Result.{on_ok_weaker}
use Rattle.wavelet_container.specs.declared.trail.Trail.{Trail}
use Rattle.wavelet_container.proofs.Trails.{can_go_back, went_back}
use Rattle.wavelet_container.proofs.trail.Trail.back.Goals as goal

pub apply_valid-requires : goal.apply_valid-requires
apply_valid-requires c = λ none. can_go_back c.args.deltas.now c.args.self.now c.pop.new.self.items c.in-Some.ops c.requires.valid c.requires.trail c.in-Some.ensures.items none

pub returns-clause-trail : goal.returns-clause-trail
returns-clause-trail c =
    let new : Trail = record { state = c.apply_valid.new.state; first = c.args.self.now.first; backs = c.pop.new.self } in
    on_ok_weaker c.apply_valid.result
    (λ goes. (went_back c.args.deltas.now c.args.self.now new c.in-Some.ops c.requires.trail c.in-Some.ensures.items refl goes).0)
    c.apply_valid.ensures.ok
