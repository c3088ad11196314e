use Rattle.std.proofs.Common.{rules, refl, ap, ◌∙◌, ◌≡◌}
use Rattle.std.specs.FinMap as finite
use Rattle.peer_turns.specs.declared.absorbed.Absorbed.TheVariants.{Gap, Diverged, NotLegal}
use Rattle.replica_store.specs.Worlds.{world, world_of, empty_world, worlds_of}
use Rattle.replica_store.proofs.Absorbing.{answered_first, taken_first, untaken_first}
use Rattle.replica_store.proofs.replicas.Replicas.absorb_first.Goals as goal

-- each: a new copy of the name is empty
pub returns-in_ok-insert-in-Took-clause-answer : goal.returns-in_ok-insert-in-Took-clause-answer
returns-in_ok-insert-in-Took-clause-answer c =
    let b = c.new-copy.result in
    let empty : world_of b ≡ empty_world = λ i. world (record { deltas = c.new-copy.ensures.empty i; waiting = c.new-copy.ensures.waiting i; dropped = c.new-copy.ensures.dropped i }) (c.new-copy.ensures.noted i) in
    answered_first c.args.self.now c.args.name.now c.args.delta.now b c.absorb.new.self c.requires (c.new-copy.ensures.name ∙ c.in_ok-copy.ensures) empty c.in_ok-answer.answer c.in_ok-answer.ensures.answer

pub returns-in_ok-insert-in-Took-clause-after : goal.returns-in_ok-insert-in-Took-clause-after
returns-in_ok-insert-in-Took-clause-after c =
    let b = c.new-copy.result in
    let m = c.args.self.now in
    let empty : world_of b ≡ empty_world = λ i. world (record { deltas = c.new-copy.ensures.empty i; waiting = c.new-copy.ensures.waiting i; dropped = c.new-copy.ensures.dropped i }) (c.new-copy.ensures.noted i) in
    ap worlds_of (c.in_ok-insert-in-Took.ensures.ok ∙ ap (λ k. finite.insert m k c.absorb.new.self) c.in_ok-key.ensures)
    ∙ taken_first m c.args.name.now c.args.delta.now b c.absorb.new.self c.requires (c.new-copy.ensures.name ∙ c.in_ok-copy.ensures) empty c.in_ok-answer.answer (search rules) c.in_ok-answer.ensures.answer c.in_ok-answer.ensures.after

pub returns-in-Gap-clause-answer : goal.returns-in-Gap-clause-answer
returns-in-Gap-clause-answer c =
    let b = c.new-copy.result in
    let empty : world_of b ≡ empty_world = λ i. world (record { deltas = c.new-copy.ensures.empty i; waiting = c.new-copy.ensures.waiting i; dropped = c.new-copy.ensures.dropped i }) (c.new-copy.ensures.noted i) in
    answered_first c.args.self.now c.args.name.now c.args.delta.now b c.absorb.new.self c.requires (c.new-copy.ensures.name ∙ c.in_ok-copy.ensures) empty c.in_ok-answer.answer c.in_ok-answer.ensures.answer

pub returns-in-Gap-clause-after : goal.returns-in-Gap-clause-after
returns-in-Gap-clause-after c =
    let b = c.new-copy.result in
    let empty : world_of b ≡ empty_world = λ i. world (record { deltas = c.new-copy.ensures.empty i; waiting = c.new-copy.ensures.waiting i; dropped = c.new-copy.ensures.dropped i }) (c.new-copy.ensures.noted i) in
    untaken_first c.args.self.now c.args.name.now c.args.delta.now b c.absorb.new.self c.requires (c.new-copy.ensures.name ∙ c.in_ok-copy.ensures) empty c.in_ok-answer.answer Gap (search rules) c.in_ok-answer.ensures.answer refl

pub returns-in-Diverged-clause-answer : goal.returns-in-Diverged-clause-answer
returns-in-Diverged-clause-answer c =
    let b = c.new-copy.result in
    let empty : world_of b ≡ empty_world = λ i. world (record { deltas = c.new-copy.ensures.empty i; waiting = c.new-copy.ensures.waiting i; dropped = c.new-copy.ensures.dropped i }) (c.new-copy.ensures.noted i) in
    answered_first c.args.self.now c.args.name.now c.args.delta.now b c.absorb.new.self c.requires (c.new-copy.ensures.name ∙ c.in_ok-copy.ensures) empty c.in_ok-answer.answer c.in_ok-answer.ensures.answer

pub returns-in-Diverged-clause-after : goal.returns-in-Diverged-clause-after
returns-in-Diverged-clause-after c =
    let b = c.new-copy.result in
    let empty : world_of b ≡ empty_world = λ i. world (record { deltas = c.new-copy.ensures.empty i; waiting = c.new-copy.ensures.waiting i; dropped = c.new-copy.ensures.dropped i }) (c.new-copy.ensures.noted i) in
    untaken_first c.args.self.now c.args.name.now c.args.delta.now b c.absorb.new.self c.requires (c.new-copy.ensures.name ∙ c.in_ok-copy.ensures) empty c.in_ok-answer.answer (Diverged c.in-Diverged.mine c.in-Diverged.theirs) (search rules) c.in_ok-answer.ensures.answer refl

pub returns-in-NotLegal-clause-answer : goal.returns-in-NotLegal-clause-answer
returns-in-NotLegal-clause-answer c =
    let b = c.new-copy.result in
    let empty : world_of b ≡ empty_world = λ i. world (record { deltas = c.new-copy.ensures.empty i; waiting = c.new-copy.ensures.waiting i; dropped = c.new-copy.ensures.dropped i }) (c.new-copy.ensures.noted i) in
    answered_first c.args.self.now c.args.name.now c.args.delta.now b c.absorb.new.self c.requires (c.new-copy.ensures.name ∙ c.in_ok-copy.ensures) empty c.in_ok-answer.answer c.in_ok-answer.ensures.answer

pub returns-in-NotLegal-clause-after : goal.returns-in-NotLegal-clause-after
returns-in-NotLegal-clause-after c =
    let b = c.new-copy.result in
    let empty : world_of b ≡ empty_world = λ i. world (record { deltas = c.new-copy.ensures.empty i; waiting = c.new-copy.ensures.waiting i; dropped = c.new-copy.ensures.dropped i }) (c.new-copy.ensures.noted i) in
    untaken_first c.args.self.now c.args.name.now c.args.delta.now b c.absorb.new.self c.requires (c.new-copy.ensures.name ∙ c.in_ok-copy.ensures) empty c.in_ok-answer.answer NotLegal (search rules) c.in_ok-answer.ensures.answer refl
