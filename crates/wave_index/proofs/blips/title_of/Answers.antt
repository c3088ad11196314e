use Rattle.std.proofs.Common.{◌≡◌, ℕ, List, sym, ap, subst, ◌∙◌, IfOk}
use Rattle.std.proofs.Math.ListN.{drop_of_length-le}
use Rattle.wave_index.specs.Blips.{title_of}
use Rattle.wave_index.proofs.blips.title_of.Goals as goal

pub returns : goal.returns
returns c =
    subst (λ (x : List ℕ). IfOk c.no_text.result (λ t. t ≡ x))
    (sym (ap (title_of c.args.state.now) (drop_of_length-le c.args.nodes.now c.loop-node-test.false)) ∙ c.loop-node.invariant) c.no_text.ensures
