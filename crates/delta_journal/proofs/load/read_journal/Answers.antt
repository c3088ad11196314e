use Rattle.std.proofs.Common.{◌≡◌, ℕ, List, ◌-◌, [], ◌∷◌, length, take, ap, sym, ◌∙◌, arith, length-append}
use Rattle.std.proofs.lemmas.List.{take_at}
use Rattle.delta_journal.specs.File.{header}
use Rattle.delta_journal.proofs.load.read_journal.Goals as goal

pub parse-requires-clause-known : goal.parse-requires-clause-known
parse-requires-clause-known g c =
    let spelled = header c.args.name.now in
    let n = length c.args.spelled.now - 1 in
    let size : n ≡ length spelled = omega (arith, ap length c.requires, length-append spelled (0 ∷ [])) in
    ap (λ (l : List ℕ). take n l) c.requires ∙ take_at spelled (0 ∷ []) n (sym size)
