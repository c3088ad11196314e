use Rattle.std.proofs.Common.{rules, ◌≡◌, [], ◌∷◌, Some}
use Rattle.turn_lock.proofs.Allowed.{starts}
use Rattle.turn_lock.proofs.cell.TurnCell.starting_at.Goals as goal

pub new-requires : goal.new-requires
new-requires g c =
    let items : c.push.new.self.items ≡ Some c.args.value ∷ [] = search rules in
    let about : c.of-about.result.value ≡ c.args.value = search rules in
    rw (items, about) (starts g.T.Logged.entries c.args.value c.args.first c.length.result (search rules) (search rules))
