use Rattle.std.proofs.Common.{◌≡◌, map, drop}
use Rattle.std.specs.List.{list_any}
use Rattle.session_core.specs.Access.{is_of_domain}
use Rattle.session_core.proofs.deliver.any_of.Given as goal

abbrev pub invariant-loop-address : goal.invariant-loop-address
invariant-loop-address l = list_any (is_of_domain l.domain) (map (λ a. a.now) l.list) ≡ list_any (is_of_domain l.domain) (map (λ a. a.now) (drop l.address-index l.list))
