use Rattle.std.proofs.Common.{◌≡◌, ◌++◌, map, drop}
use Rattle.std.specs.FinMap.{keys}
use Rattle.std.specs.List.{All}
use Rattle.serde_json.specs.View.{view}
use Rattle.snapshot_json.specs.Back.{IsMemberBack}
use Rattle.snapshot_json.specs.Write.{member_data}
use Rattle.snapshot_json.proofs.writing.member_list.Given as goal

abbrev pub invariant-loop-address : goal.invariant-loop-address
invariant-loop-address l = record {
  listed : map view l.list.items ++ map (member_data l.state) (map (λ k. k.now) (drop l.address-index l.address-items)) ≡ map (member_data l.state) (keys l.state.roles);
  back : All (IsMemberBack l.state) (map (λ k. k.now) (drop l.address-index l.address-items)) → All (IsMemberBack l.state) (keys l.state.roles);
}
