use Rattle.std.specs.FinMap.{keys}
use Rattle.snapshot_json.proofs.Listings.{next_listed, next_back}
use Rattle.snapshot_json.specs.Back.{IsMemberBack}
use Rattle.snapshot_json.specs.Write.{member_data}
use Rattle.snapshot_json.proofs.writing.member_list.Goals as goal

pub loop-address-preserved : goal.loop-address-preserved
loop-address-preserved c = record {
  listed = next_listed (λ k. k.now) (member_data c.args.state.now) (keys c.args.state.now.roles) c.loop-address.list.items c.push.new.self.items c.in_ok-member_value.field-0 c.as_slice-address-items.result.now c.loop-address.address-index c.address-item.result c.loop-address.invariant.listed c.loop-address-test.true c.address-item.is c.in_ok-member_value.ensures.value c.in_ok-push.ensures.items;
  back = next_back (λ k. k.now) (IsMemberBack c.args.state.now) (keys c.args.state.now.roles) c.as_slice-address-items.result.now c.loop-address.address-index c.address-item.result c.loop-address.invariant.back c.loop-address-test.true c.address-item.is c.in_ok-member_value.ensures.back;
}
