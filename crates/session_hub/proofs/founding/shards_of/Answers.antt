use Rattle.std.proofs.Common.{rules, true, ◌≡◌, ◌+◌, ◌++◌, ◌∷◌, [], sym, subst, ◌∙◌, length, slice_get, Some, IfSome, arith}
use Rattle.std.specs.List.{AllByRecursion}
use Rattle.std.proofs.lemmas.List.{map-id}
use Rattle.std.proofs.lemmas.Iterator.Adapters.{YieldsList-from_vec}
use Rattle.std.proofs.lemmas.Iterator.Consumers.{YieldsList-turn, YieldsList-end}
use Rattle.wavelet_shelf.specs.Parts.{is_in}
use Rattle.wavelet_shelf.specs.Shelves.{hosted_of}
use Rattle.session_hub.specs.Entries.{AreLoaded, IsLoaded}
use Rattle.turn_cells.proofs.Places.{at_there}
use Rattle.session_hub.proofs.Loading.{loaded_push, loaded_length}
use Rattle.session_hub.proofs.founding.shards_of.Goals as goal

pub new-requires : goal.new-requires
new-requires g c =
    let size : c.len-number.result ≡ length c.loop-part.shards.items = search rules in
    let count = size ∙ loaded_length c.args.domain.now 0 c.loop-part.yielded c.loop-part.shards.items c.loop-part.invariant in
    let all = YieldsList-from_vec c.args.parts.items (search rules) (search rules) in
    let t = YieldsList-turn all c.loop-part.yielded c.loop-part.part-iterator c.loop-part.yielded_by c.next.result c.next.new.self c.in-Some.part c.in-Some.is c.next.ensures.steps in
    let here : slice_get c.args.parts.items c.len-number.result ≡ Some c.in-Some.part = subst (λ n. slice_get c.args.parts.items n ≡ Some c.in-Some.part) (sym count) (at_there c.args.parts.items (length c.loop-part.yielded) c.in-Some.part t.0 t.1) in
    subst (λ o. IfSome o (λ p. AllByRecursion (λ h. is_in c.len-number.result h.name ≡ true) (hosted_of p))) here (c.requires c.len-number.result)

pub loop-part-preserved : goal.loop-part-preserved
loop-part-preserved g c =
    let size : c.len-number.result ≡ length c.loop-part.shards.items = search rules in
    let count = size ∙ loaded_length c.args.domain.now 0 c.loop-part.yielded c.loop-part.shards.items c.loop-part.invariant in
    let place : c.len-number.result ≡ 0 + length c.loop-part.yielded = omega (arith, count) in
    let items : c.push.new.self.items ≡ c.loop-part.shards.items ++ c.in_ok-new.field-0 ∷ [] = search rules in
    subst (AreLoaded c.args.domain.now 0 (c.loop-part.yielded ++ c.in-Some.part ∷ [])) (sym items)
    (loaded_push c.args.domain.now 0 c.loop-part.yielded c.loop-part.shards.items c.in-Some.part c.in_ok-new.field-0 c.loop-part.invariant
    (subst (λ j. IsLoaded c.args.domain.now j c.in-Some.part c.in_ok-new.field-0) place (subst (λ d. IsLoaded d c.len-number.result c.in-Some.part c.in_ok-new.field-0) c.in_ok-domain.ensures c.in_ok-new.ensures)))

pub returns : goal.returns
returns g c =
    let all = YieldsList-from_vec c.args.parts.items (search rules) (search rules) in
    let t = YieldsList-end all c.loop-part.yielded c.loop-part.part-iterator c.loop-part.yielded_by c.next.result c.next.new.self c.in-None.is c.next.ensures.steps in
    subst (λ ps. AreLoaded c.args.domain.now 0 ps c.loop-part.shards.items) (sym (map-id c.loop-part.yielded) ∙ t.0) c.loop-part.invariant
