use Rattle.std.proofs.Common.{◌≡◌, ℕ, Bool, List, Option, sym, ◌∙◌}
use Rattle.std.specs.Str.{encode_utf8_all}
use Rattle.std.specs.FinMap.{get}
use Rattle.doc_items.specs.Maps.{Key}
use Rattle.doc_items.specs.Changes.{KeyChange, ChangeSet}
use Rattle.change_view.specs.declared.rule.Test.{Test}
use Rattle.change_view.specs.Rules.{passing}
use Rattle.change_table.proofs.Passing.{pass_next, pass_all, pass_not}
use Rattle.change_table.proofs.joint.Joint.passes.Goals as goal

-- what the test says is what it says of the tables at the key
tried : (t : Test) (k : List ℕ) (bs : Key) (u w : ChangeSet) (a b : Option KeyChange) (r s : Bool) → bs ≡ encode_utf8_all k → a ≡ get u bs → b ≡ get w bs → r ≡ passing t a b → r ≡ s
    → passing t (get u (encode_utf8_all k)) (get w (encode_utf8_all k)) ≡ s
tried t k bs u w a b r s e p q h g = (λ i. passing t (get u (sym e i)) (get w (sym e i))) ∙ (λ i. passing t (sym p i) (sym q i)) ∙ sym h ∙ g

pub loop-key-preserved : goal.loop-key-preserved
loop-key-preserved c = pass_next c.args.test c.args.keys.now c.loop-key.key-index c.key-item.result c.args.self.first.now c.args.self.second.now c.loop-key-test.true c.key-item.is
    (tried c.args.test c.key-item.result c.as_str-key.result.now c.args.self.first.now c.args.self.second.now _ _ _ _ c.as_str-key.ensures.bytes c.at.ensures.value c.at-in-loop-key.ensures.value
    c.holds.ensures c.if-not-holds.false) c.loop-key.invariant

pub returns-then-not-holds : goal.returns-then-not-holds
returns-then-not-holds c = sym (pass_not c.args.test (encode_utf8_all c.key-item.result) c.args.self.first.now c.args.self.second.now
    (tried c.args.test c.key-item.result c.as_str-key.result.now c.args.self.first.now c.args.self.second.now _ _ _ _ c.as_str-key.ensures.bytes c.at.ensures.value c.at-in-loop-key.ensures.value
    c.holds.ensures c.if-not-holds.true))

pub returns : goal.returns
returns c = sym (pass_all c.args.test c.args.keys.now c.loop-key.key-index c.args.self.first.now c.args.self.second.now c.loop-key-test.false c.loop-key.invariant)
