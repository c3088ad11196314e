use Rattle.std.proofs.Common.{◌≡◌, sym, ap, ◌∙◌, rules, true≢false, is_some}
use Rattle.std.specs.FinMap as finite
use Rattle.doc_items.specs.Maps.{strings}
use Rattle.doc_items.proofs.Views.{get-strings, put-strings}
use Rattle.doc_op.proofs.running.RunningKeys.switch.Goals as goal

pub returns : goal.returns
returns c =
    let there = ap is_some c.in-Some.ensures.value ∙ ap is_some (sym (get-strings c.self.inside.switches c.args.key.now)) ∙ ap (λ m. finite.contains_key m c.args.key.now) c.self.view_is in
    record {
      there = λ h. put-strings c.args.key.now c.self.inside.switches (c.get_mut.follows.lender c.args.on) c.args.on ((c.get_mut.follows.holds c.args.on).3 (search rules))
          ∙ (λ i. finite.insert (c.self.view_is i) c.args.key.now c.args.on);
      absent = λ h. absurd (true≢false (there ∙ h));
    }

pub returns-in_default : goal.returns-in_default
returns-in_default c =
    let none = ap is_some c.in_default.ensures.value ∙ ap is_some (sym (get-strings c.self.inside.switches c.args.key.now)) ∙ ap (λ m. finite.contains_key m c.args.key.now) c.self.view_is in
    let same : c.get_mut.follows.lender-at-none ≡ c.self.inside.switches = c.get_mut.follows.holds-at-none in
    record {
      there = λ h. absurd (true≢false (sym h ∙ sym none));
      absent = λ h. ap (λ m. strings m.entries) same ∙ c.self.view_is;
    }
