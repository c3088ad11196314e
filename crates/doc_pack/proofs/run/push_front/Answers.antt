use Rattle.std.proofs.Common.{◌≡◌, ◌++◌, ◌∷◌, [], List, take, sym, ap, ◌∙◌, rules, string_bytes}
use Rattle.std.specs.Str.{chars}
use Rattle.doc_items.specs.declared.item.Item.{Item}
use Rattle.doc_pack.specs.Packed.{all_items}
use Rattle.doc_pack.proofs.Runs.{all_pushed}
use Rattle.doc_pack.proofs.run.push_front.Goals as goal

pub returns-in_ok-push-clause-runs : goal.returns-in_ok-push-clause-runs
returns-in_ok-push-clause-runs c =
    let first : take 1 c.args.items.now ≡ c.index-items-0.result ∷ [] = search rules in
    all_pushed c.args.runs.now.items c.push.new.self.items _ c.in_ok-push.ensures.items
    ∙ ap (λ (l : List Item). all_items c.args.runs.now.items ++ l) (ap (λ (x : Item). x ∷ []) c.in_ok-copy.ensures ∙ sym first)

pub returns-in_ok-push-2-clause-runs : goal.returns-in_ok-push-2-clause-runs
returns-in_ok-push-2-clause-runs c =
    all_pushed c.args.runs.now.items c.push-else-count-eq0.new.self.items _ c.in_ok-push-2.ensures.items
    ∙ ap (λ (l : List Item). all_items c.args.runs.now.items ++ l)
    (search rules)
