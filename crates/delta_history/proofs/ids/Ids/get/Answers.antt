use Rattle.std.proofs.Common.{◌≡◌, None, sym, ap, subst, ◌∙◌, option_and_then}
use Rattle.std.specs.Option.{option_copied}
use Rattle.std.specs.BTreeMap as tree
use Rattle.delta_history.specs.Places.{pair_cmp, place_in}
use Rattle.delta_history.proofs.ids.Ids.get.Goals as goal

pub returns-in-None : goal.returns-in-None
returns-in-None c =
    let a = sym c.get.ensures.value ∙ ap option_copied c.in-None.is in
    subst (λ i. None ≡ place_in c.args.self.now.authors i) c.id.view_is (sym (ap (option_and_then (λ n. tree.get pair_cmp n (c.id.inside.client, c.id.inside.number))) a))

pub returns-in-Some : goal.returns-in-Some
returns-in-Some c =
    let a = sym c.get.ensures.value ∙ ap option_copied c.in-Some.is in
    subst (λ i. c.copied.result ≡ place_in c.args.self.now.authors i) c.id.view_is (c.copied.ensures ∙ c.get-in-Some.ensures.value ∙ sym (ap (option_and_then (λ n. tree.get pair_cmp n (c.id.inside.client, c.id.inside.number))) a))
