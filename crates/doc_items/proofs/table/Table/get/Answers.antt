use Rattle.std.proofs.Common.{ap, sym, ◌∙◌, Some, option_map, string_bytes}
use Rattle.std.specs.FinMap as finite
use Rattle.doc_items.proofs.Views.{get-stored}
use Rattle.doc_items.proofs.table.Table.get.Goals as goal

pub returns-in-Some : goal.returns-in-Some
returns-in-Some c = ap Some c.as_str.ensures.value ∙ ap (option_map string_bytes) c.in-Some.ensures.value ∙ sym (get-stored c.self.inside.map c.args.key.now) ∙ ap (λ m. finite.get m c.args.key.now) c.self.view_is

pub returns-in-None : goal.returns-in-None
returns-in-None c = ap (option_map string_bytes) c.in-None.ensures.value ∙ sym (get-stored c.self.inside.map c.args.key.now) ∙ ap (λ m. finite.get m c.args.key.now) c.self.view_is
