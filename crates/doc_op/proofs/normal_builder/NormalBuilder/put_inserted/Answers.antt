use Rattle.std.proofs.Common.{◌≡◌, ◌<◌, ◌≤◌, ◌++◌, length, map, sym, ap, subst, ◌∙◌, refl, arith, IfOk}
use Rattle.doc_items.specs.Limits.{max_count}
use Rattle.doc_items.specs.declared.item.Content.TheVariants.{Character}
use Rattle.doc_op.specs.declared.run.ContentRun.{ContentRun}
use Rattle.doc_op.specs.Actions.{insertion}
use Rattle.doc_op.specs.Lengths.{input_len, output_len}
use Rattle.doc_op.specs.Runs.{contents}
use Rattle.doc_op.specs.Outputs.{shown_changes}
use Rattle.doc_op.proofs.Cursors.{mapped_twice, some_text}
use Rattle.doc_op.proofs.Spelling.{spelling_text, spelling_start, spelling_end}
use Rattle.doc_op.proofs.normal_builder.NormalBuilder.put_inserted.Goals as goal

same : (c : goal.In-Characters) → map (insertion (shown_changes c.args.shown)) (contents c.args.run) ≡ map (λ x. insertion (shown_changes c.args.shown) (Character x)) c.in-Characters.text.now
same c = ap (λ (r : ContentRun). map (insertion (shown_changes c.args.shown)) (contents r)) c.in-Characters.is ∙ mapped_twice (insertion (shown_changes c.args.shown)) c.in-Characters.text.now

some : (c : goal.In-Characters) → 0 < length c.in-Characters.text.now
some c = some_text c.in-Characters.text.now (subst (λ (r : ContentRun). 0 < length (contents r)) c.in-Characters.is c.requires.some)

pub put-requires-clause-some : goal.put-requires-clause-some
put-requires-clause-some c = some c

pub put-requires-clause-spelled : goal.put-requires-clause-spelled
put-requires-clause-spelled c = spelling_text (shown_changes c.args.shown) c.in-Characters.text.now c.requires.shown (some c)

pub put-requires-clause-input : goal.put-requires-clause-input
put-requires-clause-input c = subst (λ acts. input_len (c.args.self ++ acts) ≤ max_count) (same c) c.requires.input

pub put-requires-clause-output : goal.put-requires-clause-output
put-requires-clause-output c = subst (λ acts. output_len (c.args.self ++ acts) ≤ max_count) (same c) c.requires.output

pub put_lone-requires-clause-lone : goal.put_lone-requires-clause-lone
put_lone-requires-clause-lone c = record {
  lone = refl;
  some = omega arith;
  fit = tt;
  spelled = spelling_start (shown_changes c.args.shown) c.in_ok-kind-in-Start.kind c.in_ok-attributes-in-Start.attributes c.requires.shown;
}

pub put_lone-requires-in-End-clause-lone : goal.put_lone-requires-in-End-clause-lone
put_lone-requires-in-End-clause-lone c = record {
  lone = refl;
  some = omega arith;
  fit = tt;
  spelled = spelling_end (shown_changes c.args.shown) c.requires.shown;
}

pub returns-in-Characters : goal.returns-in-Characters
returns-in-Characters c =
    let text = ap (λ (r : ContentRun). map (insertion (shown_changes c.args.shown)) (contents r)) c.in-Characters.is ∙ mapped_twice (insertion (shown_changes c.args.shown)) c.in-Characters.text.now in
    subst (λ acts. IfOk c.put.result (λ b. b ≡ c.args.self ++ acts)) (sym text) c.put.ensures
