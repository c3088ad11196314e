-- An element's start whose attributes change back: a character has none.
--     text_disagrees_back     so a run of characters doesn't agree
use Rattle.std.proofs.Common.{◌≡◌, Bool, false, ◌&&◌, Bor, List, ℕ, length, refl}
use Rattle.doc_op.specs.Runs.{contents, part_change}
use Rattle.doc_op.specs.declared.run.AttributePart.{AttributePart}
use Rattle.doc_op.specs.declared.run.AttributePart.TheVariants.{Update as UpdatePart, Replace as ReplacePart}
use Rattle.doc_op.specs.declared.run.ContentRun.{ContentRun}
use Rattle.doc_op.specs.declared.run.ContentRun.TheVariants.{Characters as CharactersRun}
use Rattle.op_runs.specs.Contents.{all_agree}
use Rattle.op_runs.proofs.Runs.{Unlike, text_fails}
use Rattle.op_compose.specs.Chains.{attributes_back}

unlike_back : (p : AttributePart) → Unlike (attributes_back (part_change p))
unlike_back (UpdatePart cs) = record { is = λ c. refl }
unlike_back (ReplacePart old new) = record { is = λ c. refl }

pub text_disagrees_back : (part : AttributePart) (run : ContentRun) (text : Bor (List ℕ)) (m : Bool) → run ≡ CharactersRun text → length (contents run) ≡ 1 → (all_agree (attributes_back (part_change part)) (contents run) && m) ≡ false
text_disagrees_back part run text m e one = text_fails (attributes_back (part_change part)) run text m (unlike_back part) e one
