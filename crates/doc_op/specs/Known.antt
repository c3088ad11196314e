-- What is known of the changes that an output showed over its last run.
--     shown_by k u         what is shown over a run of this kind where u runs
--     IsKnown t acts w     over the last of these actions w was shown but at these keys; None tells nothing
--     IsUpToDate out u     the same of an output, where w is what a run of its kind shows under u
use Rattle.std.specs.Prelude.{ℕ, List, Option, None, Some}
use Rattle.doc_items.specs.Changes.{ChangeSet}
use Rattle.change_view.specs.Sets.{as_inserted, as_deleted}
use Rattle.change_table.specs.Keys.{AgreeBut}
use Rattle.doc_op.specs.Actions.{Action}
use Rattle.doc_op.specs.Normal.{shown_last}
use Rattle.doc_op.specs.declared.normal_output.Kind.{Kind}
use Rattle.doc_op.specs.declared.normal_output.Kind.TheVariants.{Kept, Inserted, Deleted}
use Rattle.doc_op.specs.declared.normal_output.NormalOutput.{NormalOutput}

abbrev pub shown_by : Kind → ChangeSet → ChangeSet
shown_by Kept u = u
shown_by Inserted u = as_inserted u
shown_by Deleted u = as_deleted u

abbrev pub IsKnown : Option (List (List ℕ)) → List Action → ChangeSet → Type 0
IsKnown None acts w = Unit {0}
IsKnown (Some keys) acts w = AgreeBut keys (shown_last acts) w

abbrev pub IsUpToDate : NormalOutput → ChangeSet → Type 0
IsUpToDate out u = IsKnown out.touched out.builder (shown_by out.kind u)
