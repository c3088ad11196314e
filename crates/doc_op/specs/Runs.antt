-- Runs: actions of one kind under one running set, in a row.
--     contents r           what a run inserts or deletes
--     part_change p        the change that a component makes of an element's attributes
--     head_actions u h     the actions of a head where u runs
--     IsFitHead h          the head isn't empty, nor is an update, and its keys ascend
--     IsEnd h acts         there are no actions, where the head is nothing
use Rattle.std.specs.Prelude.{◌≡◌, ◌<◌, List, [], ◌∷◌, length, map, replicate}
use Rattle.doc_items.specs.Changes.{ChangeSet, change_set, IsAscending}
use Rattle.doc_items.specs.declared.item.Content.{Content}
use Rattle.doc_items.specs.declared.item.Content.TheVariants.{Character, Start, End}
use Rattle.doc_op.specs.declared.run.ContentRun.{ContentRun}
use Rattle.doc_op.specs.declared.run.ContentRun.TheVariants.{Characters as CharactersRun, Start as StartRun, End as EndRun}
use Rattle.doc_op.specs.declared.run.AttributePart.{AttributePart}
use Rattle.doc_op.specs.declared.run.AttributePart.TheVariants.{Update as UpdatePart, Replace as ReplacePart}
use Rattle.doc_op.specs.declared.run.Head.{Head}
use Rattle.doc_op.specs.declared.run.Head.TheVariants.{Keep as KeepHead, Change as ChangeHead, Insert as InsertHead, Delete as DeleteHead, Nothing as NoHead}
use Rattle.doc_op.specs.Actions.{AttributeChange, Update, Replace, Action, Keep, keep, insertion, deletion}

abbrev pub contents : ContentRun → List Content
contents (CharactersRun text) = map Character text.now
contents (StartRun kind attributes) = Start kind.now attributes.now ∷ []
contents EndRun = End ∷ []

abbrev pub part_change : AttributePart → AttributeChange
part_change (UpdatePart changes) = Update (change_set changes.now)
part_change (ReplacePart old new) = Replace old.now new.now

abbrev pub head_actions : ChangeSet → Head → List Action
head_actions u (KeepHead count) = replicate count (keep u)
head_actions u (ChangeHead part) = Keep u (part_change part) ∷ []
head_actions u (InsertHead run) = map (insertion u) (contents run)
head_actions u (DeleteHead run) = map (deletion u) (contents run)
head_actions u NoHead = []

abbrev pub IsFitPart : AttributePart → Type 0
IsFitPart (UpdatePart changes) = (0 < length changes.now) × IsAscending changes.now
IsFitPart (ReplacePart old new) = Unit {0}

abbrev pub IsFitHead : Head → Type 0
IsFitHead (KeepHead count) = 0 < count
IsFitHead (ChangeHead part) = IsFitPart part
IsFitHead (InsertHead run) = 0 < length (contents run)
IsFitHead (DeleteHead run) = 0 < length (contents run)
IsFitHead NoHead = Unit {0}

-- only a head of no run has nothing after it
abbrev pub IsEnd : Head → List Action → Type 0
IsEnd NoHead acts = acts ≡ []
IsEnd h acts = Unit {0}
