use Rattle.op_validity.proofs.Gives.{gives_refl}
use Rattle.op_validity.proofs.rebuild.Rebuild.step.Goals as goal

pub returns-in-Retain : goal.returns-in-Retain
returns-in-Retain c = rw c.in-Retain.is c.keep.ensures

pub returns-in-Characters : goal.returns-in-Characters
returns-in-Characters c = rw c.in-Characters.is c.insert_text.ensures

pub returns-in-ElementStart : goal.returns-in-ElementStart
returns-in-ElementStart c = rw c.in-ElementStart.is c.insert_start.ensures

pub returns-in-ElementEnd : goal.returns-in-ElementEnd
returns-in-ElementEnd c = rw c.in-ElementEnd.is c.insert.ensures

pub returns-in-DeleteCharacters : goal.returns-in-DeleteCharacters
returns-in-DeleteCharacters c = rw c.in-DeleteCharacters.is c.delete.ensures

pub returns-in-DeleteElementStart : goal.returns-in-DeleteElementStart
returns-in-DeleteElementStart c = rw c.in-DeleteElementStart.is c.give.ensures.gives

pub returns-in-DeleteElementEnd : goal.returns-in-DeleteElementEnd
returns-in-DeleteElementEnd c = rw c.in-DeleteElementEnd.is c.give-in-DeleteElementEnd.ensures.gives

pub returns-in-ReplaceAttributes : goal.returns-in-ReplaceAttributes
returns-in-ReplaceAttributes c = rw c.in-ReplaceAttributes.is c.give-in-ReplaceAttributes.ensures.gives

pub returns-in-UpdateAttributes : goal.returns-in-UpdateAttributes
returns-in-UpdateAttributes c = rw c.in-UpdateAttributes.is c.give-in-UpdateAttributes.ensures.gives

pub returns-in-AnnotationBoundary : goal.returns-in-AnnotationBoundary
returns-in-AnnotationBoundary c = λ more. rw c.in-AnnotationBoundary.is (gives_refl _ _ more)
