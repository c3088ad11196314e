use Rattle.std.proofs.Common.{Option, Some, sym, subst}
use Rattle.std.proofs.lemmas.Result.{IfOk-weaker}
use Rattle.delta_journal.specs.Journal.{EachImage}
use Rattle.delta_journal.specs.declared.journal.Journal.{Journal}
use Rattle.wavelet_container.specs.Containers.{OfBoth}
use Rattle.wavelet_container.specs.Records.{StandsForHistory}
use Rattle.wavelet_container.specs.Stores.{IsStored}
use Rattle.wavelet_container.proofs.Journals.{sure_images}
use Rattle.wavelet_container.proofs.container.Container.submit.Goals as goal

pub returns-in-Some-clause-every_image : goal.returns-in-Some-clause-every_image
returns-in-Some-clause-every_image g c =
    let new = c.submit_stored.new.wavelet in
    let after = c.submit_stored.new.journal in
    IfOk-weaker c.submit_stored.result _ _
    (λ v sure. subst (λ (o : Option (Journal g.row.K.Denot g.K.Disk)). OfBoth o (Some after) (λ i j. IsStored c.args.self.now.wavelet i → EachImage j (StandsForHistory new.name new.deltas))) (sym c.in-Some.is) (λ s. sure_images new after (c.submit_stored.ensures.moved.stored s) sure))
    c.submit_stored.ensures.done

pub returns-in-Some-clause-nothing_left : goal.returns-in-Some-clause-nothing_left
returns-in-Some-clause-nothing_left g c memory =
    let new = c.submit_stored.new.wavelet in
    let after = c.submit_stored.new.journal in
    subst (λ (o : Option (Journal g.row.K.Denot g.K.Disk)). OfBoth o (Some after) (λ i j. IsStored c.args.self.now.wavelet i → EachImage j (StandsForHistory new.name new.deltas))) (sym c.in-Some.is) (λ s. sure_images new after (c.submit_stored.ensures.moved.stored s) (c.submit_stored.ensures.untouched memory))
