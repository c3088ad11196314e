use Rattle.std.proofs.Common.{◌≡◌, Some, MatchOption, sym, subst}
use Rattle.std.proofs.lemmas.Result.{IfOk-weaker, IfErr-weaker}
use Rattle.wavelet_shelf.specs.Loads.{IsOwnName}
use Rattle.delta_journal.specs.File.{HasName}
use Rattle.wavelet_shelf.proofs.opened.open_as.Goals as goal

pub returns-in-Ok-Some-clause-ok : goal.returns-in-Ok-Some-clause-ok
returns-in-Ok-Some-clause-ok g c =
    let own = subst (λ o. MatchOption o (IsOwnName c.args.bytes.now c.args.file.now → ⊥) (λ n. (n ≡ c.args.bytes.now) × IsOwnName n c.args.file.now)) c.in-Ok-Some.field-0-is c.in-Ok-Some.ensures in
    IfOk-weaker c.read.result _ _ (λ o opened. opened c.args.file.now own.1 (λ told. subst (λ n. HasName (Some n) (g.K.Disk.view c.args.disk).seen) (sym own.0) (c.requires told))) c.read.ensures.ok

pub returns-in-Ok-Some-clause-err : goal.returns-in-Ok-Some-clause-err
returns-in-Ok-Some-clause-err g c =
    let own = subst (λ o. MatchOption o (IsOwnName c.args.bytes.now c.args.file.now → ⊥) (λ n. (n ≡ c.args.bytes.now) × IsOwnName n c.args.file.now)) c.in-Ok-Some.field-0-is c.in-Ok-Some.ensures in
    IfErr-weaker c.read.result _ _ (λ r unopened. unopened c.args.file.now own.1 (λ told. subst (λ n. HasName (Some n) (g.K.Disk.view c.args.disk).seen) (sym own.0) (c.requires told))) c.read.ensures.err
