use Rattle.std.proofs.Common.{◌<◌, ◌^◌, ℕ, inl, arith, subst, List}
use Rattle.std.proofs.lemmas.Result.{IfOk-weaker}
use Rattle.delta_journal.specs.File.{IsDamaged}
use Rattle.wavelet_container.proofs.Loaded.{both_ways, exact_of, held_of, again_ok, again_err, damaged_of, unread_damaged, if_err_weaker}
use Rattle.wavelet_container.proofs.container.Container.load.Goals as goal

small : (n : ℕ) → n < 2 ^ 63 → n < 2 ^ 64
small n h = omega (arith, h)

pub returns-in-Ok-clause-exact : goal.returns-in-Ok-clause-exact
returns-in-Ok-clause-exact g c =
    IfOk-weaker c.contained.result _ _ (λ x is told. exact_of c.args.name c.text.result.now (g.K.Disk.view c.args.disk).seen c.in-Ok.loaded c.text.ensures.same x is (c.in-Ok.ensures.exact told)) c.contained.ensures.ok

pub returns-in-Ok-clause-held : goal.returns-in-Ok-clause-held
returns-in-Ok-clause-held g c =
    IfOk-weaker c.contained.result _ _ (λ x is told. held_of c.args.name c.text.result.now (g.K.Disk.view c.args.disk).seen c.in-Ok.loaded c.text.ensures.same x is (c.in-Ok.ensures.journal told) c.in-Ok.ensures.whole) c.contained.ensures.ok

pub returns-in-Ok-clause-again : goal.returns-in-Ok-clause-again
returns-in-Ok-clause-again g c told ds there =
    let short = small _ (g.met.K.Disk.bounded c.args.disk told) in
    both_ways _ _ c.contained.result
    (IfOk-weaker c.contained.result _ _ (λ x is. again_ok c.args.name c.text.result.now (g.K.Disk.view c.args.disk).seen c.in-Ok.loaded c.text.ensures.same x ds short is (c.in-Ok.ensures.exact told) there) c.contained.ensures.ok)
    (if_err_weaker c.contained.result _ _ (λ r down. again_err c.args.name c.text.result.now (g.K.Disk.view c.args.disk).seen c.in-Ok.loaded c.text.ensures.same r ds short down (c.in-Ok.ensures.exact told) there) c.contained.ensures.err)

pub returns-in-Ok-clause-damaged : goal.returns-in-Ok-clause-damaged
returns-in-Ok-clause-damaged g c =
    if_err_weaker c.contained.result _ _ (λ r down offset is told. damaged_of c.args.name c.text.result.now (g.K.Disk.view c.args.disk).seen c.in-Ok.loaded c.text.ensures.same r offset down is (c.in-Ok.ensures.exact told)) c.contained.ensures.err

pub returns-in-Err-clause-again : goal.returns-in-Err-clause-again
returns-in-Err-clause-again g c told ds there offset is =
    unread_damaged c.args.name c.text.result.now (g.K.Disk.view c.args.disk).seen ds offset c.text.ensures.same (small _ (g.met.K.Disk.bounded c.args.disk told)) (c.in-Err.ensures.damaged offset (c.unread.ensures.damaged offset is) told) there

pub returns-in-Err-clause-damaged : goal.returns-in-Err-clause-damaged
returns-in-Err-clause-damaged g c offset is told =
    inl (subst (λ (n : List ℕ). IsDamaged n offset (g.K.Disk.view c.args.disk).seen) c.text.ensures.same (c.in-Err.ensures.damaged offset (c.unread.ensures.damaged offset is) told))
