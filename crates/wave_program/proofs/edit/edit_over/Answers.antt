use Rattle.std.proofs.Common.{◌≡◌, ◌∙◌, ◌++◌, ◌∷◌, [], ap, refl, inl, inr, arith, Err}
use Rattle.wave_outside.specs.Nets.{asked_more}
use Rattle.wave_outside.specs.declared.net.NetFault.{NetFault}
use Rattle.wave_program.proofs.edit.edit_over.Goals as goal

pub returns-in-Ok-clause-edited : goal.returns-in-Ok-clause-edited
returns-in-Ok-clause-edited g c =
    let e = c.edit_on.ensures.edited in
    inl (record {
      used = e.0;
      back = e.1 ∙ ap (λ b. b ++ e.0 ∷ []) c.dial.ensures.same.1;
      counted = omega (arith, e.2, c.dial.ensures.later.0);
      asked = λ tells. c.edit_on.ensures.asked tells ∙ c.in-Ok.ensures.asked tells;
      run = e.3;
      known = c.edit_on.ensures.known;
      closed = e.4;
      failed = e.5;
    })

pub returns-in-Ok-clause-line : goal.returns-in-Ok-clause-line
returns-in-Ok-clause-line g c = λ seven. let e = c.edit_on.ensures.edited in omega (arith, e.2, c.dial.ensures.later.0, e.5 seven)

pub returns-in-Err-Failed-clause-edited : goal.returns-in-Err-Failed-clause-edited
returns-in-Err-Failed-clause-edited g c =
    let is : asked_more {L = g.row.N-Link.Denot} (Err c.in-Err-Failed.field-0) c.args.connect.now (g.N.Net.asked c.args.net.now) ≡ g.N.Net.asked c.args.net.now ++ c.args.connect.now ∷ [] =
    ap (λ (f : NetFault). asked_more {L = g.row.N-Link.Denot} (Err f) c.args.connect.now (g.N.Net.asked c.args.net.now)) c.in-Err-Failed.field-0-is in
    inr (refl, (refl, record { known = inl refl; back = c.dial.ensures.same.1; asked = λ tells. inl (c.in-Err-Failed.ensures.asked tells ∙ is) }))
