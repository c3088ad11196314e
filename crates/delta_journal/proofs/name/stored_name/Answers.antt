use Rattle.std.proofs.Common.{rules, ◌≡◌, ◌<◌, ◌^◌, ℕ, List, take, drop, ◌∙◌, ap, arith}
use Rattle.delta_journal.proofs.Named.{front_is, name_is}
use Rattle.delta_journal.proofs.name.stored_name.Goals as goal

pub returns-in-Missing-clause-name : goal.returns-in-Missing-clause-name
returns-in-Missing-clause-name g c told =
    let seen = (g.K.Disk.view c.args.disk.now).seen in
    let size = c.in_ok-size.ensures.value told in
    c.in-Missing.ensures seen record {
      size_is = size;
      two = omega (arith, c.if-size-lt2.false);
      front_is = front_is _ _ seen _ _ _ c.min.ensures size c.length.ensures.untouched.seen (c.in_ok-front.ensures.bytes told) c.deref.ensures.value;
    }

pub returns-in-Broken-clause-damaged : goal.returns-in-Broken-clause-damaged
returns-in-Broken-clause-damaged g c offset is =
    let zero : offset ≡ 0 = cc is in (
      zero,
      λ told.
          let seen = (g.K.Disk.view c.args.disk.now).seen in
          let size = c.in_ok-size.ensures.value told in
          c.in-Broken.ensures seen record {
            size_is = size;
            two = omega (arith, c.if-size-lt2.false);
            front_is = front_is _ _ seen _ _ _ c.min.ensures size c.length.ensures.untouched.seen (c.in_ok-front.ensures.bytes told) c.deref.ensures.value;
          },
    )

pub returns-in-Ok-clause-name : goal.returns-in-Ok-clause-name
returns-in-Ok-clause-name g c told =
    let seen = (g.K.Disk.view c.args.disk.now).seen in
    let size = c.in_ok-size.ensures.value told in
    let short : c.in-Named.count < 2 ^ 32 = search rules in
    let tells = c.in-Named.ensures seen record {
      size_is = size;
      two = omega (arith, c.if-size-lt2.false);
      front_is = front_is _ _ seen _ _ _ c.min.ensures size c.length.ensures.untouched.seen (c.in_ok-front.ensures.bytes told) c.deref.ensures.value;
    } in
    let same = c.read.ensures.read.seen ∙ c.length.ensures.untouched.seen in
    name_is c.in-Named.count seen _ short tells (c.in-Ok.ensures.bytes told ∙ ap (λ (l : List ℕ). take c.in-Named.count (drop 13 l)) same)
