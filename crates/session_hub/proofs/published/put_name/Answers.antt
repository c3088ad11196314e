use Rattle.std.proofs.Common.{◌≡◌, ◌∙◌, ap, sym, subst, map}
use Rattle.std.specs.Prelude.{insert}
use Rattle.shard_marks.specs.Told.{name_put}
use Rattle.session_hub.proofs.Looking.{names_insert}
use Rattle.session_hub.proofs.published.put_name.Goals as goal

pub returns-in_ok-insert-in-Before : goal.returns-in_ok-insert-in-Before
returns-in_ok-insert-in-Before c =
    ap (map (λ n. n.now)) c.in_ok-insert-in-Before.ensures.items ∙ names_insert (λ n. n.now) c.args.names.now.items c.in-Before.place c.args.name
    ∙ sym (subst (λ l. name_put c.args.name.now (map (λ n. n.now) l) ≡ insert (map (λ n. n.now) l) c.in-Before.place c.args.name.now) c.as_slice.ensures.value c.in-Before.ensures.spot)
