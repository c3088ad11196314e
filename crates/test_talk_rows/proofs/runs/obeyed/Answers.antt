use Rattle.std.proofs.Common.{◌∙◌, ap, Some, map, string_bytes}
use Rattle.wave_program.proofs.LoadWords.{load_bound}
use Rattle.test_talk_rows.proofs.runs.obeyed.Goals as goal

pub obey-requires-clause-small : goal.obey-requires-clause-small
obey-requires-clause-small c n named = load_bound (map string_bytes c.args.words.now) n (c.in-Ok.ensures.ok ∙ ap (λ x. Some x) named)
