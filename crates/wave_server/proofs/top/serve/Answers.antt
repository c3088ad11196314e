use Rattle.std.proofs.Common.{arith, inl, inr, refl, sym, true≢false, ◌∙◌, ◌<◌, ℕ}
use mathlib.Core.List.{IsPrefix}
use Rattle.wavelet_shelf.specs.Shelves.{hosted_of}
use Rattle.shard_marks.specs.Passes.{marks_of}
use Rattle.wave_server.specs.Running.{BeginWith}
use Rattle.wave_server.proofs.Ending.{if_none, if_more}
use Rattle.wave_server.proofs.Ran.{begin_later, run_since, run_of, run_none, door_low, door_high, door_known}
use Rattle.wave_server.proofs.top.serve.Goals as goal

-- the door is open
pub serve_from-requires-clause-undialled : goal.serve_from-requires-clause-undialled
serve_from-requires-clause-undialled g c = c.in-Some.ensures.undialled g.N.Net.tells (g.N.Net.asked c.listen.new.self)

pub returns-in-Ok : goal.returns-in-Ok
returns-in-Ok g c = record {
  run = run_since g.N.Net g.N.Link.Link _ _ _ _ c.args.server.now.net c.listen.new.self _ _ _ _ _ _ _ _ _ c.listen.ensures.same.2 c.listen.ensures.later.1 c.listen.ensures.same.0 c.listen.ensures.later.0
      (run_of g.N.Net g.N.Link.Link _ _ _ _ _ _ _ _ _ _ _ _ _ _ _ _ _ c.in-Some.ensures.server c.in-Some.ensures.domain c.in-Some.ensures.named c.serve_from.ensures.run);
  known = c.serve_from.ensures.known;
  begun = if_more (λ p. (k : ℕ) → k < 16 → IsPrefix (marks_of c.in-Some.passes k) (marks_of p k)) (λ p. BeginWith c.args.domain (hosted_of c.args.shelf) (marks_of p))
      (λ p later. begin_later c.args.domain (hosted_of c.args.shelf) (marks_of c.in-Some.passes) (marks_of p) c.in-Some.ensures.begun later) c.serve_from.new.server.passes c.serve_from.ensures.later;
  unserved = λ none. absurd (true≢false (sym c.serve_from.ensures.left ∙ none));
}

-- it can't be opened
pub returns-in-Some : goal.returns-in-Some
returns-in-Some g c = record {
  run = run_none g.N.Net g.N.Link.Link _ _ _ _ c.args.server.now.net c.listen.new.self _ _ _ _ _ _ _ c.status_of_door.result c.requires.empty.2 c.requires.empty.1 c.listen.ensures.same.0
      (λ seven. c.in-Err.ensures.failed (c.status_of_door.ensures.failed seven)) (door_low _ c.status_of_door.ensures.known) (door_high _ c.status_of_door.ensures.known);
  known = door_known _ c.status_of_door.ensures.known;
  begun = if_none (λ p. BeginWith c.args.domain (hosted_of c.args.shelf) (marks_of p)) c.args.server.now.passes c.requires.empty.2;
  unserved = λ none. (c.listen.ensures.same.2, c.listen.ensures.same.0, refl);
}

-- there is no memory
pub returns : goal.returns
returns g c = record {
  run = run_none g.N.Net g.N.Link.Link _ _ _ _ c.args.server.now.net c.args.server.now.net _ _ _ _ _ _ _ 8 c.requires.empty.2 c.requires.empty.1 refl (λ seven. absurd (omega (arith, seven))) (omega arith) (omega arith);
  known = inr (inr (inl refl));
  begun = if_none (λ p. BeginWith c.args.domain (hosted_of c.args.shelf) (marks_of p)) c.args.server.now.passes c.requires.empty.2;
  unserved = λ none. (refl, refl, refl);
}
