use Rattle.std.proofs.lemmas.Result.{on_ok_weaker}
use Rattle.wavelet_shelf.proofs.Answering.{held_after, plain_after, safe_after, within_after, moments_after, faults_later, faults_rose}
use Rattle.wavelet_shelf.proofs.taking.taken.Goals as goal

pub returns : goal.returns
returns g c =
    let old = c.args.container.now in
    let new = c.submit.new.self in
    record {
      verdict = c.submit.ensures.verdict;
      grown = c.submit.ensures.grown;
      same = c.submit.ensures.same;
      held = held_after old new c.submit.ensures.stored;
      safe = on_ok_weaker c.submit.result (λ sure. safe_after old new c.submit.ensures.stored sure) c.submit.ensures.done;
      late = c.submit.ensures.late;
      untouched = λ e. safe_after old new c.submit.ensures.stored (c.submit.ensures.untouched e);
      within = within_after old new _ c.submit.ensures.within;
      moments = moments_after old new _ c.submit.ensures.any_moment;
      later = faults_later _ _ c.submit.ensures.later;
      failed = λ e. faults_rose _ _ (c.submit.ensures.disk e) (c.submit.ensures.failed e);
      filed = c.submit.ensures.disk;
      plain = plain_after old new c.submit.ensures.stored;
    }
