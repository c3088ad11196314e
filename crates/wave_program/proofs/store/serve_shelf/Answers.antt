use Rattle.std.proofs.Common.{inl, inr, refl, ap, arith}
use Rattle.wave_program.proofs.Storing.{damage_told}
use Rattle.wave_program.proofs.store.serve_shelf.Goals as goal

pub returns-in-Ok-clause-run : goal.returns-in-Ok-clause-run
returns-in-Ok-clause-run g c = inl (record {
  shelf = c.load.new.self;
  loaded = record {
    read = c.in-Ok.ensures.read;
    all = c.in-Ok.ensures.all;
    sound = c.in-Ok.ensures.sound;
    kept = c.in-Ok.ensures.kept;
    apart = c.in-Ok.ensures.apart;
    as_before = c.load.ensures.as_before;
    still = c.load.ensures.still;
    later = c.load.ensures.later;
  };
  done = c.serve.ensures.done;
})

pub returns-in-Err-clause-run : goal.returns-in-Err-clause-run
returns-in-Err-clause-run g c = inr (
  refl,
  record {
    known = c.tell-status.ensures.known;
    silent = λ s. ap g.W.Sink.written (c.tell-status.ensures.silent s);
    damaged = λ six. let d = c.tell-status.ensures.damaged six in damage_told _ _ _ d.0 d.1 c.in-Err.ensures.damaged;
    none = c.in-Err.ensures.none;
    as_before = c.load.ensures.as_before;
    still = c.load.ensures.still;
  },
)

pub returns-in-Ok-clause-store_failed : goal.returns-in-Ok-clause-store_failed
returns-in-Ok-clause-store_failed g c = λ five. let rose = c.serve.ensures.store_failed five in omega (arith, rose, c.load.ensures.later)
