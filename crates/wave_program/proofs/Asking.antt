-- What is asked of a shelf's histories.
--     nothing_obeyed      want of memory before the first command
--     same_histories      the histories that an index takes of copies are those that are hosted
--     serving_commands    the exit statuses of commands are those of runs
use Rattle.std.proofs.Common.{◌≡◌, inl, inr, ℕ, List, [], ◌∷◌, Option, Some, None, refl, ap, arith}
use Rattle.doc_items.specs.Maps.{Key}
use Rattle.wavelet_op.specs.Deltas.{DeltaOf}
use Rattle.delta_history.specs.Histories.{HistoryOf}
use Rattle.inbox_machine.specs.Indexing.{deltas_of, indexed}
use Rattle.line_loop.proofs.Telling.{Consumes-none, Appends-none}
use Rattle.wave_terminal.specs.Machines.{Machine, begun, whole_text}
use Rattle.wave_terminal.specs.Runs.{IsCommandStatus, IsObeyed}
use Rattle.wavelet_shelf.specs.Hosting.{Hosted, names_of, deltas_in, copy_of, copy_in, IsCopyOf}
use Rattle.wave_program.specs.Asks.{histories_of}
use Rattle.wave_program.specs.Run.{IsServing}

pub nothing_obeyed : {S : Type 0} (m : Machine S) (state : S) (a h : Option (List ℕ)) → IsObeyed m state a a h h 8
nothing_obeyed m state a h = record {
  read = [];
  written = [];
  consumed = Consumes-none a;
  appended = Appends-none h;
  bound = omega arith;
  awake = record { before = []; last = []; parts = refl; awake = refl; small = omega arith };
  front = (whole_text m (begun state) [], refl);
  known = inr (inr (inr (inl refl)));
  done = λ e. absurd (omega (arith, e));
  ended = λ e. absurd (elim e [ inl x ↦ omega (arith, x) | inr x ↦ omega (arith, x) ]);
  short = λ e. absurd (omega (arith, e));
  limit = λ e. absurd (omega (arith, e));
  at_limit = λ e. inr (inr (inr refl));
}

copied : (n : Key) (o : Option HistoryOf) (ds : List DeltaOf) → IsCopyOf o (copy_of n ds) → deltas_of o ≡ ds
copied n None [] h = refl
copied n None (d ∷ ds) h = absurd h
copied n (Some x) [] h = absurd h
copied n (Some x) (d ∷ ds) h = h.1

pub same_histories : (hs : List Hosted) (copies : Key → Option HistoryOf) → ((n : Key) → IsCopyOf (copies n) (copy_in hs n)) → indexed (names_of hs) (λ n. deltas_of (copies n)) ≡ histories_of hs
same_histories hs copies h = ap (indexed (names_of hs)) (λ i n. copied n (copies n) (deltas_in hs n) (h n) i)

pub serving_commands : (s : ℕ) → IsCommandStatus s → IsServing s
serving_commands s (inl e) = inl e
serving_commands s (inr (inl e)) = inr (inl e)
serving_commands s (inr (inr (inl e))) = inr (inr (inl e))
serving_commands s (inr (inr (inr (inl e)))) = inr (inr (inr (inr (inl e))))
serving_commands s (inr (inr (inr (inr e)))) = inr (inr (inr (inr (inr e))))
