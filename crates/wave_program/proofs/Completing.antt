-- Runs without a failure.
use Rattle.std.proofs.Common.{◌≡◌, ◌⊎◌, inl, inr, ℕ, ◌<◌, ◌++◌, length, List, [], true, Option, refl, sym, arith, length-append, subst}
use Rattle.std.specs.Io.KnownBytes.{Appends}
use Rattle.disk_model.specs.declared.disk.Disk as disk_of
use Rattle.wave_outside.specs.Folders.{Entry}
use Rattle.wave_outside.specs.declared.clock.Clock as clock_of
use Rattle.wave_outside.specs.declared.folder.Folder as folder_of
use Rattle.line_loop.specs.Run.{byte_limit}
use Rattle.line_loop.specs.Lines.{turned}
use Rattle.line_loop.specs.Told.{WhereTold, IsRun}
use Rattle.line_loop.specs.Turns.{Turn}
use Rattle.line_loop.proofs.Telling.{Consumes-none, Appends-none}
use Rattle.line_loop.proofs.Whole.{told_of}
use Rattle.wavelet_shelf.specs.Loads.{IsSound}
use Rattle.wave_terminal.specs.Machines.{Machine}
use Rattle.wave_terminal.specs.Play.{player}
use Rattle.wave_terminal.specs.Runs.{IsCommandStatus, IsObeyed}
use Rattle.inbox_machine.specs.Machine.{clerk}
use Rattle.wave_program.specs.Run.{IsServing}
use Rattle.wave_program.specs.Store.{IsUnloaded, IsStoredAs}
use Rattle.wave_program.specs.declared.service.Service.{Service}
use Rattle.wave_program.specs.declared.service.Service.TheVariants.{Lines, Play, Inbox}

-- want of memory before the first line
pub nothing_run : {K : Type 0} (clock : clock_of.Ghosts K) (answers : List Turn → List ℕ) (was : K) (a h : Option (List ℕ)) → IsRun clock answers was a a h h 8
nothing_run clock answers was a h = record {
  read = [];
  written = [];
  consumed = Consumes-none a;
  appended = Appends-none h;
  bound = omega arith;
  turns = [];
  timed = λ told. refl;
  lines = (turned true [], refl);
  answered = (answers [], refl);
  done = λ e. absurd (omega (arith, e));
  ended = λ e. absurd (elim e [ inl x ↦ omega (arith, x) | inr x ↦ omega (arith, x) ]);
  whole = λ e. absurd (elim e [ inl x ↦ omega (arith, x) | inr y ↦ elim y [ inl x ↦ omega (arith, x) | inr x ↦ omega (arith, x) ] ]);
  short = λ e. absurd (omega (arith, e));
  limit = λ e. absurd (omega (arith, e));
  at_limit = λ e. inr (inr (inr refl));
}

pub memory_complete : (a h i : Option (List ℕ)) (s : ℕ) → i ≡ h → s ≡ 8 → WhereTold a a h i (λ read left written. length (read ++ left) < byte_limit → (s ≡ 0) ⊎ (s ≡ 8))
memory_complete a h i s same e = told_of a a h i _ [] [] (Consumes-none a) (subst (λ (x : Option (List ℕ)). Appends h x []) (sym same) (Appends-none h)) (λ left k low. inr e)

-- below the limit, the limit isn't told
module _ {K : Type 0} (clock : clock_of.Ghosts K) (answers : List Turn → List ℕ) (was : K) (a b h i : Option (List ℕ)) (s : ℕ) (three : s ≡ 3 → ⊥) (four : s ≡ 4 → ⊥) (five : s ≡ 5 → ⊥) (r : IsRun clock answers was a b h i s) where
  complete_at : (left : List ℕ) → IsServing s → length (r.read ++ left) < byte_limit → (s ≡ 0) ⊎ (s ≡ 8)
  complete_at left (inl e) low = inl e
  complete_at left (inr (inl e)) low = absurd (three e)
  complete_at left (inr (inr (inl e))) low = absurd (four e)
  complete_at left (inr (inr (inr (inl e)))) low = absurd (five e)
  complete_at left (inr (inr (inr (inr (inl e))))) low = inr e
  complete_at left (inr (inr (inr (inr (inr e))))) low = absurd (omega (arith, length-append r.read left, r.limit e, low))

  pub complete_run : IsServing s → WhereTold a b h i (λ read left written. length (read ++ left) < byte_limit → (s ≡ 0) ⊎ (s ≡ 8))
  complete_run known = told_of a b h i _ r.read r.written r.consumed r.appended (λ left e low. complete_at left known low)

-- commands that were obeyed
module _ {S : Type 0} (m : Machine S) (state : S) (a b h i : Option (List ℕ)) (s : ℕ) (three : s ≡ 3 → ⊥) (four : s ≡ 4 → ⊥) (r : IsObeyed m state a b h i s) where
  obeyed_at : (left : List ℕ) → IsCommandStatus s → length (r.read ++ left) < byte_limit → (s ≡ 0) ⊎ (s ≡ 8)
  obeyed_at left (inl e) low = inl e
  obeyed_at left (inr (inl e)) low = absurd (three e)
  obeyed_at left (inr (inr (inl e))) low = absurd (four e)
  obeyed_at left (inr (inr (inr (inl e)))) low = inr e
  obeyed_at left (inr (inr (inr (inr e)))) low = absurd (omega (arith, length-append r.read left, r.limit e, low))

  complete_obeyed : WhereTold a b h i (λ read left written. length (read ++ left) < byte_limit → (s ≡ 0) ⊎ (s ≡ 8))
  complete_obeyed = told_of a b h i _ r.read r.written r.consumed r.appended (λ left e low. obeyed_at left r.known low)

pub serving_plain : (s : ℕ) → (s ≡ 0) ⊎ ((s ≡ 3) ⊎ ((s ≡ 4) ⊎ ((s ≡ 8) ⊎ (s ≡ 10)))) → IsServing s
serving_plain s (inl e) = inl e
serving_plain s (inr (inl e)) = inr (inl e)
serving_plain s (inr (inr (inl e))) = inr (inr (inl e))
serving_plain s (inr (inr (inr (inl e)))) = inr (inr (inr (inr (inl e))))
serving_plain s (inr (inr (inr (inr e)))) = inr (inr (inr (inr (inr e))))

pub not_five : (s : ℕ) → (s ≡ 0) ⊎ ((s ≡ 3) ⊎ ((s ≡ 4) ⊎ ((s ≡ 8) ⊎ (s ≡ 10)))) → s ≡ 5 → ⊥
not_five s (inl e) f = omega (arith, e, f)
not_five s (inr (inl e)) f = omega (arith, e, f)
not_five s (inr (inr (inl e))) f = omega (arith, e, f)
not_five s (inr (inr (inr (inl e)))) f = omega (arith, e, f)
not_five s (inr (inr (inr (inr e)))) f = omega (arith, e, f)

module _ {F D : Type 0} (folder : folder_of.Ghosts F D) (disk : disk_of.Ghosts D) where
  -- what ended before its first line, where no file is damaged
  pub unloaded_complete : (entries : List Entry) (f g : F) (a b h i : Option (List ℕ)) (before now s : ℕ) → b ≡ a → ((file : List ℕ) → IsSound disk.view (folder.files f file) file) → (s ≡ 5 → ⊥)
      → IsUnloaded folder disk entries f g h i before now s → WhereTold a b h i (λ read left written. length (read ++ left) < byte_limit → (s ≡ 0) ⊎ (s ≡ 8))
  unloaded_complete entries f g a b h i before now s same sound five u =
      let eight : s ≡ 8 = elim u.known [
        | inl e ↦ absurd (five e)
        | inr k ↦ elim k [ inl e ↦ absurd (let d = u.damaged e in sound d.0 d.3.named d.1 d.3.refused) | inr e ↦ e ]
      ] in
      subst (λ (x : Option (List ℕ)). WhereTold a x h i (λ read left written. length (read ++ left) < byte_limit → (s ≡ 0) ⊎ (s ≡ 8))) (sym same) (memory_complete a h i s (u.silent (inr eight)) eight)

  -- by the service
  pub complete_as : {K : Type 0} (clock : clock_of.Ghosts K) (service : Service) (entries : List Entry) (f g : F) (was : K) (a b h i : Option (List ℕ)) (s : ℕ) → (s ≡ 3 → ⊥) → (s ≡ 4 → ⊥) → (s ≡ 5 → ⊥)
      → IsStoredAs folder disk clock service entries f g was a b h i s → WhereTold a b h i (λ read left written. length (read ++ left) < byte_limit → (s ≡ 0) ⊎ (s ≡ 8))
  complete_as clock Lines entries f g was a b h i s three four five r = complete_run clock _ was a b h i s three four five r.run r.known
  complete_as clock (Play wavelet) entries f g was a b h i s three four five r = complete_obeyed player _ a b h i s three four r.answered.1
  complete_as clock (Inbox user) entries f g was a b h i s three four five r = complete_obeyed clerk _ a b h i s three four r.answered
