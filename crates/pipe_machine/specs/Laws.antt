-- What stays so of a machine that does nothing.
--     unmoved m     nothing happened since
--     at_start m    it is where it began
use Rattle.std.specs.Prelude.{ℕ, List, Option, Some, None, [], refl}
use Rattle.std.proofs.Common.{append-nil, arith, inl}
use Rattle.disk_model.specs.declared.disk.Disk as disk_of
use Rattle.wave_outside.specs.declared.folder.Folder as folder_of
use Rattle.wavelet_shelf.specs.Folders.{IsUsedIn}
use Rattle.wavelet_shelf.specs.Hosting.{deltas_in}
use Rattle.wavelet_shelf.specs.Shelves.{container_in, hosted_of, in_folder}
use Rattle.pipe_machine.specs.declared.pipe.PipeMachine.{PipeMachine}
use Rattle.wavelet_shelf.proofs.Written.{written_itself}
use Rattle.pipe_machine.specs.Keeping.{IsFileWith}
use Rattle.pipe_machine.specs.Pipes.{pipe_of, StandsAlong, IsReached, IsSince}

same_folder : {F D : Type 0} (folder : folder_of.Ghosts F D) (may : List ℕ → Type 0) (o : Option F) → IsUsedIn folder may o o
same_folder folder may None = tt
same_folder folder may (Some f) = record { still = λ told. refl; others = λ told m not. refl }

module _ {F D : Type 0} {folder : folder_of.Ghosts F D} {disk : disk_of.Ghosts D} where
  pub unmoved : (m : PipeMachine F D folder disk) → IsSince m [] m
  unmoved m = record {
    grown = λ n. ([], append-nil (deltas_in (hosted_of m.shelf) n));
    others = λ n h. refl;
    kept = λ k. k;
    used = same_folder folder _ (in_folder m.shelf);
    later = omega arith;
  }

  pub at_start : (m : PipeMachine F D folder disk) → IsReached m [] m
  at_start m = record {
    pipe = refl;
    calm = λ calm. calm;
    moments = λ calm n. written_itself (StandsAlong (pipe_of m) n []) (container_in m.shelf n);
    begun = record { files = same_folder folder (IsFileWith (hosted_of m.shelf)) (in_folder m.shelf); names = λ n some. inl some };
  }
