-- What a run over lines leaves of the turn that it failed at.
--     left_of         by what was tried
--     left_still      nothing was
--     left_tried      one turn was
--     unmade_then     a file that may not change first is so, or emptied
use Rattle.std.proofs.Common.{◌≡◌, inl, inr, ⊎_elim, ℕ, List, Option, Some, None, [], ◌∷◌, ◌++◌, IfSome, refl, sym, ap, subst, ◌∙◌, append-nil}
use Rattle.doc_items.specs.Maps.{Key}
use Rattle.disk_model.specs.declared.disk.Disk as disk_of
use Rattle.wave_outside.specs.declared.folder.Folder as folder_of
use Rattle.line_loop.specs.declared.line_machine.LineMachine as machine_of
use Rattle.wave_outside.specs.declared.clock.Clock as clock_of
use Rattle.line_loop.specs.Run.{IsServed}
use Rattle.line_loop.specs.Steps.{IsLeft}
use Rattle.line_loop.specs.Turns.{Turn}
use Rattle.wavelet_shelf.specs.Hosting.{Hosted, deltas_in}
use Rattle.wave_outside.specs.Folders.{IsUnmade}
use Rattle.wavelet_shelf.specs.Folders.{IsUsedIn, IsUnmadeIn}
use Rattle.wavelet_shelf.specs.Shelves.{in_folder, hosted_of, container_in, IsKept, IsSettled}
use Rattle.wavelet_shelf.specs.declared.shelf.Shelf.{Shelf}
use Rattle.wavelet_shelf.specs.Entries.{IsWrittenOn}
use Rattle.wavelet_shelf.proofs.Written.{written_both, written_more}
use Rattle.pipe_machine.specs.Keeping.{Begins, StandsForEither, IsFileOfEither, IsFileWith, AreWrittenOn, AreBegun, AreStepped, IsTriedTo}
use Rattle.pipe_machine.specs.Machine.{start}
use Rattle.pipe_machine.specs.Pipes.{StandsAlong}
use Rattle.pipe_machine.proofs.Turning.{along_more, along_step}
use Rattle.pipe_machine.proofs.Trying.{tried_still, begun_more, begun_both, unmade_else}
use Rattle.wave_program.specs.Pipe.{hosted_after, IsLeftOf}

left_by : {M : Type 0} (machine : machine_of.Ghosts M) (mid now : M) (P : List Turn → Type 0) → (now ≡ mid → P []) → ((t : Turn) → machine.tried mid t now → P (t ∷ [])) → (tried : List Turn) → IsLeft machine mid now tried → P tried
left_by machine mid now P still one [] left = still left
left_by machine mid now P still one (t ∷ []) left = one t left
left_by machine mid now P still one (t ∷ u ∷ ts) left = absurd left

pub left_of : {M K : Type 0} {machine : machine_of.Ghosts M} {clock : clock_of.Ghosts K} {start now : M} {was : K} {left0 left1 held0 held1 : Option (List ℕ)} {status : ℕ} (s : IsServed machine clock start now was left0 left1 held0 held1 status)
    → (P : List Turn → Type 0) → (now ≡ s.mid → P []) → ((t : Turn) → machine.tried s.mid t now → P (t ∷ [])) → P s.tried
left_of {machine = machine} {now = now} s P still one = left_by machine s.mid now P still one s.tried s.left

unmade_then : {F D : Type 0} (folder : folder_of.Ghosts F D) (disk : disk_of.Ghosts D) (may : List ℕ → Type 0) (l : List ℕ) (o p q : Option F) → IsUsedIn folder may o p → (may l → ⊥) → IsUnmadeIn folder disk l p q → IsUnmadeIn folder disk l o q
unmade_then folder disk may l None None q used not after = after
unmade_then folder disk may l None (Some h) q used not after = absurd used
unmade_then folder disk may l (Some f) None q used not after = absurd used
unmade_then folder disk may l (Some f) (Some h) None used not after = absurd after
unmade_then folder disk may l (Some f) (Some h) (Some k) used not after = λ told. subst (λ (o : Option _). IsUnmade disk.view o (folder.files k l)) (used.others told l not) (after told)

module _ {F D : Type 0} {folder : folder_of.Ghosts F D} {disk : disk_of.Ghosts D} (a mid b : Shelf F D folder disk) (turns : List Turn)
    (reached : hosted_of mid ≡ hosted_after (hosted_of a) turns) (calm : IsKept a → IsSettled a → IsKept mid × IsSettled mid)
    (written : IsKept a → IsSettled a → AreWrittenOn a mid (λ n. StandsAlong (start (hosted_of a)) n turns)) (begun : AreBegun a mid (hosted_of mid)) where
  either_as : (after : List Hosted) (us : List Turn) → after ≡ hosted_after (hosted_of a) (turns ++ us) → IsTriedTo mid b after → IsKept a → IsSettled a → (n : Key)
      → IfSome (container_in b n) (IsFileOfEither n (deltas_in (hosted_after (hosted_of a) turns) n) (deltas_in (hosted_after (hosted_of a) (turns ++ us)) n))
  either_as after us leads t k s n =
      subst (λ (hs : List Hosted). IfSome (container_in b n) (IsFileOfEither n (deltas_in hs n) (deltas_in (hosted_after (hosted_of a) (turns ++ us)) n))) reached
      (subst (λ (hs : List Hosted). IfSome (container_in b n) (IsFileOfEither n (deltas_in (hosted_of mid) n) (deltas_in hs n))) leads (t.files (calm k s).0 (calm k s).1 n))

  -- up to the turn that was tried
  on_the_way : (us : List Turn) (n : Key) → IsKept a → IsSettled a → IsWrittenOn (container_in a n) (container_in mid n) (StandsAlong (start (hosted_of a)) n (turns ++ us))
  on_the_way us n k s =
      let p = start (hosted_of a) in
      written_more (StandsAlong p n turns) (StandsAlong p n (turns ++ us)) (along_more p n turns us) (container_in a n) (container_in mid n) (written k s n)

  -- a file of no name that has a delta by then
  not_yet : (l : List ℕ) → (IsFileWith (hosted_after (hosted_of a) turns) l → ⊥) → IsFileWith (hosted_of mid) l → ⊥
  not_yet l none file = none (subst (λ (hs : List Hosted). IsFileWith hs l) reached file)

  pub left_still : b ≡ mid → IsLeftOf a b turns []
  left_still same =
      let still : IsTriedTo mid b (hosted_after (hosted_of a) (turns ++ [])) = subst (λ (s : Shelf F D folder disk). IsTriedTo mid s (hosted_after (hosted_of a) (turns ++ []))) (sym same) (tried_still mid (hosted_after (hosted_of a) (turns ++ []))) in
      record {
        one = inl refl;
        hosted = inl (ap hosted_of same ∙ reached);
        moments = λ k s n. subst (λ (x : Shelf F D folder disk). IsWrittenOn (container_in a n) (container_in x n) (StandsAlong (start (hosted_of a)) n (turns ++ []))) (sym same) (on_the_way [] n k s);
        begun = subst (λ (x : Shelf F D folder disk). AreBegun a x (hosted_after (hosted_of a) (turns ++ []))) (sym same) (subst (λ hs. AreBegun a mid hs) (reached ∙ ap (hosted_after (hosted_of a)) (sym (append-nil turns))) begun);
        unmade = λ l not none. subst (λ (x : Shelf F D folder disk). IsUnmadeIn folder disk l (in_folder a) (in_folder x)) (sym same)
            (unmade_else folder disk (IsFileWith (hosted_of mid)) l (in_folder a) (in_folder mid) begun.files (not_yet l none));
        files = either_as (hosted_after (hosted_of a) (turns ++ [])) [] refl still;
      }

  pub left_tried : (t : Turn) (after : List Hosted) → after ≡ hosted_after (hosted_of a) (turns ++ t ∷ []) → ((n : Key) → Begins (deltas_in (hosted_of mid) n) (deltas_in after n)) → IsTriedTo mid b after → AreStepped mid b after → IsLeftOf a b turns (t ∷ [])
  left_tried t after leads grows tried stepped = record {
    one = inr (t, refl);
    hosted = ⊎_elim (λ before. inl (before ∙ reached)) (λ done. inr (done ∙ leads)) tried.hosted;
    moments = λ k s n.
        let p = start (hosted_of a) in
        let along = StandsAlong p n (turns ++ t ∷ []) in
        written_both along (container_in a n) (container_in mid n) (container_in b n) (on_the_way (t ∷ []) n k s)
        (written_more (StandsForEither n (deltas_in (hosted_of mid) n) (deltas_in after n)) along (along_step p n turns t (hosted_of mid) after (sym reached) (sym leads))
        (container_in mid n) (container_in b n) (stepped.moments (calm k s).0 (calm k s).1 n));
    begun = subst (λ hs. AreBegun a b hs) leads (begun_both a mid b after (begun_more a mid (hosted_of mid) after grows begun) stepped.begun);
    unmade = λ l not none. unmade_then folder disk (IsFileWith (hosted_of mid)) l (in_folder a) (in_folder mid) (in_folder b) begun.files (not_yet l none) (stepped.unmade l not);
    files = either_as after (t ∷ []) leads tried;
  }
