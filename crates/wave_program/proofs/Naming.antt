-- What the words name, and what holds whatever they name.
--     as_named         words name one command
--     all_served       what holds whatever a server is told
--     all_edited       what holds whatever a client is told
--     all_unless       of a server, what rests on a premise that doesn't hold
--     all_where        what holds whatever its premise
--     all_over         what holds over any folder
--     all_but          so, where its premise doesn't hold
--     all_entered      nothing was entered
--     all_same         of a client, what stays
--     not_done, not_unloaded      want of memory is no other end
--     served_of, edited_of        what holds of a command holds of the words that name it
--     served_local, edited_local, served_other, edited_other      whatever holds of a server or a client, where the words name neither
--     served_more      what follows of a server
--     not_local, not_service      a command over a net is no other
--     not_named, no_service       words that name no command name none
use Rattle.std.proofs.Common.{◌≡◌, ◌⊎◌, ◌∙◌, inl, inr, arith, sym, ap, subst, refl, ℕ, List, true, false, true≢false, Option, Some, None, IfSome}
use Rattle.wave_outside.specs.declared.folder.Folder as folder_of
use Rattle.wave_outside.specs.Folders.{Entry}
use Rattle.std.proofs.lemmas.Option.{cond_some, none-some}
use Rattle.command_words.specs.Peers.{Peer}
use Rattle.command_words.specs.Commands.{CommandOf, needs_net, Pipe, Load, Play, Inbox, Serve, Edit}
use Rattle.wave_program.specs.Edit.{IfEdit}
use Rattle.wave_program.specs.Net.{IfServe, IsEntered}
use Rattle.wave_program.specs.Services.{service_of}
use Rattle.wave_program.specs.declared.service.Service.{Service}

pub as_named : (o : Option CommandOf) (c d : CommandOf) → o ≡ Some c → o ≡ Some d → c ≡ d
as_named o c d e f = (cond_some true c d (sym e ∙ f)).1

module _ (P : (domain listen : List ℕ) → List Peer → Option ℕ → Option (List ℕ) → Type 0) where
  pub all_served : (o : Option CommandOf) → ((domain listen : List ℕ) (peers : List Peer) (sessions : Option ℕ) (store : Option (List ℕ)) → P domain listen peers sessions store) → IfServe o P
  all_served None h = tt
  all_served (Some (Pipe folder)) h = tt
  all_served (Some (Load n)) h = tt
  all_served (Some (Play folder wavelet)) h = tt
  all_served (Some (Inbox folder user)) h = tt
  all_served (Some (Serve domain listen peers sessions folder echo)) h = h domain listen peers sessions folder
  all_served (Some (Edit user client connect)) h = tt

module _ (P : (user : List ℕ) → ℕ → (connect : List ℕ) → Type 0) where
  pub all_edited : (o : Option CommandOf) → ((user : List ℕ) (client : ℕ) (connect : List ℕ) → P user client connect) → IfEdit o P
  all_edited None h = tt
  all_edited (Some (Pipe folder)) h = tt
  all_edited (Some (Load n)) h = tt
  all_edited (Some (Play folder wavelet)) h = tt
  all_edited (Some (Inbox folder user)) h = tt
  all_edited (Some (Serve domain listen peers sessions folder echo)) h = tt
  all_edited (Some (Edit user client connect)) h = h user client connect

each_there : {X : Type 0} (o : Option X) (P : X → Type 0) → ((x : X) → P x) → IfSome o P
each_there None P f = tt
each_there (Some x) P f = f x

pub all_unless : (A : Type 0) (P : (domain listen : List ℕ) → List Peer → Option ℕ → Option (List ℕ) → Type 0) (o : Option CommandOf) → (A → ⊥) → IfServe o (λ domain listen peers sessions store. A → P domain listen peers sessions store)
all_unless A P o none = all_served (λ domain listen peers sessions store. A → P domain listen peers sessions store) o (λ domain listen peers sessions store a. absurd (none a))

pub all_where : (A P : (domain listen : List ℕ) → List Peer → Option ℕ → Option (List ℕ) → Type 0) (o : Option CommandOf) → ((domain listen : List ℕ) (peers : List Peer) (sessions : Option ℕ) (store : Option (List ℕ)) → P domain listen peers sessions store)
    → IfServe o (λ domain listen peers sessions store. A domain listen peers sessions store → P domain listen peers sessions store)
all_where A P o f = all_served (λ domain listen peers sessions store. A domain listen peers sessions store → P domain listen peers sessions store) o (λ domain listen peers sessions store a. f domain listen peers sessions store)

module _ (A B : Type 0) (P : (domain listen : List ℕ) → List Peer → Option ℕ → (path : List ℕ) → Type 0) where
  pub all_over : (o : Option CommandOf) → ((domain listen : List ℕ) (peers : List Peer) (sessions : Option ℕ) (path : List ℕ) → P domain listen peers sessions path)
      → IfServe o (λ domain listen peers sessions store. IfSome store (λ path. A → B → P domain listen peers sessions path))
  all_over o f = all_served (λ domain listen peers sessions store. IfSome store (λ path. A → B → P domain listen peers sessions path)) o
      (λ domain listen peers sessions store. each_there store (λ path. A → B → P domain listen peers sessions path) (λ path a b. f domain listen peers sessions path))

  pub all_but : (C : Type 0) (o : Option CommandOf) → (C → ⊥) → IfServe o (λ domain listen peers sessions store. IfSome store (λ path. A → B → C → P domain listen peers sessions path))
  all_but C o none = all_served (λ domain listen peers sessions store. IfSome store (λ path. A → B → C → P domain listen peers sessions path)) o
      (λ domain listen peers sessions store. each_there store (λ path. A → B → C → P domain listen peers sessions path) (λ path a b c. absurd (none c)))

pub all_entered : {F D : Type 0} (folder : folder_of.Ghosts F D) (A : Type 0) (entries : List ℕ → List Entry) (f : F) (o : Option CommandOf)
    → IfServe o (λ domain listen peers sessions store. IfSome store (λ path. A → IsEntered folder (entries path) f f 8))
all_entered folder A entries f o = all_served (λ domain listen peers sessions store. IfSome store (λ path. A → IsEntered folder (entries path) f f 8)) o
    (λ domain listen peers sessions store. each_there store (λ path. A → IsEntered folder (entries path) f f 8) (λ path a. inr (refl, refl)))

pub not_done : ◌≡◌ {A = ℕ} 8 0 → ⊥
not_done e = omega (arith, e)

pub not_unloaded : ◌≡◌ {A = ℕ} 8 5 ⊎ ◌≡◌ {A = ℕ} 8 6 → ⊥
not_unloaded (inl e) = omega (arith, e)
not_unloaded (inr e) = omega (arith, e)

pub all_same : {X Y Z : Type 0} (x : X) (y : Y) (z : Z) (o : Option CommandOf) → IfEdit o (λ user client connect. (x ≡ x) × (y ≡ y) × (z ≡ z))
all_same x y z o = all_edited (λ user client connect. (x ≡ x) × (y ≡ y) × (z ≡ z)) o (λ user client connect. (refl, refl, refl))

-- ---- by what the words name

module _ (P : (domain listen : List ℕ) → List Peer → Option ℕ → Option (List ℕ) → Type 0) where
  pub served_of : (o : Option CommandOf) (c : CommandOf) → o ≡ Some c → IfServe (Some c) P → IfServe o P
  served_of o c is h = subst (λ x. IfServe x P) (sym is) h

  pub served_local : (o : Option CommandOf) (c : CommandOf) → o ≡ Some c → needs_net c ≡ false → IfServe o P
  served_local o c is local = served_of o c is (go c local)
    where
      go : (c : CommandOf) → needs_net c ≡ false → IfServe (Some c) P
      go (Pipe folder) e = tt
      go (Load n) e = tt
      go (Play folder wavelet) e = tt
      go (Inbox folder user) e = tt
      go (Serve domain listen peers sessions folder echo) e = absurd (true≢false e)
      go (Edit user client connect) e = tt

  pub served_other : (o : Option CommandOf) → o ≡ None → IfServe o P
  served_other o is = subst (λ x. IfServe x P) (sym is) tt

  pub served_more : (Q : (domain listen : List ℕ) → List Peer → Option ℕ → Option (List ℕ) → Type 0) (o : Option CommandOf)
      → ((domain listen : List ℕ) (peers : List Peer) (sessions : Option ℕ) (store : Option (List ℕ)) → P domain listen peers sessions store → Q domain listen peers sessions store) → IfServe o P → IfServe o Q
  served_more Q None f h = tt
  served_more Q (Some (Pipe folder)) f h = tt
  served_more Q (Some (Load n)) f h = tt
  served_more Q (Some (Play folder wavelet)) f h = tt
  served_more Q (Some (Inbox folder user)) f h = tt
  served_more Q (Some (Serve domain listen peers sessions folder echo)) f h = f domain listen peers sessions folder h
  served_more Q (Some (Edit user client connect)) f h = tt

module _ (P : (user : List ℕ) → ℕ → (connect : List ℕ) → Type 0) where
  pub edited_of : (o : Option CommandOf) (c : CommandOf) → o ≡ Some c → IfEdit (Some c) P → IfEdit o P
  edited_of o c is h = subst (λ x. IfEdit x P) (sym is) h

  pub edited_local : (o : Option CommandOf) (c : CommandOf) → o ≡ Some c → needs_net c ≡ false → IfEdit o P
  edited_local o c is local = edited_of o c is (go c local)
    where
      go : (c : CommandOf) → needs_net c ≡ false → IfEdit (Some c) P
      go (Pipe folder) e = tt
      go (Load n) e = tt
      go (Play folder wavelet) e = tt
      go (Inbox folder user) e = tt
      go (Serve domain listen peers sessions folder echo) e = tt
      go (Edit user client connect) e = absurd (true≢false e)

  pub edited_other : (o : Option CommandOf) → o ≡ None → IfEdit o P
  edited_other o is = subst (λ x. IfEdit x P) (sym is) tt

module _ {X : Type 0} (o : Option CommandOf) where
  pub not_local : (c d : CommandOf) → o ≡ Some c → needs_net c ≡ true → o ≡ Some d → needs_net d ≡ false → X
  not_local c d said net named local = absurd (true≢false (sym net ∙ ap needs_net (as_named o c d said named) ∙ local))

  pub not_service : (c : CommandOf) (s : List ℕ × Service) → o ≡ Some c → needs_net c ≡ true → service_of o ≡ Some s → X
  not_service c s said net is = go c net (subst (λ x. service_of x ≡ Some s) said is)
    where
      go : (c : CommandOf) → needs_net c ≡ true → service_of (Some c) ≡ Some s → X
      go (Pipe folder) e f = absurd (true≢false (sym e))
      go (Load n) e f = absurd (true≢false (sym e))
      go (Play folder wavelet) e f = absurd (true≢false (sym e))
      go (Inbox folder user) e f = absurd (true≢false (sym e))
      go (Serve domain listen peers sessions folder echo) e f = absurd (none-some s f)
      go (Edit user client connect) e f = absurd (none-some s f)

  -- words that name no command
  pub not_named : (d : CommandOf) → o ≡ None → o ≡ Some d → X
  not_named d none named = absurd (none-some d (sym none ∙ named))

  pub no_service : (s : List ℕ × Service) → o ≡ None → service_of o ≡ Some s → X
  no_service s none is = absurd (none-some s (subst (λ x. service_of x ≡ Some s) none is))
