-- What is pending, as operations and as acts.
--     pending_same          the acts of the operations
--     run_structured, entries_structured      what is valid somewhere is structured
--     settled_screen        with nothing pending the screen is the state
use Rattle.std.proofs.Common.{◌≡◌, ◌≢◌, true, false, List, [], ◌∷◌, ◌++◌, map, Option, None, Some, refl, ap, subst}
use Rattle.std.specs.List.{All}
use Rattle.std.specs.Option.{option_map}
use Rattle.std.proofs.lemmas.List.Elements.{All-cons, All-nil}
use Rattle.doc_op.proofs.Applying.{passed}
use Rattle.doc_op.specs.Apply.{apply}
use Rattle.wavelet_op.specs.Acts.{Act, Idle, Adds, Removes, Sets, Mutates, meanings, AreNormal, IsStructuredAct, AreStructuredActs}
use Rattle.wavelet_op.specs.States.{State, document_of, with_document, is_structured, mutate, apply_act, run}
use Rattle.wavelet_op.specs.declared.op.WaveletOp.{WaveletOp}
use Rattle.wavelet_op.proofs.Partial.{and_then_some}
use Rattle.wavelet_op.proofs.Passes.{split_first}
use Rattle.wavelet_op.proofs.Structures.{is_structured-holds}
use Rattle.follower_rules.specs.Followers.{FollowerOf, run_all, flying, pending, screen}
use Rattle.client_control.specs.declared.flight.InFlight.{InFlight}
use Rattle.client_control.specs.Parts.{Parts, flight_of, follower_of, ops_flying, ops_pending, settled, IsNormalFlight}
use Rattle.client_control.specs.Steps.{AreStructured}

pub flying_same : (g : Option InFlight) → map meanings (ops_flying g) ≡ flying (option_map flight_of g)
flying_same None = refl
flying_same (Some g) = refl

pub pending_same : (p : Parts) → map meanings (ops_pending p) ≡ pending (follower_of p)
pending_same p = go p.flight
  where
    go : (g : Option InFlight) → map meanings (ops_flying g ++ p.queue) ≡ flying (option_map flight_of g) ++ map meanings p.queue
    go None = refl
    go (Some g) = refl

pub pending_normal : (p : Parts) → IsNormalFlight p.flight → All AreNormal p.queue → All AreNormal (ops_pending p)
pending_normal p f q = go p.flight f
  where
    go : (g : Option InFlight) → IsNormalFlight g → All AreNormal (ops_flying g ++ p.queue)
    go None n = q
    go (Some g) n = All-cons AreNormal g.ops p.queue n q

-- ---- structure

act_structured : (s t : State) (a : Act) → apply_act s a ≡ Some t → IsStructuredAct a
unfolding apply_act
act_structured s t Idle e = tt
act_structured s t (Adds a) e = tt
act_structured s t (Removes a) e = tt
act_structured s t (Sets a old new) e = tt
act_structured s t (Mutates d acts) e =
    let m = and_then_some (mutate acts (document_of s d)) (λ items. Some (with_document s d items)) t e in
    is_structured-holds acts (passed (is_structured acts) (apply acts (document_of s d)) m.0 m.1).test

pub run_structured : (s t : State) (acts : List Act) → run s acts ≡ Some t → AreStructuredActs acts
run_structured s t [] e = All-nil IsStructuredAct
run_structured s t (a ∷ more) e =
    let m = and_then_some (apply_act s a) (λ x. run x more) t e in
    All-cons IsStructuredAct a more (act_structured s m.0 a m.1) (run_structured m.0 t more m.2)

pub entries_structured : (s t : State) (entries : List (List WaveletOp)) → run_all s (map meanings entries) ≡ Some t → AreStructured entries
entries_structured s t [] e = All-nil (λ ops. AreStructuredActs (meanings ops))
entries_structured s t (entry ∷ rest) e =
    let m = and_then_some (run s (meanings entry)) (λ x. run_all x (map meanings rest)) t e in
    All-cons (λ ops. AreStructuredActs (meanings ops)) entry rest (run_structured s m.0 (meanings entry) m.1) (entries_structured m.0 t rest m.2)

-- what is pending of a follower with a screen
pub pending_structured : (p : Parts) (s : State) → screen (follower_of p) ≡ Some s → AreStructured (ops_flying p.flight) × AreStructured p.queue
pending_structured p s e = go p.flight e
  where
    go : (g : Option InFlight) → run_all p.here.state (flying (option_map flight_of g) ++ map meanings p.queue) ≡ Some s → AreStructured (ops_flying g) × AreStructured p.queue
    go None h = (All-nil (λ ops. AreStructuredActs (meanings ops)), entries_structured p.here.state s p.queue h)
    go (Some g) h =
        let m = and_then_some (run p.here.state (meanings g.ops)) (λ x. run_all x (map meanings p.queue)) s h in
        (All-cons (λ ops. AreStructuredActs (meanings ops)) g.ops [] (run_structured p.here.state m.0 (meanings g.ops) m.1) (All-nil (λ ops. AreStructuredActs (meanings ops))), entries_structured m.0 s p.queue m.2)

pub flight_structured : (g : Option InFlight) (x : InFlight) → g ≡ Some x → AreStructured (ops_flying g) → AreStructuredActs (meanings x.ops)
flight_structured g x e h = (split_first (λ ops. AreStructuredActs (meanings ops)) x.ops [] (subst (λ z. AreStructured (ops_flying z)) e h)).0

-- ---- with nothing pending

pub settled_none : {A : Type 0} (xs : List A) → settled xs ≡ true → xs ≡ []
settled_none [] e = refl
settled_none (x ∷ xs) e = absurd (cc)

pub unsettled_some : {A : Type 0} (xs : List A) → settled xs ≡ false → xs ≢ []
unsettled_some [] e n = absurd (cc)
unsettled_some (x ∷ xs) e n = absurd (cc)

pub settled_screen : (f : FollowerOf) → pending f ≡ [] → screen f ≡ Some f.here.state
settled_screen f e = ap (run_all f.here.state) e
