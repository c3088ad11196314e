-- What a run over lines ends with, and what it does to its shelf.
use Rattle.std.proofs.Common.{◌≡◌, ℕ, ◌⊎◌, inl, inr, List, ◌++◌, Result, Ok, Err, Option, Some, None, IsSome, ◌↔◌, true, false, refl, sym, ◌∙◌, arith, append_assoc}
use Rattle.std.specs.Prelude.{⊤, IsErrOf}
use Rattle.wave_outside.specs.Counts.{Rose}
use Rattle.line_loop.specs.Lines.{IsPrefix}
use Rattle.line_loop.specs.Run.{status_of}
use Rattle.line_loop.specs.declared.run.Stop.{Stop}
use Rattle.line_loop.specs.declared.run.Stop.TheVariants.{Source, Sink, Store, Memory, Limit}
use Rattle.pipe_machine.specs.Pipes.{faults_where}
use Rattle.wave_program.specs.Run.{IsServing}

-- what begins with some lines and others begins with some
pub front_of : {A : Type 0} (xs ys : List A) {zs : List A} → IsPrefix (xs ++ ys) zs → IsPrefix xs zs
front_of xs ys {zs} p = (ys ++ p.0, sym (append_assoc xs ys p.0) ∙ p.1)

-- ---- statuses

module _ (P : Type 0) (s : ℕ) where
  pub of_source : (r : Result ⊤ Stop) → s ≡ status_of r → (IsErrOf r Source → P) → s ≡ 3 → P
  of_source (Ok done) e f three = absurd (omega (arith, e, three))
  of_source (Err Source) e f three = f refl
  of_source (Err Sink) e f three = absurd (omega (arith, e, three))
  of_source (Err Store) e f three = absurd (omega (arith, e, three))
  of_source (Err Memory) e f three = absurd (omega (arith, e, three))
  of_source (Err Limit) e f three = absurd (omega (arith, e, three))

  pub of_sink : (r : Result ⊤ Stop) → s ≡ status_of r → (IsErrOf r Sink → P) → s ≡ 4 → P
  of_sink (Ok done) e f four = absurd (omega (arith, e, four))
  of_sink (Err Source) e f four = absurd (omega (arith, e, four))
  of_sink (Err Sink) e f four = f refl
  of_sink (Err Store) e f four = absurd (omega (arith, e, four))
  of_sink (Err Memory) e f four = absurd (omega (arith, e, four))
  of_sink (Err Limit) e f four = absurd (omega (arith, e, four))

  pub of_store : (r : Result ⊤ Stop) → s ≡ status_of r → (IsErrOf r Store → P) → s ≡ 5 → P
  of_store (Ok done) e f five = absurd (omega (arith, e, five))
  of_store (Err Source) e f five = absurd (omega (arith, e, five))
  of_store (Err Sink) e f five = absurd (omega (arith, e, five))
  of_store (Err Store) e f five = f refl
  of_store (Err Memory) e f five = absurd (omega (arith, e, five))
  of_store (Err Limit) e f five = absurd (omega (arith, e, five))

pub serving : (r : Result ⊤ Stop) (s : ℕ) → s ≡ status_of r → IsServing s
serving (Ok done) s e = inl e
serving (Err Source) s e = inr (inl e)
serving (Err Sink) s e = inr (inr (inl e))
serving (Err Store) s e = inr (inr (inr (inl e)))
serving (Err Memory) s e = inr (inr (inr (inr (inl e))))
serving (Err Limit) s e = inr (inr (inr (inr (inr e))))

-- without a folder nothing that stores failed
none_rose : {F : Type 0} (o p : Option F) (a b : ℕ) → o ≡ None → (IsSome o ↔ IsSome p) → Rose (faults_where o a) (faults_where p b) → ⊥
none_rose None None a b e f h = omega (arith, h)
none_rose None (Some y) a b e f h = absurd (let e : false ≡ true = f.1 refl in cc)
none_rose (Some x) p a b e f h = absurd (cc)

pub not_store : {F : Type 0} (o p : Option F) (a b s : ℕ) → o ≡ None → (IsSome o ↔ IsSome p) → (s ≡ 5 → Rose (faults_where o a) (faults_where p b)) → IsServing s
    → (s ≡ 0) ⊎ ((s ≡ 3) ⊎ ((s ≡ 4) ⊎ ((s ≡ 8) ⊎ (s ≡ 10))))
not_store o p a b s e f rose (inl x) = inl x
not_store o p a b s e f rose (inr (inl x)) = inr (inl x)
not_store o p a b s e f rose (inr (inr (inl x))) = inr (inr (inl x))
not_store o p a b s e f rose (inr (inr (inr (inl x)))) = absurd (none_rose o p a b e f (rose x))
not_store o p a b s e f rose (inr (inr (inr (inr (inl x))))) = inr (inr (inr (inl x)))
not_store o p a b s e f rose (inr (inr (inr (inr (inr x))))) = inr (inr (inr (inr x)))

-- with one, it is the count of its shelf
pub some_rose : {F : Type 0} (o p : Option F) (a b : ℕ) → IsSome o → (IsSome o ↔ IsSome p) → Rose (faults_where o a) (faults_where p b) → Rose a b
some_rose None p a b e f h = absurd (cc)
some_rose (Some x) None a b e f h = absurd (let w : false ≡ true = f.0 refl in cc)
some_rose (Some x) (Some y) a b e f h = h
