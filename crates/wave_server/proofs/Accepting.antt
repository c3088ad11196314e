-- How many links a server has accepted.
--     came_one       one more
--     came_none      no more, where the net rested
--     came_last      at most as many as are wanted, where it stops at the next one
--     came_same      as many, where the net's count stays
--     came_few       no more than are wanted
--     came_to        the one or the other, whether it goes on or stops
--     came_from      none at first
--     has_counted    with the status of an end
use Rattle.std.proofs.Common.{arith, ◌∙◌, ◌≡◌, ◌<◌, ◌≤◌, ◌+◌, ◌-◌, ◌^◌, min, ℕ, Bool, true, false, cond, Option, Some, Result, Ok, Err, OnOk, IfErr, MatchResult}
use Rattle.wave_outside.specs.Counts.{raised}
use Rattle.wave_server.specs.Counting.{WereAccepted, HasCounted}
use Rattle.wave_server.specs.Statuses.{IsStatus}
use Rattle.wave_server.specs.declared.stop.Stop.{Stop}
use Rattle.wave_server.proofs.Ending.{ended_well}

pub came_one : (base old now n : ℕ) (b : Bool) → b ≡ true → now ≡ cond b (raised old) old → WereAccepted base old n → WereAccepted base now (n + 1)
came_one base old now n true is count h = record {
  most = let m = h.most in omega (arith, count, m);
  exactly = λ small. let e = h.exactly small in omega (arith, count, e);
}
came_one base old now n false is count h = absurd cc

pub came_same : (base old now n : ℕ) → now ≡ old → WereAccepted base old n → WereAccepted base now n
came_same base old now n same h = record {
  most = let m = h.most in omega (arith, same, m);
  exactly = λ small. same ∙ h.exactly small;
}

pub came_none : (base old mid now n : ℕ) (b : Bool) → b ≡ false → mid ≡ cond b (raised old) old → now ≡ mid → WereAccepted base old n → WereAccepted base now n
came_none base old mid now n false is count same h = came_same base old now n (same ∙ count) h
came_none base old mid now n true is count same h = absurd cc

pub came_last : (base old now n most : ℕ) → now ≤ old + 1 → n < most → WereAccepted base old n → now ≤ base + most
came_last base old now n most last low h = let m = h.most in omega (arith, last, low, m)

pub came_few : (base now n most : ℕ) → n ≤ most → WereAccepted base now n → now ≤ base + most
came_few base now n most low h = let m = h.most in omega (arith, low, m)

pub came_to : {A : Type 0} (base old now n most : ℕ) → now ≡ old → n ≤ most → (r : Result A Stop) → WereAccepted base old n → MatchResult r (λ _. WereAccepted base now n) (λ _. now ≤ base + most)
came_to base old now n most same low (Ok a) h = came_same base old now n same h
came_to base old now n most same low (Err s) h = came_few base now n most low (came_same base old now n same h)

pub came_from : (base n : ℕ) → n ≡ 0 → WereAccepted base base n
came_from base n none = record { most = omega arith; exactly = λ small. omega (arith, none, small) }

-- where a number was given it is the most
pub has_counted : {A : Type 0} (r : Result A Stop) (sessions : Option ℕ) (most status ended base mid now : ℕ) (keeps is_there : Bool) → IfErr r (λ s. IsStatus s status) → (keeps ≡ true → sessions ≡ Some most)
    → ((n : ℕ) → sessions ≡ Some n → most ≡ n) → OnOk r ((keeps ≡ true) × (ended ≡ most)) → is_there ≡ true → now ≡ mid
    → MatchResult r (λ _. WereAccepted base mid most) (λ _. mid ≤ base + most) → HasCounted sessions status is_there ended base now
has_counted {A = A} r sessions most status ended base mid now keeps is_there err kept whole all there same came = record {
  done = λ zero.
      let a = ended_well r status err zero all in
      (most, kept a.0, a.1, there, λ small. same ∙ ended_well r status err zero (exactly r came small));
  most = λ n is. let w = whole n is in let few = at_most r came in omega (arith, w, same, few);
}
  where
    exactly : (r : Result A Stop) → MatchResult r (λ _. WereAccepted base mid most) (λ _. mid ≤ base + most) → base < 2 ^ 64 → OnOk r (mid ≡ min (base + most) (2 ^ 64 - 1))
    exactly (Ok a) h small = h.exactly small
    exactly (Err s) h small = tt

    at_most : (r : Result A Stop) → MatchResult r (λ _. WereAccepted base mid most) (λ _. mid ≤ base + most) → mid ≤ base + most
    at_most (Ok a) h = h.most
    at_most (Err s) h = h
