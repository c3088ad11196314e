-- So many exchanges, one by one.
--     settling_on, settling_done     at least one is left; nothing is pending
use Rattle.std.proofs.Common.{◌≡◌, ℕ, zero, suc, ◌-◌, ◌<◌, true, false, cond, refl, ap, ◌∙◌, arith}
use Rattle.follower_rules.specs.Followers.{pending}
use Rattle.client_control.specs.Parts.{settled}
use Rattle.load_script.specs.Exchanges.{Meeting, exchanged, settling}

pub settling_on : (t n : ℕ) (c : Meeting) → 0 < n → settled (pending c.follower) ≡ false → settling t n c ≡ settling t (n - 1) (exchanged t c)
unfolding settling
settling_on t zero c h e = absurd (omega (arith, h))
settling_on t (suc n) c h e = ap (λ b. cond b c (settling t n (exchanged t c))) e ∙ ap (λ m. settling t m (exchanged t c)) (omega arith)

pub settling_done : (t n : ℕ) (c : Meeting) → settled (pending c.follower) ≡ true → settling t n c ≡ c
unfolding settling
settling_done t zero c e = refl
settling_done t (suc n) c e = ap (λ b. cond b c (settling t n (exchanged t c))) e

pub settling_none : (t : ℕ) (c : Meeting) → settling t 0 c ≡ c
unfolding settling
settling_none t c = refl
