-- The names that `echo` has.
--     echo_is_id, echo_is_user     its document's name, and the user of its address
--     no_name, no_address          neither is refused
use Rattle.std.proofs.Common.{◌≡◌, true, true≢false, Bool, refl, sym, subst, ◌∙◌}
use Rattle.wave_base.specs.Faults.{IsNameFault, IsAddressFault}
use Rattle.wave_base.specs.Grammar.{is_word, is_id, is_user}
use Rattle.wave_base.specs.declared.fault.BaseFault.{BaseFault}
use Rattle.wave_base.specs.declared.fault.BaseFault.TheVariants.{BadName, BadAddress}
use Rattle.robot_echo.specs.Echoes.{echo_name, echo_user}

pub echo_is_id : is_id echo_name ≡ true
unfolding is_word is_id
echo_is_id = refl

pub echo_is_user : is_user echo_user ≡ true
unfolding is_word is_user
echo_is_user = refl

pub no_name : (e : BaseFault) → e ≡ BadName → IsNameFault (is_id echo_name) e → ⊥
no_name e is h = true≢false (sym echo_is_id ∙ subst (IsNameFault (is_id echo_name)) is h)

pub no_address : (e : BaseFault) (b : Bool) → e ≡ BadAddress → b ≡ true → IsAddressFault b e → ⊥
no_address e b is good h = true≢false (sym good ∙ subst (IsAddressFault b) is h)
