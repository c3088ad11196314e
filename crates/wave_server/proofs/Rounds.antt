-- What a round of a server leaves, after it took the end of a session.
--     ok_of          what holds anyway holds where there is a result
--     Went           the server goes on where no shard was seen to have no turn left, and else stops for that
--     went_spent     why it stops
--     went_on        no answer says that all sessions have ended
--     went_refused, went_door      it stops for nothing else
--     never_refused, never_door    so where a call says so
use Rattle.std.proofs.Common.{◌≡◌, ◌≢◌, Bool, true, false, MatchBool, Result, Ok, Err, OnOk, IfOk, IfErr, MatchResult, sym, subst, ◌∙◌, true≢false}
use Rattle.wave_server.specs.declared.stop.Stop.{Stop}
use Rattle.wave_server.specs.declared.stop.Stop.TheVariants.{Door, Refused, Spent}

pub ok_of : {A E P : Type 0} (r : Result A E) → P → OnOk r P
ok_of (Ok a) p = p
ok_of (Err e) p = tt

abbrev pub Went : Bool → Result Bool Stop → Type 0
Went spent r = MatchResult r (λ b. (b ≡ false) × (spent ≡ false)) (λ s. (s ≡ Spent) × (spent ≡ true))

not_refused : Spent ≡ Refused → ⊥
not_refused e = cc

not_door : Spent ≡ Door → ⊥
not_door e = cc

pub went_spent : (spent : Bool) (r : Result Bool Stop) → Went spent r → MatchResult r (λ _. spent ≡ false) (λ s. MatchBool spent (s ≡ Spent) (s ≢ Spent))
went_spent spent (Ok b) w = w.1
went_spent spent (Err s) w = subst (λ y. MatchBool y (s ≡ Spent) (s ≢ Spent)) (sym w.1) w.0

pub went_on : (P : Type 0) (spent : Bool) (r : Result Bool Stop) → Went spent r → IfOk r (λ b. b ≡ true → P)
went_on P spent (Ok b) w = λ t. absurd (true≢false (sym t ∙ w.0))
went_on P spent (Err s) w = tt

pub went_refused : (P : Type 0) (spent : Bool) (r : Result Bool Stop) → Went spent r → IfErr r (λ s. s ≡ Refused → P)
went_refused P spent (Ok b) w = tt
went_refused P spent (Err s) w = λ e. absurd (not_refused (sym w.0 ∙ e))

pub went_door : (P : Type 0) (spent : Bool) (r : Result Bool Stop) → Went spent r → IfErr r (λ s. s ≡ Door → P)
went_door P spent (Ok b) w = tt
went_door P spent (Err s) w = λ e. absurd (not_door (sym w.0 ∙ e))

pub never_refused : {A : Type 0} (P : Type 0) (r : Result A Stop) → IfErr r (λ s. (s ≢ Refused) × (s ≢ Door)) → IfErr r (λ s. s ≡ Refused → P)
never_refused P (Ok a) kinds = tt
never_refused P (Err s) kinds = λ e. absurd (kinds.0 e)

pub never_door : {A : Type 0} (P : Type 0) (r : Result A Stop) → IfErr r (λ s. (s ≢ Refused) × (s ≢ Door)) → IfErr r (λ s. s ≡ Door → P)
never_door P (Ok a) kinds = tt
never_door P (Err s) kinds = λ e. absurd (kinds.1 e)
