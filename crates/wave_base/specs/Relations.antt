-- How names are put together: the same grammar, as relations between a text and its parts.
--     IsDomain t                       labels with a dot between each two, at most 255 bytes in all
--     IsAddress user domain t          user @ domain
--     IsWaveletName ..                 wave domain / wave id / wavelet domain / wavelet id
use Rattle.std.specs.Prelude.{ℕ, List, ◌∷◌, ◌++◌, ◌≡◌, ◌≤◌, true, length}
use Rattle.std.specs.List.{list_all, join_with_byte}
use Rattle.wave_base.specs.Grammar.{is_word, is_user, is_id, is_domain, dot, slash, at_sign}
use Rattle.wave_base.specs.declared.scanner.Alphabet.TheVariants.{Label}

abbrev pub IsDomain : List ℕ → Type 0
IsDomain t = (label : List ℕ)
    × ((labels : List (List ℕ))
    × ((length t ≤ 255) × (list_all (is_word Label) (label ∷ labels) ≡ true) × (t ≡ join_with_byte dot (label ∷ labels))))

abbrev pub IsAddress : List ℕ → List ℕ → List ℕ → Type 0
IsAddress user domain t = (is_user user ≡ true) × (is_domain domain ≡ true) × (t ≡ user ++ at_sign ∷ domain)

pub record IsWaveletName (wave_domain wave_id domain id t : List ℕ) : Type 0 where
  pub wave_domain_good : is_domain wave_domain ≡ true
  pub wave_id_good : is_id wave_id ≡ true
  pub domain_good : is_domain domain ≡ true
  pub id_good : is_id id ≡ true
  pub whole : t ≡ wave_domain ++ slash ∷ (wave_id ++ slash ∷ (domain ++ slash ∷ id))
