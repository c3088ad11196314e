-- A list of one thing alone.
--     item_there, item_past     what stands at a place
use Rattle.std.proofs.Common.{◌≡◌, ℕ, ◌<◌, ◌≤◌, replicate, slice_get, Some, None, subst, sym}
use Rattle.std.proofs.lemmas.List.{length-replicate, get_or-replicate}
use Rattle.std.proofs.lemmas.Option.{slice_get_read, slice_get_past}

pub item_there : {X : Type 0} (n i : ℕ) (x : X) → i < n → slice_get (replicate n x) i ≡ Some x
item_there n i x h = slice_get_read (replicate n x) n i x (sym (length-replicate n x)) h (sym (get_or-replicate n i x x h))

pub item_past : {X : Type 0} (n i : ℕ) (x : X) → n ≤ i → slice_get (replicate n x) i ≡ None
item_past n i x h = slice_get_past (replicate n x) i (subst (λ m. m ≤ i) (sym (length-replicate n x)) h)
