-- Bytes that a source and a sink tell, over one step and over several.
use Rattle.std.proofs.Common.{ℕ, ◌+◌, ◌-◌, length, List, ◌++◌, take, drop, [], Option, Some, None, refl, sym, ap, ◌∙◌, append_assoc, append-nil}
use Rattle.std.proofs.Math.Seq.{take-add}
use Rattle.std.specs.Io.KnownBytes.{Appends, Consumes, Keeps}
use Rattle.line_loop.proofs.Slices.{slice_end}

pub Appends-more : (a b c : Option (List ℕ)) (bytes : List ℕ) (at n : ℕ) → Appends a b (take at bytes) → Appends b c (take n (take (length bytes - at) (drop at bytes))) → Appends a c (take (at + n) bytes)
Appends-more None b c bytes at n h k = tt
Appends-more (Some x) None c bytes at n h k = absurd h
Appends-more (Some x) (Some y) None bytes at n h k = absurd k
Appends-more (Some x) (Some y) (Some z) bytes at n h k =
    k ∙ ap (λ v. y ++ take n v) (slice_end at bytes) ∙ ap (λ v. v ++ take n (drop at bytes)) h ∙ append_assoc x (take at bytes) (take n (drop at bytes)) ∙ ap (λ v. x ++ v) (sym (take-add at n bytes))

pub Keeps-consumes : (a b : Option (List ℕ)) → Keeps a b → Consumes a b []
Keeps-consumes None b h = tt
Keeps-consumes (Some x) None h = absurd h
Keeps-consumes (Some x) (Some y) h = sym h

pub Appends-none : (a : Option (List ℕ)) → Appends a a []
Appends-none None = tt
Appends-none (Some x) = sym (append-nil x)

pub keeps_self : (a : Option (List ℕ)) → Keeps a a
keeps_self None = tt
keeps_self (Some x) = refl

pub Consumes-none : (a : Option (List ℕ)) → Consumes a a []
Consumes-none a = Keeps-consumes a a (keeps_self a)

pub Consumes-then : (a b c : Option (List ℕ)) (xs ys : List ℕ) → Consumes a b xs → Consumes b c ys → Consumes a c (xs ++ ys)
Consumes-then None b c xs ys h k = tt
Consumes-then (Some x) None c xs ys h k = absurd h
Consumes-then (Some x) (Some y) None xs ys h k = absurd k
Consumes-then (Some x) (Some y) (Some z) xs ys h k = h ∙ ap (λ t. xs ++ t) k ∙ sym (append_assoc xs ys z)

pub Appends-then : (a b c : Option (List ℕ)) (xs ys : List ℕ) → Appends a b xs → Appends b c ys → Appends a c (xs ++ ys)
Appends-then None b c xs ys h k = tt
Appends-then (Some x) None c xs ys h k = absurd h
Appends-then (Some x) (Some y) None xs ys h k = absurd k
Appends-then (Some x) (Some y) (Some z) xs ys h k = k ∙ ap (λ t. t ++ ys) h ∙ append_assoc x xs ys
