-- What the words name: a load has a number that isn't above the limit, a client a key that isn't, and a store is one folder with one service.
use Rattle.std.proofs.Common.{◌≡◌, ℕ, ◌+◌, ◌-◌, ◌*◌, ◌≤◌, ◌==◌, ◌&&◌, Bool, true, false, cond, nat_le, List, [], ◌∷◌, Option, Some, None, refl, sym, ◌∙◌, subst, arith, option_and_then, option_map, codes}
use Rattle.std.proofs.lemmas.Bool.Decides.{nat_tests}
use Rattle.std.specs.Cmp.Lexicographic.{pointwise}
use Rattle.clap.specs.Words.{Text, first_of, subcommand_of}
use Rattle.clap.specs.Walk.{Row, is_empty}
use Rattle.clap.specs.Faults.{fault_of}
use Rattle.command_words.specs.Commands.{digits, number, is_digit, max_load, max_client, loaded, stored, checked, given, perhaps, flag, both, host, paired, folder, session_number, played, inboxed, served, served_by, edited, edited_by, named_net, named_past, named, wave, is_cut, accepted, command_of, CommandOf, Pipe, Load, Play, Inbox, Serve, Edit}
use Rattle.command_words.specs.Peers.{Peer}
use Rattle.wave_base.specs.Grammar.{is_address, is_wavelet_name}
use Rattle.wave_program.specs.declared.service.Service.{Service}

abbrev IsUpTo : ℕ → Option ℕ → Type 0
IsUpTo limit None = Unit {0}
IsUpTo limit (Some n) = n ≤ limit

within : (a b : ℕ) → nat_le a b ≡ true → a ≤ b
within a b h = grind (arith, nat_tests)

tested : (limit m : ℕ) (x : Option ℕ) (d b : Bool) → nat_le m limit ≡ b → (m ≤ limit → IsUpTo limit x) → IsUpTo limit (cond (d && b) x None)
tested limit m x true true e f = f (within m limit e)
tested limit m x true false e f = tt
tested limit m x false b e f = tt

digits_up : (limit n : ℕ) (cs : List ℕ) → n ≤ limit → IsUpTo limit (digits limit n cs)
digits_up limit n [] h = h
digits_up limit n (c ∷ cs) h = tested limit (n * 10 + (c - 48)) (digits limit (n * 10 + (c - 48)) cs) (is_digit c) (nat_le (n * 10 + (c - 48)) limit) refl (λ k. digits_up limit (n * 10 + (c - 48)) cs k)

unless : (limit : ℕ) (x : Option ℕ) (b : Bool) → IsUpTo limit x → IsUpTo limit (cond b None x)
unless limit x true h = tt
unless limit x false h = h

number_up : (limit : ℕ) (text : List ℕ) → IsUpTo limit (number limit text)
number_up limit [] = tt
number_up limit (c ∷ []) = digits_up limit 0 (c ∷ []) (omega (arith))
number_up limit (c ∷ d ∷ cs) = unless limit (digits limit 0 (c ∷ d ∷ cs)) (c == 48) (digits_up limit 0 (c ∷ d ∷ cs) (omega (arith)))

abbrev IsCapped : Option CommandOf → Type 0
IsCapped None = Unit {0}
IsCapped (Some (Pipe folder)) = Unit {0}
IsCapped (Some (Load n)) = n ≤ 100000
IsCapped (Some (Play folder wavelet)) = Unit {0}
IsCapped (Some (Inbox folder user)) = Unit {0}
IsCapped (Some (Serve domain listen peers sessions folder echo)) = Unit {0}
IsCapped (Some (Edit user client connect)) = client ≤ max_client

either : (x y : Option CommandOf) (b : Bool) → IsCapped x → IsCapped y → IsCapped (cond b x y)
either x y true h k = h
either x y false h k = k

counted : (x : Option ℕ) → IsUpTo max_load x → IsCapped (option_map Load x)
counted None h = tt
counted (Some n) h = h

loaded_capped : (text : Option (List ℕ)) → IsCapped (loaded text)
loaded_capped None = tt
loaded_capped (Some text) = counted (number max_load text) (number_up max_load text)

made_capped : {X : Type 0} (make : X → CommandOf) → ((x : X) → IsCapped (Some (make x))) → (x : Option X) → IsCapped (option_map make x)
made_capped make free None = tt
made_capped make free (Some x) = free x

stored_capped : (store : Option (List ℕ)) → IsCapped (stored store)
stored_capped store = made_capped Pipe (λ x. tt) (perhaps folder store)

paired_capped : {X Y : Type 0} (make : X → Y → CommandOf) → ((x : X) (y : Y) → IsCapped (Some (make x y))) → (a : Option X) (b : Option Y) → IsCapped (paired make a b)
paired_capped make free a b = made_capped (λ p. make p.0 p.1) (λ p. free p.0 p.1) (both a b)

served_capped : (listen domain peers sessions store : Option (List ℕ)) (echo : Bool) → IsCapped (served listen domain peers sessions store echo)
served_capped listen domain peers sessions store echo =
    paired_capped (λ (h : List ℕ × List ℕ × List Peer) (b : Option ℕ × Option (List ℕ)). Serve h.1 h.0 h.2 b.0 b.1 echo) (λ h b. tt) (host listen domain peers) (both (perhaps session_number sessions) (perhaps folder store))

keyed : (w : Option (List ℕ × List ℕ)) (x : Option ℕ) → IsUpTo max_client x → IsCapped (paired (λ p k. Edit p.1 k p.0) w x)
keyed None x h = tt
keyed (Some p) None h = tt
keyed (Some p) (Some k) h = h

edited_capped : (connect user client : Option (List ℕ)) → IsCapped (edited connect user client)
edited_capped connect user None = keyed (both (given connect) (checked is_address user)) None tt
edited_capped connect user (Some text) = keyed (both (given connect) (checked is_address user)) (number max_client text) (number_up max_client text)

net_capped : (p : Text × List Row) → IsCapped (named_net p)
net_capped p =
    either (edited_by p.1) (served_by p.1) (pointwise ◌==◌ p.0 (codes "edit"))
    (edited_capped (first_of (codes "connect") p.1) (first_of (codes "user") p.1) (first_of (codes "client") p.1))
    (served_capped (first_of (codes "listen") p.1) (first_of (codes "domain") p.1) (first_of (codes "peer") p.1) (first_of (codes "sessions") p.1) (first_of (codes "store") p.1) (flag (first_of (codes "echo") p.1)))

past_capped : (p : Text × List Row) → IsCapped (named_past p)
past_capped p =
    let others = cond (pointwise ◌==◌ p.0 (codes "inbox")) (inboxed (first_of (codes "store") p.1) (first_of (codes "user") p.1)) (named_net p) in
    either (played (first_of (codes "store") p.1) (first_of (codes "wavelet") p.1)) others (pointwise ◌==◌ p.0 (codes "play"))
    (paired_capped Play (λ a b. tt) (given (first_of (codes "store") p.1)) (checked is_wavelet_name (first_of (codes "wavelet") p.1)))
    (either (inboxed (first_of (codes "store") p.1) (first_of (codes "user") p.1)) (named_net p) (pointwise ◌==◌ p.0 (codes "inbox"))
    (paired_capped Inbox (λ a b. tt) (given (first_of (codes "store") p.1)) (checked is_address (first_of (codes "user") p.1)))
    (net_capped p))

named_capped : (x : Option (Text × List Row)) → IsCapped (option_and_then named x)
named_capped None = tt
named_capped (Some p) =
    either (stored (first_of (codes "store") p.1)) (cond (pointwise ◌==◌ p.0 (codes "load")) (loaded (first_of (codes "count") p.1)) (named_past p)) (pointwise ◌==◌ p.0 (codes "pipe"))
    (stored_capped (first_of (codes "store") p.1))
    (either (loaded (first_of (codes "count") p.1)) (named_past p) (pointwise ◌==◌ p.0 (codes "load")) (loaded_capped (first_of (codes "count") p.1)) (past_capped p))

command_capped : (words : List Text) → IsCapped (command_of words)
command_capped words = either None (accepted words) (is_cut words) tt (either (option_and_then named (subcommand_of wave words)) None (is_empty (fault_of wave words)) (named_capped (subcommand_of wave words)) tt)

pub load_bound : (words : List Text) (n : ℕ) → command_of words ≡ Some (Load n) → n ≤ 100000
load_bound words n e = subst (λ (x : Option CommandOf). IsCapped x) e (command_capped words)

pub key_bound : (words : List Text) (user connect : List ℕ) (k : ℕ) → command_of words ≡ Some (Edit user k connect) → k ≤ max_client
key_bound words user connect k e = subst (λ (x : Option CommandOf). IsCapped x) e (command_capped words)

-- what the words name is one folder, and one service
pub same_service : (o : Option (List ℕ × Service)) (p q : List ℕ × Service) → o ≡ Some p → o ≡ Some q → p ≡ q
same_service o p q one other = go (sym one ∙ other)
  where
    go : Some p ≡ Some q → p ≡ q
    go e = cc
