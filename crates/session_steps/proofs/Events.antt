-- The lists of what came and what was sent, and the number of polls, one event on.
--     after_sent, after_received, after_idle, after_ended, after_nothing      the three after one event
--     received_same, polls_same, sent_text, sent_more     a text was sent
--     sent_next        so was the next one of a list
use Rattle.std.proofs.Common.{sym, ap, refl, ◌∙◌, ◌≡◌, ◌+◌, ◌<◌, ℕ, arith, List, [], ◌∷◌, ◌++◌, map, drop, length, get_or, append_assoc, append-nil}
use Rattle.std.proofs.lemmas.List.{drop_more}
use mathlib.Core.List.{IsPrefix}
use Rattle.wave_outside.specs.Links.{received, sent}
use Rattle.wave_outside.specs.declared.link.LinkEvent.{LinkEvent}
use Rattle.wave_outside.specs.declared.link.LinkEvent.TheVariants.{Received, Idle, Ended, Sent}
use Rattle.session_steps.specs.Served.{poll_count}

sent-append : (xs ys : List LinkEvent) → sent (xs ++ ys) ≡ sent xs ++ sent ys
sent-append [] ys = refl
sent-append (Received m ∷ xs) ys = sent-append xs ys
sent-append (Idle ∷ xs) ys = sent-append xs ys
sent-append (Ended ∷ xs) ys = sent-append xs ys
sent-append (Sent m ∷ xs) ys = ap (λ zs. m ∷ zs) (sent-append xs ys)

received-append : (xs ys : List LinkEvent) → received (xs ++ ys) ≡ received xs ++ received ys
received-append [] ys = refl
received-append (Received m ∷ xs) ys = ap (λ zs. m ∷ zs) (received-append xs ys)
received-append (Idle ∷ xs) ys = received-append xs ys
received-append (Ended ∷ xs) ys = received-append xs ys
received-append (Sent m ∷ xs) ys = received-append xs ys

polls-append : (xs ys : List LinkEvent) → poll_count (xs ++ ys) ≡ poll_count xs + poll_count ys
polls-append [] ys = omega arith
polls-append (Received m ∷ xs) ys = let e = polls-append xs ys in omega (arith, e)
polls-append (Idle ∷ xs) ys = let e = polls-append xs ys in omega (arith, e)
polls-append (Ended ∷ xs) ys = let e = polls-append xs ys in omega (arith, e)
polls-append (Sent m ∷ xs) ys = polls-append xs ys

-- what a list gives: what came, what was sent, and how often it was polled
pub record IsAfter (before after : List LinkEvent) (came went : List (List ℕ)) (count : ℕ) : Type 0 where
  pub received : received after ≡ received before ++ came
  pub sent : sent after ≡ sent before ++ went
  pub polls : poll_count after ≡ poll_count before + count

after_list : (before after es : List LinkEvent) → after ≡ before ++ es → IsAfter before after (received es) (sent es) (poll_count es)
after_list before after es is = record {
  received = ap received is ∙ received-append before es;
  sent = ap sent is ∙ sent-append before es;
  polls = ap poll_count is ∙ polls-append before es;
}

pub after_sent : (before after : List LinkEvent) (m : List ℕ) → after ≡ before ++ Sent m ∷ [] → IsAfter before after [] (m ∷ []) 0
after_sent before after m is = after_list before after (Sent m ∷ []) is

pub after_received : (before after : List LinkEvent) (m : List ℕ) → after ≡ before ++ Received m ∷ [] → IsAfter before after (m ∷ []) [] 1
after_received before after m is = after_list before after (Received m ∷ []) is

pub after_idle : (before after : List LinkEvent) → after ≡ before ++ Idle ∷ [] → IsAfter before after [] [] 1
after_idle before after is = after_list before after (Idle ∷ []) is

pub after_ended : (before after : List LinkEvent) → after ≡ before ++ Ended ∷ [] → IsAfter before after [] [] 1
after_ended before after is = after_list before after (Ended ∷ []) is

pub after_nothing : (before after : List LinkEvent) → after ≡ before ++ [] → IsAfter before after [] [] 0
after_nothing before after is = after_list before after [] is

pub received_same : (before after : List LinkEvent) (m : List ℕ) → after ≡ before ++ Sent m ∷ [] → received after ≡ received before
received_same before after m is = (after_sent before after m is).received ∙ append-nil (received before)

pub polls_same : (before after : List LinkEvent) (m : List ℕ) → after ≡ before ++ Sent m ∷ [] → poll_count after ≡ poll_count before
polls_same before after m is = let e = (after_sent before after m is).polls in omega (arith, e)

pub sent_text : (before after : List LinkEvent) (m t : List ℕ) → m ≡ t → after ≡ before ++ Sent m ∷ [] → sent after ≡ sent before ++ t ∷ []
sent_text before after m t same is = (after_sent before after m is).sent ∙ ap (λ x. sent before ++ x ∷ []) same

pub sent_more : (before after : List LinkEvent) (m : List ℕ) → after ≡ before ++ Sent m ∷ [] → IsPrefix (sent before) (sent after)
sent_more before after m is = (m ∷ [], sym (after_sent before after m is).sent)

pub sent_kept : (before after : List LinkEvent) → after ≡ before → IsPrefix (sent before) (sent after)
sent_kept before after is = ([], append-nil (sent before) ∙ sym (ap sent is))

-- a text was sent, which was the next one of a list of texts that are seen as their bytes
pub sent_next : {X : Type 0} (f : X → List ℕ) (before after : List LinkEvent) (xs : List X) (i : ℕ) (d : X) (m : List ℕ) → i < length xs
    → m ≡ f (get_or xs i d) → after ≡ before ++ Sent m ∷ [] → sent after ++ map f (drop (i + 1) xs) ≡ sent before ++ map f (drop i xs)
sent_next f before after xs i d m here it is =
    ap (λ es. es ++ map f (drop (i + 1) xs)) (after_sent before after m is).sent
    ∙ append_assoc (sent before) (m ∷ []) (map f (drop (i + 1) xs))
    ∙ ap (λ y. sent before ++ (y ∷ map f (drop (i + 1) xs))) it
    ∙ sym (ap (λ ys. sent before ++ map f ys) (drop_more xs i d here))
