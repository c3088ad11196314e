-- How a server goes on from turn to turn.
--     drop_front, returned_more     what was put back since, with more after it
--     going_put        one more link was put back, and its session is noted
--     going_unkept     one more link was put back, and nothing is noted
--     going_more       the one or the other
--     going_none       nothing has ended yet
--     going_same       what was served stays so for later marks, where nothing else changed
--     going_calm       so where a shard may have been seen since to have no turn left
--     going_back       links of peers were put back
--     served_back      so, with no count of them
use Rattle.std.proofs.Common.{arith, refl, sym, ap, subst, ◌∙◌, ◌≡◌, ◌<◌, ◌≤◌, ◌+◌, ◌-◌, min, ℕ, zero, suc, Bool, true, false, MatchBool, IsTrue, List, [], ◌∷◌, ◌++◌, All, drop, length, get_or, Option, Some, is_some, slice_get, append_assoc, append-nil, length-append}
use Rattle.std.specs.Option.{option_map_or}
use Rattle.std.proofs.lemmas.List.Elements.{All-append}
use Rattle.std.proofs.lemmas.Option.{none-some, cond_some, slice_get_within}
use mathlib.Core.List.{IsPrefix}
use Rattle.wave_outside.specs.Counts.{Rose}
use Rattle.wave_outside.specs.declared.link.Link as link_of
use Rattle.peer_rounds.specs.Reached.{last_count}
use Rattle.shard_marks.specs.declared.mark.Mark.{Mark}
use Rattle.shard_marks.specs.Servers.{ServerOf}
use Rattle.turn_lock.specs.declared.cell.Spent.{Spent}
use Rattle.session_steps.specs.declared.end.EndCause.TheVariants.{Closed, Failed}
use Rattle.wave_server.specs.Running.{IsServed, IsEntry, IsCalm, AreRising, returned, HasServed, faults_named, IsGoing}
use Rattle.wave_server.specs.declared.server.Ended.{Ended}
use Rattle.wave_server.proofs.Ending.{prefix_later, served_later}

module _ {X : Type 0} where
  get_front : (xs rest : List X) (k : ℕ) (x : X) → slice_get xs k ≡ Some x → slice_get (xs ++ rest) k ≡ Some x
  get_front [] rest k x h = grind arith
  get_front (y ∷ xs) rest zero x h = h
  get_front (y ∷ xs) rest (suc k) x h = get_front xs rest k x h

  get_last : (xs : List X) (x : X) → slice_get (xs ++ x ∷ []) (length xs) ≡ Some x
  get_last [] x = refl
  get_last (y ∷ xs) x = get_last xs x

  all_one : (P : X → Type 0) (x : X) → P x → All P (x ∷ [])
  all_one P x h zero d low = h
  all_one P x h (suc k) d low = absurd (omega arith)

  pub all_head : (P : X → Type 0) (x : X) (xs : List X) → All P (x ∷ xs) → P x
  all_head P x xs h = h 0 x (omega arith)

  pub all_tail : (P : X → Type 0) (x : X) (xs : List X) → All P (x ∷ xs) → All P xs
  all_tail P x xs h k d low = h (suc k) d (omega (arith, low))

  -- what holds of each element at its place
  each_more : (P : ℕ → X → Type 0) (xs : List X) (x : X) → ((k : ℕ) (y : X) → slice_get xs k ≡ Some y → P k y) → P (length xs) x → (k : ℕ) (y : X) → slice_get (xs ++ x ∷ []) k ≡ Some y → P k y
  each_more P [] x h last zero y e = subst (P 0) (cond_some true x y e).1 last
  each_more P [] x h last (suc k) y e = absurd (none-some y e)
  each_more P (z ∷ zs) x h last zero y e = h 0 y e
  each_more P (z ∷ zs) x h last (suc k) y e = each_more (λ i. P (suc i)) zs x (λ i. h (suc i)) last k y e

  pub drop_front : (xs ys : List X) → drop (length xs) (xs ++ ys) ≡ ys
  drop_front [] ys = refl
  drop_front (x ∷ xs) ys = drop_front xs ys

  pub returned_more : (before now rest : List X) → IsPrefix before now → returned before (now ++ rest) ≡ returned before now ++ rest
  returned_more before now rest p =
      ap (λ z. drop (length before) (z ++ rest)) (sym p.1)
      ∙ ap (drop (length before)) (append_assoc before p.0 rest)
      ∙ drop_front before (p.0 ++ rest)
      ∙ ap (λ z. z ++ rest) (sym (drop_front before p.0) ∙ ap (drop (length before)) p.1)

  pub returned_length : (before now : List X) (put : ℕ) → IsPrefix before now → length now ≡ length before + put → length (returned before now) ≡ put
  returned_length before now put p counted =
      let back : returned before now ≡ p.0 = ap (drop (length before)) (sym p.1) ∙ drop_front before p.0 in
      let size : length (returned before now) ≡ length p.0 = ap length back in
      let whole : length now ≡ length (before ++ p.0) = ap length (sym p.1) in
      let parts = length-append before p.0 in
      omega (arith, size, whole, parts, counted)

module _ {L : Type 0} (link : link_of.Ghosts L) where
  -- ---- faults of those that entries name

  fault_there : (back rest : List L) (e : Ended) (one : L) → slice_get back e.place ≡ Some one → option_map_or (λ l. link.faults l) (slice_get (back ++ rest) e.place) 0 ≡ option_map_or (λ l. link.faults l) (slice_get back e.place) 0
  fault_there back rest e one at = ap (λ o. option_map_or (λ l. link.faults l) o 0) (get_front back rest e.place one at ∙ sym at)

  module _ (v : ServerOf) (marks : ℕ → List Mark) where
    pub faults_more : (back rest : List L) (es : List Ended) → All (IsEntry link v marks back) es → faults_named link (back ++ rest) es ≡ faults_named link back es
    faults_more back rest [] all = refl
    faults_more back rest (e ∷ es) all =
        let here = all_head (IsEntry link v marks back) e es all in
        let first = fault_there back rest e here.one here.placed in
        let more = faults_more back rest es (all_tail (IsEntry link v marks back) e es all) in
        λ i. first i + more i

    faults_last : (back : List L) (es : List Ended) (l : L) (e : Ended) → All (IsEntry link v marks back) es → e.place ≡ length back → faults_named link (back ++ l ∷ []) (es ++ e ∷ []) ≡ faults_named link back es + link.faults l
    faults_last back [] l e all at =
        let here : option_map_or (λ x. link.faults x) (slice_get (back ++ l ∷ []) e.place) 0 ≡ link.faults l =
        ap (λ n. option_map_or (λ x. link.faults x) (slice_get (back ++ l ∷ []) n) 0) at ∙ ap (λ o. option_map_or (λ x. link.faults x) o 0) (get_last back l) in
        omega (arith, here)
    faults_last back (x ∷ es) l e all at =
        let one = all_head (IsEntry link v marks back) x es all in
        let first = fault_there back (l ∷ []) x one.one one.placed in
        let more = faults_last back es l e (all_tail (IsEntry link v marks back) x es all) at in
        omega (arith, first, more)

  module _ (v : ServerOf) (marks marks' : ℕ → List Mark) (later : (k : ℕ) → k < 16 → IsPrefix (marks k) (marks' k)) where
    entry_later : (back rest : List L) (e : Ended) → IsEntry link v marks back e → IsEntry link v marks' (back ++ rest) e
    entry_later back rest e h = record {
      one = h.one;
      placed = get_front back rest e.place h.one h.placed;
      served = λ t. served_later v marks marks' later (link.events h.one) e.cause (h.served t);
      closed_is = h.closed_is;
      failed = h.failed;
    }

    entry_stays : (back : List L) (e : Ended) → IsEntry link v marks back e → IsEntry link v marks' back e
    entry_stays back e h = record {
      one = h.one;
      placed = h.placed;
      served = λ t. served_later v marks marks' later (link.events h.one) e.cause (h.served t);
      closed_is = h.closed_is;
      failed = h.failed;
    }

    entries_later : (back rest : List L) (es : List Ended) → All (IsEntry link v marks back) es → All (IsEntry link v marks' (back ++ rest)) es
    entries_later back rest es h = λ k x low. entry_later back rest (get_or es k x) (h k x low)

    -- the place of an entry is below the number of links that were put back
    below_of : (back : List L) (es : List Ended) → All (IsEntry link v marks back) es → (k : ℕ) (e : Ended) → slice_get es k ≡ Some e → e.place < length back
    below_of back [] all k e is = absurd (none-some e is)
    below_of back (x ∷ es) all zero e is =
        let one = all_head (IsEntry link v marks back) x es all in
        subst (λ (z : Ended). z.place < length back) (cond_some true x e is).1 (slice_get_within back x.place one.one one.placed)
    below_of back (x ∷ es) all (suc k) e is = below_of back es (all_tail (IsEntry link v marks back) x es all) k e is

    rising_more : (es : List Ended) (e : Ended) → AreRising es → ((k : ℕ) (d : Ended) → slice_get es k ≡ Some d → d.place < e.place) → AreRising (es ++ e ∷ [])
    rising_more es e rising below j k d x low first second =
        each_more (λ i y. j < i → d.place < y.place) es e
        (λ i y at less. each_more (λ a b. a < i → b.place < y.place) es e (λ a b there small. rising a i b y small there at) (λ small. absurd (let within = slice_get_within es i y at in omega (arith, small, within))) j d first less)
        (λ less. each_more (λ a b. a < length es → b.place < e.place) es e (λ a b there small. below a b there) (λ small. absurd (omega (arith, small))) j d first less)
        k x second low

    -- ---- links of peers were put back

    pub served_back : (spent spent' : Bool) (before now now' : List L) (ended : List Ended) → IsPrefix now now' → (spent' ≡ false → spent ≡ false)
        → HasServed link v marks spent before now ended → HasServed link v marks' spent' before now' ended
    served_back spent spent' before now now' ended more calm h = record {
      begins = prefix_later before now now' h.begins more;
      each = subst (λ z. All (IsEntry link v marks' z) ended) (sym (ap (returned before) (sym more.1) ∙ returned_more before now more.0 h.begins)) (entries_later (returned before now) more.0 ended h.each);
      rising = h.rising;
      unspent = λ none. h.unspent (calm none);
    }

    pub going_back : (spent spent' : Bool) (put put' : ℕ) (before now now' : List L) (line from to : ℕ) (ended : List Ended) → IsPrefix now now' → length now' + put ≡ length now + put' → min from last_count ≤ to
        → (spent' ≡ false → spent ≡ false) → IsGoing link v marks spent put before now line from ended → IsGoing link v marks' spent' put' before now' line to ended
    going_back spent spent' put put' before now now' line from to ended more count rises calm h =
        let same : faults_named link (returned before now') ended ≡ faults_named link (returned before now) ended =
        ap (λ z. faults_named link z ended) (ap (returned before) (sym more.1) ∙ returned_more before now more.0 h.served.begins) ∙ faults_more v marks (returned before now) more.0 ended h.served.each in
        record {
          served = served_back spent spent' before now now' ended more calm h.served;
          counted = omega (arith, count, h.counted);
          raised = omega (arith, same, rises, h.raised);
        }

    -- one more link was put back, whose session is the last entry
    pub going_put : (spent spent' : Bool) (put : ℕ) (before now now' : List L) (line from to : ℕ) (ended ended' : List Ended) (l : L) (e : Ended)
        → IsGoing link v marks spent put before now line from ended → now' ≡ now ++ l ∷ [] → to ≡ min (from + link.faults l) last_count → ended' ≡ ended ++ e ∷ [] → e.place ≡ put
        → (IsTrue link.tells → IsServed v marks' (link.events l) e.cause) → (e.cause ≡ Closed → link.closed l ≡ true) → (e.cause ≡ Failed → Rose 0 (link.faults l))
        → (spent' ≡ false → (spent ≡ false) × IsCalm e)
        → IsGoing link v marks' spent' (put + 1) before now' line to ended'
    going_put spent spent' put before now now' line from to ended ended' l e h put_back counted_as noted place served ends fails calm =
        subst (λ es. IsGoing link v marks' spent' (put + 1) before now' line to es) (sym noted) (record {
          served = record {
            begins = prefix_later before now now' h.served.begins (l ∷ [], sym put_back);
            each = subst (λ z. All (IsEntry link v marks' z) (ended ++ e ∷ [])) (sym here) (All-append (IsEntry link v marks' (back ++ l ∷ [])) ended (e ∷ [])
                (entries_later back (l ∷ []) ended h.served.each)
                (all_one (IsEntry link v marks' (back ++ l ∷ [])) e (record {
                  one = l;
                  placed = subst (λ n. slice_get (back ++ l ∷ []) n ≡ Some l) (sym at) (get_last back l);
                  served = served;
                  closed_is = ends;
                  failed = fails;
                })));
            rising = rising_more ended e h.served.rising (λ k d is. let low = below_of back ended h.served.each k d is in omega (arith, low, at));
            unspent = λ none. each_more (λ k. IsCalm) ended e (h.served.unspent (calm none).0) (calm none).1;
          };
          counted = let size : length now' ≡ length (now ++ l ∷ []) = ap length put_back in let parts = length-append now (l ∷ []) in omega (arith, size, parts, h.counted);
          raised =
              let sum : faults_named link (returned before now') (ended ++ e ∷ []) ≡ faults_named link back ended + link.faults l =
              ap (λ z. faults_named link z (ended ++ e ∷ [])) here ∙ faults_last v marks back ended l e h.served.each at in
              omega (arith, sum, counted_as, h.raised);
        })
      where
        back : List L
        back = returned before now

        at : e.place ≡ length back
        at = place ∙ sym (returned_length before now put h.served.begins h.counted)

        here : returned before now' ≡ back ++ l ∷ []
        here = ap (returned before) put_back ∙ returned_more before now (l ∷ []) h.served.begins

    -- one more link was put back, and ends aren't kept
    pub going_unkept : (spent spent' : Bool) (put : ℕ) (before now now' : List L) (line from to : ℕ) (ended : List Ended) (l : L)
        → IsGoing link v marks spent put before now line from ended → now' ≡ now ++ l ∷ [] → to ≡ min (from + link.faults l) last_count → (spent' ≡ false → spent ≡ false)
        → IsGoing link v marks' spent' (put + 1) before now' line to ended
    going_unkept spent spent' put before now now' line from to ended l h put_back counted_as calm =
        let size : length now' ≡ length (now ++ l ∷ []) = ap length put_back in
        let parts = length-append now (l ∷ []) in
        going_back spent spent' put (put + 1) before now now' line from to ended (l ∷ [], sym put_back) (omega (arith, size, parts)) (omega (arith, counted_as)) calm h

    -- one more link was put back, and its session is noted where ends are kept
    pub going_more : (keeps spent spent' : Bool) (put : ℕ) (before now now' : List L) (line from to : ℕ) (ended ended' : List Ended) (l : L) (e : Ended)
        → IsGoing link v marks spent put before now line from ended → now' ≡ now ++ l ∷ [] → to ≡ min (from + link.faults l) last_count → MatchBool keeps (ended' ≡ ended ++ e ∷ []) (ended' ≡ ended) → e.place ≡ put
        → (IsTrue link.tells → IsServed v marks' (link.events l) e.cause) → (e.cause ≡ Closed → link.closed l ≡ true) → (e.cause ≡ Failed → Rose 0 (link.faults l))
        → (spent' ≡ false → (spent ≡ false) × IsCalm e)
        → IsGoing link v marks' spent' (put + 1) before now' line to ended'
    going_more true spent spent' put before now now' line from to ended ended' l e h put_back counted_as noted place served ends fails calm =
        going_put spent spent' put before now now' line from to ended ended' l e h put_back counted_as noted place served ends fails calm
    going_more false spent spent' put before now now' line from to ended ended' l e h put_back counted_as noted place served ends fails calm =
        subst (λ es. IsGoing link v marks' spent' (put + 1) before now' line to es) (sym noted) (going_unkept spent spent' put before now now' line from to ended l h put_back counted_as (λ none. (calm none).0))

    -- ---- nothing was put back

    -- where no shard was seen to have no turn left, and nothing changed but that now one may have been
    pub going_calm : (spent spent' : Bool) (put : ℕ) (before now : List L) (line from : ℕ) (ended : List Ended) → spent ≡ false → IsGoing link v marks spent put before now line from ended → IsGoing link v marks' spent' put before now line from ended
    going_calm spent spent' put before now line from ended calm h = record {
      served = record {
        begins = h.served.begins;
        each = λ k x low. entry_stays (returned before now) (get_or ended k x) (h.served.each k x low);
        rising = h.served.rising;
        unspent = λ none. h.served.unspent calm;
      };
      counted = h.counted;
      raised = h.raised;
    }

    -- where nothing else changed
    pub going_same : (spent spent' : Option Spent) (put : ℕ) (before now now' : List L) (line from to : ℕ) (ended ended' : List Ended) → spent' ≡ spent → now' ≡ now → to ≡ from → ended' ≡ ended
        → IsGoing link v marks (is_some spent) put before now line from ended → IsGoing link v marks' (is_some spent') put before now' line to ended'
    going_same spent spent' put before now now' line from to ended ended' s n t e h =
        subst (λ es. IsGoing link v marks' (is_some spent') put before now' line to es) (sym e)
        (going_back (is_some spent) (is_some spent') put put before now now' line from to ended ([], append-nil now ∙ sym n) (let size : length now' ≡ length now = ap length n in omega (arith, size)) (omega (arith, t)) (λ none. sym (ap is_some s) ∙ none) h)

-- no session has ended yet
pub going_none : {L : Type 0} (link : link_of.Ghosts L) (v : ServerOf) (marks : ℕ → List Mark) (spent : Bool) (before : List L) (line : ℕ) (ended : List Ended)
    → ended ≡ [] → IsGoing link v marks spent 0 before before line line ended
going_none link v marks spent before line ended none =
    subst (λ es. IsGoing link v marks spent 0 before before line line es) (sym none) (record {
      served = record {
        begins = ([], append-nil before);
        each = λ k x low. absurd (omega arith);
        rising = λ j k d e low first second. absurd (none-some e second);
        unspent = λ calm k e is. absurd (none-some e is);
      };
      counted = omega arith;
      raised = omega arith;
    })
