-- What rounds of turns leave.
--     refused_may_turn       after a robot was dropped a turn may be taken
--     without_fewer, fewer_self, fewer_on      one was dropped, none, and more
--     fewer_may_turn, fewer_settled            after that a turn may be taken, and what was settled is
--     turn_alike, cut_alike  a turn over a history is one over its equal
--     may_alike, settled_alike     so it is of what may be, and of what is settled
--     settled_turn           a history of another wavelet stays settled
--     AreApart n hs          no history is of this name
--     AreAlike k hs          each history of the name of this one has its deltas
--     untouched_self, untouched_on      nothing changed; nothing changed twice
--     untouched_round, untouched_cut    wavelets apart from those of a round
--     after_turn             after a turn, over the same history or another, a turn may be taken over a history as before it
--     may_round, may_cut     after a round a turn may be taken over a history, as before it
--     settled_round          what was settled stays so
--     idle_round, round_one  a round over one history: nothing is left of it; a turn was taken
--     round_alike, round_cut_alike      it is one over its equal
--     round_ends, round_on   one over more histories ends with it, or goes on after it
--     cut_none, round_cut_ends, round_cut_on      so with one that ends for want of memory
use Rattle.std.proofs.Common.{◌≡◌, ◌≢◌, ◌⊎◌, inl, inr, ℕ, zero, suc, arith, Bool, true, false, cond, List, [], ◌∷◌, ◌++◌, length, map, slice_get, slice_set, is_some, Option, Some, None, refl, sym, ap, subst, ◌∙◌, append-nil, true≢false}
use Rattle.std.specs.List.{filter}
use Rattle.std.specs.Option.{option_map_or}
use Rattle.std.proofs.lemmas.List.Elements.{filter-append}
use Rattle.std.proofs.lemmas.Option.{slice_get_within}
use Rattle.doc_items.specs.Maps.{Key, same_text}
use Rattle.doc_op.proofs.Applying.{same_Some}
use Rattle.wavelet_op.proofs.Maps.{same_text_is, same_text_itself}
use Rattle.delta_history.specs.Histories.{HistoryOf}
use Rattle.robot_host.specs.declared.edit.RobotEdit.{RobotEdit}
use Rattle.robot_host.specs.Calls.{Call}
use Rattle.robot_host.specs.Hosts.{HostOf, kept, MayTurn, HasTurned, AreOthersKept, IsSettled, IsWithout, without, AreFewer}
use Rattle.robot_host.specs.Laws.{RefusedMayTurn}
use Rattle.robot_host.specs.Reactions.{Answered, call_of, with_calls}
use Rattle.robot_host.specs.Robots.{RobotOf, addresses}
use Rattle.robot_host.specs.Rounds.{IsTurn, IsTurnCut, IsRound, IsRoundCut, calls_for, IsUntouched}
use Rattle.robot_host.specs.Showing.{dropped}
use Rattle.robot_host.specs.Turns.{is_there, is_of_there, IsTurnOf, IsShown}
use Rattle.robot_host.proofs.AllTurns.{set_here, set_apart, by_number}
use Rattle.robot_host.proofs.Hosting.{kept_still}
use Rattle.robot_host.proofs.Table.{there_at}
use Rattle.robot_host.proofs.HostTurns.{was_there, stays_there, there_before}
use Rattle.robot_host.proofs.Turning.{none_turned}
use Rattle.robot_host.proofs.MayTurns.{others_may_turn}

-- ---- equal histories

record_of : HistoryOf → ℕ → HistoryOf
record_of h n = record { name = h.name; deltas = h.deltas; spare = n }

alike : (h k : HistoryOf) → k.name ≡ h.name → k.deltas ≡ h.deltas → record { name = h.name; deltas = h.deltas; spare = k.spare } ≡ k
alike h k n d = λ i. record { name = sym n i; deltas = sym d i; spare = k.spare }

respared : (g g' : HostOf) (h : HistoryOf) (all : List RobotEdit) (n : ℕ) → HasTurned g h g' all → HasTurned g (record { name = h.name; deltas = h.deltas; spare = n }) g' all
respared g g' h all n x = record {
  answered = x.answered;
  turns = record {
    length = x.turns.length;
    turned = λ r s t e f. let z = x.turns.turned r s t e f in record { shown = z.shown; view = z.view; within = z.within; robot = z.robot; stayed = z.stayed; edits = z.edits };
  };
  edits = x.edits;
}

respared_may : (g : HostOf) (h : HistoryOf) (n : ℕ) → MayTurn g h → MayTurn g (record { name = h.name; deltas = h.deltas; spare = n })
respared_may g h n may r s at here = let z = may r s at here in record { within = z.within; calls = z.calls }

module _ (h k : HistoryOf) (name : k.name ≡ h.name) (deltas : k.deltas ≡ h.deltas) where
  pub may_alike : (g : HostOf) → MayTurn g h → MayTurn g k
  may_alike g may = subst (MayTurn g) (alike h k name deltas) (respared_may g h k.spare may)

  pub settled_alike : (g : HostOf) → IsSettled g h → IsSettled g k
  settled_alike g s = subst (IsSettled g) (alike h k name deltas) (record { through = s.through; none_kept = s.none_kept })

  pub turn_alike : (g g' : HostOf) (es : List RobotEdit) → IsTurn g h g' es → IsTurn g k g' es
  turn_alike g g' es t = subst (λ z. IsTurn g z g' es) (alike h k name deltas) (record {
    turned = respared g g' h es k.spare t.turned;
    settled = record { through = t.settled.through; none_kept = t.settled.none_kept };
    may = respared_may g' h k.spare t.may;
    others = t.others;
  })

  pub cut_alike : (g g' : HostOf) → IsTurnCut g h g' → IsTurnCut g k g'
  cut_alike g g' t = subst (λ z. IsTurnCut g z g') (alike h k name deltas) (record {
    turned = respared g g' h (kept g' h.name) k.spare t.turned;
    may = respared_may g' h k.spare t.may;
    others = t.others;
  })

-- ---- a turn over another wavelet's history

pub settled_turn : (g g' : HostOf) (h k : HistoryOf) (all : List RobotEdit) → HasTurned g h g' all → AreOthersKept g g' h.name → k.name ≢ h.name → IsSettled g k → IsSettled g' k
settled_turn g g' h k all turned others apart settled = record {
  through = λ r t f here.
      let s = was_there g g' h turned.answered turned.turns r t f in
      let turn = turned.turns.turned r s.robot t s.at f in
      others.numbers k.name r apart ∙ settled.through r s.robot s.at (stays_there s.robot.here turn.shown t.here turn.stayed here);
  none_kept = others.edits k.name apart ∙ ap (filter (is_of_there g'.robots)) settled.none_kept;
}

pub none_of : (name other : Key) (xs : List Answered) → other ≢ name → filter (λ (c : Call). same_text c.name other) (map (call_of name) xs) ≡ []
none_of name other [] apart = refl
none_of name other (x ∷ xs) apart = go (none_of name other xs apart) (same_text name other) refl
  where
    go : filter (λ (c : Call). same_text c.name other) (map (call_of name) xs) ≡ [] → (b : Bool) → same_text name other ≡ b → filter (λ (c : Call). same_text c.name other) (map (call_of name) (x ∷ xs)) ≡ []
    go rest true e = absurd (apart (sym (same_text_is name other e)))
    go rest false e = ap (λ b. cond b (call_of name x ∷ filter (λ (c : Call). same_text c.name other) (map (call_of name) xs)) (filter (λ (c : Call). same_text c.name other) (map (call_of name) xs))) e ∙ rest

calls_apart : (name other : Key) (o : Option (List Call)) (xs : List Answered) → other ≢ name → calls_for other (with_calls o (map (call_of name) xs)) ≡ calls_for other o
calls_apart name other None xs apart = refl
calls_apart name other (Some l) xs apart = ap Some (filter-append (λ (c : Call). same_text c.name other) l (map (call_of name) xs) ∙ ap (λ z. filter (λ (c : Call). same_text c.name other) l ++ z) (none_of name other xs apart) ∙ append-nil _)

untouched_turn : (g g' : HostOf) (h : HistoryOf) (n : Key) (all : List RobotEdit) → HasTurned g h g' all → AreOthersKept g g' h.name → n ≢ h.name → IsUntouched g g' n
untouched_turn g g' h n all turned others apart = record {
  length = turned.turns.length;
  there = there_before g g' h turned.answered turned.turns;
  numbers = λ r. others.numbers n r apart;
  edits = others.edits n apart;
  calls = λ r s t e f.
      let turn = turned.turns.turned r s t e f in
      ap (λ (z : RobotOf). calls_for n z.calls) turn.robot ∙ calls_apart h.name n s.calls turn.shown apart;
}

pub untouched_self : (g : HostOf) (n : Key) → IsUntouched g g n
untouched_self g n = record {
  length = refl;
  there = λ r e. e;
  numbers = λ r. refl;
  edits = kept_still g.robots g.robots (λ r e. e) (g.edits n);
  calls = λ r s t e f. ap (λ (z : RobotOf). calls_for n z.calls) (same_Some (sym f ∙ e));
}

robot_at : (xs ys : List RobotOf) (r : ℕ) (t : RobotOf) → slice_get ys r ≡ Some t → length ys ≡ length xs → (s : RobotOf) × (slice_get xs r ≡ Some s)
robot_at xs ys r t f same = let w = slice_get_within ys r t f in there_at xs r (omega (arith, w, same))

pub untouched_on : (g m g' : HostOf) (n : Key) → IsUntouched g m n → IsUntouched m g' n → IsUntouched g g' n
untouched_on g m g' n a b = record {
  length = b.length ∙ a.length;
  there = λ r e. a.there r (b.there r e);
  numbers = λ r. b.numbers r ∙ a.numbers r;
  edits = b.edits ∙ ap (filter (is_of_there g'.robots)) a.edits ∙ sym (kept_still m.robots g'.robots b.there (kept g n));
  calls = λ r s t e f. let u = robot_at m.robots g'.robots r t f b.length in b.calls r u.0 t u.1 f ∙ a.calls r s u.0 e u.1;
}

-- ---- rounds

abbrev pub AreApart : Key → List HistoryOf → Type 0
AreApart n [] = Unit {0}
AreApart n (h ∷ hs) = (n ≢ h.name) × AreApart n hs

abbrev pub AreAlike : HistoryOf → List HistoryOf → Type 0
AreAlike k [] = Unit {0}
AreAlike k (h ∷ hs) = (k.name ≡ h.name → k.deltas ≡ h.deltas) × AreAlike k hs

pub untouched_round : (n : Key) (hs : List HistoryOf) (g g' : HostOf) (o : Option Key) (es : List RobotEdit) → AreApart n hs → IsRound g hs g' o es → IsUntouched g g' n
untouched_round n [] g g' o es apart r = subst (λ z. IsUntouched g z n) (sym r.0) (untouched_self g n)
untouched_round n (h ∷ hs) g g' o es apart (inl e) = untouched_turn g g' h n es e.turn.turned e.turn.others apart.0
untouched_round n (h ∷ hs) g g' o es apart (inr r) = untouched_on g r.0 g' n (untouched_turn g r.0 h n [] r.1.turned r.1.others apart.0) (untouched_round n hs r.0 g' o es apart.1 r.2)

pub untouched_cut : (n : Key) (hs : List HistoryOf) (g g' : HostOf) → AreApart n hs → IsRoundCut g hs g' → IsUntouched g g' n
untouched_cut n [] g g' apart r = subst (λ z. IsUntouched g z n) (sym r) (untouched_self g n)
untouched_cut n (h ∷ hs) g g' apart (inl e) = subst (λ z. IsUntouched g z n) (sym e) (untouched_self g n)
untouched_cut n (h ∷ hs) g g' apart (inr (inl c)) = untouched_turn g g' h n (kept g' h.name) c.turned c.others apart.0
untouched_cut n (h ∷ hs) g g' apart (inr (inr r)) = untouched_on g r.0 g' n (untouched_turn g r.0 h n [] r.1.turned r.1.others apart.0) (untouched_cut n hs r.0 g' apart.1 r.2)

pub same_or_not : (n m : Key) → (n ≡ m) ⊎ (n ≢ m)
same_or_not n m = go (same_text n m) refl
  where
    go : (b : Bool) → same_text n m ≡ b → (n ≡ m) ⊎ (n ≢ m)
    go true e = inl (same_text_is n m e)
    go false e = inr (λ f. true≢false (sym (subst (λ z. same_text n z ≡ true) f (same_text_itself n)) ∙ e))

pub after_turn : (k h : HistoryOf) (g g' : HostOf) (all : List RobotEdit) → (k.name ≡ h.name → k.deltas ≡ h.deltas) → HasTurned g h g' all → MayTurn g' h → AreOthersKept g g' h.name → MayTurn g k → MayTurn g' k
after_turn k h g g' all alike turned may others was = go (same_or_not k.name h.name)
  where
    go : (k.name ≡ h.name) ⊎ (k.name ≢ h.name) → MayTurn g' k
    go (inl e) = may_alike h k e (alike e) g' may
    go (inr ne) = others_may_turn g g' h k all turned others ne was

pub may_round : (k : HistoryOf) (hs : List HistoryOf) (g g' : HostOf) (o : Option Key) (es : List RobotEdit) → AreAlike k hs → IsRound g hs g' o es → MayTurn g k → MayTurn g' k
may_round k [] g g' o es alike r may = subst (λ z. MayTurn z k) (sym r.0) may
may_round k (h ∷ hs) g g' o es alike (inl e) may = after_turn k h g g' es alike.0 e.turn.turned e.turn.may e.turn.others may
may_round k (h ∷ hs) g g' o es alike (inr r) may = may_round k hs r.0 g' o es alike.1 r.2 (after_turn k h g r.0 [] alike.0 r.1.turned r.1.may r.1.others may)

pub may_cut : (k : HistoryOf) (hs : List HistoryOf) (g g' : HostOf) → AreAlike k hs → IsRoundCut g hs g' → MayTurn g k → MayTurn g' k
may_cut k [] g g' alike r may = subst (λ z. MayTurn z k) (sym r) may
may_cut k (h ∷ hs) g g' alike (inl e) may = subst (λ z. MayTurn z k) (sym e) may
may_cut k (h ∷ hs) g g' alike (inr (inl c)) may = after_turn k h g g' (kept g' h.name) alike.0 c.turned c.may c.others may
may_cut k (h ∷ hs) g g' alike (inr (inr r)) may = may_cut k hs r.0 g' alike.1 r.2 (after_turn k h g r.0 [] alike.0 r.1.turned r.1.may r.1.others may)

pub settled_round : (k : HistoryOf) (hs : List HistoryOf) (g g' : HostOf) (o : Option Key) (es : List RobotEdit) → AreApart k.name hs → IsRound g hs g' o es → IsSettled g k → IsSettled g' k
settled_round k [] g g' o es apart r settled = subst (λ z. IsSettled z k) (sym r.0) settled
settled_round k (h ∷ hs) g g' o es apart (inl e) settled = settled_turn g g' h k es e.turn.turned e.turn.others apart.0 settled
settled_round k (h ∷ hs) g g' o es apart (inr r) settled = settled_round k hs r.0 g' o es apart.1 r.2 (settled_turn g r.0 h k [] r.1.turned r.1.others apart.0 settled)

-- ---- rounds over one history, and over more

pub settled_idle : (g : HostOf) (h : HistoryOf) → MayTurn g h → IsSettled g h → IsTurn g h g []
settled_idle g h may settled = record {
  turned = record {
    answered = [];
    turns = record {
      length = refl;
      turned = λ r s t e f. subst (λ z. IsTurnOf (addresses g.robots) h r s z (g.number h.name r) (g.number h.name r) []) (same_Some (sym e ∙ f)) (none_turned (addresses g.robots) h r (g.number h.name r) s);
    };
    edits = sym (ap (λ es. filter (is_of_there g.robots) (es ++ [])) settled.none_kept);
  };
  settled = settled;
  may = may;
  others = record { numbers = λ other r apart. refl; edits = λ other apart. kept_still g.robots g.robots (λ r e. e) (g.edits other) };
}

pub idle_round : (g : HostOf) (h : HistoryOf) → MayTurn g h → IsSettled g h → IsRound g (h ∷ []) g None []
idle_round g h may settled = inr (g, settled_idle g h may settled, (refl, refl, refl))

pub round_one : (g : HostOf) (h : HistoryOf) (g' : HostOf) (o : Option Key) (es es' : List RobotEdit) → IsTurn g h g' es → es' ≡ es → (es ≡ [] → o ≡ None) → (es ≢ [] → o ≡ Some h.name) → IsRound g (h ∷ []) g' o es'
round_one g h g' o [] es' turn same none some = inr (g', turn, (refl, none refl, same))
round_one g h g' o (e ∷ es) es' turn same none some = inl (record {
  turn = subst (IsTurn g h g') (sym same) turn;
  name = some no_items;
  some = λ f. no_items (sym same ∙ f);
})
  where
    no_items : {T : Type 0} → e ∷ es ≡ [] → T
    no_items f = absurd cc

pub round_alike : (h k : HistoryOf) → k.name ≡ h.name → k.deltas ≡ h.deltas → (g g' : HostOf) (o : Option Key) (es : List RobotEdit) → IsRound g (h ∷ []) g' o es → IsRound g (k ∷ []) g' o es
round_alike h k name deltas g g' o es (inl e) = inl (record { turn = turn_alike h k name deltas g g' es e.turn; name = e.name ∙ ap Some (sym name); some = e.some })
round_alike h k name deltas g g' o es (inr r) = inr (r.0, turn_alike h k name deltas g r.0 [] r.1, r.2)

pub round_cut_alike : (h k : HistoryOf) → k.name ≡ h.name → k.deltas ≡ h.deltas → (g g' : HostOf) → IsRoundCut g (h ∷ []) g' → IsRoundCut g (k ∷ []) g'
round_cut_alike h k name deltas g g' (inl e) = inl e
round_cut_alike h k name deltas g g' (inr (inl c)) = inr (inl (cut_alike h k name deltas g g' c))
round_cut_alike h k name deltas g g' (inr (inr r)) = inr (inr (r.0, turn_alike h k name deltas g r.0 [] r.1, r.2))

-- a round over the first history that gave edits is one over all
pub round_ends : (g g' : HostOf) (h : HistoryOf) (hs : List HistoryOf) (o : Option Key) (es : List RobotEdit) → is_some o ≡ true → IsRound g (h ∷ []) g' o es → IsRound g (h ∷ hs) g' o es
round_ends g g' h hs o es some (inl e) = inl e
round_ends g g' h hs o es some (inr r) = absurd (true≢false (sym some ∙ ap is_some r.2.1))

-- one that gave none goes on
pub round_on : (g m g' : HostOf) (h : HistoryOf) (hs : List HistoryOf) (o o' : Option Key) (es es' : List RobotEdit) → is_some o ≡ false → IsRound g (h ∷ []) m o es → IsRound m hs g' o' es' → IsRound g (h ∷ hs) g' o' es'
round_on g m g' h hs o o' es es' none (inl e) rest = absurd (true≢false (sym (ap is_some e.name) ∙ none))
round_on g m g' h hs o o' es es' none (inr r) rest = inr (r.0, r.1, subst (λ z. IsRound z hs g' o' es') r.2.0 rest)

pub round_cut_on : (g m g' : HostOf) (h : HistoryOf) (hs : List HistoryOf) (o : Option Key) (es : List RobotEdit) → is_some o ≡ false → IsRound g (h ∷ []) m o es → IsRoundCut m hs g' → IsRoundCut g (h ∷ hs) g'
round_cut_on g m g' h hs o es none (inl e) rest = absurd (true≢false (sym (ap is_some e.name) ∙ none))
round_cut_on g m g' h hs o es none (inr r) rest = inr (inr (r.0, r.1, subst (λ z. IsRoundCut z hs g') r.2.0 rest))

pub cut_none : (g g' : HostOf) (hs : List HistoryOf) → g' ≡ g → IsRoundCut g hs g'
cut_none g g' [] same = same
cut_none g g' (h ∷ hs) same = inl same

pub round_cut_ends : (g g' : HostOf) (h : HistoryOf) (hs : List HistoryOf) → IsRoundCut g (h ∷ []) g' → IsRoundCut g (h ∷ hs) g'
round_cut_ends g g' h hs (inl e) = inl e
round_cut_ends g g' h hs (inr (inl c)) = inr (inl c)
round_cut_ends g g' h hs (inr (inr r)) = inr (inr (r.0, r.1, cut_none r.0 g' hs r.2))

-- ---- a robot that was dropped

addresses_set : (robots : List RobotOf) (r : ℕ) → addresses (without robots r) ≡ addresses robots
addresses_set [] r = refl
addresses_set (x ∷ xs) zero = refl
addresses_set (x ∷ xs) (suc r) = go (slice_get xs r) refl (addresses_set xs r)
  where
    go : (o : Option RobotOf) → slice_get xs r ≡ o → addresses (without xs r) ≡ addresses xs → addresses (option_map_or (λ (s : RobotOf). x ∷ slice_set xs r (dropped s)) o (x ∷ xs)) ≡ addresses (x ∷ xs)
    go None e rest = refl
    go (Some s) e rest = ap (λ z. x.address ∷ z) (ap (λ o. addresses (option_map_or (λ (s : RobotOf). slice_set xs r (dropped s)) o xs)) (sym e) ∙ rest)

here_before : (g g' : HostOf) (q : ℕ) → IsWithout g q g' → (r : ℕ) (t : RobotOf) → slice_get g'.robots r ≡ Some t → t.here ≡ true → slice_get g.robots r ≡ Some t
here_before g g' q w r t f here = go (slice_get g.robots q) refl
  where
    go : (o : Option RobotOf) → slice_get g.robots q ≡ o → slice_get g.robots r ≡ Some t
    go None e = ap (λ z. slice_get z r) (sym (w.robots ∙ ap (λ o. option_map_or (λ (s : RobotOf). slice_set g.robots q (dropped s)) o g.robots) e)) ∙ f
    go (Some s) e =
        let is : g'.robots ≡ slice_set g.robots q (dropped s) = w.robots ∙ ap (λ o. option_map_or (λ (s : RobotOf). slice_set g.robots q (dropped s)) o g.robots) e in
        let at : slice_get (slice_set g.robots q (dropped s)) r ≡ Some t = ap (λ z. slice_get z r) (sym is) ∙ f in
        by_number r q
        (λ same.
        let gone : dropped s ≡ t = same_Some (sym (set_here g.robots q (dropped s) (slice_get_within g.robots q s e)) ∙ ap (slice_get (slice_set g.robots q (dropped s))) (sym same) ∙ at) in
        absurd (true≢false (sym here ∙ sym (ap (λ (z : RobotOf). z.here) gone))))
        (λ apart. sym (set_apart g.robots q r (dropped s) apart) ∙ at)

pub without_fewer : (g g' : HostOf) (q : ℕ) → IsWithout g q g' → AreFewer g g'
without_fewer g g' q w = record {
  robots = here_before g g' q w;
  addresses = ap addresses w.robots ∙ addresses_set g.robots q;
  numbers = w.numbers;
  edits = w.edits;
}

pub fewer_self : (g : HostOf) → AreFewer g g
fewer_self g = record { robots = λ r t f here. f; addresses = refl; numbers = λ name r. refl; edits = λ name. kept_still g.robots g.robots (λ r e. e) (g.edits name) }

there_of : (g g' : HostOf) → AreFewer g g' → (r : ℕ) → is_there g'.robots r ≡ true → is_there g.robots r ≡ true
there_of g g' w r there = go (slice_get g'.robots r) refl
  where
    go : (o : Option RobotOf) → slice_get g'.robots r ≡ o → is_there g.robots r ≡ true
    go None f = absurd (true≢false (sym there ∙ ap (λ o. option_map_or (λ (z : RobotOf). z.here) o false) f))
    go (Some t) f =
        let here : t.here ≡ true = sym (ap (λ o. option_map_or (λ (z : RobotOf). z.here) o false) f) ∙ there in
        ap (λ o. option_map_or (λ (z : RobotOf). z.here) o false) (w.robots r t f here) ∙ here

pub fewer_on : (g m g' : HostOf) → AreFewer g m → AreFewer m g' → AreFewer g g'
fewer_on g m g' a b = record {
  robots = λ r t f here. a.robots r t (b.robots r t f here) here;
  addresses = b.addresses ∙ a.addresses;
  numbers = λ name r. b.numbers name r ∙ a.numbers name r;
  edits = λ name. b.edits name ∙ ap (filter (is_of_there g'.robots)) (a.edits name) ∙ sym (kept_still m.robots g'.robots (there_of m g' b) (kept g name));
}

module _ (g g' : HostOf) (w : AreFewer g g') (h : HistoryOf) where
  pub fewer_may_turn : MayTurn g h → MayTurn g' h
  fewer_may_turn may r t f here =
      let was = may r t (w.robots r t f here) here in
      subst (IsShown (addresses g'.robots) h t) (sym (w.numbers h.name r)) (subst (λ z. IsShown z h t (g.number h.name r)) (sym w.addresses) was)

  pub fewer_settled : IsSettled g h → IsSettled g' h
  fewer_settled settled = record {
    through = λ r t f here. w.numbers h.name r ∙ settled.through r t (w.robots r t f here) here;
    none_kept = w.edits h.name ∙ ap (filter (is_of_there g'.robots)) settled.none_kept;
  }

pub refused_may_turn : RefusedMayTurn
refused_may_turn g g' q h w may = fewer_may_turn g g' (without_fewer g g' q w) h may
