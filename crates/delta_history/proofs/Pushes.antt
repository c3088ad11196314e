-- The next delta of a history, from what is tested of it.
--     ready             it may come next, and where it leads
--     unfit, unasked, invalid     why the longer history isn't legal
--     same_head         more room leaves the head
--     before_last       the state before a delta that came
use Rattle.std.proofs.Common.{◌≡◌, ◌+◌, ◌≤◌, true, false, [], ◌∷◌, ◌++◌, length, Some, None, sym, ap, subst, ◌∙◌, true≢false, unwrap_or}
use Rattle.std.specs.Option.{option_map}
use Rattle.doc_op.proofs.Applying.{no_value}
use Rattle.wavelet_op.specs.Acts.{inserted}
use Rattle.wavelet_op.specs.Deltas.{DeltaOf}
use Rattle.wavelet_op.specs.States.{State, run}
use Rattle.delta_history.specs.declared.fault.HistoryFault.{HistoryFault}
use Rattle.delta_history.specs.declared.fault.HistoryFault.TheVariants.{NotNext, NotLegal, Memory}
use Rattle.delta_history.specs.Histories.{HistoryOf, head_of, IsSameHistory, IsGrown}
use Rattle.delta_history.specs.Legal.{standing, may_write, IsNext, IsLegal}
use Rattle.delta_history.specs.Points.{Point, start, acts_of, point_behind, next_point, end_of}
use Rattle.delta_history.specs.Pushes.{IsAsked, IsInvalid, IsReady, IsRefused}
use Rattle.delta_history.specs.Twins.{IsBehind}
use Rattle.delta_history.specs.Steps.{IsFitting, IsUnfit, step_after}
use Rattle.delta_history.specs.declared.step.Step.{Step}
use Rattle.delta_history.proofs.Chains.{legal_after}
use Rattle.delta_history.proofs.Finding.{legal_end}
use Rattle.delta_history.proofs.Points.{after_point, replay_more}

pub ready : (h : HistoryOf) (d : DeltaOf) (s : State) → IsLegal h.name h.deltas → IsAsked h d → run (head_of h).state (acts_of d) ≡ Some s → IsReady h d (point_behind (head_of h) d s)
ready h d s l a r =
    let here = head_of h in
    let is_head = legal_end h.name h.deltas l in
    let goes : next_point here d ≡ Some (point_behind here d s) = ap (option_map (point_behind here d)) r in
    record {
      next = record {
        here = here;
        after = point_behind here d s;
        is_head = is_head;
        starts = a.fitting.starts;
        goes = goes;
        some_ops = a.some_ops;
        normal = a.normal;
        new = a.fitting.new;
        author = a.author;
        counted = a.fitting.within.counted;
        held = a.fitting.within.held;
        short = a.fitting.within.short;
      };
      leads = ap (λ o. unwrap_or o (start h.name)) (replay_more (start h.name) here (point_behind here d s) h.deltas d is_head goes);
    }

-- ---- refusals

last_next : (h : HistoryOf) (d : DeltaOf) → IsLegal h.name (h.deltas ++ d ∷ []) → IsNext h.name h.deltas d
last_next h d l = (legal_after h.name [] h.deltas (d ∷ []) l).0

here_is : (h : HistoryOf) (d : DeltaOf) (n : IsNext h.name h.deltas d) → n.here ≡ head_of h
here_is h d n = sym (ap (λ o. unwrap_or o (start h.name)) n.is_head)

fits : (h : HistoryOf) (d : DeltaOf) → IsNext h.name h.deltas d → IsFitting h d
fits h d n =
    let here = here_is h d n in
    let a = after_point n.here n.after d n.goes in
    let counted : n.here.at.version + length d.ops ≤ _ = subst (λ z. z ≤ _) a.version n.counted in
    let held : n.here.count + inserted (acts_of d) ≤ _ = subst (λ z. z ≤ _) a.count n.held in
    record {
      starts = n.starts ∙ ap (λ (p : Point). p.at) here;
      new = n.new;
      within = record {
        counted = subst (λ (p : Point). p.at.version + length d.ops ≤ _) here counted;
        held = subst (λ (p : Point). p.count + inserted (acts_of d) ≤ _) here held;
        short = n.short;
      };
    }

pub unfit : (h : HistoryOf) (d : DeltaOf) (f : HistoryFault) → IsUnfit h d f → IsRefused h d f
unfit h d (NotNext have got) u = u
unfit h d NotLegal u = (u.0, λ l. u.1 (fits h d (last_next h d l)))
unfit h d Memory u = u

pub unasked : (h : HistoryOf) (d : DeltaOf) → IsFitting h d → may_write (standing h.deltas (head_of h) d.id.author (acts_of d)) ≡ false → IsRefused h d NotLegal
unasked h d f e = (f.starts, λ l. let n = last_next h d l in true≢false (sym (subst (λ p. may_write (standing h.deltas p d.id.author (acts_of d)) ≡ true) (here_is h d n) n.author) ∙ e))

pub invalid : (h : HistoryOf) (d : DeltaOf) → IsFitting h d → run (head_of h).state (acts_of d) ≡ None → IsRefused h d NotLegal
invalid h d f e = (
  f.starts,
  λ l.
      let n = last_next h d l in
      let a = after_point n.here n.after d n.goes in
      no_value (sym (ap (λ (p : Point). run p.state (acts_of d)) (here_is h d n) ∙ e) ∙ a.goes),
)

pub not_run : (h : HistoryOf) (d : DeltaOf) (f : HistoryFault) → IsFitting h d → IsInvalid (head_of h).state (acts_of d) f → IsRefused h d f
not_run h d (NotNext have got) a u = absurd u
not_run h d NotLegal a u = invalid h d a u
not_run h d Memory a u = tt

-- ---- with more room

pub moved : (g h : HistoryOf) (d : DeltaOf) → IsSameHistory g h → IsNext g.name g.deltas d → IsNext h.name h.deltas d
moved g h d s n = subst (λ z. IsNext h.name z d) (sym s.deltas) (subst (λ z. IsNext z g.deltas d) (sym s.name) n)

pub same_head : (g h : HistoryOf) → IsSameHistory g h → head_of h ≡ head_of g
same_head g h s = λ i. end_of (s.name i) (s.deltas i)

pub moved_end : (g h : HistoryOf) (d : DeltaOf) (p : Point) → IsSameHistory g h → end_of g.name (g.deltas ++ d ∷ []) ≡ p → end_of h.name (h.deltas ++ d ∷ []) ≡ p
moved_end g h d p s e = (λ i. end_of (s.name i) (s.deltas i ++ d ∷ [])) ∙ e

pub grown_end : (g h k : HistoryOf) (d : DeltaOf) (p : Point) → IsSameHistory g h → IsGrown h d k → end_of g.name (g.deltas ++ d ∷ []) ≡ p → head_of k ≡ p
grown_end g h k d p s w e = (λ i. end_of (w.name i) (w.deltas i)) ∙ moved_end g h d p s e

-- what a delta leads to, as its step and the state tell it
pub ready_step : (h : HistoryOf) (d : DeltaOf) (t : Step) (s s' : State) → IsLegal h.name h.deltas → IsAsked h d → t ≡ step_after (head_of h).at (head_of h).count d → (head_of h).state ≡ s → run s (acts_of d) ≡ Some s' → IsReady h d (record { at = t.to; state = s'; count = t.inserted })
ready_step h d t s s' l a e u r =
    let x = ready h d s' l a (ap (λ z. run z (acts_of d)) u ∙ r) in
    record { next = x.next; leads = x.leads ∙ (λ i. record { at = (sym e i).to; state = s'; count = (sym e i).inserted }) }

-- the state before a delta that came after the others
pub before_last : (h k : HistoryOf) (d : DeltaOf) (p : Point) (s : State) → IsReady h d p → IsGrown h d k → (head_of h).state ≡ s → IsBehind k.name k.deltas s
before_last h k d p s r w e =
    let n = r.next in
    let a = after_point n.here n.after d n.goes in
    let here : n.here.state ≡ s = ap (λ (x : Point). x.state) (here_is h d n) ∙ e in
    let end : end_of h.name (h.deltas ++ d ∷ []) ≡ n.after = ap (λ o. unwrap_or o (start h.name)) (replay_more (start h.name) n.here n.after h.deltas d n.is_head n.goes) in
    let whole : head_of k ≡ n.after = (λ i. end_of (w.name i) (w.deltas i)) ∙ end in
    record {
      before = h.deltas;
      last = d;
      whole = sym w.deltas;
      leads = ap (λ z. run z (acts_of d)) (sym here) ∙ a.goes ∙ ap Some (sym a.same ∙ ap (λ (x : Point). x.state) (sym whole));
    }
