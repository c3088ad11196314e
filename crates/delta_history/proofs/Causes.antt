-- What a verdict that adds nothing says of its submission.
--     is_broken     where the bounds don't hold one of them is broken
--     cause_is      each such verdict on a legal history
use Rattle.std.proofs.Common.{◌≡◌, ◌≢◌, inl, inr, ℕ, ◌+◌, ◌<◌, Bool, true, false, ◌&&◌, nat_le, List, [], ◌++◌, length, Option, Some, None, refl, sym, ap, subst, ◌∙◌, arith, append-nil, true≢false}
use Rattle.std.specs.Option.{option_map}
use Rattle.std.proofs.lemmas.Bool.Decides.{nat_tests}
use Rattle.std.specs.Cmp.Lexicographic.{bytes_decides}
use Rattle.doc_items.specs.Limits.{max_count}
use Rattle.doc_op.proofs.Applying.{no_value, same_Some}
use Rattle.wavelet_op.specs.Acts.{Act, meanings, inserted}
use Rattle.wavelet_op.specs.Deltas.{DeltaOf}
use Rattle.wavelet_op.specs.Grids.{pass}
use Rattle.wavelet_op.specs.States.{State, run, first_invalid}
use Rattle.wavelet_op.specs.declared.delta.Submission.{Submission}
use Rattle.wavelet_op.specs.declared.role.Role.{Role}
use Rattle.wavelet_op.specs.declared.role.Role.TheVariants as role
use Rattle.wavelet_op.specs.declared.verdict.Verdict.{Verdict}
use Rattle.wavelet_op.specs.declared.verdict.Verdict.TheVariants.{Ack, NotParticipant, ReadOnly, UnknownVersion, WrongHash, Invalid, Full}
use Rattle.wavelet_codec.specs.Spelling.{delta_bytes}
use Rattle.wavelet_state.specs.Snapshots.{max_inserted}
use Rattle.delta_history.specs.declared.kept.Kept.{Kept}
use Rattle.delta_history.specs.Points.{Point, start, point_behind, next_point, replay, cut, point_at}
use Rattle.delta_history.specs.Passing.{all_acts}
use Rattle.delta_history.specs.Legal.{max_delta, standing, IsLegal}
use Rattle.delta_history.specs.Verdicts.{kept, ops_of, accepted, is_within, same_hash, Judged, judge_kept, judge_head, judge_author, judge_base, judge_hash, judge_ops, judge_pass, judge_bounds, judge_next}
use Rattle.delta_history.specs.Laws.{IsSpelled, EndsSpelled, IsBroken, IsCaused, CauseIs}
use Rattle.delta_history.proofs.Finding.{legal_end}
use Rattle.delta_history.proofs.Keeping.{kept_is}
use Rattle.delta_history.proofs.Points.{and_then_is, replay_append, pass_through}
use Rattle.delta_history.proofs.Versions.{cut_is, pass_is}

-- ---- bounds

over : (a b : ℕ) → nat_le a b ≡ false → b < a
over a b h = grind (arith, nat_tests)

pub is_broken : (p : Point) (acts : List Act) (d : DeltaOf) → is_within p acts d ≡ false → IsBroken p acts d
is_broken p acts d w = go (nat_le (p.at.version + length acts) max_count) refl (nat_le (p.count + inserted acts) max_inserted) refl (nat_le (length (delta_bytes d)) max_delta) refl w
  where
    go : (a : Bool) → nat_le (p.at.version + length acts) max_count ≡ a → (b : Bool) → nat_le (p.count + inserted acts) max_inserted ≡ b → (c : Bool) → nat_le (length (delta_bytes d)) max_delta ≡ c → (a && b && c) ≡ false → IsBroken p acts d
    go false e b f c g h = inl (over _ _ e)
    go true e false f c g h = inr (inl (over _ _ f))
    go true e true f false g h = inr (inr (over _ _ g))
    go true e true f true g h = absurd (true≢false h)

-- ---- test by test

abbrev Caused : List ℕ → List DeltaOf → Submission → ℕ → Judged → Type 0
Caused name h s t j = (v : Verdict) → j ≡ (v, None) → IsCaused name h s t v

told : (name : List ℕ) (h : List DeltaOf) (s : Submission) (t : ℕ) (w : Verdict) → IsCaused name h s t w → Caused name h s t (w, None)
told name h s t w c v e = subst (IsCaused name h s t) (ap (λ (j : Judged). j.0) e) c

adds : (name : List ℕ) (h : List DeltaOf) (s : Submission) (t : ℕ) (w : Verdict) (d : DeltaOf) → Caused name h s t (w, Some d)
adds name h s t w d v e = no_value (sym (ap (λ (j : Judged). j.1) e))

-- what is known once the base is found
record IsReached (name : List ℕ) (h : List DeltaOf) (s : Submission) (p b : Point) (ds : List DeltaOf) : Type 0 where
  legal : IsLegal name h
  leads : replay (start name) h ≡ Some p
  is_cut : cut (start name) s.at.version h ≡ Some (b, ds)
  at_base : b.at ≡ s.at
  spelled : (acts : List Act) → pass (meanings s.ops) (all_acts ds) ≡ Some acts → IsSpelled acts

base_is : (name : List ℕ) (h : List DeltaOf) (v : ℕ) (b : Point) (ds : List DeltaOf) → cut (start name) v h ≡ Some (b, ds) → point_at name h v ≡ Some b
base_is name h v b ds e = ap (option_map (λ (c : Point × List DeltaOf). c.0)) e

module _ (name : List ℕ) (h : List DeltaOf) (s : Submission) (t : ℕ) where
  reached_end : (p b : Point) (ds : List DeltaOf) → IsReached name h s p b ds → replay b ds ≡ Some p
  reached_end p b ds f =
      let c = cut_is (start name) s.at.version h b ds f.is_cut in
      let e = subst (λ z. replay (start name) z ≡ Some p) (sym c.whole) f.leads in
      sym (replay_append (start name) c.before ds ∙ and_then_is (replay (start name) c.before) (λ z. replay z ds) b c.leads) ∙ e

  caused_next : (p : Point) (d : DeltaOf) (q : Option Point) → (q ≢ None) → Caused name h s t (judge_next p d q)
  caused_next p d None n = absurd (n refl)
  caused_next p d (Some q) n = adds name h s t (Ack p.at.version q.at) d

  caused_bounds : (p b : Point) (ds : List DeltaOf) (x : State) (acts : List Act) → IsReached name h s p b ds → run b.state (meanings s.ops) ≡ Some x → pass (meanings s.ops) (all_acts ds) ≡ Some acts → (o : Bool) → is_within p (meanings s.ops) (accepted p s t acts) ≡ o → Caused name h s t (judge_bounds p (accepted p s t acts) o)
  caused_bounds p b ds x acts f v e false w =
      let c = cut_is (start name) s.at.version h b ds f.is_cut in
      told name h s t (Full p.at) (record {
        here = p;
        leads = f.leads;
        at = refl;
        base = b;
        is_base = base_is name h s.at.version b ds f.is_cut;
        at_base = f.at_base;
        end = x;
        valid = v;
        acts = acts;
        passed = pass_is name h s.at p.at (meanings s.ops) acts f.legal (record {
          before = c.before;
          between = ds;
          behind = [];
          base = b;
          end = p;
          whole = ap (λ z. c.before ++ z) (append-nil ds) ∙ c.whole;
          is_base = c.leads;
          at_base = f.at_base;
          is_end = reached_end p b ds f;
          at_end = refl;
          passed = e;
        });
        broken = is_broken p (meanings s.ops) (accepted p s t acts) w;
      })
  caused_bounds p b ds x acts f v e true w =
      let th = pass_through b p (meanings s.ops) ds x v (reached_end p b ds f) in
      let is : th.acts' ≡ acts = same_Some (sym th.defined ∙ e) in
      let same : meanings (ops_of acts) ≡ th.acts' = (f.spelled acts e).same ∙ sym is in
      let goes : next_point p (accepted p s t acts) ≡ Some (point_behind p (accepted p s t acts) th.end) = ap (λ z. option_map (point_behind p (accepted p s t acts)) (run p.state z)) same ∙ ap (option_map (point_behind p (accepted p s t acts))) th.goes in
      caused_next p (accepted p s t acts) (next_point p (accepted p s t acts)) (λ n. no_value (sym n ∙ goes))

  caused_pass : (p b : Point) (ds : List DeltaOf) (x : State) → IsReached name h s p b ds → run b.state (meanings s.ops) ≡ Some x → (o : Option (List Act)) → pass (meanings s.ops) (all_acts ds) ≡ o → Caused name h s t (judge_pass s t p o)
  caused_pass p b ds x f v None e = (let th = pass_through b p (meanings s.ops) ds x v (reached_end p b ds f) in no_value (sym e ∙ th.defined))
  caused_pass p b ds x f v (Some acts) e = caused_bounds p b ds x acts f v e (is_within p (meanings s.ops) (accepted p s t acts)) refl

  caused_ops : (p b : Point) (ds : List DeltaOf) → IsReached name h s p b ds → (o : Option State) → run b.state (meanings s.ops) ≡ o → Caused name h s t (judge_ops s t p b ds o)
  caused_ops p b ds f None e = told name h s t (Invalid (first_invalid b.state (meanings s.ops))) (record { base = b; is_base = base_is name h s.at.version b ds f.is_cut; at_base = f.at_base; not_valid = e; is = refl })
  caused_ops p b ds f (Some x) e = caused_pass p b ds x f e (pass (meanings s.ops) (all_acts ds)) refl

  caused_hash : IsLegal name h → EndsSpelled name h s → (p b : Point) (ds : List DeltaOf) → replay (start name) h ≡ Some p → cut (start name) s.at.version h ≡ Some (b, ds) → (o : Bool) → same_hash s.at.hash b.at.hash ≡ o → Caused name h s t (judge_hash s t p b ds o)
  caused_hash l sp p b ds r c false e = told name h s t (WrongHash b.at.hash) (record {
    base = b;
    is_base = base_is name h s.at.version b ds c;
    is = refl;
    other = λ q. true≢false (sym ((bytes_decides s.at.hash b.at.hash).1 (sym q)) ∙ e);
  })
  caused_hash l sp p b ds r c true e =
      let version = (cut_is (start name) s.at.version h b ds c).version in
      let hash = sym ((bytes_decides s.at.hash b.at.hash).0 e) in
      let at : b.at ≡ s.at = λ i. record { version = version i; hash = hash i } in
      caused_ops p b ds (record { legal = l; leads = r; is_cut = c; at_base = at; spelled = λ acts g. sp b ds acts c g }) (run b.state (meanings s.ops)) refl

  caused_base : IsLegal name h → EndsSpelled name h s → (p : Point) → replay (start name) h ≡ Some p → (o : Option (Point × List DeltaOf)) → cut (start name) s.at.version h ≡ o → Caused name h s t (judge_base s t p o)
  caused_base l sp p r None e = told name h s t (UnknownVersion p.at) (record { here = p; leads = r; at = refl }, ap (option_map (λ (c : Point × List DeltaOf). c.0)) e)
  caused_base l sp p r (Some c) e = caused_hash l sp p c.0 c.1 r e (same_hash s.at.hash c.0.at.hash) refl

  caused_author : IsLegal name h → EndsSpelled name h s → (p : Point) → replay (start name) h ≡ Some p → (o : Option Role) → standing h p s.id.author (meanings s.ops) ≡ o → Caused name h s t (judge_author name h s t p o)
  caused_author l sp p r None e = told name h s t NotParticipant (record { here = p; leads = r; is = e })
  caused_author l sp p r (Some role.ReadOnly) e = told name h s t ReadOnly (record { here = p; leads = r; is = e })
  caused_author l sp p r (Some role.Full) e = caused_base l sp p r (cut (start name) s.at.version h) refl

  caused_head : IsLegal name h → EndsSpelled name h s → (o : Option Point) → replay (start name) h ≡ o → Caused name h s t (judge_head name h s t o)
  caused_head l sp None e = no_value (sym e ∙ legal_end name h l)
  caused_head l sp (Some p) e = caused_author l sp p e (standing h p s.id.author (meanings s.ops)) refl

  caused_kept : IsLegal name h → EndsSpelled name h s → (o : Option Kept) → kept s.id (start name) h ≡ o → Caused name h s t (judge_kept name h s t o)
  caused_kept l sp (Some k) e = told name h s t (Ack k.at k.to) (kept_is name h s.id k l e)
  caused_kept l sp None e = caused_head l sp (replay (start name) h) refl

pub cause_is : CauseIs
cause_is name h s t v l sp e = caused_kept name h s t l sp (kept s.id (start name) h) refl v e
