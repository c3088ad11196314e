-- Turns of robots at a shard.
--     may_at, cut_may_at       after a round the robots may take turns again
--     settled_at               where it gave no edit, nothing is left
--     untouched_at, cut_untouched_at      wavelets that aren't there
--     later_may                at a later moment robots may take turns as before
--     not_of                   a wavelet is of one shard
--     own_alike, elsewhere_alike          the histories of a name among those of its shard, and among those of another
--     may_elsewhere, cut_may_elsewhere    at another shard, after a round at this one
--     settled_elsewhere        what was settled at another shard
--     IsUnderway               a round that has come to some of the histories
--     underway_begins, underway_past, underway_on, underway_ends, underway_cut, underway_over, may_now     its steps
--     from_first               what a domain hosts, from the first place on
--     none_at                  nothing changed
use Rattle.std.proofs.Common.{Less, ◌≡◌, ◌≢◌, inl, inr, ℕ, Bool, true, false, ◌&&◌, nat_eq, cond, List, [], ◌∷◌, drop, map, is_some, Option, None, refl, sym, ap, subst, ◌∙◌, true≢false}
use Rattle.std.specs.Cmp.Lexicographic.{slice_cmp, bytes_decides}
use Rattle.std.specs.Ordering.{nat_cmp}
use Rattle.std.proofs.lemmas.Bool.{eqb-true}
use mathlib.Core.List.{IsPrefix}
use Rattle.doc_items.specs.Maps.{Key, same_text}
use Rattle.delta_history.specs.Copying.{AscendFrom, AreAscending}
use Rattle.delta_history.specs.Histories.{HistoryOf}
use Rattle.robot_host.specs.declared.edit.RobotEdit.{RobotEdit}
use Rattle.robot_host.specs.Hosts.{HostOf, MayTurn, IsSettled}
use Rattle.robot_host.specs.Rounds.{IsRound, IsRoundCut}
use Rattle.robot_host.proofs.MayTurns.{longer_may_turn}
use Rattle.robot_host.proofs.RoundSteps.{AreApart, AreAlike, may_alike, settled_alike, may_round, may_cut, settled_round, untouched_round, untouched_cut, round_alike, round_cut_alike, round_ends, round_on, round_cut_on, round_cut_ends, cut_none}
use Rattle.wavelet_shelf.specs.FileNames.{shard_of}
use Rattle.wavelet_shelf.specs.Hosting.{Hosted, names_of, deltas_in, HaveDeltas}
use Rattle.disk_model.specs.declared.disk.Disk as disk_of
use Rattle.wave_outside.specs.declared.folder.Folder as folder_of
use Rattle.wavelet_shelf.specs.Entries.{shown as with_deltas}
use Rattle.wavelet_shelf.specs.Shelves.{hosted_of}
use Rattle.wavelet_shelf.specs.declared.shelf.Shelf.{Shelf}
use Rattle.wavelet_shelf.specs.Walks.{histories_of, as_hosted}
use Rattle.hosted_copies.specs.Domains.{hosted_by, hosted_from}
use Rattle.wavelet_shelf.proofs.Names.{own, below_none, lower, any}
use Rattle.wave_base.specs.Grammar.{host_of}
use Rattle.shard_marks.specs.declared.mark.Mark.{Mark}
use Rattle.shard_marks.specs.Histories.{history_of, history_in, histories_at, history_at}
use Rattle.shard_marks.specs.Marks.{is_of, replayed}
use Rattle.shard_marks.proofs.Following.{AreIn, AreOf, all_there, ascend_replayed, of_replayed, have_replayed, deltas_follow, none_elsewhere}
use Rattle.session_hub.specs.Robots.{MayTurnAt, IsRoundAt, IsRoundCutAt, AreSettledAt, AreUntouchedAt}

-- ---- names among histories

alike_in : (all : List Hosted) (n : Key) (hs : List Hosted) → AreIn all hs → AreAlike (history_in all n) (map history_of hs)
alike_in all n [] there = tt
alike_in all n (h ∷ hs) there = ((λ e. ap (deltas_in all) e ∙ there.0), alike_in all n hs there.1)

apart_alike : (k : HistoryOf) (hs : List HistoryOf) → AreApart k.name hs → AreAlike k hs
apart_alike k [] apart = tt
apart_alike k (h ∷ hs) apart = ((λ e. absurd (apart.0 e)), apart_alike k hs apart.1)

apart_none : (n : Key) (hs : List Hosted) → HaveDeltas hs → deltas_in hs n ≡ [] → AreApart n (map history_of hs)
apart_none n [] have none = tt
apart_none n (h ∷ hs) have none = go (apart_none n hs have.1) (same_text n h.name) refl none
  where
    go : (deltas_in hs n ≡ [] → AreApart n (map history_of hs)) → (b : Bool) → same_text n h.name ≡ b → cond b h.deltas (deltas_in hs n) ≡ [] → AreApart n (map history_of (h ∷ hs))
    go rest true e f = absurd (have.0 f)
    go rest false e f = ((λ same. true≢false (sym (subst (λ z. same_text n z ≡ true) same (own n)) ∙ e)), rest f)

apart_from : (n : Key) (hs : List Hosted) → AscendFrom n (names_of hs) → AreApart n (map history_of hs)
apart_from n [] a = tt
apart_from n (h ∷ hs) a = ((λ same. below_none n (subst (λ z. slice_cmp nat_cmp n z ≡ Less) (sym same) a.0)), apart_from n hs (lower n h.name (names_of hs) a.0 a.1))

settled_in : (hs : List Hosted) → AreAscending (names_of hs) → (g g' : HostOf) (es : List RobotEdit) → IsRound g (map history_of hs) g' None es → (n : Key) → deltas_in hs n ≢ [] → IsSettled g' (history_in hs n)
settled_in [] a g g' es r n some = absurd (some refl)
settled_in (h ∷ hs) a g g' es (inl e) n some = absurd (true≢false (sym (ap is_some e.name)))
settled_in (h ∷ hs) a g g' es (inr r) n some = go (settled_in hs (any h.name (names_of hs) a) r.0 g' es r.2 n) (same_text n h.name) refl
  where
    go : (deltas_in hs n ≢ [] → IsSettled g' (history_in hs n)) → (b : Bool) → same_text n h.name ≡ b → IsSettled g' (history_in (h ∷ hs) n)
    go rest true e =
        let same : n ≡ h.name = (bytes_decides n h.name).0 e in
        let deltas : deltas_in (h ∷ hs) n ≡ h.deltas = ap (λ b. cond b h.deltas (deltas_in hs n)) e in
        settled_round (history_in (h ∷ hs) n) (map history_of hs) r.0 g' None es (apart_from n hs (subst (λ z. AscendFrom z (names_of hs)) (sym same) a)) r.2
        (settled_alike (history_of h) (history_in (h ∷ hs) n) same deltas r.0 r.1.settled)
    go rest false e =
        let deltas : deltas_in (h ∷ hs) n ≡ deltas_in hs n = ap (λ b. cond b h.deltas (deltas_in hs n)) e in
        settled_alike (history_in hs n) (history_in (h ∷ hs) n) refl deltas g' (rest (λ f. some (deltas ∙ f)))

both : (a b : Bool) → a && b ≡ true → (a ≡ true) × (b ≡ true)
both true b e = (refl, e)
both false b e = absurd (true≢false (sym e))

pub not_of : (d : Key) (j k : ℕ) (n : Key) → is_of d j n ≡ true → j ≢ k → is_of d k n ≡ false
not_of d j k n e apart = go (is_of d k n) refl
  where
    at : (i : ℕ) → is_of d i n ≡ true → shard_of n ≡ i
    at i f = eqb-true (shard_of n) i (both (same_text (host_of n) d) (nat_eq (shard_of n) i) f).1

    go : (b : Bool) → is_of d k n ≡ b → b ≡ false
    go true f = absurd (apart (sym (at j e) ∙ at k f))
    go false f = refl

-- ---- after a round

module _ (d : Key) (k : ℕ) (ms : List Mark) (g g' : HostOf) where
  pub own_alike : (n : Key) → AreAlike (history_at d k ms n) (histories_at d k ms)
  own_alike n = alike_in (replayed d k ms) n (replayed d k ms) (all_there (replayed d k ms) (ascend_replayed d k ms))

  pub may_at : (o : Option Key) (es : List RobotEdit) → IsRoundAt d k ms g g' o es → MayTurnAt d k ms g → MayTurnAt d k ms g'
  may_at o es r may n own = may_round (history_at d k ms n) (histories_at d k ms) g g' o es (own_alike n) r (may n own)

  pub cut_may_at : IsRoundCutAt d k ms g g' → MayTurnAt d k ms g → MayTurnAt d k ms g'
  cut_may_at r may n own = may_cut (history_at d k ms n) (histories_at d k ms) g g' (own_alike n) r (may n own)

  pub settled_at : (o : Option Key) (es : List RobotEdit) → IsRoundAt d k ms g g' o es → o ≡ None → AreSettledAt d k ms g'
  settled_at o es r none = settled_in (replayed d k ms) (ascend_replayed d k ms) g g' es (subst (λ z. IsRoundAt d k ms g g' z es) none r)

  pub untouched_at : (o : Option Key) (es : List RobotEdit) → IsRoundAt d k ms g g' o es → AreUntouchedAt d k ms g g'
  untouched_at o es r n none = untouched_round n (histories_at d k ms) g g' o es (apart_none n (replayed d k ms) (have_replayed d k ms) none) r

  pub cut_untouched_at : IsRoundCutAt d k ms g g' → AreUntouchedAt d k ms g g'
  cut_untouched_at r n none = untouched_cut n (histories_at d k ms) g g' (apart_none n (replayed d k ms) (have_replayed d k ms) none) r

  pub none_at : g' ≡ g → IsRoundCutAt d k ms g g'
  none_at same = cut_none g g' (histories_at d k ms) same

  -- ---- at another shard

  module _ (j : ℕ) (ns : List Mark) (apart : j ≢ k) where
    names_apart : (n : Key) → is_of d j n ≡ true → AreApart n (histories_at d k ms)
    names_apart n own = apart_none n (replayed d k ms) (have_replayed d k ms) (none_elsewhere d k n ms (not_of d j k n own apart))

    pub elsewhere_alike : (n : Key) → is_of d j n ≡ true → AreAlike (history_at d j ns n) (histories_at d k ms)
    elsewhere_alike n own = apart_alike (history_at d j ns n) (histories_at d k ms) (names_apart n own)

    pub may_elsewhere : (o : Option Key) (es : List RobotEdit) → IsRoundAt d k ms g g' o es → MayTurnAt d j ns g → MayTurnAt d j ns g'
    may_elsewhere o es r may n own = may_round (history_at d j ns n) (histories_at d k ms) g g' o es (elsewhere_alike n own) r (may n own)

    pub cut_may_elsewhere : IsRoundCutAt d k ms g g' → MayTurnAt d j ns g → MayTurnAt d j ns g'
    cut_may_elsewhere r may n own = may_cut (history_at d j ns n) (histories_at d k ms) g g' (elsewhere_alike n own) r (may n own)

    pub settled_elsewhere : (o : Option Key) (es : List RobotEdit) → IsRoundAt d k ms g g' o es → AreSettledAt d j ns g → AreSettledAt d j ns g'
    settled_elsewhere o es r settled n some = go (is_of d j n) refl
      where
        go : (b : Bool) → is_of d j n ≡ b → IsSettled g' (history_at d j ns n)
        go true own = settled_round (history_at d j ns n) (histories_at d k ms) g g' o es (names_apart n own) r (settled n some)
        go false other = absurd (some (none_elsewhere d j n ns other))

pub later_may : (d : Key) (k : ℕ) (ms ns : List Mark) (g : HostOf) → IsPrefix ms ns → MayTurnAt d k ms g → MayTurnAt d k ns g
later_may d k ms ns g p may n own =
    let f = deltas_follow d k n ms ns p in
    longer_may_turn g (history_at d k ms n) (history_at d k ns n) f.0 refl f.1 (may n own)

-- ---- a round that is underway

pub record IsUnderway (d : Key) (k : ℕ) (all left : List Hosted) (before now : HostOf) : Type 0 where
  pub may : (n : Key) → is_of d k n ≡ true → MayTurn now (history_in all n)
  pub of : AreOf d k left
  pub there : AreIn all left
  pub rounds : (g : HostOf) (o : Option Key) (es : List RobotEdit) → IsRound now (map history_of left) g o es → IsRound before (map history_of all) g o es
  pub cuts : (g : HostOf) → IsRoundCut now (map history_of left) g → IsRoundCut before (map history_of all) g

drop_none : {X : Type 0} (xs : List X) → drop 0 xs ≡ xs
drop_none [] = refl
drop_none (x ∷ xs) = refl

pub from_first : {F D : Type 0} {folder : folder_of.Ghosts F D} {disk : disk_of.Ghosts D} (d : Key) (s : Shelf F D folder disk) → hosted_from d s 0 ≡ hosted_by d (hosted_of s)
from_first d s = ap (λ hs. hosted_by d (with_deltas hs)) (drop_none (histories_of s))

module _ (d : Key) (k : ℕ) where
  pub underway_begins : (ms : List Mark) (left : List Hosted) (g : HostOf) → left ≡ replayed d k ms → MayTurnAt d k ms g → IsUnderway d k (replayed d k ms) left g g
  underway_begins ms left g is may = subst (λ z. IsUnderway d k (replayed d k ms) z g g) (sym is) (record {
    may = may;
    of = of_replayed d k ms;
    there = all_there (replayed d k ms) (ascend_replayed d k ms);
    rounds = λ h o es r. r;
    cuts = λ h r. r;
  })

  module _ (all left : List Hosted) (before now : HostOf) (u : IsUnderway d k all left before now) where
    pub underway_past : (rest : List Hosted) → left ≡ rest → IsUnderway d k all rest before now
    underway_past rest is = subst (λ z. IsUnderway d k all z before now) is u

    pub underway_over : left ≡ [] → IsRound before (map history_of all) now None []
    underway_over none = u.rounds now None [] (subst (λ z. IsRound now (map history_of z) now None []) (sym none) (refl, refl, refl))

  module _ (all rest : List Hosted) (h : HistoryOf) (before now : HostOf) (u : IsUnderway d k all (as_hosted h ∷ rest) before now) where
    pub may_now : MayTurn now h
    may_now = may_alike (history_in all h.name) h refl (sym u.there.0) now (u.may h.name u.of.0)

    pub underway_on : (g : HostOf) (o : Option Key) (es : List RobotEdit) → is_some o ≡ false → IsRound now (h ∷ []) g o es → IsUnderway d k all rest before g
    underway_on g o es none r =
        let one = round_alike h (history_of (as_hosted h)) refl refl now g o es r in
        record {
          may = λ n own. may_round (history_in all n) (h ∷ []) now g o es ((λ e. ap (deltas_in all) e ∙ u.there.0), tt) r (u.may n own);
          of = u.of.1;
          there = u.there.1;
          rounds = λ g' o' es' more. u.rounds g' o' es' (round_on now g g' (history_of (as_hosted h)) (map history_of rest) o o' es es' none one more);
          cuts = λ g' more. u.cuts g' (round_cut_on now g g' (history_of (as_hosted h)) (map history_of rest) o es none one more);
        }

    pub underway_ends : (g : HostOf) (o : Option Key) (es : List RobotEdit) → is_some o ≡ true → IsRound now (h ∷ []) g o es → IsRound before (map history_of all) g o es
    underway_ends g o es some r = u.rounds g o es (round_ends now g (history_of (as_hosted h)) (map history_of rest) o es some (round_alike h (history_of (as_hosted h)) refl refl now g o es r))

    pub underway_cut : (g : HostOf) → IsRoundCut now (h ∷ []) g → IsRoundCut before (map history_of all) g
    underway_cut g r = u.cuts g (round_cut_ends now g (history_of (as_hosted h)) (map history_of rest) (round_cut_alike h (history_of (as_hosted h)) refl refl now g r))
