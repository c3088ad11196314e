-- What became of peers, when a server ends.
--     have_met       each was reached or made the count of the line rise, after the last steps of their links
--     has_met        the links were put back
--     names_length   there is a name for each peer
--     same_length    peers with equal names are equally many
--     named_length   there is a name for each domain with its address
--     ready_asked    peers stay ready where nothing was dialled since
use Rattle.std.proofs.Common.{arith, refl, sym, ap, subst, ◌∙◌, ◌≡◌, inl, ◌<◌, ◌≤◌, ◌+◌, min, ℕ, suc, Bool, true, false, ◌||◌, nat_eq, IsTrue, List, [], ◌∷◌, ◌++◌, All, length}
use Rattle.std.specs.Str.{encode_utf8_all}
use Rattle.std.proofs.lemmas.Bool.{eqb-true}
use Rattle.std.proofs.lemmas.Option.{slice_get_within}
use mathlib.Core.List.{IsPrefix}
use Rattle.doc_items.specs.Maps.{Key}
use Rattle.wave_outside.specs.declared.link.Link as link_of
use Rattle.peer_rounds.specs.Peers.{names, names_by}
use Rattle.peer_rounds.specs.Reached.{last_count, AtLeast, HaveReached, HaveCome}
use Rattle.peer_rounds.specs.Stands.{IsStepped, AreReady, WasDialled}
use Rattle.peer_rounds.specs.declared.peer.Peer.{Peer}
use Rattle.shard_marks.specs.declared.mark.Mark.{Mark}
use Rattle.shard_marks.specs.Servers.{ServerOf}
use Rattle.wave_server.specs.Meeting.{is_named, unless, unnamed, HasMet, HaveMet}
use Rattle.wave_server.specs.Running.{IsEntry, returned, HasServed, faults_named, IsGoing}
use Rattle.wave_server.specs.declared.server.Ended.{Ended}
use Rattle.wave_server.proofs.Going.{all_head, all_tail, returned_more, faults_more}

least_after : {X : Type 0} (P : X → Type 0) (xs ys : List X) (k : ℕ) → AtLeast P ys k → AtLeast P (xs ++ ys) k
least_after P [] ys k a = a
least_after P (x ∷ xs) ys k a = inl (least_after P xs ys k a)

apart_false : (a b : ℕ) → a < b → nat_eq a b ≡ false
apart_false a b low = go (nat_eq a b) refl
  where
    go : (t : Bool) → nat_eq a b ≡ t → t ≡ false
    go false e = refl
    go true e = absurd (let same = eqb-true a b e in omega (arith, same, low))

module _ {L : Type 0} where
  unnamed_front : (es : List Ended) (i : ℕ) (xs ys : List L) → unnamed es i (xs ++ ys) ≡ unnamed es i xs ++ unnamed es (i + length xs) ys
  unnamed_front es i [] ys = ap (λ n. unnamed es n ys) (sum i)
    where
      sum : (i : ℕ) → i ≡ i + 0
      sum i = omega arith
  unnamed_front es i (x ∷ xs) ys =
      ap (unless (is_named es i) x) (unnamed_front es (i + 1) xs ys ∙ ap (λ n. unnamed es (i + 1) xs ++ unnamed es n ys) (sum i (length xs)))
      ∙ out (is_named es i) (unnamed es (i + 1) xs) (unnamed es (i + suc (length xs)) ys)
    where
      sum : (i n : ℕ) → (i + 1) + n ≡ i + suc n
      sum i n = omega arith

      out : (b : Bool) (us vs : List L) → unless b x (us ++ vs) ≡ unless b x us ++ vs
      out true us vs = refl
      out false us vs = refl

  unnamed_all : (es : List Ended) (ys : List L) (i : ℕ) → ((j : ℕ) → i ≤ j → is_named es j ≡ false) → unnamed es i ys ≡ ys
  unnamed_all es [] i none = refl
  unnamed_all es (y ∷ ys) i none =
      ap (λ b. unless b y (unnamed es (i + 1) ys)) (none i (omega arith)) ∙ ap (λ z. y ∷ z) (unnamed_all es ys (i + 1) (λ j low. none j (omega (arith, low))))

module _ {L : Type 0} (link : link_of.Ghosts L) (v : ServerOf) (marks : ℕ → List Mark) where
  none_named : (back : List L) (es : List Ended) → All (IsEntry link v marks back) es → (j : ℕ) → length back ≤ j → is_named es j ≡ false
  none_named back [] all j low = refl
  none_named back (e ∷ es) all j low =
      let one = all_head (IsEntry link v marks back) e es all in
      let within = slice_get_within back e.place one.one one.placed in
      let here = apart_false e.place j (omega (arith, within, low)) in
      let rest = none_named back es (all_tail (IsEntry link v marks back) e es all) j low in
      λ i. here i || rest i

  -- the links of peers come after all those that entries name
  unnamed_last : (back ls : List L) (es : List Ended) → All (IsEntry link v marks back) es → unnamed es 0 (back ++ ls) ≡ unnamed es 0 back ++ ls
  unnamed_last back ls es all =
      unnamed_front es 0 back ls ∙ ap (λ z. unnamed es 0 back ++ z) (unnamed_all es ls (0 + length back) (λ j low. none_named back es all j (omega (arith, low))))

  pub have_met : (spent : Bool) (put : ℕ) (before now now' : List L) (line from to : ℕ) (ended : List Ended) (ps : List (Peer L link)) → IsPrefix now now' → min from last_count ≤ to
      → HaveReached from to ps → IsGoing link v marks spent put before now line from ended → HaveMet link before now' line to ended ps
  have_met spent put before now now' line from to ended ps more rises reached h =
      let same : faults_named link (returned before now') ended ≡ faults_named link (returned before now) ended =
      ap (λ z. faults_named link z ended) (ap (returned before) (sym more.1) ∙ returned_more before now more.0 h.served.begins) ∙ faults_more link v marks (returned before now) more.0 ended h.served.each in
      record { from = from; risen = rises; raised = omega (arith, same, h.raised); reached = reached }

  pub has_met : (spent : Bool) (own : Key) (before now now' ls : List L) (line from to : ℕ) (ended : List Ended) (ps : List (Peer L link)) → now' ≡ now ++ ls → min from last_count ≤ to
      → HasServed link v marks spent before now ended → (h : HaveMet link before now line from ended ps) → HaveCome link own h.from to ls (length ps) → HasMet link before now' line to own (length ps) ended
  has_met spent own before now now' ls line from to ended ps put rises s h come =
      let here : returned before now' ≡ returned before now ++ ls = ap (returned before) put ∙ returned_more before now ls s.begins in
      let same : faults_named link (returned before now') ended ≡ faults_named link (returned before now) ended =
      ap (λ z. faults_named link z ended) here ∙ faults_more link v marks (returned before now) ls ended s.each in
      let left : unnamed ended 0 (returned before now') ≡ unnamed ended 0 (returned before now) ++ ls = ap (unnamed ended 0) here ∙ unnamed_last (returned before now) ls ended s.each in
      record {
        met = come.count;
        stepped = subst (λ z. AtLeast (IsStepped link own) z come.count) (sym left) (least_after (IsStepped link own) (unnamed ended 0 (returned before now)) ls come.count come.stepped);
        enough = λ low. let e = come.enough low in omega (arith, e, same, h.risen, h.raised, rises, low);
      }

module _ {L : Type 0} {link : link_of.Ghosts L} where
  pub names_length : (ps : List (Peer L link)) → length (names ps) ≡ length ps
  names_length [] = refl
  names_length (p ∷ ps) = ap suc (names_length ps)

  pub same_length : (ps qs : List (Peer L link)) → names ps ≡ names qs → length ps ≡ length qs
  same_length ps qs same = sym (names_length ps) ∙ ap length same ∙ names_length qs

  pub ready_asked : (tells : Bool) (asked asked' : List (List ℕ)) (ps : List (Peer L link)) → (IsTrue tells → asked' ≡ asked) → AreReady tells asked ps → AreReady tells asked' ps
  ready_asked tells asked asked' [] same ready = tt
  ready_asked tells asked asked' (p ∷ ps) same ready = (
    record { dialled = λ uncut told. subst (WasDialled (encode_utf8_all p.link.address)) (sym (same told)) (ready.0.dialled uncut told); said = ready.0.said },
    ready_asked tells asked asked' ps same ready.1,
  )

pub named_length : (own : Key) (pairs : List (Key × List ℕ)) → length (names_by own pairs) ≡ length pairs
named_length own [] = refl
named_length own (p ∷ pairs) = ap suc (named_length own pairs)
