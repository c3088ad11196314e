-- Marks that grow.
--     grow_same, grow_more      none grew; twice
--     turned_grow, looked_grow  the shards, after a call that had a turn of one, and after a look at the length of one
--     grow_begins               so the passes' own words say
--     step_later, walk_later    steps stay what they were
--     sent_later                what a session was sent stays so
use Rattle.std.proofs.Common.{sym, ap, refl, subst, ◌∙◌, ◌≡◌, ◌≢◌, ◌⊎◌, inl, inr, ℕ, arith, List, [], ◌∷◌, ◌++◌, length, get_or, Option, Some, None}
use mathlib.Core.List.{IsPrefix}
use Rattle.doc_items.specs.Maps.{Key}
use Rattle.session_core.specs.declared.request.Request.{Request}
use Rattle.session_core.specs.declared.request.Request.TheVariants as ask
use Rattle.session_core.specs.declared.session.Session.{Session}
use Rattle.turn_cells.specs.declared.cells.Passes.{Passes}
use Rattle.turn_cells.specs.Cells.{AreOthersSame, Begins, BeginsAt, seen_of}
use Rattle.shard_marks.specs.declared.look.Look.{Look}
use Rattle.shard_marks.specs.declared.mark.Mark.{Mark}
use Rattle.shard_marks.specs.Passes.{HaveTurned, marks_of}
use Rattle.shard_marks.specs.Looks.{IsCut}
use Rattle.shard_marks.specs.Servers.{ServerOf}
use Rattle.shard_marks.proofs.Prefixes.{prefix_self, prefix_more, prefix_both}
use Rattle.shard_marks.proofs.Publishing.{told_later}
use Rattle.session_steps.specs.declared.step.LinkStep.{LinkStep}
use Rattle.session_steps.specs.declared.step.LinkStep.TheVariants.{Read, Delivered}
use Rattle.session_steps.specs.Clients.{AreSentTo}
use Rattle.session_steps.specs.Going.{Grow}
use Rattle.session_steps.specs.Served.{IsWalk}
use Rattle.session_steps.specs.Steps.{Progress, Work, IsAt, IsAsked, IsStep, reading_of}

-- ---- passes

pub grow_same : (m : ℕ → List Mark) → Grow m m
grow_same m k = prefix_self (m k)

pub grow_more : (m n o : ℕ → List Mark) → Grow m n → Grow n o → Grow m o
grow_more m n o p q k = prefix_more (m k) (n k) (o k) (p k) (q k)

same_or_not : (j k : ℕ) → (j ≡ k) ⊎ (j ≢ k)
same_or_not j k = grind arith

module _ {T : Type 0} (ps qs : Passes T Mark) where
  pub looked_grow : (k : ℕ) → BeginsAt ps qs k → AreOthersSame k ps qs → Grow (marks_of ps) (marks_of qs)
  looked_grow k here others j = go (same_or_not j k)
    where
      go : (j ≡ k) ⊎ (j ≢ k) → IsPrefix (marks_of ps j) (marks_of qs j)
      go (inl e) = subst (λ i. IsPrefix (marks_of ps i) (marks_of qs i)) (sym e) here
      go (inr n) = subst (λ l. IsPrefix (marks_of ps j) l) (sym (ap seen_of (others j n))) (prefix_self (marks_of ps j))

  pub turned_grow : (k : ℕ) → HaveTurned k ps qs → Grow (marks_of ps) (marks_of qs)
  turned_grow k t = looked_grow k t.later t.others

  pub grow_begins : Grow (marks_of ps) (marks_of qs) → Begins ps qs
  grow_begins g k below = g k

-- ---- steps

module _ (v : ServerOf) (m n : ℕ → List Mark) (grown : Grow m n) (begun : ℕ → ℕ) where
  cut_later : (l : Look) (cut : List Mark) → IsCut m l cut → IsCut n l cut
  cut_later l cut c = record { begins = prefix_more cut (m l.shard) (n l.shard) c.begins (grown l.shard); whole = c.whole }

  module _ (ss : List LinkStep) where
    at_later : (k : ℕ) (l : Look) (cut : List Mark) → IsAt v m begun ss k l cut → IsAt v n begun ss k l cut
    at_later k l cut a = record { shard = a.shard; cut_is = cut_later l cut a.cut_is; later = a.later }

    asked_later : (x : Session × Request) (look : Option Look) (reading : Option ℕ) (w : Work) → IsAsked v m begun ss x look reading w → IsAsked v n begun ss x look reading w
    asked_later (s, ask.Reply t) look reading w a = record { unlooked = a.unlooked; unread = a.unread; session = a.session; frames = a.frames; added = a.added }
    asked_later (s, ask.Attach name from) look reading w a = record {
      at = a.at;
      cut = a.cut;
      message = a.message;
      is_look = a.is_look;
      unread = a.unread;
      moment = at_later _ a.at a.cut a.moment;
      reply = a.reply;
      frames = a.frames;
      added = a.added;
    }
    asked_later (s, ask.Submit name submission) look reading w a = record {
      at = a.at;
      cut = a.cut;
      time = a.time;
      answer = a.answer;
      message = a.message;
      is_look = a.is_look;
      is_read = a.is_read;
      moment = at_later _ a.at a.cut a.moment;
      judged = a.judged;
      fresh_fault = a.fresh_fault;
      reply = a.reply;
      frames = a.frames;
    }
    asked_later (s, ask.Have name from) look reading w a = record {
      at = a.at;
      cut = a.cut;
      is_look = a.is_look;
      unread = a.unread;
      moment = at_later _ a.at a.cut a.moment;
      session = a.session;
      frames = a.frames;
      added = a.added;
    }

    readings_same : (o : Option ℕ) → reading_of v m begun ss o ≡ reading_of v n begun ss o
    readings_same None = refl
    readings_same (Some t) = refl

    step_later : (st : LinkStep) (a b : Progress) → IsStep v m begun ss st a b → IsStep v n begun ss st a b
    step_later (Read look reading) a b s = record {
      bytes = s.bytes;
      work = s.work;
      asked = asked_later _ look reading s.work s.asked;
      session = s.session;
      received = s.received;
      sent = s.sent;
      readings = s.readings ∙ ap (λ l. a.readings ++ l) (readings_same reading);
      added = s.added;
    }
    step_later (Delivered look) a b s = record {
      work = s.work;
      news = record { cut = s.news.cut; moment = at_later _ look s.news.cut s.news.moment; session = s.news.session; frames = s.news.frames; added = s.news.added };
      session = s.session;
      received = s.received;
      sent = s.sent;
      readings = s.readings;
      added = s.added;
    }

  pub walk_later : (ss : List LinkStep) (a : Progress) → IsWalk v m begun ss a → IsWalk v n begun ss a
  walk_later [] a w = w
  walk_later (st ∷ ss) a w = (w.0, walk_later ss w.0 w.1, step_later ss st w.0 a w.2)

-- ---- what was sent

pub sent_later : (d : Key) (m n : ℕ → List Mark) (s : Session) (lengths : List ℕ) → Grow m n → AreSentTo d m s lengths → AreSentTo d n s lengths
sent_later d m n s lengths grown sent k below =
    let here = sent k below in
    let within = here.told.within in
    let before : (cut : List Mark) → IsPrefix cut (n k) → length cut ≡ get_or lengths k 0 → IsPrefix cut (m k) =
    λ cut begins whole. prefix_both cut (m k) (n k) begins (grown k) (omega (arith, whole, within)) in record {
      told = told_later d k (m k) (n k) s (get_or lengths k 0) (grown k) here.told;
      quiet = λ cut begins whole some. here.quiet cut (before cut begins whole) whole some;
    }
