use Rattle.std.proofs.Common.{◌≡◌, ◌≤◌, ◌++◌, drop, IsTrue}
use mathlib.Core.List.{IsPrefix}
use Rattle.wave_outside.specs.Links.{received, sent}
use Rattle.session_steps.specs.Served.{poll_count}
use Rattle.session_steps.specs.Texts.{texts_of}
use Rattle.session_link.proofs.sending.send_all.Given as goal

pub record IsKept (g : goal.Over) (l : goal.Live-loop-place g) : Type 0 where
  pub went : IsTrue g.L.Link.tells → sent (g.L.Link.events l.link) ++ texts_of (drop l.place l.texts) ≡ sent (g.L.Link.events l.fn.link) ++ texts_of l.texts
  pub before : IsTrue g.L.Link.tells → IsPrefix (sent (g.L.Link.events l.fn.link)) (sent (g.L.Link.events l.link))
  pub came : IsTrue g.L.Link.tells → received (g.L.Link.events l.link) ≡ received (g.L.Link.events l.fn.link)
  pub polled : IsTrue g.L.Link.tells → poll_count (g.L.Link.events l.link) ≡ poll_count (g.L.Link.events l.fn.link)
  pub closed : g.L.Link.closed l.link ≡ g.L.Link.closed l.fn.link
  pub faults : g.L.Link.faults l.fn.link ≤ g.L.Link.faults l.link

abbrev pub invariant-loop-place : goal.invariant-loop-place
invariant-loop-place g l = IsKept g l
