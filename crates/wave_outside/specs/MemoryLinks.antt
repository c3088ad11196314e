-- What a link in memory holds: `kept_events`, its list; `next_poll`, what its next poll answers; `link_calls`, its calls; `IsUnusedLink`,
-- that it was not used yet.
use Rattle.std.specs.Prelude.{cond, List, map, Option, Some, None, slice_get}
use Rattle.wave_outside.specs.Links.{IsUnused}
use Rattle.wave_outside.specs.declared.calls.Calls.{Calls}
use Rattle.wave_outside.specs.declared.link.LinkEvent.{LinkEvent}
use Rattle.wave_outside.specs.declared.link.LinkEvent.TheVariants as event
use Rattle.wave_outside.specs.declared.link.Polled.{Polled}
use Rattle.wave_outside.specs.declared.link.Polled.TheVariants.{Closed}
use Rattle.wave_outside.specs.declared.memory_link.Kept.{Kept}
use Rattle.wave_outside.specs.declared.memory_link.Kept.TheVariants as kept
use Rattle.wave_outside.specs.declared.memory_link.MemoryLink.{MemoryLink}

abbrev pub event_of : Kept → LinkEvent
event_of (kept.Received v) = event.Received v.items
event_of kept.Idle = event.Idle
event_of kept.Ended = event.Ended
event_of (kept.Sent v) = event.Sent v.items

abbrev pub kept_events : MemoryLink → List LinkEvent
kept_events l = map event_of l.kept.items

-- the poll of this number, and after the last one a close
abbrev pub or_close : Option Polled → Polled
or_close (Some p) = p
or_close None = Closed

-- what the next poll answers that doesn't fail: a close stays
abbrev pub next_poll : MemoryLink → Polled
next_poll l = cond l.closed Closed (or_close (slice_get l.polls.items l.at))

abbrev pub link_calls : MemoryLink → Calls
link_calls l = l.calls

abbrev pub IsUnusedLink : MemoryLink → Type 0
IsUnusedLink l = IsUnused l.calls.faults.count (kept_events l) l.closed
