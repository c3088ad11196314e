-- The load as its code keeps it.
--     load_of s       the draws, the host's deltas and the followers
use Rattle.std.specs.Prelude.{map}
use Rattle.client_control.specs.Parts.{follower_of}
use Rattle.load_script.specs.Loads.{Load}
use Rattle.load_script.specs.declared.script.Script.{Script}

abbrev pub load_of : Script → Load
load_of s = record { draws = s.draws; host = s.host; followers = map follower_of s.followers.items }
