-- The channels that a script adds to a system, and the text of a worked run.
use Rattle.std.proofs.Common.{◌≡◌, refl, List, [], ◌∷◌, Some}
use Rattle.std.specs.Prelude.{codes, pos}
use Rattle.std.specs.Fmt.{digits}
use Rattle.pz_trace.specs.pz_syntax.declared.clusters.Channel.{Channel}
use Rattle.pz_trace.specs.pz_syntax.declared.clusters.ChannelEnd.TheVariants.{Inner}
use Rattle.pz_trace.specs.pz_value.declared.value.Value.TheVariants.{Int}
use Rattle.pz_trace.specs.pz_bind_rules.Nest.{processes}
use Rattle.pz_trace.specs.pz_bind_rules.Wires.{wires}
use Rattle.pz_bind_levels.specs.Wires.{channel}
use Rattle.pz_trace.specs.pz_offer.declared.end.End.{End}
use Rattle.pz_trace.specs.pz_offer.PlaceOrder.{Place}
use Rattle.pz_trace.specs.pz_rules.declared.action.Kind.TheVariants.{Expire}
use Rattle.pz_trace.specs.pz_rules.declared.action.Action.TheVariants.{Internal, Comm}
use Rattle.pz_trace.specs.pz_rules.Runs.{Event, acted, passed}
use Rattle.pz_trace.specs.declared.ending.Ending.TheVariants as ending
use Rattle.pz_env_script.specs.declared.entry.Entry.{Entry}
use Rattle.pz_env_script.specs.declared.entry.Transfer.TheVariants.{Send, Receive}
use Rattle.pz_env_rules.specs.Environment.{lines_of, begins, waits}
use Rattle.pz_env_rules.specs.Ends.{further_channels}
use Rattle.pz_env_rules.specs.Joining.{joined, Driving, driving}
use Rattle.pz_env_rules.specs.Text.{drive_text}
use Rattle.pz_env_rules.proofs.WorkedSystem.{at, id, entry, instance_r, system_of, class_R, model, limits, script}

abbrev drives : Driving
drives = driving model script limits

-- the system has one channel more, at line 1 of the script, with the one end in it
channel_of_r : Channel
channel_of_r = record { pos = at 1 1; ends = Inner (id (codes "r") 1 1) (id (codes "i") 1 1) ∷ [] }

is_joined : joined model (lines_of script) ≡ record { decls = class_R ∷ system_of (instance_r ∷ []) (Some (channel_of_r ∷ [])) ∷ [] }
unfolding channel_of_r
is_joined = refl

-- which is its one wire
one_wire : wires drives.setting.model ≡ channel [] 0 ∷ []
one_wire = refl

one_process : processes drives.setting.model ≡ (0 ∷ []) ∷ []
one_process = refl

-- the environment waits, offers, and is done
waits_first : begins (lines_of script) ≡ waits 2 (record { number = 1; entry = entry 2 (codes "r") (codes "i") (Send (Int (pos 3) ∷ [])) }) []
waits_first = refl

-- Entries on two ends, that of the second line once more in the third: two channels, in the order of
-- first mention.
abbrev three_lines : List Entry
three_lines =
    entry 0 (codes "r") (codes "j") (Receive 1) ∷ entry 0 (codes "r") (codes "i") (Send []) ∷ entry 5 (codes "r") (codes "j") (Receive 0) ∷ []

two_channels : further_channels (lines_of three_lines)
    ≡ record { pos = at 1 1; ends = Inner (id (codes "r") 1 1) (id (codes "j") 1 1) ∷ [] } ∷ record { pos = at 2 1; ends = Inner (id (codes "r") 2 1) (id (codes "i") 2 1) ∷ [] } ∷ []
two_channels = refl

-- The text of the run: the environment is process 1.

abbrev environment : End
environment = record { process = 1; place = [] }

abbrev of_r : Place → End
of_r place = record { process = 0; place = place }

abbrev events : List Event
events =
    passed 0 2 ∷
    acted 2 1 0 (Internal environment Expire (at 1 1)) ∷
    acted 2 1 0 (Comm 0 environment (of_r (0 ∷ 0 ∷ [])) (codes "m") (record { values = Int (pos 3) ∷ []; objects = [] })) ∷
    passed 2 1 ∷
    acted 3 1 0 (Internal (of_r (0 ∷ [])) Expire (at 6 31)) ∷
    []

text : drive_text drives events 3 ending.End
    ≡ codes "poosl-drive 1 100000\n0 time 2\n2 1 0 env expire 1:1\n2 1 0 #1 env ! m(3) -> r\n2 time 1\n3 1 0 r expire 6:31\n3 end\n"
unfolding digits
text = refl

-- with `2 send r i m 2` nobody takes the message
abbrev fewer_events : List Event
fewer_events = passed 0 2 ∷ acted 2 1 0 (Internal environment Expire (at 1 1)) ∷ []

fewer_text : drive_text drives fewer_events 2 ending.Deadlock ≡ codes "poosl-drive 1 100000\n0 time 2\n2 1 0 env expire 1:1\n2 deadlock\n"
unfolding digits
fewer_text = refl
