use Rattle.std.proofs.Common.{◌≡◌, map, take}
use Rattle.pz_check_duplicates.specs.devices.Signals.{signal, signal_of}
use Rattle.pz_check_duplicates.proofs.messages.message_things.Given as goal

abbrev pub invariant-loop-message : goal.invariant-loop-message
invariant-loop-message l = map signal_of l.things ≡ map signal (take l.message-index l.messages)
