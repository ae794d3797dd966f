-- What a monitor of the code keeps.
use Rattle.pz_watch.specs.declared.monitor.Monitor.{Monitor, fold-Monitor}
use Rattle.pz_watch.specs.declared.monitor.Monitor.TheOpen.{Monitor-F}
use Rattle.pz_watch.specs.devices.Memory.{Memory, at_line, at_negation, at_both, at_either, at_before, at_once, at_always, at_since}

abbrev pub memory_step : Monitor-F Memory → Memory
memory_step (Monitor-F.Atom atom) = at_line atom
memory_step (Monitor-F.Not m) = at_negation m.value
memory_step (Monitor-F.And m n) = at_both m.value n.value
memory_step (Monitor-F.Or m n) = at_either m.value n.value
memory_step (Monitor-F.Before was m) = at_before was m.value
memory_step (Monitor-F.Once w m) = at_once w.bound w.latest m.value
memory_step (Monitor-F.Always w m) = at_always w.bound w.latest m.value
memory_step (Monitor-F.Since w m n) = at_since w.bound w.latest m.value n.value

abbrev pub memory_of : Monitor → Memory
memory_of = fold-Monitor Memory memory_step
