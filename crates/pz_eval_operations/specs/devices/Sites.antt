-- Where the code evaluates, and what it reads there.
use Rattle.std.specs.Prelude.{List, []}
use Rattle.pz_classes_code.specs.pz_value.declared.value.Value.{Value}
use Rattle.pz_state.specs.States.{StateView}
use Rattle.pz_eval_rules.specs.Memories.{Memory, Location, in_process, in_object}
use Rattle.pz_eval_operations.specs.declared.task.Site.{Site}
use Rattle.pz_eval_operations.specs.declared.task.Site.TheVariants.{Process, Object}
use Rattle.pz_eval_operations.specs.declared.task.Activation.{Activation}

abbrev pub place_of : Site → Location
place_of (Process frame) = in_process frame.0
place_of (Object r) = in_object r

-- the locals of a data method; in a method of the process there are none beside those of the frame
abbrev pub locals_at : Site → List Value → List Value
locals_at (Process frame) locals = []
locals_at (Object r) locals = locals

abbrev pub memory_at : Site → StateView → List Value → Memory
memory_at site s locals = record { state = s; locals = locals_at site locals }

-- of a method that runs
abbrev pub memory_of : Activation → StateView → Memory
memory_of a s = memory_at a.site s a.locals.items
