-- Methods in a list, as things.
use Rattle.pz_classes.specs.pz_syntax.declared.tokens.Pos.{Pos}
use Rattle.pz_classes.specs.pz_classes_rules.declared.method_id.Counts.TheVariants.{Data, Process}
use Rattle.pz_classes.specs.pz_classes_rules.RepeatRules.{Heading}
use Rattle.pz_check_duplicates.specs.declared.methods.MethodKey.{MethodKey}
use Rattle.pz_check_duplicates.specs.declared.methods.MethodKey.TheVariants as key
use Rattle.pz_check_duplicates.specs.declared.places.Thing.{Thing}

abbrev pub heading_place : Heading → Pos
heading_place h = h.name.pos

-- the method with this key that stands there
abbrev pub keyed_heading : Pos → MethodKey → Heading
keyed_heading pos (key.Data name inputs) = record { name = record { name = name.now; pos = pos }; signature = record { name = name.now; counts = Data inputs } }
keyed_heading pos (key.Process name inputs outputs) = record { name = record { name = name.now; pos = pos }; signature = record { name = name.now; counts = Process inputs outputs } }

abbrev pub heading_of : Thing MethodKey → Heading
heading_of t = keyed_heading t.place t.key
