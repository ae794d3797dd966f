-- A state while a parcel is unpacked: first the objects without values, then one object after the
-- other with its items.
use Rattle.std.specs.Prelude.{ℕ, List, ◌++◌, length, map, take, drop}
use Rattle.pz_state.specs.pz_value.declared.value.Value.{Value}
use Rattle.pz_state.specs.Objects.{ObjectView}
use Rattle.pz_state.specs.States.{StateView, nils, at_object}
use Rattle.pz_copy.specs.Unpacking.{shifted_objects}

-- an object like this one, all of whose items are nil
abbrev pub blank_of : ObjectView → ObjectView
blank_of o = record { class = o.class; items = nils (length o.items) }

abbrev pub with_blanks : StateView → List ObjectView → StateView
with_blanks s objects = record s { objects = s.objects ++ map blank_of objects }

-- one object has these items
abbrev pub filled : ℕ → List Value → StateView → StateView
filled r items s = record s { objects = at_object r (λ _. items) s.objects }

-- behind so many objects stand these, of which so many have their items
abbrev pub with_parts : StateView → ℕ → ℕ → List ObjectView → StateView
with_parts s count given objects = record s { objects = take count s.objects ++ (shifted_objects count (take given objects) ++ map blank_of (drop given objects)) }
