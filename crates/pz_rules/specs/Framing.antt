-- A frame round a term.
use Rattle.std.specs.Prelude.{ℕ, List, []}
use Rattle.pz_bind_rules.specs.pz_classes_code.declared.slot.Slot.{Slot}
use Rattle.pz_rules.specs.Terms.{Term, frame}

-- A frame without outputs that is all of a frame without outputs stands in its place, so that calls
-- at the end of a method do not pile up.
abbrev pub framed : ℕ → ℕ → List Slot → Term → Term
framed number inputs [] (frame inner inner_inputs [] t) = frame inner inner_inputs [] t
framed number inputs results x = frame number inputs results x
