-- The number of a frame that opens: the first from 1 on that no open frame has.
use Rattle.std.specs.Prelude.{ℕ, zero, suc, max, List, [], ◌∷◌, Option, Some, None}
use Rattle.pz_bind_rules.specs.pz_value.declared.value.Value.{Value}
use Rattle.pz_offer.specs.pz_state.States.{Frames, locals_in}

-- a number above those of all open frames
abbrev pub above : Frames → ℕ
above [] = 0
above (f ∷ fs) = max (suc f.0) (above fs)

-- this number where no frame with it was found, else a further one
abbrev pub unless_taken : Option (List Value) → ℕ → ℕ → ℕ
unless_taken None n further = n
unless_taken (Some values) n further = further

-- the first from n on, of so many that may be taken
abbrev pub first_free : ℕ → ℕ → Frames → ℕ
first_free zero n frames = n
first_free (suc more) n frames = unless_taken (locals_in frames n) n (first_free more (suc n) frames)

abbrev pub least_free : Frames → ℕ
least_free frames = first_free (above frames) 1 frames
