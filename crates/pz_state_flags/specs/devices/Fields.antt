-- What the fields of `Flags` keep.
use Rattle.std.specs.Prelude.{◌≤◌, ◌^◌, length}
use Rattle.pz_state_flags.specs.declared.flags.Flags.TheInside.{Inside}
use Rattle.pz_state_flags.specs.devices.Words.{Tells}

-- each level has a flag for each word of the level below it
pub record IsKept (f : Inside) : Type 0 where
  pub words : Tells f.places.items f.words.items
  pub groups : Tells f.words.items f.groups.items
  pub blocks : Tells f.groups.items f.blocks.items
  pub small : length f.blocks.items ≤ 2 ^ 57
