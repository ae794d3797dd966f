-- The parts of a group in the order of their blocks.
use Rattle.std.specs.Prelude.{◌≡◌, ◌<◌, ◌≤◌, ℕ, List, length, slice_index_or}
use Rattle.pz_match_lists.specs.declared.shares.Part.{Part}
use Rattle.pz_match_lists.specs.Shares.{no_share}

-- the block of the part at this place
abbrev pub block_at : List Part → ℕ → ℕ
block_at parts i = let part = slice_index_or parts i (record { block = 0; share = no_share }) in part.block

abbrev pub AreOrdered : List Part → Type 0
AreOrdered parts = (i j : ℕ) → i < j → j < length parts → block_at parts i < block_at parts j

pub record IsPartAt (parts : List Part) (block i : ℕ) : Type 0 where
  pub in_range : i < length parts
  pub has_block : block_at parts i ≡ block

-- it would go there: smaller blocks before it, and greater ones from there on
pub record IsGapFor (parts : List Part) (block i : ℕ) : Type 0 where
  pub in_range : i ≤ length parts
  pub smaller_before : (j : ℕ) → j < i → block_at parts j < block
  pub greater_after : (j : ℕ) → i ≤ j → j < length parts → block < block_at parts j
