-- Shares by the numbers of their groups and blocks.
use Rattle.std.specs.Prelude.{ℕ, nat_eq, List, [], ◌∷◌, slice_index_or, if◌then◌else◌}
use Rattle.pz_match_lists.specs.declared.shares.Share.{Share}
use Rattle.pz_match_lists.specs.declared.shares.Part.{Part}

abbrev pub no_share : Share
no_share = record { sends = 0; free = 0; own = 0 }

-- the share of a block; nothing where it has no part
abbrev pub share_in : List Part → ℕ → Share
share_in [] block = no_share
share_in (p ∷ parts) block = if nat_eq p.block block then p.share else share_in parts block

-- in the group with this number
abbrev pub share_at : List (List Part) → ℕ → ℕ → Share
share_at groups group block = share_in (slice_index_or groups group []) block
