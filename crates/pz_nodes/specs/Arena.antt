-- A finite map from keys to nodes, with how many more nodes there is room for.
use Rattle.std.specs.Prelude.{◌≡◌, ◌≢◌, ℕ, List, Option, Some, None, slice_index_or, count_by, is_some, refl}
use Rattle.std.specs.Coded.{Coded, code_by, coded×, coded_ℕ, coded_list, coded_option}

-- at place k of the list stands the node under key k, or there is none
pub record Arena (T : Type 0) : Type 0 where
  pub slots : List (Option T)
  pub spare : ℕ

abbrev pub arena_code : {T : Type 0} → Coded T → Coded (Arena T)
arena_code {T} code =
    code_by (List (Option T) × ℕ) (coded× (coded_list (coded_option code)) coded_ℕ)
    (λ s. (s.slots, s.spare)) (λ p. record { slots = p.0; spare = p.1 }) (λ _. refl)

module _ {T : Type 0} where
  -- the node under a key
  abbrev pub find : Arena T → ℕ → Option T
  find s key = slice_index_or s.slots key None

  -- how many nodes there are
  abbrev pub live : Arena T → ℕ
  live s = count_by is_some s.slots

  -- afterwards this is under the key, and what is under every other key is what was there
  pub record Updates (old new : Arena T) (key : ℕ) (slot : Option T) : Type 0 where
    pub changed : find new key ≡ slot
    pub others : (other : ℕ) → other ≢ key → find new other ≡ find old other
