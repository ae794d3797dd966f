-- What sets of selectors have.
use Rattle.std.specs.Prelude.{ℕ, Bool, ◌&&◌, nat_eq, List}
use Rattle.std.specs.Str.{bytes_eq}
use Rattle.indexmap.specs.IndexSet.{contains_by}
use Rattle.pz_check_names.specs.declared.selectors.Selectors.{Selectors}

-- a selector of this name with so many arguments
abbrev pub has_selector : Selectors → List ℕ → ℕ → Bool
has_selector selectors name count = contains_by (λ s. nat_eq count s.count && bytes_eq name s.name.now) selectors.set
