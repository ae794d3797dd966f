-- The lines of classes, and what the code keeps of the names that a class has.
use Rattle.std.specs.Prelude.{◌≡◌, ◌<◌, ◌≤◌, ◌+◌, ◌++◌, ℕ, suc, List, [], length, map, take, slice_get, Option, Some, Contains}
use Rattle.std.specs.List.{All}
use Rattle.std.specs.Option.{option_and_then, option_map_or, unwrap_or, IsSome}
use Rattle.pz_classes_code.specs.pz_syntax.Classes.{ModelTree}
use Rattle.pz_classes_code.specs.Listed.{Listed}
use Rattle.pz_classes_rules.specs.Ancestors.{parent, ancestors}
use Rattle.pz_classes.specs.declared.members.Members.{Members}
use Rattle.pz_classes.specs.declared.members.Lengths.{Lengths}
use Rattle.pz_classes.specs.declared.line.End.{End}
use Rattle.pz_classes.specs.devices.Inherited.{HasMembers}

-- the names of three lists
abbrev pub listed : Listed → Listed → Listed → Members
listed fields variables ports = record { fields = fields.names; variables = variables.names; ports = ports.names }

-- so many of the first of a line
abbrev pub front : Lengths → Members → Members
front n line = record { fields = take n.fields line.fields; variables = take n.variables line.variables; ports = take n.ports line.ports }

-- how many there are
abbrev pub lengths : Members → Lengths
lengths line = record { fields = length line.fields; variables = length line.variables; ports = length line.ports }

-- so many, and so many more
abbrev pub total : Lengths → Lengths → Lengths
total above own = record { fields = above.fields + own.fields; variables = above.variables + own.variables; ports = above.ports + own.ports }

-- these, and behind them those
abbrev pub behind : Members → Members → Members
behind above own = record { fields = above.fields ++ own.fields; variables = above.variables ++ own.variables; ports = above.ports ++ own.ports }

-- the line has as many
pub record AreWithin (n : Lengths) (line : Members) : Type 0 where
  pub fields : n.fields ≤ length line.fields
  pub variables : n.variables ≤ length line.variables
  pub ports : n.ports ≤ length line.ports

-- a class of the model has the names of the line up to its end, so many of which are from above
pub record IsEnd (m : ModelTree) (above : Lengths) (line : Members) (e : End) : Type 0 where
  pub within : AreWithin (total above e.lengths) line
  pub below : e.class < suc (length m.decls)
  pub has : HasMembers m (ancestors m e.class) (front (total above e.lengths) line)

-- what the class of this number inherits
abbrev pub Inherits : ModelTree → ℕ → Members → Type 0
Inherits m c above = HasMembers m (option_map_or (ancestors m) (parent m c) []) above

abbrev pub classes_of : List End → List ℕ
classes_of ends = map (λ e. e.class) ends

-- The line begins with this class, and behind what that inherits each class of the line has its
-- names up to its end.
pub record IsLine (m : ModelTree) (first : ℕ) (own : Members) (ends : List End) : Type 0 where
  pub begins : Contains (classes_of ends) first
  pub each : (above : Members) → Inherits m first above → All (IsEnd m (lengths above) (behind above own)) ends

-- the same of a line that ends with this class
pub record IsLineTo (m : ModelTree) (first : ℕ) (own : Members) (ends : List End) (last : ℕ) : Type 0 where
  pub is : IsLine m first own ends
  pub below : last < suc (length m.decls)
  pub has : (above : Members) → Inherits m first above → HasMembers m (ancestors m last) (behind above own)

-- what is kept of a class, if something is
abbrev pub kept : List (Option Members) → ℕ → Option Members
kept table c = option_and_then (λ o. o) (slice_get table c)

-- there is a place for each class of the model, Array included, and what is kept of one it has
pub record IsTable (m : ModelTree) (table : List (Option Members)) : Type 0 where
  pub counted : length table ≡ suc (length m.decls)
  pub has : (c : ℕ) (x : Members) → kept table c ≡ Some x → HasMembers m (ancestors m c) x

-- what is kept of the class that is extended, and else this
abbrev pub kept_above : List (Option Members) → Members → Option ℕ → Members
kept_above table root parent = unwrap_or (option_and_then (kept table) parent) root

-- what was kept before is, and something of these classes
pub record Fills (m : ModelTree) (classes : List ℕ) (old new : List (Option Members)) : Type 0 where
  pub table : IsTable m new
  pub still : (c : ℕ) → IsSome (kept old c) → IsSome (kept new c)
  pub each : (c : ℕ) → Contains classes c → IsSome (kept new c)
