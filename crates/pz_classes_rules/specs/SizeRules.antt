-- The rules on the system: that there is one, and how large it may be.
use Rattle.std.specs.Prelude.{◌≡◌, ℕ, zero, suc, ◌+◌, Bool, true, ◌||◌, nat_lt, List, [], ◌∷◌, length, Contains, IsTrue}
use Rattle.std.specs.Option.{option_map_or}
use Rattle.std.specs.List.{flat_map}
use Rattle.pz_classes_code.specs.pz_syntax.declared.tokens.Pos.{Pos}
use Rattle.pz_classes_code.specs.pz_syntax.declared.clusters.Instance.{Instance}
use Rattle.pz_classes_code.specs.pz_syntax.declared.clusters.SystemDecl.{SystemDecl}
use Rattle.pz_classes_code.specs.pz_syntax.Classes.{DeclTree, data_class, process_class, cluster_class, system, ModelTree}
use Rattle.pz_check_violations.specs.declared.violation.Violation.{Violation}
use Rattle.pz_check_violations.specs.Order.{violation}
use Rattle.pz_classes_rules.specs.Numbers.{declaration}
use Rattle.pz_classes_rules.specs.Instances.{instances, channels, instance_class}
use Rattle.pz_classes_rules.specs.InstanceRules.{BreaksC15}
use Rattle.pz_classes_rules.specs.RepeatRules.{Repeats}
use Rattle.pz_classes_rules.specs.WordRules.{BreaksWord}

abbrev pub system_of : DeclTree → List SystemDecl
system_of (system s) = s ∷ []
system_of _ = []

abbrev pub systems : ModelTree → List SystemDecl
systems m = flat_map system_of m.decls

-- where nothing can be pointed at
abbrev pub text_start : Pos
text_start = record { line = 1; column = 1 }

-- C20: there is one system
pub data BreaksC20 (m : ModelTree) : Violation → Type 0 where
  again_system : (s : SystemDecl) → Repeats (λ x y. true) (λ x. x.pos) (systems m) s → BreaksC20 m (violation 20 s.pos)
  no_system : systems m ≡ [] → BreaksC20 m (violation 20 text_start)

-- what stands in a system once every cluster is replaced by what it holds
pub record Totals : Type 0 where
  pub processes : ℕ
  pub clusters : ℕ
  pub channels : ℕ

abbrev pub nothing : Totals
nothing = record { processes = 0; clusters = 0; channels = 0 }

abbrev pub plus : Totals → Totals → Totals
plus a b = record { processes = a.processes + b.processes; clusters = a.clusters + b.clusters; channels = a.channels + b.channels }

-- all these instances together, each counted by its class
abbrev pub all_of : ModelTree → (ℕ → Totals) → List Instance → Totals
all_of m count [] = nothing
all_of m count (i ∷ is) = plus (option_map_or count (instance_class m i.class.name) nothing) (all_of m count is)

-- one of what is declared, with all that it holds
abbrev pub one_of : ModelTree → (ℕ → Totals) → DeclTree → Totals
one_of m count (data_class c) = nothing
one_of m count (process_class c) = record { processes = 1; clusters = 0; channels = 0 }
one_of m count (cluster_class c) = plus (record { processes = 0; clusters = 1; channels = length (channels (cluster_class c)) }) (all_of m count (instances (cluster_class c)))
one_of m count (system s) = plus (record { processes = 0; clusters = 0; channels = length (channels (system s)) }) (all_of m count (instances (system s)))

-- one of the class of this number, down to so many levels
abbrev pub expanded : ModelTree → ℕ → ℕ → Totals
expanded m zero c = nothing
expanded m (suc levels) c = option_map_or (one_of m (expanded m levels)) (declaration m c) nothing

-- the expanded system: no deeper than there are declarations, where no cluster class holds itself
abbrev pub system_size : ModelTree → SystemDecl → Totals
system_size m s = one_of m (expanded m (length m.decls)) (system s)

abbrev pub is_too_large : Totals → Bool
is_too_large t = nat_lt 10000 t.processes || nat_lt 10000 t.clusters || nat_lt 1000000 t.channels

-- The rules without which there is no one expanded system to count: C13, C18, C15, C20.
pub data HasNoSize (m : ModelTree) : Type 0 where
  by_class : (pos : Pos) → BreaksWord m (violation 13 pos) → HasNoSize m
  by_name : (pos : Pos) → BreaksWord m (violation 18 pos) → HasNoSize m
  by_holding : (v : Violation) → BreaksC15 m v → HasNoSize m
  by_system : (v : Violation) → BreaksC20 m v → HasNoSize m

-- C19: the expanded system is not too large
pub data BreaksC19 (m : ModelTree) : Violation → Type 0 where
  too_large : (s : SystemDecl) → (HasNoSize m → ⊥) → Contains (systems m) s → IsTrue (is_too_large (system_size m s))
      → BreaksC19 m (violation 19 s.pos)
