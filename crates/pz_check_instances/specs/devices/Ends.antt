-- The violations of C16 as a list, as a device of the proofs: the ends that lack what they need in
-- any case, and then those whose port is none of their class, class by class.
use Rattle.std.specs.Prelude.{ℕ, suc, Bool, true, false, not, nat_eq, List, [], ◌∷◌, ◌++◌, Option, Some, None, if◌then◌else◌}
use Rattle.std.specs.List.{flat_map}
use Rattle.std.specs.Str.{bytes_eq}
use Rattle.pz_classes_code.specs.pz_syntax.declared.tokens.Pos.{Pos}
use Rattle.pz_classes_code.specs.pz_syntax.declared.clusters.Instance.{Instance}
use Rattle.pz_classes_code.specs.pz_syntax.declared.clusters.ChannelEnd.{ChannelEnd}
use Rattle.pz_classes_code.specs.pz_syntax.declared.clusters.ChannelEnd.TheVariants.{Inner, Outer}
use Rattle.pz_classes_code.specs.pz_syntax.Classes.{DeclTree, ModelTree}
use Rattle.pz_classes_lineage.specs.declared.visit.Visit.{Visit}
use Rattle.pz_classes.specs.pz_check_violations.declared.violation.Violation.{Violation}
use Rattle.pz_classes.specs.pz_check_violations.Order.{violation}
use Rattle.pz_classes.specs.pz_check_violations.Least.{listed}
use Rattle.pz_classes.specs.pz_classes_rules.Members.{ports}
use Rattle.pz_classes.specs.pz_classes_rules.Words.{is_among}
use Rattle.pz_classes.specs.pz_classes_rules.ChannelRules.{ends, end_place}
use Rattle.pz_check_instances.specs.declared.needs.Need.{Need}
use Rattle.pz_check_instances.specs.declared.needs.Need.TheVariants.{Nothing, Port, Missing}
use Rattle.pz_check_instances.specs.devices.Needs.{need}
use Rattle.pz_check_instances.specs.devices.NameSets.{has_name}

-- the place of the first of these instances that has the name; the first one is at n
abbrev pub place_named : ℕ → List Instance → List ℕ → Option ℕ
place_named n [] name = None
place_named n (i ∷ is) name = if bytes_eq name i.name.name then Some n else place_named (suc n) is name

-- a port that is asked for, and where
pub record Wanted : Type 0 where
  pub port : List ℕ
  pub place : Pos

abbrev pub end_port : ChannelEnd → List ℕ
end_port (Inner i port) = port.name
end_port (Outer port) = port.name

abbrev pub is_missing : Need → Bool
is_missing Nothing = false
is_missing (Port c) = false
is_missing Missing = true

-- it needs a port of this class
abbrev pub is_port_of : Need → ℕ → Bool
is_port_of Nothing k = false
is_port_of (Port c) k = nat_eq c k
is_port_of Missing k = false

abbrev pub missing_at : ModelTree → ℕ → DeclTree → ChannelEnd → List Violation
missing_at m c d e = listed (is_missing (need m c d e)) (violation 16 (end_place e))

abbrev pub wanted_at : ModelTree → ℕ → ℕ → DeclTree → ChannelEnd → List Wanted
wanted_at m k c d e = if is_port_of (need m c d e) k then record { port = end_port e; place = end_place e } ∷ [] else []

-- what each end of these declarations gives, of which the first is number n
abbrev pub over : {X : Type 0} → (ℕ → DeclTree → ChannelEnd → List X) → ℕ → List DeclTree → List X
over f n [] = []
over f n (d ∷ ds) = flat_map (f n d) (ends d) ++ over f (suc n) ds

-- the violation at an end that wants a port which is none of these names
abbrev pub absent : List (List ℕ) → Wanted → List Violation
absent names w = listed (not (has_name names w.port)) (violation 16 w.place)

abbrev pub absent_of : ModelTree → ℕ → Wanted → List Violation
absent_of m k w = listed (not (is_among (ports m k) w.port)) (violation 16 w.place)

-- the ports that ends want of this class, and that it lacks
abbrev pub absent_in : ModelTree → ℕ → List Violation
absent_in m k = flat_map (absent_of m k) (over (wanted_at m k) 1 m.decls)

abbrev pub missing_ends : ModelTree → List Visit → List Violation
missing_ends m visits = over (missing_at m) 1 m.decls ++ flat_map (λ v. absent_in m v.class) visits
