-- The rules on what an instance is given, and on clusters in clusters.
use Rattle.std.specs.Prelude.{◌≡◌, ◌⊎◌, ℕ, Bool, false, ◌&&◌, nat_eq, List, [], map, Some, Contains, IsTrue}
use Rattle.std.specs.Option.{unwrap_or}
use Rattle.std.specs.Str.{bytes_eq}
use Rattle.std.specs.List.{list_any, list_all, count_by}
use Rattle.pz_classes_code.specs.pz_syntax.declared.clusters.Instance.{Instance}
use Rattle.pz_classes_code.specs.pz_syntax.Classes.{DeclTree, ModelTree}
use Rattle.pz_check_violations.specs.declared.violation.Violation.{Violation}
use Rattle.pz_check_violations.specs.Order.{violation}
use Rattle.pz_classes_rules.specs.Numbers.{declaration}
use Rattle.pz_classes_rules.specs.Members.{spelled}
use Rattle.pz_classes_rules.specs.Kinds.{is_cluster}
use Rattle.pz_classes_rules.specs.Instances.{instances, instance_class, parameters}

-- the names that an instance gives
abbrev pub given_names : Instance → List (List ℕ)
given_names i = map (λ g. g.name.name) (unwrap_or i.given [])

-- each parameter is given once, and nothing else is
abbrev pub gives_each : List (List ℕ) → List (List ℕ) → Bool
gives_each given wanted = list_all (λ x. nat_eq (count_by (bytes_eq x) given) 1) wanted && list_all (λ x. list_any (bytes_eq x) wanted) given

-- C14: an instance gives the parameters of its class, in any order
pub data BreaksC14 (m : ModelTree) : Violation → Type 0 where
  ill_given : (c k : ℕ) (d : DeclTree) (i : Instance) → declaration m c ≡ Some d → Contains (instances d) i
      → instance_class m i.class.name ≡ Some k → gives_each (given_names i) (spelled (parameters m k)) ≡ false
      → BreaksC14 m (violation 14 i.name.pos)

-- an instance of class k stands in the class c, or in one that stands in it
pub data Holds (m : ModelTree) : ℕ → ℕ → Type 0 where
  directly : (c k : ℕ) (d : DeclTree) (i : Instance) → declaration m c ≡ Some d → Contains (instances d) i
      → instance_class m i.class.name ≡ Some k → Holds m c k
  through : (c b k : ℕ) → Holds m c b → Holds m b k → Holds m c k

-- C15: a cluster class does not hold itself. Refused is each of its instances by which it does.
pub data BreaksC15 (m : ModelTree) : Violation → Type 0 where
  holds_itself : (c k : ℕ) (d : DeclTree) (i : Instance) → declaration m c ≡ Some d → IsTrue (is_cluster d)
      → Contains (instances d) i → instance_class m i.class.name ≡ Some k → (k ≡ c) ⊎ Holds m k c
      → BreaksC15 m (violation 15 i.class.pos)
