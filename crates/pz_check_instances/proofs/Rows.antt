-- A small model: what its instances give, and where its channels end.
use Rattle.std.proofs.Common.{◌≡◌, refl, ℕ, List, [], ◌∷◌, map, nat_eq, cond, Option, Some, None, codes}
use Rattle.pz_classes_code.specs.pz_syntax.declared.names.Id.{Id}
use Rattle.pz_classes_code.specs.pz_syntax.declared.classes.VarGroup.{VarGroup}
use Rattle.pz_classes_code.specs.pz_syntax.declared.clusters.Arg.TheVariants.{Parameter}
use Rattle.pz_classes_code.specs.pz_syntax.declared.clusters.Instance.{Instance}
use Rattle.pz_classes_code.specs.pz_syntax.declared.clusters.Channel.{Channel}
use Rattle.pz_classes_code.specs.pz_syntax.declared.clusters.ChannelEnd.{ChannelEnd}
use Rattle.pz_classes_code.specs.pz_syntax.declared.clusters.ChannelEnd.TheVariants.{Inner, Outer}
use Rattle.pz_classes_code.specs.pz_syntax.Classes.{DeclTree, process_class, cluster_class, system, ModelTree}
use Rattle.pz_classes_lineage.specs.declared.visit.Visit.{Visit}
use Rattle.pz_classes.specs.pz_check_violations.Order.{violation}
use Rattle.pz_check_instances.specs.devices.Given.{all_given}
use Rattle.pz_check_instances.specs.devices.Ends.{missing_ends}

-- a name in this line, in column 1
abbrev id : ℕ → List ℕ → Id
id line name = record { name = name; pos = record { line = line; column = 1 } }

abbrev group : List (List ℕ) → List VarGroup
group names = record { names = map (id 9) names; kind = id 9 (codes "Integer") } ∷ []

abbrev process : List ℕ → Option (List ℕ) → List (List ℕ) → List (List ℕ) → DeclTree
process name parent parameters ports = process_class (record {
  name = id 9 name;
  parameters = Some (group parameters);
  parent = elim parent [ None ↦ None | Some p ↦ Some (id 9 p) ];
  ports = Some (map (id 9) ports);
  messages = None;
  variables = None;
  start = None;
  methods = None;
})

-- in this line, with these names given
abbrev instance : ℕ → List ℕ → List ℕ → List (List ℕ) → Instance
instance line name class given = record {
  name = id line name;
  class = id line class;
  given = Some (map (λ g. record { name = id 9 g; arg = Parameter (id 9 g) }) given);
}

-- in this line
abbrev inner : ℕ → List ℕ → List ℕ → ChannelEnd
inner line name port = Inner (id line name) (id 9 port)

abbrev outer : ℕ → List ℕ → ChannelEnd
outer line port = Outer (id line port)

abbrev channel : List ChannelEnd → Channel
channel ends = record { pos = record { line = 9; column = 1 }; ends = ends }

-- Q inherits the parameter a and the port in from P
abbrev model : ModelTree
model = record {
  decls =
      process (codes "Q") (Some (codes "P")) (codes "b" ∷ []) (codes "out" ∷ []) ∷
      process (codes "P") None (codes "a" ∷ []) (codes "in" ∷ []) ∷
      cluster_class (record {
        name = id 9 (codes "K");
        parameters = None;
        ports = Some (id 9 (codes "k") ∷ []);
        instances = Some (
            instance 10 (codes "r") (codes "Q") (codes "b" ∷ codes "a" ∷ []) ∷
            instance 11 (codes "s") (codes "Q") (codes "b" ∷ []) ∷
            instance 12 (codes "t") (codes "Q") (codes "a" ∷ codes "b" ∷ codes "a" ∷ []) ∷
            instance 13 (codes "u") (codes "Q") (codes "a" ∷ codes "b" ∷ codes "c" ∷ []) ∷
            instance 14 (codes "v") (codes "Z") (codes "a" ∷ []) ∷ []);
        channels = Some (
            channel (inner 20 (codes "r") (codes "in") ∷ inner 21 (codes "s") (codes "out") ∷ outer 22 (codes "k") ∷ []) ∷
            channel (inner 23 (codes "r") (codes "k") ∷ inner 24 (codes "w") (codes "in") ∷ outer 25 (codes "in") ∷ inner 26 (codes "v") (codes "in") ∷ []) ∷ []);
      }) ∷
      system (record {
        pos = record { line = 9; column = 1 };
        instances = Some (instance 15 (codes "x") (codes "K") [] ∷ instance 16 (codes "y") (codes "P") [] ∷ []);
        channels = Some (channel (inner 27 (codes "x") (codes "k") ∷ outer 28 (codes "k") ∷ []) ∷ []);
      }) ∷ [];
}

-- Array, P and then Q, which extends it, K and the system
abbrev visits : List Visit
visits = map (λ c. record { class = c; depth = cond (nat_eq c 1) 1 0 }) (0 ∷ 2 ∷ 1 ∷ 3 ∷ 4 ∷ [])

-- a parameter that is not given, one given twice, one that is none; nothing of an unknown class
ill_given : all_given model visits
    ≡ violation 14 (record { line = 16; column = 1 }) ∷ violation 14 (record { line = 11; column = 1 })
    ∷ violation 14 (record { line = 12; column = 1 }) ∷ violation 14 (record { line = 13; column = 1 }) ∷ []
ill_given = refl

-- no such instance, and a port of the system; no such port, and no such port of the cluster
missing : missing_ends model visits
    ≡ violation 16 (record { line = 24; column = 1 }) ∷ violation 16 (record { line = 28; column = 1 })
    ∷ violation 16 (record { line = 23; column = 1 }) ∷ violation 16 (record { line = 25; column = 1 }) ∷ []
missing = refl
