-- Small models: what is refused in them, and how large they are.
use Rattle.std.proofs.Common.{◌≡◌, refl, ℕ, List, [], ◌∷◌, Some, None, codes}
use Rattle.pz_classes.specs.pz_syntax.declared.tokens.Pos.{Pos}
use Rattle.pz_classes.specs.pz_syntax.declared.names.Id.{Id}
use Rattle.pz_classes.specs.pz_syntax.declared.clusters.Instance.{Instance}
use Rattle.pz_classes.specs.pz_syntax.declared.clusters.Channel.{Channel}
use Rattle.pz_classes.specs.pz_syntax.declared.clusters.SystemDecl.{SystemDecl}
use Rattle.pz_classes.specs.pz_syntax.Classes.{DeclTree, process_class, cluster_class, system, ModelTree}
use Rattle.pz_check_violations.specs.Order.{violation}
use Rattle.pz_classes.specs.pz_classes_rules.SizeRules.{system_size}
use Rattle.pz_check_size.specs.devices.Nodes.{nodes}
use Rattle.pz_check_size.specs.devices.LeadingBack.{back_among}

abbrev at : ℕ → ℕ → Pos
at line column = record { line = line; column = column }

abbrev id : ℕ → ℕ → List ℕ → Id
id line column name = record { name = name; pos = at line column }

-- in this line, its class in column 5
abbrev instance : ℕ → List ℕ → Instance
instance line class = record { name = id line 1 (codes "i"); class = id line 5 class; given = None }

abbrev channel : Channel
channel = record { pos = at 9 1; ends = [] }

abbrev process : List ℕ → DeclTree
process name = process_class (record { name = id 1 1 name; parameters = None; parent = None; ports = None; messages = None; variables = None; start = None; methods = None })

abbrev cluster : List ℕ → List Instance → List Channel → DeclTree
cluster name is cs = cluster_class (record { name = id 1 1 name; parameters = None; ports = None; instances = Some is; channels = Some cs })

abbrev system_at : ℕ → List Instance → List Channel → SystemDecl
system_at line is cs = record { pos = at line 1; instances = Some is; channels = Some cs }

-- two of D, each of a C and a process; a C is two processes and a channel
abbrev pairs : SystemDecl
pairs = system_at 1 (instance 2 (codes "D") ∷ instance 3 (codes "D") ∷ []) (channel ∷ [])

abbrev paired : ModelTree
paired = record {
  decls =
      system pairs ∷
      cluster (codes "D") (instance 4 (codes "C") ∷ instance 5 (codes "P") ∷ []) [] ∷
      cluster (codes "C") (instance 6 (codes "P") ∷ instance 7 (codes "P") ∷ []) (channel ∷ []) ∷
      process (codes "P") ∷ [];
}

paired_size : system_size paired pairs ≡ record { processes = 6; clusters = 4; channels = 3 }
paired_size = refl

-- each class has a number of its own
paired_is_sound : back_among (0 ∷ 4 ∷ 3 ∷ 2 ∷ 1 ∷ []) 0 (nodes paired) ≡ []
paired_is_sound = refl

-- A and B hold each other, and E itself; D and the system hold what is refused, and are not
abbrev rounds : ModelTree
rounds = record {
  decls =
      cluster (codes "A") (instance 2 (codes "B") ∷ []) [] ∷
      cluster (codes "B") (instance 3 (codes "P") ∷ instance 4 (codes "A") ∷ []) [] ∷
      process (codes "P") ∷
      cluster (codes "D") (instance 5 (codes "A") ∷ []) [] ∷
      cluster (codes "E") (instance 6 (codes "E") ∷ []) [] ∷
      system (system_at 7 (instance 8 (codes "E") ∷ []) []) ∷ [];
}

-- A and B, which stand behind Array, have one number
rounds_are_refused : back_among (0 ∷ 2 ∷ 2 ∷ 1 ∷ 5 ∷ 3 ∷ 4 ∷ []) 0 (nodes rounds) ≡ violation 15 (at 2 5) ∷ violation 15 (at 4 5) ∷ violation 15 (at 6 5) ∷ []
rounds_are_refused = refl
