-- Small models: who inherits what, and what is refused.
use Rattle.std.proofs.Common.{◌≡◌, refl, ℕ, ◌*◌, List, [], ◌∷◌, map, Option, Some, None, codes}
use Rattle.pz_classes_code.specs.pz_syntax.declared.names.Id.{Id}
use Rattle.pz_classes_code.specs.pz_syntax.declared.classes.VarGroup.{VarGroup}
use Rattle.pz_classes_code.specs.pz_syntax.Expressions.{none}
use Rattle.pz_classes_code.specs.pz_syntax.Classes.{DataMethodTree, ProcessMethodTree, DeclTree, data_class, process_class, ModelTree}
use Rattle.pz_classes_rules.specs.Numbers.{class}
use Rattle.pz_classes_rules.specs.Ancestors.{ancestors}
use Rattle.pz_classes_rules.specs.Members.{fields, variables, ports, spelled}
use Rattle.pz_classes_rules.specs.Methods.{method, method_id}
use Rattle.pz_check_violations.specs.Order.{violation}
use Rattle.pz_classes_rules.specs.devices.ViolationList.{violations}

-- a name in this line, in column 1
abbrev id : ℕ → List ℕ → Id
id line name = record { name = name; pos = record { line = line; column = 1 } }

-- declared together
abbrev group : List (List ℕ) → List VarGroup
group names = record { names = map (id 9) names; kind = id 9 (codes "Integer") } ∷ []

abbrev routine : List ℕ → List (List ℕ) → DataMethodTree
routine name inputs = record { name = id 9 name; inputs = Some (group inputs); result = id 9 (codes "Integer"); locals = None; body = none }

abbrev data_of : ℕ → List ℕ → Option (List ℕ) → List (List ℕ) → List DataMethodTree → DeclTree
data_of line name parent fields methods = data_class (record {
  name = id line name;
  parent = elim parent [ None ↦ None | Some p ↦ Some (id (line * 10) p) ];
  variables = Some (group fields);
  methods = Some methods;
})

abbrev process_of : ℕ → List ℕ → Option (List ℕ) → List (List ℕ) → List (List ℕ) → List (List ℕ) → List ProcessMethodTree → DeclTree
process_of line name parent parameters variables ports methods = process_class (record {
  name = id line name;
  parameters = Some (group parameters);
  parent = elim parent [ None ↦ None | Some p ↦ Some (id (line * 10) p) ];
  ports = Some (map (id 9) ports);
  messages = None;
  variables = Some (group variables);
  start = None;
  methods = Some methods;
})

-- three deep: the child stands above its parent
abbrev family : ModelTree
family = record {
  decls =
      data_of 1 (codes "C") (Some (codes "B")) (codes "z" ∷ []) (routine (codes "f") [] ∷ []) ∷
      data_of 2 (codes "A") (Some (codes "Object")) (codes "x" ∷ []) (routine (codes "f") [] ∷ routine (codes "f") (codes "n" ∷ []) ∷ routine (codes "g") [] ∷ []) ∷
      data_of 3 (codes "B") (Some (codes "A")) (codes "y" ∷ codes "x" ∷ []) (routine (codes "g") [] ∷ routine (codes "g") [] ∷ []) ∷ [];
}

family_is_sound : violations family ≡ []
family_is_sound = refl

family_classes : class family (codes "B") ≡ Some 3
family_classes = refl

no_such_class : class family (codes "D") ≡ None
no_such_class = refl

family_ancestors : ancestors family 1 ≡ 1 ∷ 3 ∷ 2 ∷ []
family_ancestors = refl

family_fields : spelled (fields family 1) ≡ codes "x" ∷ codes "y" ∷ codes "x" ∷ codes "z" ∷ []
family_fields = refl

own_f : method family 1 (codes "f") 0 ≡ Some (method_id 0)
own_f = refl

inherited_f : method family 1 (codes "f") 1 ≡ Some (method_id 2)
inherited_f = refl

first_g : method family 1 (codes "g") 0 ≡ Some (method_id 4)
first_g = refl

no_such_method : method family 1 (codes "g") 1 ≡ None
no_such_method = refl

-- parameters before variables, ancestors first
abbrev processes : ModelTree
processes = record {
  decls =
      process_of 1 (codes "P") None (codes "a" ∷ []) (codes "b" ∷ []) (codes "in" ∷ []) [] ∷
      process_of 2 (codes "Q") (Some (codes "P")) (codes "c" ∷ []) (codes "d" ∷ []) (codes "out" ∷ []) [] ∷ [];
}

process_variables : spelled (variables processes 2) ≡ codes "a" ∷ codes "b" ∷ codes "c" ∷ codes "d" ∷ []
process_variables = refl

process_ports : spelled (ports processes 2) ≡ codes "in" ∷ codes "out" ∷ []
process_ports = refl

-- declared again, a primitive's name, parents that are unknown, of another sort or primitive, one's
-- own parent, and a cycle, which only those who are on it violate
abbrev refused : ModelTree
refused = record {
  decls =
      data_of 1 (codes "A") (Some (codes "Z")) [] [] ∷
      data_of 2 (codes "A") None [] [] ∷
      data_of 3 (codes "Integer") None [] [] ∷
      process_of 4 (codes "P") (Some (codes "A")) [] [] [] [] ∷
      process_of 5 (codes "Q") (Some (codes "Object")) [] [] [] [] ∷
      data_of 6 (codes "S") (Some (codes "S")) [] [] ∷
      data_of 7 (codes "T") (Some (codes "U")) [] [] ∷
      data_of 8 (codes "U") (Some (codes "V")) [] [] ∷
      data_of 9 (codes "V") (Some (codes "U")) [] [] ∷
      data_of 10 (codes "W") (Some (codes "Integer")) [] [] ∷
      data_of 11 (codes "Real") (Some (codes "Float")) [] [] ∷
      data_of 12 (codes "Real") None [] [] ∷ [];
}

all_refused : violations refused
    ≡ violation 2 (record { line = 10; column = 1 }) ∷ violation 1 (record { line = 2; column = 1 })
    ∷ violation 1 (record { line = 3; column = 1 }) ∷ violation 2 (record { line = 40; column = 1 })
    ∷ violation 2 (record { line = 50; column = 1 }) ∷ violation 3 (record { line = 6; column = 1 })
    ∷ violation 3 (record { line = 8; column = 1 }) ∷ violation 3 (record { line = 9; column = 1 })
    ∷ violation 2 (record { line = 100; column = 1 }) ∷ []
all_refused = refl
