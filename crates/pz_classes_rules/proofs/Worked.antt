-- The rules at words of a small model, computed: what each refuses, and what comes near and stands.
use Rattle.std.proofs.Common.{◌≡◌, refl, ℕ, true, false, List, [], ◌∷◌, Some, None}
use Rattle.std.specs.Prelude.{codes}
use Rattle.pz_classes_code.specs.pz_syntax.declared.names.Id.{Id}
use Rattle.pz_classes_code.specs.pz_syntax.declared.classes.VarGroup.{VarGroup}
use Rattle.pz_classes_code.specs.pz_syntax.declared.classes.Message.{Message}
use Rattle.pz_classes_code.specs.pz_syntax.declared.clusters.SystemDecl.{SystemDecl}
use Rattle.pz_classes_code.specs.pz_syntax.declared.clusters.Instance.{Instance}
use Rattle.pz_classes_code.specs.pz_syntax.declared.clusters.Arg.TheVariants.{Parameter}
use Rattle.pz_classes_code.specs.pz_syntax.declared.clusters.ChannelEnd.TheVariants.{Inner, Outer}
use Rattle.pz_classes_code.specs.pz_syntax.Classes.{DeclTree, data_class, process_class, cluster_class, system, ModelTree}
use Rattle.pz_classes_code.specs.pz_syntax.Expressions.{none}
use Rattle.pz_classes_code.specs.pz_syntax.Statements.{no_statements}
use Rattle.pz_classes_mentions.specs.declared.mention.Mention.TheVariants as m
use Rattle.pz_classes_rules.specs.NameRules.{breaks_c5, breaks_c6, breaks_c12, breaks_c13, breaks_c18, breaks_c21, breaks_c22}
use Rattle.pz_classes_rules.specs.CallRules.{breaks_c7, breaks_c8, breaks_c9, breaks_c10, breaks_c11}
use Rattle.pz_classes_rules.specs.InstanceRules.{gives_each, given_names}
use Rattle.pz_classes_rules.specs.Instances.{parameters}
use Rattle.pz_classes_rules.specs.Members.{spelled}
use Rattle.pz_classes_rules.specs.ChannelRules.{breaks_c16}
use Rattle.pz_classes_rules.specs.SizeRules.{system_size}

abbrev name : List ℕ → Id
name bytes = record { name = bytes; pos = record { line = 1; column = 1 } }

abbrev integers : List ℕ → List VarGroup
integers x = record { names = name x ∷ []; kind = name (codes "Integer") } ∷ []

-- data class Box variables held : Integer methods put(x : Integer) : Integer ..
abbrev box : DeclTree
box = data_class (record {
  name = name (codes "Box");
  parent = None;
  variables = Some (integers (codes "held"));
  methods = Some (record { name = name (codes "fill"); inputs = Some (integers (codes "x")); result = name (codes "Integer"); locals = None; body = none } ∷ []);
})

abbrev sent : Message
sent = record { port = name (codes "port"); out = true; name = name (codes "item"); types = Some (name (codes "Integer") ∷ []) }

-- process class Base(size : Integer) ports port messages port!item(Integer) init start()() methods start()() ..
abbrev base : DeclTree
base = process_class (record {
  name = name (codes "Base");
  parameters = Some (integers (codes "size"));
  parent = None;
  ports = Some (name (codes "port") ∷ []);
  messages = Some (sent ∷ []);
  variables = None;
  start = Some (record { method = name (codes "start"); args = none });
  methods = Some (record { name = name (codes "start"); inputs = []; outputs = []; locals = None; body = no_statements } ∷ []);
})

-- process class Child extends Base
abbrev child : DeclTree
child = process_class (record {
  name = name (codes "Child");
  parameters = None;
  parent = Some (name (codes "Base"));
  ports = None;
  messages = None;
  variables = None;
  start = None;
  methods = None;
})

abbrev given : List ℕ → Instance
given x = record { name = name (codes "one"); class = name (codes "Child"); given = Some (record { name = name x; arg = Parameter (name (codes "k")) } ∷ []) }

-- cluster class Pair(k : Integer) ports outer instances one : Child(size := k) channels {one.port, outer}
abbrev pair : DeclTree
pair = cluster_class (record {
  name = name (codes "Pair");
  parameters = Some (integers (codes "k"));
  ports = Some (name (codes "outer") ∷ []);
  instances = Some (given (codes "size") ∷ []);
  channels = Some (record { pos = record { line = 1; column = 1 }; ends = Inner (name (codes "one")) (name (codes "port")) ∷ Outer (name (codes "outer")) ∷ [] } ∷ []);
})

abbrev clusters : SystemDecl
clusters = record {
  pos = record { line = 1; column = 1 };
  channels = None;
  instances = Some (record { name = name (codes "a"); class = name (codes "Pair"); given = None }
      ∷ record { name = name (codes "b"); class = name (codes "Pair"); given = None } ∷ []);
}

-- classes 1 to 4 and the system
abbrev model : ModelTree
model = record { decls = box ∷ base ∷ child ∷ pair ∷ system clusters ∷ [] }

a_data_class_is_a_type : breaks_c5 model (m.Typed (name (codes "Box"))) ≡ false
a_data_class_is_a_type = refl

a_process_class_is_no_type : breaks_c5 model (m.Typed (name (codes "Base"))) ≡ true
a_process_class_is_no_type = refl

a_class_left_out_is_refused_by_one_rule : breaks_c5 model (m.Typed (name (codes "Real"))) ≡ false
a_class_left_out_is_refused_by_one_rule = refl

it_is_this_rule : breaks_c18 (m.Typed (name (codes "Real"))) ≡ true
it_is_this_rule = refl

an_inherited_parameter_is_in_scope : breaks_c6 model 3 child [] (m.Variable (name (codes "size"))) ≡ false
an_inherited_parameter_is_in_scope = refl

a_field_is_in_no_process : breaks_c6 model 3 child [] (m.Variable (name (codes "held"))) ≡ true
a_field_is_in_no_process = refl

a_local_is_in_scope : breaks_c6 model 1 box (name (codes "x") ∷ []) (m.Variable (name (codes "x"))) ≡ false
a_local_is_in_scope = refl

a_method_is_inherited : breaks_c7 model 3 (m.Called (name (codes "start")) 0 0) ≡ false
a_method_is_inherited = refl

its_counts_matter : breaks_c7 model 3 (m.Called (name (codes "start")) 0 1) ≡ true
its_counts_matter = refl

a_selector_of_a_class : breaks_c8 model (m.Selector (name (codes "fill")) 1) ≡ false
a_selector_of_a_class = refl

with_another_count : breaks_c8 model (m.Selector (name (codes "fill")) 0) ≡ true
with_another_count = refl

a_selector_of_primitive_values : breaks_c8 model (m.Selector (name (codes "put")) 2) ≡ false
a_selector_of_primitive_values = refl

a_process_method_is_no_selector : breaks_c8 model (m.Selector (name (codes "start")) 0) ≡ true
a_process_method_is_no_selector = refl

a_port_is_inherited : breaks_c9 model 3 (m.Port (name (codes "port"))) ≡ false
a_port_is_inherited = refl

another_port : breaks_c9 model 3 (m.Port (name (codes "outer"))) ≡ true
another_port = refl

a_message_is_inherited : breaks_c10 model 3 (m.Sent (name (codes "port")) (name (codes "item")) 1) ≡ false
a_message_is_inherited = refl

its_direction_matters : breaks_c10 model 3 (m.Received (name (codes "port")) (name (codes "item")) 1) ≡ true
its_direction_matters = refl

the_first_call_is_inherited : breaks_c11 model 3 child (m.Declared (name (codes "Child"))) ≡ false
the_first_call_is_inherited = refl

an_array_may_be_created : breaks_c12 model (m.Created (name (codes "Array"))) ≡ false
an_array_may_be_created = refl

an_integer_may_not : breaks_c12 model (m.Created (name (codes "Integer"))) ≡ true
an_integer_may_not = refl

a_cluster_class_has_instances : breaks_c13 model (m.Instantiated (name (codes "Pair"))) ≡ false
a_cluster_class_has_instances = refl

a_data_class_has_none : breaks_c13 model (m.Instantiated (name (codes "Box"))) ≡ true
a_data_class_has_none = refl

an_inherited_parameter_is_given : gives_each (given_names (given (codes "size"))) (spelled (parameters model 3)) ≡ true
an_inherited_parameter_is_given = refl

another_is_not : gives_each (given_names (given (codes "k"))) (spelled (parameters model 3)) ≡ false
another_is_not = refl

an_end_at_an_inherited_port : breaks_c16 model 4 pair (Inner (name (codes "one")) (name (codes "port"))) ≡ false
an_end_at_an_inherited_port = refl

an_end_at_no_port : breaks_c16 model 4 pair (Outer (name (codes "port"))) ≡ true
an_end_at_no_port = refl

each_cluster_counts : system_size model clusters ≡ record { processes = 2; clusters = 2; channels = 2 }
each_cluster_counts = refl

time_in_a_data_class : breaks_c21 box (m.Clock (record { line = 1; column = 1 })) ≡ true
time_in_a_data_class = refl

self_in_a_process_class : breaks_c22 base (m.Me (record { line = 1; column = 1 })) ≡ true
self_in_a_process_class = refl
