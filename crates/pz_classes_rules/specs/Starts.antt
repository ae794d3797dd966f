-- The call with which a process starts: that of the `init` of the nearest ancestor that has one.
use Rattle.std.specs.Prelude.{ℕ, [], Option, None}
use Rattle.std.specs.Option.{option_map, option_and_then}
use Rattle.pz_classes_code.specs.pz_syntax.Classes.{DeclTree, process_class, StartTree, ModelTree}
use Rattle.pz_classes_code.specs.pz_syntax.Statements.{call}
use Rattle.pz_classes_code.specs.StepView.{Tree}
use Rattle.pz_classes_code.specs.Resolution.{resolved_all}
use Rattle.pz_classes_rules.specs.Numbers.{declaration}
use Rattle.pz_classes_rules.specs.Ancestors.{ancestors}
use Rattle.pz_classes_rules.specs.Methods.{nearest}
use Rattle.pz_classes_rules.specs.Bodies.{process_scope}

-- the `init` that a class itself declares
abbrev pub own_start : DeclTree → Option StartTree
own_start (process_class c) = c.start
own_start _ = None

-- The call that the `init` of class c names, without results, at the method's name. Its arguments
-- see the variables of c, and no locals.
abbrev pub start_call : ModelTree → ℕ → StartTree → Tree
start_call m c s = call s.method.pos s.method (resolved_all (process_scope m c []) s.args) []

-- the call of the `init` that a class itself declares
abbrev pub own_call : ModelTree → ℕ → Option Tree
own_call m c = option_map (start_call m c) (option_and_then own_start (declaration m c))

abbrev pub init : ModelTree → ℕ → Option Tree
init m c = nearest (own_call m) (ancestors m c)
