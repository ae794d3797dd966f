-- How deep the constructs of a model that nest stand one in another.
use Rattle.std.specs.Prelude.{ℕ, max, List, [], ◌∷◌, Option, Some, None}
use Rattle.pz_syntax.specs.ExpressionNesting as expression
use Rattle.pz_syntax.specs.StatementNesting as statement
use Rattle.pz_syntax.specs.Classes.{DataMethodTree, DataClassTree, StartTree, ProcessMethodTree, ProcessClassTree, DeclTree, data_class, process_class, cluster_class, system, ModelTree}

abbrev pub greatest : {A : Type 0} → (A → ℕ) → List A → ℕ
greatest nesting_of [] = 0
greatest nesting_of (x ∷ xs) = max (nesting_of x) (greatest nesting_of xs)

-- of what may be left out
abbrev pub optional_nesting : {A : Type 0} → (A → ℕ) → Option A → ℕ
optional_nesting nesting_of None = 0
optional_nesting nesting_of (Some x) = nesting_of x

abbrev pub data_method_nesting : DataMethodTree → ℕ
data_method_nesting m = expression.nestings m.body

abbrev pub data_class_nesting : DataClassTree → ℕ
data_class_nesting c = optional_nesting (greatest data_method_nesting) c.methods

abbrev pub start_nesting : StartTree → ℕ
start_nesting c = expression.nestings c.args

abbrev pub process_method_nesting : ProcessMethodTree → ℕ
process_method_nesting m = statement.nestings m.body

abbrev pub process_class_nesting : ProcessClassTree → ℕ
process_class_nesting c = max (optional_nesting start_nesting c.start) (optional_nesting (greatest process_method_nesting) c.methods)

abbrev pub decl_nesting : DeclTree → ℕ
decl_nesting (data_class c) = data_class_nesting c
decl_nesting (process_class c) = process_class_nesting c
decl_nesting (cluster_class c) = 0
decl_nesting (system d) = 0

abbrev pub nesting : ModelTree → ℕ
nesting m = greatest decl_nesting m.decls
