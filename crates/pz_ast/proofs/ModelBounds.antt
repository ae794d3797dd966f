-- The text of a model has at least as many marks as constructs stand one in another.
use Rattle.std.proofs.Common.{ℕ, ◌≤◌, List, [], ◌∷◌, length, length-append, Option, Some, None, arith}
use Rattle.pz_syntax.specs.declared.tokens.Symbol.TheVariants as s
use Rattle.pz_syntax.specs.declared.tokens.Keyword.{Keyword}
use Rattle.pz_syntax.specs.declared.tokens.Keyword.TheVariants as k
use Rattle.pz_syntax.specs.declared.tokens.Mark.{Mark}
use Rattle.pz_syntax.specs.Marks.{each_text, section}
use Rattle.pz_syntax.specs.Classes.{DataMethodTree, DataClassTree, StartTree, ProcessMethodTree, ProcessClassTree, DeclTree, data_class, process_class, cluster_class, system, ModelTree}
use Rattle.pz_syntax.specs.ClassText.{data_method_text, data_class_text, start_text, process_method_text, process_class_text}
use Rattle.pz_syntax.specs.ModelText.{decl_text, text}
use Rattle.pz_syntax.specs.ModelNesting.{greatest, optional_nesting, data_method_nesting, data_class_nesting, start_nesting, process_method_nesting, process_class_nesting, decl_nesting, nesting}
use Rattle.pz_ast.proofs.ExpressionBounds.{expressions_bound}
use Rattle.pz_ast.proofs.StatementBounds.{statements_bound}

each_bound : {A : Type 0} (nesting_of : A → ℕ) (text_of : A → List Mark) → ((x : A) → nesting_of x ≤ length (text_of x)) → (xs : List A) → greatest nesting_of xs ≤ length (each_text text_of xs)
each_bound nesting_of text_of bound [] = omega arith
each_bound nesting_of text_of bound (x ∷ xs) = simp length-append (omega (arith, bound x, each_bound nesting_of text_of bound xs))

section_bound : {A : Type 0} (begin : Keyword) (nesting_of : A → ℕ) (text_of : A → List Mark) → ((x : A) → nesting_of x ≤ length (text_of x)) → (x : Option A) → optional_nesting nesting_of x ≤ length (section begin text_of x)
section_bound begin nesting_of text_of bound None = omega arith
section_bound begin nesting_of text_of bound (Some x) = omega (arith, bound x)

data_method_bound : (m : DataMethodTree) → data_method_nesting m ≤ length (data_method_text m)
data_method_bound m = simp length-append (omega (arith, expressions_bound s.Semicolon m.body))

data_class_bound : (c : DataClassTree) → data_class_nesting c ≤ length (data_class_text c)
data_class_bound c = simp length-append (omega (arith, section_bound k.Methods (greatest data_method_nesting) (each_text data_method_text) (each_bound data_method_nesting data_method_text data_method_bound) c.methods))

start_bound : (c : StartTree) → start_nesting c ≤ length (start_text c)
start_bound c = simp length-append (omega (arith, expressions_bound s.Comma c.args))

process_method_bound : (m : ProcessMethodTree) → process_method_nesting m ≤ length (process_method_text m)
process_method_bound m = simp length-append (omega (arith, statements_bound m.body))

process_class_bound : (c : ProcessClassTree) → process_class_nesting c ≤ length (process_class_text c)
process_class_bound c =
    simp length-append (omega (arith, section_bound k.Init start_nesting start_text start_bound c.start, section_bound k.Methods (greatest process_method_nesting) (each_text process_method_text) (each_bound process_method_nesting process_method_text process_method_bound) c.methods))

decl_bound : (d : DeclTree) → decl_nesting d ≤ length (decl_text d)
decl_bound (data_class c) = data_class_bound c
decl_bound (process_class c) = process_class_bound c
decl_bound (cluster_class c) = omega arith
decl_bound (system d) = omega arith

pub model_bound : (m : ModelTree) → nesting m ≤ length (text m)
model_bound m = each_bound decl_nesting decl_text decl_bound m.decls
