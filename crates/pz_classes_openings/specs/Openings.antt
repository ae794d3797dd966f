-- What opens where a method opens: a plain call opens at once, as the body of the method that is
-- called. Which one that is depends on the class of the process.
use Rattle.std.specs.Prelude.{◌≡◌, ℕ, zero, suc, ◌+◌, List, Option, Some, Contains}
use Rattle.std.specs.Option.{option_map_or}
use Rattle.std.specs.List.{sum_by}
use Rattle.pz_classes_rules.specs.pz_syntax.declared.names.Id.{Id}
use Rattle.pz_classes_rules.specs.pz_syntax.Classes.{ModelTree}
use Rattle.pz_classes_rules.specs.declared.method_id.MethodId.{MethodId}
use Rattle.pz_classes_rules.specs.Methods.{Signature, method_id, method_with, process_method}
use Rattle.pz_classes_beginnings.specs.Beginning.{begun_all, all_plain_calls, statements_in_all}
use Rattle.pz_classes_openings.specs.Methods.{body_at}

-- the plain calls with which method k begins, all plain calls in its body, and how many statements
-- its body has
abbrev pub begun_at : ModelTree → ℕ → List Id
begun_at m k = begun_all (body_at m k)

abbrev pub calls_at : ModelTree → ℕ → List Id
calls_at m k = all_plain_calls (body_at m k)

abbrev pub statements_at : ModelTree → ℕ → ℕ
statements_at m k = statements_in_all (body_at m k)

-- look-up finds method k for class c
abbrev pub HasMethod : ModelTree → ℕ → ℕ → Type 0
HasMethod m c k = (s : Signature) × (method_with m c s ≡ Some (method_id k))

-- the method that a plain call of this name means in class c
abbrev pub called : ModelTree → ℕ → Id → Option MethodId
called m c x = process_method m c x.name 0 0

-- In class c method k leads to itself, to the methods with which it begins, to those with which they
-- begin, and so on.
pub data Leads (m : ModelTree) (c k : ℕ) : ℕ → Type 0 where
  itself : Leads m c k k
  further : (n l : ℕ) (x : Id) → Leads m c k n → Contains (begun_at m n) x → called m c x ≡ Some (method_id l) → Leads m c k l

-- as many as the called method has
abbrev pub of_called : (ℕ → ℕ) → Option MethodId → ℕ
of_called count method = option_map_or (λ n. count n.0) method 0

-- How many statements method k opens as in class c: those of its body, and those as which the calls
-- with which it begins open, each call counted. Calls are followed so many methods deep; where no
-- method begins with itself, the count stands still once that is as many as there are.
abbrev pub opened_to : ModelTree → ℕ → ℕ → ℕ → ℕ
opened_to m c zero k = 0
opened_to m c (suc depth) k = statements_at m k + sum_by (λ x. of_called (opened_to m c depth) (called m c x)) (begun_at m k)

-- The same where all plain calls of the body open: as many as ever open at once out of it.
abbrev pub spread_to : ModelTree → ℕ → ℕ → ℕ → ℕ
spread_to m c depth k = statements_at m k + sum_by (λ x. of_called (opened_to m c depth) (called m c x)) (calls_at m k)
