-- What may stand of a model, and a refusal, worked out from the definitions.
use Rattle.std.proofs.Common.{◌≡◌, ℕ, zero, suc, ◌≤◌, inl, inr, List, [], ◌∷◌, ◌++◌, take, None, Some, refl, arith, codes}
use Rattle.pz_syntax.specs.declared.tokens.Keyword.TheVariants as k
use Rattle.pz_syntax.specs.declared.tokens.Symbol.TheVariants as s
use Rattle.pz_syntax.specs.declared.tokens.Mark.{Mark}
use Rattle.pz_syntax.specs.declared.names.Id.{Id}
use Rattle.pz_syntax.specs.Marks.{keyword, symbol, word, head}
use Rattle.pz_syntax.specs.ExpressionErasure.{origin}
use Rattle.pz_syntax.specs.Expressions.{none}
use Rattle.pz_syntax.specs.Statements.{Statement, skip, call, then, no_statements}
use Rattle.pz_syntax.specs.Classes.{process_class, ModelTree}
use Rattle.pz_parser.specs.declared.error.ParseError.TheVariants.{Syntax}
use Rattle.pz_parser.specs.Cuts.{IsCut, Refuses}

abbrev named : List ℕ → Id
named spelled = record { name = spelled; pos = origin }

-- a process class `P` and nothing else
abbrev bare : ModelTree
bare = record { decls = process_class (record { name = named (codes "P"); parameters = None; parent = None; ports = None; messages = None; variables = None; start = None; methods = None }) ∷ [] }

process_cut : (n : ℕ) → n ≤ 1 → IsCut 100 (take n (keyword k.Process ∷ []))
process_cut zero le = (bare, (tt, ((tt, tt, tt, tt), tt)), inl (inl (keyword k.Process ∷ keyword k.Class ∷ word (named (codes "P")) ∷ [], refl)))
process_cut (suc zero) le = (bare, (tt, ((tt, tt, tt, tt), tt)), inl (inl (keyword k.Class ∷ word (named (codes "P")) ∷ [], refl)))
process_cut (suc (suc n)) le = absurd (omega (arith, le))

-- `process` alone is refused at the end
pub process_alone : Refuses 100 (record { mark = keyword k.Process; pos = record { line = 1; column = 1 } } ∷ []) (record { line = 1; column = 8 }) (Syntax (record { line = 1; column = 8 }))
process_alone = (1, (omega arith, process_cut, λ lt c. absurd (omega (arith, lt))), refl, λ depth lt c. absurd (omega (arith, lt)))

-- ---- the name of a call

-- with a method `a` that is this statement
abbrev with_method : Statement Id Id Id → ModelTree
with_method t = record { decls = process_class (record { name = named (codes "P"); parameters = None; parent = None; ports = None; messages = None; variables = None; start = None; methods = Some (record { name = named (codes "a"); inputs = []; outputs = []; locals = None; body = then t no_statements } ∷ []) }) ∷ [] }

abbrev before_statement : List Mark
before_statement = keyword k.Process ∷ keyword k.Class ∷ word (named (codes "P")) ∷ keyword k.Methods ∷ head (named (codes "a")) ∷ symbol s.LeftParen ∷ symbol s.RightParen ∷ symbol s.LeftParen ∷ symbol s.RightParen ∷ []

-- where nothing may nest, the name of a call stands, and its brackets do not
module _ (b : Id) where
  one_call : ModelTree
  one_call = with_method (call origin b none [])

  -- behind the parts that are whole
  pub name_stands : IsCut 0 (before_statement ++ head b ∷ [])
  unfolding one_call
  name_stands =
      let body : List Mark = head b ∷ [] in
      let outputs : List Mark = symbol s.LeftParen ∷ symbol s.RightParen ∷ body in
      let inputs : List Mark = symbol s.LeftParen ∷ symbol s.RightParen ∷ outputs in
      let method : List Mark = head (named (codes "a")) ∷ inputs in
      let rest : List Mark = keyword k.Methods ∷ method in
      let le : 0 ≤ 0 = omega arith in
      (one_call, (tt, ((tt, tt, tt, ((tt, tt, tt, (tt, tt)), tt)), tt)), inl (inr (rest, refl, le, inr (rest, refl, le, inr (rest, refl, le, inr (rest, refl, le, inr (rest, refl, le, inr (rest, refl, le, inr (rest, refl, le, inr (method, refl, le, inl (inr (inputs, refl, le, inr (outputs, refl, le, inr (body, refl, le, inr (body, refl, le, inl (inl ([], refl)))))))))))))))))
