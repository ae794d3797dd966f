-- The text, the heads and the nesting of two models.
use Rattle.std.proofs.Common.{◌≡◌, refl, List, [], ◌∷◌, map, Option, pos, Some, None, codes}
use Rattle.pz_syntax.specs.declared.tokens.Symbol.TheVariants as s
use Rattle.pz_syntax.specs.declared.tokens.Keyword.TheVariants as k
use Rattle.pz_syntax.specs.declared.names.Id.{Id}
use Rattle.pz_syntax.specs.declared.classes.VarGroup.{VarGroup}
use Rattle.pz_syntax.specs.Marks.{symbol, keyword, word, head}
use Rattle.pz_syntax.specs.Expressions.{none, chain, link, no_links}
use Rattle.pz_syntax.specs.ExpressionErasure.{origin}
use Rattle.pz_syntax.specs.Statements.{Statements, Statement, skip, delay, assignment, parallel, guarded, no_statements, then, no_branches, branch}
use Rattle.pz_syntax.specs.Classes.{process_class, system, ModelTree}
use Rattle.pz_syntax.specs.ModelText.{text}
use Rattle.pz_syntax.specs.ModelNesting.{nesting}
use Rattle.pz_syntax.specs.Heads.{heads}
use Rattle.pz_ast.proofs.RowWords.{id, a, p, P, number, var, int}

-- process class P with these variables, init a()(), methods a()() with this body; system instances p : P
abbrev model : Option (List VarGroup) → Statements Id Id Id → ModelTree
model variables body = record {
  decls =
      process_class (record {
        name = P;
        parameters = None;
        parent = None;
        ports = None;
        messages = None;
        variables = variables;
        start = Some (record { method = a; args = none });
        methods = Some (record { name = a; inputs = []; outputs = []; locals = None; body = body } ∷ []);
      }) ∷
      system (record { pos = origin; instances = Some (record { name = p; class = P; given = None } ∷ []); channels = None }) ∷ [];
}

-- skip; delay 3; skip
abbrev first : ModelTree
first = model None (then (skip origin) (then (delay origin (int (pos 3))) (then (skip origin) no_statements)))

first_text : text first ≡ keyword k.Process ∷ keyword k.Class ∷ word P ∷ keyword k.Init ∷ head a ∷ symbol s.LeftParen ∷ symbol s.RightParen ∷ symbol s.LeftParen ∷ symbol s.RightParen ∷ keyword k.Methods ∷ head a ∷ symbol s.LeftParen ∷ symbol s.RightParen ∷ symbol s.LeftParen ∷ symbol s.RightParen ∷ keyword k.Skip ∷ symbol s.Semicolon ∷ keyword k.Delay ∷ number (pos 3) ∷ symbol s.Semicolon ∷ keyword k.Skip ∷ keyword k.System ∷ keyword k.Instances ∷ head p ∷ symbol s.Colon ∷ word P ∷ []
first_text = refl

first_heads : heads (map (λ x. x.kind) (text first)) ≡ map (λ x. x.head) (text first)
first_heads = refl

first_nesting : nesting first ≡ 0
first_nesting = refl

abbrev n : Id
n = id (codes "n")

-- n := 1
abbrev set : Statement Id Id Id
set = assignment origin n (int (pos 1))

-- par [n > 0] delay 5 and delay 2; n := 0; delay 3; n := 1 rap
abbrev both : Statement Id Id Id
both = parallel origin
    (branch (then (guarded origin (chain origin (var n) (link s.Greater origin (int (pos 0)) no_links)) (delay origin (int (pos 5)))) no_statements)
    (branch (then (delay origin (int (pos 2))) (then (assignment origin n (int (pos 0))) (then (delay origin (int (pos 3))) (then set no_statements)))) no_branches))

-- n := 1; par .. rap
abbrev guarded_delay : ModelTree
guarded_delay = model (Some (record { names = n ∷ []; kind = id (codes "Integer") } ∷ [])) (then set (then both no_statements))

guarded_heads : heads (map (λ x. x.kind) (text guarded_delay)) ≡ map (λ x. x.head) (text guarded_delay)
guarded_heads = refl

guarded_nesting : nesting guarded_delay ≡ 2
guarded_nesting = refl
