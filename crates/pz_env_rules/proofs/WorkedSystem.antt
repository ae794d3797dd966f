-- The system and the script of a worked run:
--
--   process class R
--   ports i
--   messages i?m(Integer)
--   variables x : Integer
--   init a()()
--   methods a()() i?m(x | x > 2); delay 1
--   system instances r : R
use Rattle.std.specs.Prelude.{ℕ, pos, false, List, [], ◌∷◌, Option, Some, None, codes}
use Rattle.pz_trace.specs.pz_syntax.declared.tokens.Pos.{Pos}
use Rattle.pz_trace.specs.pz_syntax.declared.tokens.Symbol.TheVariants.{Greater}
use Rattle.pz_trace.specs.pz_syntax.declared.names.Id.{Id}
use Rattle.pz_trace.specs.pz_syntax.declared.clusters.Channel.{Channel}
use Rattle.pz_trace.specs.pz_syntax.declared.clusters.Instance.{Instance}
use Rattle.pz_trace.specs.pz_syntax.declared.exprs.Literal.TheVariants as literal
use Rattle.pz_trace.specs.pz_syntax.Expressions as expression
use Rattle.pz_trace.specs.pz_syntax.Expressions.{variable, chain, none, left_out, no_links, link}
use Rattle.pz_trace.specs.pz_syntax.Statements.{delay, receive, no_statements, then}
use Rattle.pz_trace.specs.pz_syntax.Classes.{process_class, system, DeclTree, ModelTree}
use Rattle.pz_trace.specs.pz_value.declared.value.Value.TheVariants.{Int}
use Rattle.pz_trace.specs.pz_rules.declared.limits.Edition.TheVariants.{Two}
use Rattle.pz_trace.specs.pz_rules.declared.limits.Limits.{Limits}
use Rattle.pz_env_script.specs.declared.entry.Entry.{Entry}
use Rattle.pz_env_script.specs.declared.entry.Transfer.{Transfer}
use Rattle.pz_env_script.specs.declared.entry.Transfer.TheVariants.{Send}

abbrev pub at : ℕ → ℕ → Pos
at line column = record { line = line; column = column }

abbrev pub id : List ℕ → ℕ → ℕ → Id
id name line column = record { name = name; pos = at line column }

abbrev pub entry : ℕ → List ℕ → List ℕ → Transfer → Entry
entry wait instance port transfer =
    record { wait = pos wait; instance = instance; port = port; message = codes "m"; transfer = transfer }

abbrev pub instance_r : Instance
instance_r = record { name = id (codes "r") 7 18; class = id (codes "R") 7 22; given = None }

abbrev pub system_of : List Instance → Option (List Channel) → DeclTree
system_of instances channels = system (record { pos = at 7 1; instances = Some instances; channels = channels })

abbrev pub class_R : DeclTree
class_R = process_class (record {
  name = id (codes "R") 1 15;
  parameters = None;
  parent = None;
  ports = Some (id (codes "i") 2 7 ∷ []);
  messages = Some (record { port = id (codes "i") 3 10; out = false; name = id (codes "m") 3 12; types = Some (id (codes "Integer") 3 14 ∷ []) } ∷ []);
  variables = Some (record { names = id (codes "x") 4 11 ∷ []; kind = id (codes "Integer") 4 15 } ∷ []);
  start = Some (record { method = id (codes "a") 5 6; args = none });
  methods = Some (record {
    name = id (codes "a") 6 9;
    inputs = [];
    outputs = [];
    locals = None;
    body = (then)
        (receive (at 6 15) (id (codes "i") 6 15) (id (codes "m") 6 17) (Some (id (codes "x") 6 19 ∷ [])) (Some (chain (at 6 23) (variable (at 6 23) (id (codes "x") 6 23)) (link Greater (at 6 25) (expression.literal (at 6 27) (literal.Int (pos 2))) no_links))) left_out)
        ((then) (delay (at 6 31) (expression.literal (at 6 37) (literal.Int (pos 1)))) no_statements);
  } ∷ []);
})

abbrev pub model : ModelTree
model = record { decls = class_R ∷ system_of (instance_r ∷ []) None ∷ [] }

abbrev pub limits : Limits
limits = record { units = 100000; depth = 20000; height = 100; edition = Two }

-- `2 send r i m 3`
abbrev pub script : List Entry
script = entry 2 (codes "r") (codes "i") (Send (Int (pos 3) ∷ [])) ∷ []
