-- The closed tree of a worked system, and scripts that are refused.
use Rattle.std.proofs.Common.{◌≡◌, refl, [], ◌∷◌, true, Some, None}
use Rattle.std.specs.Prelude.{codes, pos}
use Rattle.std.specs.Fmt.{digits}
use Rattle.pz_env_rules.specs.pz_syntax.declared.clusters.ChannelEnd.TheVariants.{Inner}
use Rattle.pz_env_rules.specs.pz_syntax.declared.exprs.Literal.TheVariants as literal
use Rattle.pz_env_rules.specs.pz_syntax.Expressions as expression
use Rattle.pz_env_rules.specs.pz_syntax.Expressions.{none, more, left_out, written}
use Rattle.pz_env_rules.specs.pz_syntax.Statements.{delay, send, no_statements, then}
use Rattle.pz_env_rules.specs.pz_syntax.Classes.{process_class, ModelTree}
use Rattle.pz_env_rules.specs.pz_value.declared.value.Value.TheVariants.{Int}
use Rattle.pz_env_rules.specs.pz_env_script.declared.entry.Transfer.TheVariants.{Send, Receive}
use Rattle.pz_env_rules.proofs.WorkedSystem.{at, id, entry, instance_r, system_of, class_R, model, script}
use Rattle.pz_env_tree.specs.ClosedTree.{closed_tree}
use Rattle.pz_env_tree.specs.Refusals.{IsFirstRefused}
use Rattle.pz_env_tree.specs.devices.Refused.{refused}
use Rattle.pz_env_tree.proofs.Refusing.{refused_is}

-- The class of the environment of `2 send r i m 3`, its instance, and the channel
one_line : closed_tree model script ≡ record {
  decls =
      class_R ∷
      system_of
      (instance_r ∷ record { name = id (codes "env") 1 1; class = id (codes "ScriptEnv") 1 1; given = None } ∷ [])
      (Some (record { pos = at 1 1; ends = Inner (id (codes "r") 1 1) (id (codes "i") 1 1) ∷ Inner (id (codes "env") 1 1) (id (codes "p0") 1 1) ∷ [] } ∷ [])) ∷
      process_class (record {
        name = id (codes "ScriptEnv") 1 1;
        parameters = None;
        parent = None;
        ports = Some (id (codes "p0") 1 1 ∷ []);
        messages = Some (record { port = id (codes "p0") 1 1; out = true; name = id (codes "m") 1 1; types = Some (id (codes "Integer") 1 1 ∷ []) } ∷ []);
        variables = Some (record { names = id (codes "x") 1 1 ∷ []; kind = id (codes "Integer") 1 1 } ∷ []);
        start = Some (record { method = id (codes "run") 1 1; args = none });
        methods = Some (record {
          name = id (codes "run") 1 1;
          inputs = [];
          outputs = [];
          locals = None;
          body = (then)
              (delay (at 1 1) (expression.literal (at 1 1) (literal.Int (pos 2))))
              ((then)
              (send (at 1 1) (id (codes "p0") 1 1) (id (codes "m") 1 1) (written (more (expression.literal (at 1 1) (literal.Int (pos 3))) none)) left_out)
              no_statements);
        } ∷ []);
      }) ∷
      [];
}
unfolding digits
one_line = refl

-- a port that is not there, an instance that is not there, and a second line
no_such_port : IsFirstRefused model (entry 0 (codes "r") (codes "j") (Receive 0) ∷ []) 1
no_such_port = refused_is model (entry 0 (codes "r") (codes "j") (Receive 0) ∷ []) 1 refl

no_such_instance : IsFirstRefused model (entry 0 (codes "q") (codes "i") (Send (Int (pos 3) ∷ [])) ∷ []) 1
no_such_instance = refused_is model (entry 0 (codes "q") (codes "i") (Send (Int (pos 3) ∷ [])) ∷ []) 1 refl

second_line : IsFirstRefused model (entry 0 (codes "r") (codes "i") (Send []) ∷ entry 1 (codes "r") (codes "r") (Send []) ∷ []) 2
second_line = refused_is model (entry 0 (codes "r") (codes "i") (Send []) ∷ entry 1 (codes "r") (codes "r") (Send []) ∷ []) 2 refl

not_refused : refused model script ≡ None
not_refused = refl

-- an end that is in a channel, though nothing else is in it
abbrev with_channel : ModelTree
with_channel =
    record { decls = class_R ∷ system_of (instance_r ∷ []) (Some (record { pos = at 7 24; ends = Inner (id (codes "r") 7 25) (id (codes "i") 7 27) ∷ [] } ∷ [])) ∷ [] }

in_a_channel : IsFirstRefused with_channel script 1
in_a_channel = refused_is with_channel script 1 refl

-- a system instance with the name of the environment: line 1, whatever the script says
abbrev with_instance : ModelTree
with_instance =
    record { decls = class_R ∷ system_of (instance_r ∷ record { name = id (codes "env") 7 24; class = id (codes "R") 7 30; given = None } ∷ []) None ∷ [] }

name_taken : IsFirstRefused with_instance script 1
name_taken = refused_is with_instance script 1 refl
