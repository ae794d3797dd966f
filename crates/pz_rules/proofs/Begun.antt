-- A process starts with a call without results.
use Rattle.std.proofs.Common.{◌≡◌, ℕ, List, [], ◌∷◌, Option, Some, None, subst}
use Rattle.std.specs.Option.{option_map, option_or, option_and_then}
use Rattle.pz_bind_rules.specs.pz_syntax.declared.tokens.Pos.{Pos}
use Rattle.pz_bind_rules.specs.pz_syntax.declared.names.Id.{Id}
use Rattle.pz_bind_rules.specs.pz_syntax.Statements.{call}
use Rattle.pz_bind_rules.specs.pz_syntax.Classes.{StartTree, ModelTree}
use Rattle.pz_bind_rules.specs.pz_classes_code.Resolution.{resolved_all}
use Rattle.pz_bind_rules.specs.pz_classes_rules.Numbers.{declaration}
use Rattle.pz_bind_rules.specs.pz_classes_rules.Ancestors.{ancestors}
use Rattle.pz_bind_rules.specs.pz_classes_rules.Methods.{nearest}
use Rattle.pz_bind_rules.specs.pz_classes_rules.Bodies.{process_scope}
use Rattle.pz_bind_rules.specs.pz_classes_rules.Starts.{own_start, start_call, own_call, init}
use Rattle.pz_rules.specs.Terms.{Codes, Step}

-- if there is one, it is so of it
abbrev IfThere : (Step → Type 0) → Option Step → Type 0
IfThere Q None = Unit {0}
IfThere Q (Some first) = Q first

module _ (m : ModelTree) where
  module _ (Q : Step → Type 0) (calls : (pos : Pos) (method : Id) (args : Codes) → Q (call pos method args [])) where
    called : (c : ℕ) (o : Option StartTree) → IfThere Q (option_map (start_call m c) o)
    called c None = tt
    called c (Some x) = calls x.method.pos x.method (resolved_all (process_scope m c []) x.args)

    either : (o r : Option Step) → IfThere Q o → IfThere Q r → IfThere Q (option_or o r)
    either None r h k = k
    either (Some first) r h k = h

    starts_of : (line : List ℕ) → IfThere Q (nearest (own_call m) line)
    starts_of [] = tt
    starts_of (c ∷ line) = either (own_call m c) (nearest (own_call m) line) (called c (option_and_then own_start (declaration m c))) (starts_of line)

    -- what holds of calls without results holds of it
    pub begins_with_call : (c : ℕ) (first : Step) → init m c ≡ Some first → Q first
    begins_with_call c first is = subst (IfThere Q) is (starts_of (ancestors m c))
