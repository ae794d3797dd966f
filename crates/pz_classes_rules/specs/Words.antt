-- The words of a model that rules speak of, each with the class and the part it stands in.
use Rattle.std.specs.Prelude.{◌≡◌, ℕ, Bool, List, Some, Contains}
use Rattle.std.specs.Str.{bytes_eq}
use Rattle.std.specs.List.{list_any}
use Rattle.pz_classes_code.specs.pz_syntax.declared.tokens.Pos.{Pos}
use Rattle.pz_classes_code.specs.pz_syntax.declared.names.Id.{Id}
use Rattle.pz_classes_code.specs.pz_syntax.Classes.{DeclTree, ModelTree}
use Rattle.pz_classes_mentions.specs.declared.mention.Mention.{Mention}
use Rattle.pz_classes_mentions.specs.declared.mention.Mention.TheVariants.{Declared, Extended, Typed, Variable, Created, Selector, Called, Port, Sent, Received, Instantiated, Clock, Me, Return, Float}
use Rattle.pz_classes_mentions.specs.declared.local_scope.LocalScope.{LocalScope}
use Rattle.pz_classes_mentions.specs.Declarations.{parts}
use Rattle.pz_classes_rules.specs.Numbers.{declaration}

-- the part of the class c, which is declared as d, mentions x
pub record Mentions (m : ModelTree) (c : ℕ) (d : DeclTree) (part : LocalScope) (x : Mention) : Type 0 where
  pub declared : declaration m c ≡ Some d
  pub part_of : Contains (parts d) part
  pub mentioned : Contains part.mentions x

-- where the word stands
abbrev pub place : Mention → Pos
place (Declared x) = x.pos
place (Extended x) = x.pos
place (Typed x) = x.pos
place (Variable x) = x.pos
place (Created x) = x.pos
place (Selector name count) = name.pos
place (Called name inputs outputs) = name.pos
place (Port x) = x.pos
place (Sent port name count) = name.pos
place (Received port name count) = name.pos
place (Instantiated x) = x.pos
place (Clock pos) = pos
place (Me pos) = pos
place (Return pos) = pos
place (Float pos) = pos

-- one of these has the name
abbrev pub is_among : List Id → List ℕ → Bool
is_among ids name = list_any (λ x. bytes_eq name x.name) ids
