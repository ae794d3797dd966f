-- What is made for one line of a script is what the environment's class has for it.
use Rattle.std.proofs.Common.{◌≡◌, refl, ap, List, [], ◌∷◌, map}
use Rattle.pz_syntax.specs.declared.tokens.Pos.{Pos}
use Rattle.pz_syntax.specs.Expressions.{more}
use Rattle.pz_syntax.specs.ExpressionView.{list_of}
use Rattle.pz_classes_code.specs.pz_value.declared.value.Value.{Value}
use Rattle.pz_env_tree.specs.EnvironmentClass.{literals}
use Rattle.pz_env.specs.devices.Making.{constant_at}

pub constants_are : (at : Pos) (vs : List Value) → list_of (map (constant_at at) vs) ≡ literals at vs
constants_are at [] = refl
constants_are at (v ∷ vs) = ap (more (constant_at at v)) (constants_are at vs)
