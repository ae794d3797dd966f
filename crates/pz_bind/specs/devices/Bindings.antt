-- What the code keeps of what the parameters of an instance are given.
use Rattle.std.specs.Prelude.{ℕ, List, Option}
use Rattle.std.specs.Option.{option_map, unwrap_or}
use Rattle.std.specs.Int.{w64, int_wrapping_neg}
use Rattle.std.specs.Str.{bytes_eq}
use Rattle.indexmap.specs.IndexMap.{get_by}
use Rattle.pz_bind_rules.specs.pz_value.declared.value.Value.{Value}
use Rattle.pz_bind_rules.specs.pz_value.declared.value.Value.TheVariants.{Nil, Int}
use Rattle.pz_bind.specs.declared.bindings.Meaning.{Meaning}
use Rattle.pz_bind.specs.declared.bindings.Meaning.TheVariants.{Nothing, Plain, Negated}
use Rattle.pz_bind.specs.declared.bindings.Bindings.{Bindings}
use Rattle.pz_bind_rules.specs.pz_classes_code.Literals.{constant}

abbrev pub meaning_value : Meaning → Value
meaning_value Nothing = Nil
meaning_value (Plain l) = constant l.now
meaning_value (Negated n) = Int (int_wrapping_neg w64 n)

-- what the parameter of this name is given, if anything is
abbrev pub bound_in : Bindings → List ℕ → Option Value
bound_in b name = option_map meaning_value (get_by (λ k. bytes_eq name k.now) b.map)

-- the value of the parameter of this name
abbrev pub value_in : Bindings → List ℕ → Value
value_in b name = unwrap_or (bound_in b name) Nil
