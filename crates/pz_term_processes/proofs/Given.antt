-- What parameters are given has no references.
use Rattle.std.proofs.Common.{ℕ, List, [], ◌∷◌, Bool, true, false, Option, Some, None}
use Rattle.std.specs.Prelude.{if◌then◌else◌, map, slice_index_or}
use Rattle.std.proofs.lemmas.List.Elements.{All-map}
use Rattle.std.specs.List.{All}
use Rattle.std.specs.Option.{option_map_or, unwrap_or}
use Rattle.std.specs.Str.{bytes_eq}
use Rattle.pz_classes_code.specs.pz_syntax.declared.exprs.Literal.{Literal}
use Rattle.pz_classes_code.specs.pz_syntax.declared.exprs.Literal.TheVariants as literal
use Rattle.pz_classes_code.specs.pz_syntax.declared.clusters.Arg.{Arg}
use Rattle.pz_classes_code.specs.pz_syntax.declared.clusters.Arg.TheVariants.{Plain, Negated, Parameter}
use Rattle.pz_classes_code.specs.pz_syntax.declared.clusters.Given.{Given}
use Rattle.pz_classes_code.specs.pz_syntax.declared.clusters.Instance.{Instance}
use Rattle.pz_classes_code.specs.pz_syntax.Classes.{ModelTree}
use Rattle.pz_classes_code.specs.pz_value.declared.value.Value.{Value}
use Rattle.pz_classes_code.specs.pz_value.declared.value.Value.TheVariants.{Nil}
use Rattle.pz_rules.specs.pz_state.References.{RefersWithin}
use Rattle.pz_rules.specs.pz_classes_rules.Members.{variables, spelled}
use Rattle.pz_bind_levels.specs.Places.{Address}
use Rattle.pz_classes_code.specs.Literals.{constant}
use Rattle.pz_rules.specs.pz_bind_rules.Nest.{class_at, instance_at}
use Rattle.pz_rules.specs.pz_bind_rules.Values.{argument_value, given_value, parameter_at, values_at}

module _ (count : ℕ) where
  abbrev IsPlain : Value → Type 0
  IsPlain v = RefersWithin count v

  literal_plain : (l : Literal) → IsPlain (constant l)
  literal_plain (literal.Int n) = tt
  literal_plain literal.Float = tt
  literal_plain (literal.Char c) = tt
  literal_plain (literal.Str text) = tt
  literal_plain literal.True = tt
  literal_plain literal.False = tt
  literal_plain literal.Nil = tt

  abbrev ArePlain : (List ℕ → Value) → Type 0
  ArePlain outer = (name : List ℕ) → IsPlain (outer name)

  argument_plain : (outer : List ℕ → Value) → ArePlain outer → (a : Arg) → IsPlain (argument_value outer a)
  argument_plain outer h (Plain l pos) = literal_plain l
  argument_plain outer h (Negated n pos) = tt
  argument_plain outer h (Parameter x) = h x.name

  given_plain : (outer : List ℕ → Value) → ArePlain outer → (gs : List Given) → ArePlain (given_value outer gs)
  given_plain outer h [] name = tt
  given_plain outer h (g ∷ gs) name = by (bytes_eq name g.name.name) (given_plain outer h gs name)
    where
      by : (b : Bool) → IsPlain (given_value outer gs name) → IsPlain (if b then argument_value outer g.arg else given_value outer gs name)
      by true later = argument_plain outer h g.arg
      by false later = later

  module _ (m : ModelTree) where
    parameter_plain : (place : Address) → ArePlain (parameter_at m place)
    parameter_plain [] name = tt
    parameter_plain (i ∷ up) name = by (instance_at m up i) (parameter_plain up)
      where
        by : (x : Option Instance) → ArePlain (parameter_at m up) → IsPlain (option_map_or (λ y. given_value (parameter_at m up) (unwrap_or y.given []) name) x Nil)
        by None around = tt
        by (Some x) around = given_plain (parameter_at m up) around (unwrap_or x.given []) name

    all_plain : (place : Address) (names : List (List ℕ)) → All IsPlain (map (parameter_at m place) names)
    all_plain place names = All-map IsPlain (parameter_at m place) names (λ k d within. parameter_plain place (slice_index_or names k d))

    pub values_plain : (place : Address) → All IsPlain (values_at m place)
    values_plain place = all_plain place (spelled (variables m (class_at m place)))
