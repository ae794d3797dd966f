-- What stood in a system has the path, the parameters and the values that it had.
use Rattle.std.proofs.Common.{◌≡◌, refl, sym, ap, ◌∙◌, ℕ, Bool, true, false, List, [], ◌∷◌, ◌++◌, map, Option}
use Rattle.std.specs.Prelude.{codes, if◌then◌else◌}
use Rattle.std.specs.Option.{option_map_or, unwrap_or}
use Rattle.std.specs.Str.{bytes_eq}
use Rattle.pz_env_mimics.specs.pz_syntax.declared.clusters.Instance.{Instance}
use Rattle.pz_env_mimics.specs.pz_syntax.declared.clusters.Arg.{Arg}
use Rattle.pz_env_mimics.specs.pz_syntax.declared.clusters.Arg.TheVariants.{Plain, Negated, Parameter}
use Rattle.pz_env_mimics.specs.pz_syntax.declared.clusters.Given.{Given}
use Rattle.pz_env_mimics.specs.pz_syntax.declared.names.Id.{Id}
use Rattle.pz_env_mimics.specs.pz_syntax.Classes.{ModelTree}
use Rattle.pz_env_mimics.specs.pz_value.declared.value.Value.{Value}
use Rattle.pz_env_mimics.specs.pz_value.declared.value.Value.TheVariants.{Nil}
use Rattle.pz_env_mimics.specs.pz_classes_rules.Members.{variables, spelled}
use Rattle.pz_env_mimics.specs.pz_classes_rules.Reached.{AncestorsAreReached}
use Rattle.pz_env_mimics.specs.pz_classes_rules.Soundness.{IsSound}
use Rattle.pz_env_mimics.specs.pz_classes_rules.SoundSystem.{SystemFits}
use Rattle.pz_bind_levels.specs.Places.{Address}
use Rattle.pz_env_mimics.specs.pz_bind_rules.Nest.{system_class, instances_in, class_at, instance_at}
use Rattle.pz_env_mimics.specs.pz_bind_rules.Names.{name_at, path}
use Rattle.pz_env_mimics.specs.pz_bind_rules.Values.{argument_value, given_value, parameter_at, values_at}
use Rattle.pz_env_grown.specs.Growth.{Grown}
use Rattle.pz_env_joined.proofs.Members.{variables_same}
use Rattle.pz_env_joined.proofs.Places.{Stands, inside_of, class_at_same, instance_kept, declared_at}

argument_same : (f g : List ℕ → Value) → ((name : List ℕ) → f name ≡ g name) → (a : Arg) → argument_value f a ≡ argument_value g a
argument_same f g alike (Plain l pos) = refl
argument_same f g alike (Negated k pos) = refl
argument_same f g alike (Parameter x) = alike x.name

given_same : (f g : List ℕ → Value) → ((name : List ℕ) → f name ≡ g name) → (gs : List Given) (name : List ℕ)
    → given_value f gs name ≡ given_value g gs name
given_same f g alike [] name = refl
given_same f g alike (x ∷ xs) name = by (bytes_eq name x.name.name) (given_same f g alike xs name)
  where
    by : (b : Bool) → given_value f xs name ≡ given_value g xs name
        → (if b then argument_value f x.arg else given_value f xs name) ≡ (if b then argument_value g x.arg else given_value g xs name)
    by true rest = argument_same f g alike x.arg
    by false rest = rest

map_alike : {A B : Type 0} (f g : A → B) → ((x : A) → f x ≡ g x) → (xs : List A) → map f xs ≡ map g xs
map_alike f g alike [] = refl
map_alike {A} {B} f g alike (x ∷ xs) = ap (λ (y : B). y ∷ map f xs) (alike x) ∙ ap (λ (ys : List B). g x ∷ ys) (map_alike f g alike xs)

module _ (m n : ModelTree) (fits : SystemFits m) (grown : Grown m n) (more : List Instance) (there : instances_in n (system_class m) ≡ instances_in m (system_class m) ++ more) where
  pub instance_same : (i : ℕ) (up : Address) → Stands m (i ∷ up) → instance_at m up i ≡ instance_at n up i
  instance_same _ _ (inside_of up i x s at) = at ∙ sym (instance_kept m n fits grown more there up s i x at)

  pub name_same : (i : ℕ) (up : Address) → Stands m (i ∷ up) → name_at m up i ≡ name_at n up i
  name_same i up s = ap (λ (o : Option Instance). option_map_or (λ x. x.name.name) o []) (instance_same i up s)

  pub path_same : (p : Address) → Stands m p → path m p ≡ path n p
  path_same [] s = refl
  path_same (i ∷ []) s = name_same i [] s
  path_same (i ∷ j ∷ up) (inside_of _ _ x s at) =
      ap (λ (front : List ℕ). front ++ (codes "." ++ name_at m (j ∷ up) i)) (path_same (j ∷ up) s)
      ∙ ap (λ (name : List ℕ). path n (j ∷ up) ++ (codes "." ++ name)) (name_same i (j ∷ up) (inside_of (j ∷ up) i x s at))

  parameter_same : (p : Address) → Stands m p → (name : List ℕ) → parameter_at m p name ≡ parameter_at n p name
  parameter_same [] s name = refl
  parameter_same (i ∷ up) (inside_of _ _ x s at) name =
      ap (λ (o : Option Instance). option_map_or (λ y. given_value (parameter_at m up) (unwrap_or y.given []) name) o Nil) at
      ∙ given_same (parameter_at m up) (parameter_at n up) (parameter_same up s) (unwrap_or x.given []) name
      ∙ sym (ap (λ (o : Option Instance). option_map_or (λ y. given_value (parameter_at n up) (unwrap_or y.given []) name) o Nil) (instance_kept m n fits grown more there up s i x at))

  pub values_same : AncestorsAreReached → IsSound m → (p : Address) → Stands m p → values_at m p ≡ values_at n p
  values_same reached sound p s =
      map_alike (parameter_at m p) (parameter_at n p) (parameter_same p s) (spelled (variables m (class_at m p)))
      ∙ ap (λ (vs : List Id). map (parameter_at n p) (spelled vs)) (variables_same m n reached sound grown (class_at m p) (declared_at m fits p s))
      ∙ ap (λ (c : ℕ). map (parameter_at n p) (spelled (variables n c))) (class_at_same m n fits grown more there p s)
