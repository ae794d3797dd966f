-- In a sound model no more levels stand in one another than there are classes: what is deeper holds itself.
use Rattle.std.proofs.Common.{◌≡◌, refl, sym, ap, ◌∙◌, ℕ, zero, suc, ◌+◌, ◌<◌, ◌≤◌, List, [], ◌∷◌, ◌++◌, length, Option, Some, arith}
use Rattle.std.specs.List.{Contains}
use Rattle.std.specs.Option.{option_map_or}
use Rattle.pz_env_mimics.specs.pz_syntax.declared.clusters.Instance.{Instance}
use Rattle.pz_env_mimics.specs.pz_syntax.Classes.{DeclTree, ModelTree}
use Rattle.pz_env_mimics.specs.pz_classes_rules.Numbers.{declaration}
use Rattle.pz_env_mimics.specs.pz_classes_rules.Instances.{instances}
use Rattle.pz_env_mimics.specs.pz_classes_rules.InstanceRules.{Holds, directly}
use Rattle.pz_env_mimics.specs.pz_classes_rules.SoundSystem.{SystemFits}
use Rattle.pz_bind_levels.specs.Places.{Address}
use Rattle.pz_env_mimics.specs.pz_bind_rules.Nest.{each_instance, instances_in, class_of, with_inside, inside}
use Rattle.pz_env_grown.proofs.Elements.{first_in, later_in}
use Rattle.pz_env_grown.proofs.Numbers.{none_some, declared_within}
use Rattle.pz_env_grown.proofs.Alike.{IsDeclared}
use Rattle.pz_env_grown.proofs.Paths.{IsPart, part_of, IsPath, short, further, one_held}
use Rattle.pz_env_joined.proofs.Instances.{instance_known, class_of_is}

module _ (m : ModelTree) (fits : SystemFits m) where
  -- so many levels of what a class holds are as many as some others
  abbrev AreAlike : ℕ → ℕ → ℕ → Type 0
  AreAlike k l c = (b : ℕ) → IsPart m b → Holds m c b → (up : Address) → inside m k b up ≡ inside m l b up

  module _ (c : ℕ) (d : DeclTree) (is : declaration m c ≡ Some d) (k l : ℕ) (below : AreAlike k l c) where
    walk : (xs : List Instance) → ((x : Instance) → Contains xs x → Contains (instances d) x) → (up : Address) (i : ℕ)
        → each_instance (with_inside m (inside m k) up) i xs ≡ each_instance (with_inside m (inside m l) up) i xs
    walk [] among up i = refl
    walk (x ∷ xs) among up i =
        let at = among x (first_in x xs) in
        let known = instance_known m fits c d x is at in
        let eq : class_of m x ≡ known.0 = class_of_is m x known.0 known.1 in
        let here = below known.0 (part_of m x.class.name known.0 known.1) (directly c known.0 d x is at known.1) (i ∷ up) in
        ap (λ (b : ℕ). (i ∷ up) ∷ (inside m k b (i ∷ up) ++ each_instance (with_inside m (inside m k) up) (suc i) xs)) eq
        ∙ ap (λ (ps : List Address). (i ∷ up) ∷ (ps ++ each_instance (with_inside m (inside m k) up) (suc i) xs)) here
        ∙ ap (λ (ps : List Address). (i ∷ up) ∷ (inside m l known.0 (i ∷ up) ++ ps)) (walk xs (λ y there. among y (later_in x xs y there)) up (suc i))
        ∙ sym (ap (λ (b : ℕ). (i ∷ up) ∷ (inside m l b (i ∷ up) ++ each_instance (with_inside m (inside m l) up) (suc i) xs)) eq)

    in_this : instances_in m c ≡ instances d
    in_this = ap (λ (o : Option DeclTree). option_map_or instances o []) is

    one_level : (up : Address) → inside m (suc k) c up ≡ inside m (suc l) c up
    one_level up =
        ap (each_instance (with_inside m (inside m k) up) 0) in_this
        ∙ walk (instances d) (λ x at. at) up 0
        ∙ sym (ap (each_instance (with_inside m (inside m l) up) 0) in_this)

  stays : (l : ℕ) (path : List ℕ) (b : ℕ) → IsPath m fits path b → IsPart m b → length m.decls ≤ length path + l → (k : ℕ) → l ≤ k
      → (up : Address) → inside m k b up ≡ inside m l b up
  stays zero path b is part long k low up = let few = short m fits path b is part in absurd (omega (arith, few, long))
  stays (suc l) path b is part long zero low up = absurd (omega (arith, low))
  stays (suc l) path b is part long (suc k) low up =
      one_level b part.decl part.declared k l (λ c inner holds. stays l (b ∷ path) c (further m fits path b c is part holds) inner (omega (arith, long)) k (omega (arith, low))) up

  pub no_deeper : (c : ℕ) → IsDeclared m c → (k : ℕ) → length m.decls ≤ k → (up : Address) → inside m k c up ≡ inside m (length m.decls) c up
  no_deeper zero (d, at) k low up = absurd (none_some d at)
  no_deeper (suc c) (d, at) k low up = by (length m.decls) refl k low
    where
      high : suc c < suc (length m.decls)
      high = declared_within m (suc c) d at

      by : (l : ℕ) → length m.decls ≡ l → (j : ℕ) → l ≤ j → inside m j (suc c) up ≡ inside m l (suc c) up
      by zero is j more = absurd (omega (arith, high, is))
      by (suc l) is zero more = absurd (omega (arith, more))
      by (suc l) is (suc j) more =
          one_level (suc c) d at j l (λ b part holds. stays l (suc c ∷ []) b (one_held m fits (suc c) b d at holds) part (omega (arith, is)) j (omega (arith, more))) up
