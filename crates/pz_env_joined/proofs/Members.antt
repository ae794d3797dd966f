-- What classes have of their ancestors is the same in what has grown out of a sound model: the fields of each
-- number, and of the classes that there were the variables and ports.
use Rattle.std.proofs.Common.{◌≡◌, refl, ap, ◌∙◌, subst, ℕ, zero, suc, ◌<◌, List, [], ◌∷◌, ◌++◌, length, Option, Some, None, arith}
use Rattle.std.specs.Prelude.{slice_index_or}
use Rattle.std.specs.List.{Contains}
use Rattle.std.specs.Option.{option_map_or, option_or}
use Rattle.pz_env_mimics.specs.pz_syntax.declared.names.Id.{Id}
use Rattle.pz_env_mimics.specs.pz_syntax.declared.clusters.SystemDecl.{SystemDecl}
use Rattle.pz_env_mimics.specs.pz_syntax.Classes.{DeclTree, system, ModelTree}
use Rattle.pz_env_mimics.specs.pz_classes_rules.Numbers.{declaration}
use Rattle.pz_env_mimics.specs.pz_classes_rules.Ancestors.{parent, followed, ancestors}
use Rattle.pz_env_mimics.specs.pz_classes_rules.Members.{own_fields, own_variables, own_ports, from_root, fields, variables, ports}
use Rattle.pz_env_mimics.specs.pz_classes_rules.Methods.{nearest}
use Rattle.pz_env_mimics.specs.pz_classes_rules.Reached.{AncestorsAreReached}
use Rattle.pz_env_mimics.specs.pz_classes_rules.Soundness.{IsSound}
use Rattle.pz_env_grown.specs.Growth.{Grown}
use Rattle.pz_env_grown.proofs.Elements.{first_in, later_in}
use Rattle.pz_env_grown.proofs.Alike.{of_both, IsDeclared, of_declared}
use Rattle.pz_env_grown.proofs.Parents.{parent_declared}
use Rattle.pz_env_grown.proofs.Kept.{ancestors_same}

-- what some classes have, where each has the same of its own
pub from_root_same : (own : DeclTree → List Id) (m n : ModelTree) (line : List ℕ)
    → ((a : ℕ) → Contains line a → option_map_or own (declaration m a) [] ≡ option_map_or own (declaration n a) [])
    → from_root own m line ≡ from_root own n line
from_root_same own m n [] each = refl
from_root_same own m n (c ∷ line) each =
    ap (λ (xs : List Id). xs ++ option_map_or own (declaration m c) []) (from_root_same own m n line (λ a at. each a (later_in c line a at)))
    ∙ ap (λ (xs : List Id). from_root own n line ++ xs) (each c (first_in c line))

pub nearest_same : {A : Type 0} (f g : ℕ → Option A) (line : List ℕ) → ((a : ℕ) → Contains line a → f a ≡ g a) → nearest f line ≡ nearest g line
nearest_same f g [] each = refl
nearest_same {A} f g (c ∷ line) each =
    ap (λ (o : Option A). option_or o (nearest f line)) (each c (first_in c line))
    ∙ ap (option_or (g c)) (nearest_same f g line (λ a at. each a (later_in c line a at)))

module _ (m : ModelTree) (sound : IsSound m) where
  -- the ancestors of a class are classes
  pub line_declared : (k c : ℕ) → IsDeclared m c → (a : ℕ) → Contains (followed (parent m) k c) a → IsDeclared m a
  line_declared zero c is a (i, low, at) = absurd (omega (arith, low))
  line_declared (suc k) c is a (zero, low, at) = subst (IsDeclared m) at is
  line_declared (suc k) c is a (suc i, low, at) = by (parent m c) refl (line_declared k) low at
    where
      by : (o : Option ℕ) → parent m c ≡ o
          → ((p : ℕ) → IsDeclared m p → (b : ℕ) → Contains (followed (parent m) k p) b → IsDeclared m b)
          → suc i < suc (length (option_map_or (followed (parent m) k) o []))
          → slice_index_or (c ∷ option_map_or (followed (parent m) k) o []) (suc i) a ≡ a → IsDeclared m a
      by None up rest below there = absurd (omega (arith, below))
      by (Some p) up rest below there = rest p (parent_declared m c p up) a (i, omega (arith, below), there)

module _ (m n : ModelTree) (reached : AncestorsAreReached) (sound : IsSound m) (grown : Grown m n) where
  pub line_same : (c : ℕ) → ancestors m c ≡ ancestors n c
  line_same c = ancestors_same m n sound reached grown c

  pub fields_same : (c : ℕ) → fields m c ≡ fields n c
  fields_same c =
      from_root_same own_fields m n (ancestors m c) (λ a at. of_both own_fields [] (λ s t. refl) (λ p. refl) (declaration m a) (declaration n a) (grown.at a))
      ∙ ap (from_root own_fields n) (line_same c)

  inherited_same : (own : DeclTree → List Id) → ((s t : SystemDecl) → own (system s) ≡ own (system t)) → (c : ℕ) → IsDeclared m c
      → from_root own m (ancestors m c) ≡ from_root own n (ancestors n c)
  inherited_same own still c is =
      from_root_same own m n (ancestors m c) (λ a at. of_declared own [] still m n grown a (line_declared m sound (suc (length m.decls)) c is a at))
      ∙ ap (from_root own n) (line_same c)

  pub variables_same : (c : ℕ) → IsDeclared m c → variables m c ≡ variables n c
  variables_same c is = inherited_same own_variables (λ s t. refl) c is

  pub ports_same : (c : ℕ) → IsDeclared m c → ports m c ≡ ports n c
  ports_same c is = inherited_same own_ports (λ s t. refl) c is
