-- Classes that hold one another: where none holds itself, one more level than there are classes
-- holds nothing more.
use Rattle.std.proofs.Common.{◌≡◌, refl, sym, ap, ap₂, ◌∙◌, ℕ, zero, suc, ◌+◌, ◌≤◌, List, [], ◌∷◌, length, Option, Some, None, arith}
use Rattle.std.specs.List.{Contains}
use Rattle.std.specs.Option.{option_map_or}
use Rattle.pz_env_tree.specs.pz_syntax.declared.clusters.Instance.{Instance}
use Rattle.pz_env_tree.specs.pz_syntax.Classes.{DeclTree, data_class, process_class, cluster_class, system, ModelTree}
use Rattle.pz_env_tree.specs.pz_classes_rules.Instances.{instances, channels, instance_class}
use Rattle.pz_env_tree.specs.pz_classes_rules.InstanceRules.{directly}
use Rattle.pz_env_tree.specs.pz_classes_rules.SizeRules.{Totals, nothing, plus, all_of, one_of, expanded}
use Rattle.pz_env_tree.specs.pz_classes_rules.SoundSystem.{SystemFits}
use Rattle.pz_env_grown.proofs.Elements.{first_in, later_in}
use Rattle.pz_env_grown.proofs.Paths.{IsPart, part_of, IsPath, short, further, no_path}

-- the totals of instances that are counted alike
pub all_alike : (m n : ModelTree) (g h : ℕ → Totals) (xs : List Instance)
    → ((j : Instance) → Contains xs j → option_map_or g (instance_class m j.class.name) nothing ≡ option_map_or h (instance_class n j.class.name) nothing) → all_of m g xs ≡ all_of n h xs
all_alike m n g h [] each = refl
all_alike m n g h (x ∷ xs) each = ap₂ (λ (a b : Totals). plus a b) (each x (first_in x xs)) (all_alike m n g h xs (λ j has. each j (later_in x xs j has)))

module _ (m : ModelTree) (fits : SystemFits m) where
  one_alike : (g h : ℕ → Totals) (d : DeclTree)
      → ((j : Instance) → Contains (instances d) j → option_map_or g (instance_class m j.class.name) nothing ≡ option_map_or h (instance_class m j.class.name) nothing)
      → one_of m g d ≡ one_of m h d
  one_alike g h (data_class c) each = refl
  one_alike g h (process_class c) each = refl
  one_alike g h (cluster_class c) each =
      ap (plus (record { processes = 0; clusters = 1; channels = length (channels (cluster_class c)) })) (all_alike m m g h (instances (cluster_class c)) each)
  one_alike g h (system s) each =
      ap (plus (record { processes = 0; clusters = 0; channels = length (channels (system s)) })) (all_alike m m g h (instances (system s)) each)

  stays : (k : ℕ) (path : List ℕ) (b : ℕ) → IsPath m fits path b → IsPart m b → length m.decls ≤ length path + k → (l : ℕ) → k ≤ l
      → expanded m (suc l) b ≡ expanded m l b
  stays zero path b is part long l low = let few = short m fits path b is part in absurd (omega (arith, few, long))
  stays (suc k) path b is part long zero low = absurd (omega (arith, low))
  stays (suc k) path b is part long (suc l) low =
      ap (λ (o : Option DeclTree). option_map_or (one_of m (expanded m (suc l))) o nothing) part.declared
      ∙ one_alike (expanded m (suc l)) (expanded m l) part.decl (λ j has. by j has (instance_class m j.class.name) refl (stays k))
      ∙ sym (ap (λ (o : Option DeclTree). option_map_or (one_of m (expanded m l)) o nothing) part.declared)
    where
      by : (j : Instance) → Contains (instances part.decl) j → (o : Option ℕ) → instance_class m j.class.name ≡ o
          → ((p : List ℕ) (c : ℕ) → IsPath m fits p c → IsPart m c → length m.decls ≤ length p + k → (n : ℕ) → k ≤ n → expanded m (suc n) c ≡ expanded m n c)
          → option_map_or (expanded m (suc l)) o nothing ≡ option_map_or (expanded m l) o nothing
      by j has None at rest = refl
      by j has (Some c) at rest =
          rest (b ∷ path) c (further m fits path b c is part (directly b c part.decl j part.declared has at)) (part_of m j.class.name c at) (omega (arith, long)) l (omega (arith, low))

  -- one level more than there are declarations
  pub deep_enough : (b : ℕ) → IsPart m b → expanded m (suc (length m.decls)) b ≡ expanded m (length m.decls) b
  deep_enough b part = stays (length m.decls) [] b (no_path m fits b) part (omega arith) (length m.decls) (omega arith)
