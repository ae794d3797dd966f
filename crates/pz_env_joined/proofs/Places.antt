-- What stands in a system stands there in what has grown out of it, and behind it what is new.
use Rattle.std.proofs.Common.{◌≡◌, refl, sym, ap, ◌∙◌, subst, ℕ, zero, suc, ◌+◌, Bool, true, false, List, [], ◌∷◌, ◌++◌, append_assoc, length, Option, Some, slice_get, arith}
use Rattle.std.specs.List.{Contains, AllByRecursion, filter, flat_map}
use Rattle.std.specs.Option.{option_map_or}
use Rattle.std.proofs.lemmas.List.Elements.{filter-append}
use Rattle.pz_env_mimics.specs.pz_syntax.declared.clusters.Instance.{Instance}
use Rattle.pz_env_mimics.specs.pz_syntax.declared.clusters.SystemDecl.{SystemDecl}
use Rattle.pz_env_mimics.specs.pz_syntax.Classes.{DeclTree, data_class, process_class, cluster_class, system, ModelTree}
use Rattle.pz_env_mimics.specs.pz_classes_rules.Numbers.{declaration}
use Rattle.pz_env_mimics.specs.pz_classes_rules.Kinds.{is_process, is_cluster}
use Rattle.pz_env_mimics.specs.pz_classes_rules.Instances.{instances, instance_class}
use Rattle.pz_env_mimics.specs.pz_classes_rules.SizeRules.{system_of}
use Rattle.pz_env_mimics.specs.pz_classes_rules.SoundSystem.{SystemFits}
use Rattle.pz_bind_levels.specs.Places.{Address}
use Rattle.pz_env_mimics.specs.pz_bind_rules.Nest.{first_system, each_instance, system_class, instances_in, class_of, class_at, instances_at, with_inside, inside, places, is_level, is_process_at, levels, processes}
use Rattle.pz_env_grown.specs.Growth.{Grown}
use Rattle.pz_env_grown.proofs.Elements.{first_in, later_in}
use Rattle.pz_env_grown.proofs.Alike.{IsDeclared, of_declared}
use Rattle.pz_env_joined.proofs.Instances.{IsInner, class_inner, instance_class_kept, instances_same, instance_known, level_known, class_of_is}
use Rattle.pz_env_joined.proofs.Depth.{no_deeper}

pub got_in : {A : Type 0} (xs : List A) (i : ℕ) (x : A) → slice_get xs i ≡ Some x → Contains xs x
got_in [] i x is = cc
got_in (y ∷ ys) zero x is = let eq : y ≡ x = cc in (0, omega arith, eq)
got_in (y ∷ ys) (suc i) x is = later_in y ys x (got_in ys i x is)

pub got_first : {A : Type 0} (xs ys : List A) (i : ℕ) (x : A) → slice_get xs i ≡ Some x → slice_get (xs ++ ys) i ≡ Some x
got_first [] ys i x is = cc
got_first (y ∷ xs) ys zero x is = is
got_first (y ∷ xs) ys (suc i) x is = got_first xs ys i x is

-- the class of the system of a model
system_found : (n : ℕ) (ds : List DeclTree) (s : SystemDecl) (rest : List SystemDecl) → flat_map system_of ds ≡ s ∷ rest
    → (i : ℕ) × (first_system n ds ≡ n + i) × (slice_get ds i ≡ Some (system s))
system_found n [] s rest is = cc
system_found n (system t ∷ ds) s rest is = let eq : t ≡ s = cc in (0, omega arith, rw eq refl)
system_found n (data_class c ∷ ds) s rest is = let r = system_found (suc n) ds s rest is in let at = r.1 in (suc r.0, omega (arith, at), r.2)
system_found n (process_class c ∷ ds) s rest is = let r = system_found (suc n) ds s rest is in let at = r.1 in (suc r.0, omega (arith, at), r.2)
system_found n (cluster_class c ∷ ds) s rest is = let r = system_found (suc n) ds s rest is in let at = r.1 in (suc r.0, omega (arith, at), r.2)

pub system_declared : (m : ModelTree) → SystemFits m → (s : SystemDecl) × (declaration m (system_class m) ≡ Some (system s))
system_declared m fits = by (system_found 1 m.decls fits.one_system.the_system [] fits.one_system.only)
  where
    by : (i : ℕ) × (system_class m ≡ 1 + i) × (slice_get m.decls i ≡ Some (system fits.one_system.the_system))
        → (s : SystemDecl) × (declaration m (system_class m) ≡ Some (system s))
    by (i, eq, there) = let number : system_class m ≡ suc i = omega (arith, eq) in (fits.one_system.the_system, ap (declaration m) number ∙ there)

-- an instance stands there, in a level that stands
pub data Stands (m : ModelTree) : Address → Type 0 where
  the_system : Stands m []
  inside_of : (up : Address) (i : ℕ) (x : Instance) → Stands m up → slice_get (instances_at m up) i ≡ Some x → Stands m (i ∷ up)

module _ (m : ModelTree) (fits : SystemFits m) where
  pub inner_at : (i : ℕ) (up : Address) → Stands m (i ∷ up) → IsInner m (class_at m (i ∷ up))
  inner_at _ _ (inside_of up i x s at) =
      let known = level_known m fits (class_at m up) x (got_in (instances_at m up) i x at) in
      let eq : class_at m (i ∷ up) ≡ known.0 = ap (λ (o : Option Instance). option_map_or (class_of m) o 0) at ∙ class_of_is m x known.0 known.1 in
      subst (IsInner m) (sym eq) (class_inner m x.class.name known.0 known.1)

  pub declared_at : (p : Address) → Stands m p → IsDeclared m (class_at m p)
  declared_at _ the_system = let at = system_declared m fits in (system at.0, at.1)
  declared_at _ (inside_of up i x s at) = let inner = inner_at i up (inside_of up i x s at) in (inner.decl, inner.is)

  -- all that is listed stands

  both_stand : (ps qs : List Address) → AllByRecursion (Stands m) ps → AllByRecursion (Stands m) qs → AllByRecursion (Stands m) (ps ++ qs)
  both_stand [] qs one other = other
  both_stand (p ∷ ps) qs one other = (one.0, both_stand ps qs one.1 other)

  abbrev AreFrom : Address → ℕ → List Instance → Type 0
  AreFrom up i xs = (j : ℕ) (x : Instance) → slice_get xs j ≡ Some x → slice_get (instances_at m up) (i + j) ≡ Some x

  each_stands : (k : ℕ)
      → ((c : ℕ) (up : Address) → Stands m up → class_at m up ≡ c → AllByRecursion (Stands m) (inside m k c up)) → (up : Address)
      → Stands m up
      → (xs : List Instance) (i : ℕ) → AreFrom up i xs → AllByRecursion (Stands m) (each_instance (with_inside m (inside m k) up) i xs)
  each_stands k deeper up s [] i from = tt
  each_stands k deeper up s (x ∷ xs) i from =
      let eq : i + 0 ≡ i = omega arith in
      let at : slice_get (instances_at m up) i ≡ Some x = ap (slice_get (instances_at m up)) (sym eq) ∙ from 0 x refl in
      let here = inside_of up i x s at in (
        here,
        both_stand (inside m k (class_of m x) (i ∷ up)) (each_instance (with_inside m (inside m k) up) (suc i) xs)
            (deeper (class_of m x) (i ∷ up) here (ap (λ (o : Option Instance). option_map_or (class_of m) o 0) at))
            (each_stands k deeper up s xs (suc i) (λ j y is. (let step : suc i + j ≡ i + suc j = omega arith in ap (slice_get (instances_at m up)) step ∙ from (suc j) y is))),
      )

  stand_inside : (k c : ℕ) (up : Address) → Stands m up → class_at m up ≡ c → AllByRecursion (Stands m) (inside m k c up)
  stand_inside zero c up s is = tt
  stand_inside (suc k) c up s is = each_stands k (stand_inside k) up s (instances_in m c) 0 from
    where
      from : AreFrom up 0 (instances_in m c)
      from j x at = let eq : 0 + j ≡ j = omega arith in rw eq (ap (λ (b : ℕ). slice_get (instances_in m b) j) is ∙ at)

  pub all_stand : AllByRecursion (Stands m) (places m)
  all_stand = (the_system, stand_inside (length m.decls) (system_class m) [] the_system refl)

filter_same : {A : Type 0} (P : A → Type 0) (f g : A → Bool) → ((x : A) → P x → f x ≡ g x) → (xs : List A) → AllByRecursion P xs
    → filter f xs ≡ filter g xs
filter_same P f g alike [] all = refl
filter_same {A} P f g alike (x ∷ xs) all = by (f x) (g x) refl refl (alike x all.0) (filter_same P f g alike xs all.1)
  where
    by : (a b : Bool) → f x ≡ a → g x ≡ b → f x ≡ g x → filter f xs ≡ filter g xs → filter f (x ∷ xs) ≡ filter g (x ∷ xs)
    by true true one other eq rest = rw (one, other) (ap (λ (ys : List A). x ∷ ys) rest)
    by false false one other eq rest = rw (one, other) rest
    by true false one other eq rest = let wrong : true ≡ false = sym one ∙ eq ∙ other in cc
    by false true one other eq rest = let wrong : false ≡ true = sym one ∙ eq ∙ other in cc

each_append : {A : Type 0} (f : ℕ → Instance → List A) (i : ℕ) (xs ys : List Instance)
    → each_instance f i (xs ++ ys) ≡ each_instance f i xs ++ each_instance f (i + length xs) ys
each_append f i [] ys = let eq : i ≡ i + 0 = omega arith in ap (λ (k : ℕ). each_instance f k ys) eq
each_append {A} f i (x ∷ xs) ys =
    let eq : suc i + length xs ≡ i + suc (length xs) = omega arith in
    ap (λ (zs : List A). f i x ++ zs) (each_append f (suc i) xs ys ∙ ap (λ (k : ℕ). each_instance f (suc i) xs ++ each_instance f k ys) eq)
    ∙ sym (append_assoc (f i x) (each_instance f (suc i) xs) (each_instance f (i + suc (length xs)) ys))

-- The system has all instances that it had, and behind them these
module _ (m n : ModelTree) (fits : SystemFits m) (grown : Grown m n) (more : List Instance) (there : instances_in n (system_class m) ≡ instances_in m (system_class m) ++ more) where
  class_of_same : (x : Instance) (k : ℕ) → instance_class m x.class.name ≡ Some k → class_of m x ≡ class_of n x
  class_of_same x k is = class_of_is m x k is ∙ sym (class_of_is n x k (instance_class_kept m n grown x.class.name k is))

  kept_at : (up : Address) → Stands m up → class_at m up ≡ class_at n up → (i : ℕ) (x : Instance)
      → slice_get (instances_at m up) i ≡ Some x → slice_get (instances_at n up) i ≡ Some x
  kept_at _ the_system eq i x at = ap (λ (c : ℕ). slice_get (instances_in n c) i) (sym eq) ∙ ap (λ (xs : List Instance). slice_get xs i) there ∙ got_first (instances_in m (system_class m)) more i x at
  kept_at _ (inside_of up j y s is) eq i x at =
      ap (λ (c : ℕ). slice_get (instances_in n c) i) (sym eq)
      ∙ ap (λ (xs : List Instance). slice_get xs i) (sym (instances_same m n grown (class_at m (j ∷ up)) (inner_at m fits j up (inside_of up j y s is))))
      ∙ at

  pub class_at_same : (p : Address) → Stands m p → class_at m p ≡ class_at n p
  class_at_same _ the_system = sym grown.system
  class_at_same _ (inside_of up i x s at) =
      let known = level_known m fits (class_at m up) x (got_in (instances_at m up) i x at) in
      ap (λ (o : Option Instance). option_map_or (class_of m) o 0) at
      ∙ class_of_same x known.0 known.1
      ∙ sym (ap (λ (o : Option Instance). option_map_or (class_of n) o 0) (kept_at up s (class_at_same up s) i x at))

  -- an instance that stood somewhere stands there
  pub instance_kept : (up : Address) → Stands m up → (i : ℕ) (x : Instance) → slice_get (instances_at m up) i ≡ Some x
      → slice_get (instances_at n up) i ≡ Some x
  instance_kept up s i x at = kept_at up s (class_at_same up s) i x at

  -- What stands in a level

  each_same : (k : ℕ) → ((c : ℕ) (up : Address) → IsInner m c → inside m k c up ≡ inside n k c up) → (c : ℕ) (d : DeclTree)
      → declaration m c ≡ Some d → (up : Address) (xs : List Instance)
      → ((x : Instance) → Contains xs x → Contains (instances d) x) → (i : ℕ) → each_instance (with_inside m (inside m k) up) i xs ≡ each_instance (with_inside n (inside n k) up) i xs
  each_same k deeper c d is up [] among i = refl
  each_same k deeper c d is up (x ∷ xs) among i =
      let known = instance_known m fits c d x is (among x (first_in x xs)) in
      let inner = class_inner m x.class.name known.0 known.1 in
      let class = class_of_is m x known.0 known.1 in
      ap (λ (b : ℕ). (i ∷ up) ∷ (inside m k b (i ∷ up) ++ each_instance (with_inside m (inside m k) up) (suc i) xs)) class
      ∙ ap (λ (ps : List Address). (i ∷ up) ∷ (ps ++ each_instance (with_inside m (inside m k) up) (suc i) xs)) (deeper known.0 (i ∷ up) inner)
      ∙ ap (λ (ps : List Address). (i ∷ up) ∷ (inside n k known.0 (i ∷ up) ++ ps)) (each_same k deeper c d is up xs (λ y at. among y (later_in x xs y at)) (suc i))
      ∙ ap (λ (b : ℕ). (i ∷ up) ∷ (inside n k b (i ∷ up) ++ each_instance (with_inside n (inside n k) up) (suc i) xs)) (sym class ∙ class_of_same x known.0 known.1)

  level_same : (k : ℕ) → ((c : ℕ) (up : Address) → IsInner m c → inside m k c up ≡ inside n k c up) → (c : ℕ) → IsDeclared m c
      → (up : Address) (i : ℕ)
      → each_instance (with_inside m (inside m k) up) i (instances_in m c) ≡ each_instance (with_inside n (inside n k) up) i (instances_in m c)
  level_same k deeper c (d, is) up i = each_same k deeper c d is up (instances_in m c) (λ x at. subst (λ (xs : List Instance). Contains xs x) (ap (λ (o : Option DeclTree). option_map_or instances o []) is) at) i

  inside_same : (k c : ℕ) (up : Address) → IsInner m c → inside m k c up ≡ inside n k c up
  inside_same zero c up inner = refl
  inside_same (suc k) c up inner =
      level_same k (inside_same k) c (inner.decl, inner.is) up 0
      ∙ ap (each_instance (with_inside n (inside n k) up) 0) (instances_same m n grown c inner)

  -- what is new
  abbrev pub added : ℕ → List Address
  added k = each_instance (with_inside n (inside n k) []) (length (instances_in m (system_class m))) more

  pub places_grow : (k : ℕ) → length n.decls ≡ suc k → places n ≡ places m ++ added k
  places_grow k long =
      let at = system_declared m fits in
      let is : IsDeclared m (system_class m) = (system at.0, at.1) in
      let wide = grown.longer in
      let all : inside m (suc k) (system_class m) [] ≡ inside m (length m.decls) (system_class m) [] = no_deeper m fits (system_class m) is (suc k) (omega (arith, long, wide)) [] in
      let eq : 0 + length (instances_in m (system_class m)) ≡ length (instances_in m (system_class m)) = omega arith in
      ap (λ (l : ℕ). [] ∷ inside n l (system_class n) []) long
      ∙ ap (λ (c : ℕ). [] ∷ inside n (suc k) c []) grown.system
      ∙ ap (λ (xs : List Instance). [] ∷ each_instance (with_inside n (inside n k) []) 0 xs) there
      ∙ ap (λ (ps : List Address). [] ∷ ps) (each_append (with_inside n (inside n k) []) 0 (instances_in m (system_class m)) more)
      ∙ ap (λ (l : ℕ). [] ∷ (each_instance (with_inside n (inside n k) []) 0 (instances_in m (system_class m)) ++ each_instance (with_inside n (inside n k) []) l more)) eq
      ∙ ap (λ (ps : List Address). [] ∷ (ps ++ added k)) (sym (level_same k (inside_same k) (system_class m) is [] 0))
      ∙ ap (λ (ps : List Address). [] ∷ (ps ++ added k)) all

  sort_at_same : (sort : DeclTree → Bool) → ((s t : SystemDecl) → sort (system s) ≡ sort (system t)) → (p : Address) → Stands m p
      → option_map_or sort (declaration n (class_at n p)) false ≡ option_map_or sort (declaration m (class_at m p)) false
  sort_at_same sort still p s =
      ap (λ (c : ℕ). option_map_or sort (declaration n c) false) (sym (class_at_same p s))
      ∙ sym (of_declared sort false still m n grown (class_at m p) (declared_at m fits p s))

  level_at_same : (p : Address) → Stands m p → is_level n p ≡ is_level m p
  level_at_same [] s = refl
  level_at_same (i ∷ up) s = sort_at_same is_cluster (λ a b. refl) (i ∷ up) s

  process_at_same : (p : Address) → Stands m p → is_process_at n p ≡ is_process_at m p
  process_at_same [] s = refl
  process_at_same (i ∷ up) s = sort_at_same is_process (λ a b. refl) (i ∷ up) s

  pub levels_grow : (k : ℕ) → length n.decls ≡ suc k → levels n ≡ levels m ++ filter (is_level n) (added k)
  levels_grow k long =
      ap (filter (is_level n)) (places_grow k long)
      ∙ filter-append (is_level n) (places m) (added k)
      ∙ ap (λ (ps : List Address). ps ++ filter (is_level n) (added k)) (filter_same (Stands m) (is_level n) (is_level m) level_at_same (places m) (all_stand m fits))

  pub processes_grow : (k : ℕ) → length n.decls ≡ suc k → processes n ≡ processes m ++ filter (is_process_at n) (added k)
  processes_grow k long =
      ap (filter (is_process_at n)) (places_grow k long)
      ∙ filter-append (is_process_at n) (places m) (added k)
      ∙ ap (λ (ps : List Address). ps ++ filter (is_process_at n) (added k)) (filter_same (Stands m) (is_process_at n) (is_process_at m) process_at_same (places m) (all_stand m fits))
