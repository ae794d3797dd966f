-- Classes that hold one another: where none holds itself, a way from one to another leads through each class once.
use Rattle.std.proofs.Common.{◌≡◌, refl, sym, ap, subst, ◌∙◌, ℕ, zero, suc, ◌<◌, ◌≤◌, Bool, true, false, not, ◌||◌, List, [], ◌∷◌, length, Option, Some, None, eqb, if◌then◌else◌, arith}
use Rattle.std.specs.List.{Contains, IsDistinct, AllByRecursion, list_any}
use Rattle.std.specs.Option.{option_map_or, option_and_then}
use Rattle.std.proofs.lemmas.Bool.{eqb-true, false≢true, and_parts}
use Rattle.std.proofs.lemmas.Map.Keys.{IsDistinct-cons}
use Rattle.std.proofs.lemmas.Map.Steps.{length-le_from_distinct_below}
use Rattle.pz_bind_rules.specs.pz_syntax.declared.clusters.Instance.{Instance}
use Rattle.pz_bind_rules.specs.pz_syntax.Classes.{DeclTree, data_class, process_class, cluster_class, system, ModelTree}
use Rattle.pz_bind_rules.specs.pz_classes_code.ReservedNames.{is_primitive, is_unsupported}
use Rattle.pz_bind_rules.specs.pz_classes_rules.Numbers.{declaration, class}
use Rattle.pz_bind_rules.specs.pz_classes_rules.Kinds.{is_process, is_cluster, is_declared_as}
use Rattle.pz_bind_rules.specs.pz_classes_rules.NameRules.{has_instances}
use Rattle.pz_bind_rules.specs.pz_classes_rules.Instances.{instances, instance_class}
use Rattle.pz_bind_rules.specs.pz_classes_rules.InstanceRules.{Holds, directly, through}
use Rattle.pz_bind_rules.specs.pz_classes_rules.SoundSystem.{SystemFits}
use Rattle.pz_env_grown.proofs.Numbers.{none_some, some_same, declared_within}
use Rattle.pz_env_grown.proofs.Elements.{none_in}

-- the class of an instance is one of the model
pub class_named : (m : ModelTree) (name : List ℕ) (k : ℕ) → instance_class m name ≡ Some k
    → (is_unsupported name ≡ false) × (has_instances m name ≡ true) × (class m name ≡ Some k)
class_named m name k is = by_unsupported (is_unsupported name) refl is
  where
    by_instances : is_unsupported name ≡ false → (b : Bool) → has_instances m name ≡ b → (if b then class m name else None) ≡ Some k
        → (is_unsupported name ≡ false) × (has_instances m name ≡ true) × (class m name ≡ Some k)
    by_instances known true may has = (known, may, has)
    by_instances known false may has = absurd (none_some k has)

    by_unsupported : (b : Bool) → is_unsupported name ≡ b
        → (if b then None else if has_instances m name then class m name else None) ≡ Some k
        → (is_unsupported name ≡ false) × (has_instances m name ≡ true) × (class m name ≡ Some k)
    by_unsupported true known has = absurd (none_some k has)
    by_unsupported false known has = by_instances known (has_instances m name) refl has

apart : (c : ℕ) (xs : List ℕ) → list_any (eqb c) xs ≡ false → AllByRecursion (λ y. eqb c y ≡ false) xs
apart c [] none = tt
apart c (x ∷ xs) none = by (eqb c x) refl none (apart c xs)
  where
    by : (b : Bool) → eqb c x ≡ b → b || list_any (eqb c) xs ≡ false
        → (list_any (eqb c) xs ≡ false → AllByRecursion (λ y. eqb c y ≡ false) xs) → AllByRecursion (λ y. eqb c y ≡ false) (x ∷ xs)
    by true is h rest = absurd (false≢true (sym h))
    by false is h rest = (is, rest h)

module _ (m : ModelTree) where
  -- a class that may stand in another: a process class or a cluster class
  pub record IsPart (b : ℕ) : Type 0 where
    pub decl : DeclTree
    pub declared : declaration m b ≡ Some decl
    pub sort : is_process decl || is_cluster decl ≡ true

  pub part_of : (name : List ℕ) (k : ℕ) → instance_class m name ≡ Some k → IsPart k
  part_of name k is = by (declaration m k) refl
    where
      named : class m name ≡ Some k
      named = (class_named m name k is).2

      its : option_map_or is_process (declaration m k) false || option_map_or is_cluster (declaration m k) false ≡ true
      its =
          sym (ap (λ (o : Option ℕ). option_map_or is_process (option_and_then (declaration m) o) false || option_map_or is_cluster (option_and_then (declaration m) o) false) named)
          ∙ (and_parts (not (is_primitive name)) (is_declared_as is_process m name || is_declared_as is_cluster m name) (class_named m name k is).1).1

      by : (o : Option DeclTree) → declaration m k ≡ o → IsPart k
      by None at = absurd (false≢true (sym (ap (λ (o : Option DeclTree). option_map_or is_process o false || option_map_or is_cluster o false) at) ∙ its))
      by (Some d) at =
          record { decl = d; declared = at; sort = sym (ap (λ (o : Option DeclTree). option_map_or is_process o false || option_map_or is_cluster o false) at) ∙ its }

  -- what holds has instances
  holder : (a k : ℕ) → Holds m a k → (d : DeclTree) × (declaration m a ≡ Some d) × (i : Instance) × Contains (instances d) i
  holder _ _ (directly c k d i at has is) = (d, at, i, has)
  holder _ _ (through c b k first rest) = holder c b first

  module _ (fits : SystemFits m) where
    pub none_in_itself : (b : ℕ) → IsPart b → Holds m b b → ⊥
    none_in_itself b part holds = by part.decl part.declared part.sort
      where
        by : (d : DeclTree) → declaration m b ≡ Some d → is_process d || is_cluster d ≡ true → ⊥
        by (data_class c) at sort = false≢true sort
        by (process_class c) at sort =
            let h = holder b b holds in
            let same : h.0 ≡ process_class c = some_same h.0 (process_class c) (sym h.1 ∙ at) in
            none_in h.2 (subst (λ (d : DeclTree). Contains (instances d) h.2) same h.3)
        by (cluster_class c) at sort = (fits.parts_fit b (cluster_class c) at).unheld refl holds
        by (system s) at sort = false≢true sort

    positive : (b : ℕ) (d : DeclTree) → declaration m b ≡ Some d → 0 < b
    positive zero d at = absurd (none_some d at)
    positive (suc b) d at = omega arith

    -- the classes of a path hold the class at its end, each once
    pub record IsPath (path : List ℕ) (b : ℕ) : Type 0 where
      pub once : IsDistinct eqb path
      pub each : (q : ℕ) → list_any (eqb q) path ≡ true → (0 < q) × (q < suc (length m.decls)) × Holds m q b

    not_on : (path : List ℕ) (b : ℕ) → IsPath path b → IsPart b → list_any (eqb b) path ≡ false
    not_on path b is part = by (list_any (eqb b) path) refl
      where
        by : (o : Bool) → list_any (eqb b) path ≡ o → list_any (eqb b) path ≡ false
        by true on = absurd (none_in_itself b part (is.each b on).2)
        by false off = off

    longer : (path : List ℕ) (b : ℕ) → IsPath path b → IsPart b → IsDistinct eqb (b ∷ path)
    longer path b is part = IsDistinct-cons eqb b path (apart b path (not_on path b is part)) is.once

    on_longer : (path : List ℕ) (b : ℕ) → IsPath path b → IsPart b → (q : ℕ) → list_any (eqb q) (b ∷ path) ≡ true
        → (0 < q) × (q < suc (length m.decls))
    on_longer path b is part q on = by (eqb q b) refl on
      where
        by : (o : Bool) → eqb q b ≡ o → o || list_any (eqb q) path ≡ true → (0 < q) × (q < suc (length m.decls))
        by true same h =
            let at : q ≡ b = eqb-true q b same in
            let low = positive b part.decl part.declared in
            let high = declared_within m b part.decl part.declared in
            (omega (arith, at, low), omega (arith, at, high))
        by false other h = let its = is.each q h in (its.0, its.1)

    pub short : (path : List ℕ) (b : ℕ) → IsPath path b → IsPart b → length path < length m.decls
    short path b is part =
        let all : length (0 ∷ b ∷ path) ≤ suc (length m.decls) =
        length-le_from_distinct_below (0 ∷ b ∷ path) (suc (length m.decls)) (IsDistinct-cons eqb 0 (b ∷ path) (apart 0 (b ∷ path) (no_zero (list_any (eqb 0) (b ∷ path)) refl)) (longer path b is part)) low in
        omega (arith, all)
      where
        no_zero : (o : Bool) → list_any (eqb 0) (b ∷ path) ≡ o → list_any (eqb 0) (b ∷ path) ≡ false
        no_zero true on = let wrong = (on_longer path b is part 0 on).0 in absurd (omega (arith, wrong))
        no_zero false off = off

        low : (q : ℕ) → list_any (eqb q) (0 ∷ b ∷ path) ≡ true → q < suc (length m.decls)
        low q on = by (eqb q 0) refl on
          where
            by : (o : Bool) → eqb q 0 ≡ o → o || list_any (eqb q) (b ∷ path) ≡ true → q < suc (length m.decls)
            by true same h = let at : q ≡ 0 = eqb-true q 0 same in omega (arith, at)
            by false other h = (on_longer path b is part q h).1

    -- a path that goes on to what stands in its end
    pub further : (path : List ℕ) (b k : ℕ) → IsPath path b → IsPart b → Holds m b k → IsPath (b ∷ path) k
    further path b k is part holds = record { once = longer path b is part; each = on }
      where
        on : (q : ℕ) → list_any (eqb q) (b ∷ path) ≡ true → (0 < q) × (q < suc (length m.decls)) × Holds m q k
        on q at = (its.0, its.1, by (eqb q b) refl at)
          where
            its : (0 < q) × (q < suc (length m.decls))
            its = on_longer path b is part q at

            by : (o : Bool) → eqb q b ≡ o → o || list_any (eqb q) path ≡ true → Holds m q k
            by true same h = subst (λ (x : ℕ). Holds m x k) (sym (eqb-true q b same)) holds
            by false other h = through q b k (is.each q h).2 holds

    pub no_path : (b : ℕ) → IsPath [] b
    unfolding IsDistinct
    no_path b = record { once = tt; each = λ q on. absurd (false≢true on) }

    -- a class on its own holds what it holds
    pub one_held : (c k : ℕ) (d : DeclTree) → declaration m c ≡ Some d → Holds m c k → IsPath (c ∷ []) k
    unfolding IsDistinct
    one_held c k d at holds = record { once = IsDistinct-cons eqb c [] tt tt; each = on }
      where
        on : (q : ℕ) → list_any (eqb q) (c ∷ []) ≡ true → (0 < q) × (q < suc (length m.decls)) × Holds m q k
        on q there = by (eqb q c) refl there
          where
            by : (o : Bool) → eqb q c ≡ o → o || false ≡ true → (0 < q) × (q < suc (length m.decls)) × Holds m q k
            by true same h =
                let eq : q ≡ c = eqb-true q c same in
                let low = positive c d at in
                let high = declared_within m c d at in
                (omega (arith, eq, low), omega (arith, eq, high), subst (λ (x : ℕ). Holds m x k) (sym eq) holds)
            by false other h = absurd (false≢true h)
