-- What stands at which number, and under which name, in declarations that have changed and have others behind them.
use Rattle.std.proofs.Common.{◌≡◌, refl, sym, ap, ◌∙◌, ℕ, zero, suc, ◌+◌, Bool, true, false, List, [], ◌∷◌, ◌++◌, map, length, Some, None, slice_get, arith}
use Rattle.pz_bind_rules.specs.pz_syntax.Classes.{ProcessClassTree, DeclTree, process_class, ModelTree}
use Rattle.pz_bind_rules.specs.pz_classes_rules.Numbers.{is_named, declaration, first_named}
use Rattle.pz_bind_rules.specs.Nest.{is_system, first_system}
use Rattle.pz_env_grown.specs.Growth.{Alike, Both, old, nothing, new, Grown}
use Rattle.pz_env_grown.proofs.Numbers.{none_some, some_same}
use Rattle.pz_env_grown.proofs.Alike.{of_alike}

-- only process classes without a parent
pub data AreRoots : List DeclTree → Type 0 where
  no_more : AreRoots []
  one_more : (p : ProcessClassTree) (ds : List DeclTree) → p.parent ≡ None → AreRoots ds → AreRoots (process_class p ∷ ds)

module _ (f : DeclTree → DeclTree) where
  at_old : (ds es : List DeclTree) (i : ℕ) (d : DeclTree) → slice_get ds i ≡ Some d → slice_get (map f ds ++ es) i ≡ Some (f d)
  at_old [] es i d is = absurd (none_some d is)
  at_old (x ∷ ds) es zero d is = ap (λ (y : DeclTree). Some (f y)) (some_same x d is)
  at_old (x ∷ ds) es (suc i) d is = at_old ds es i d is

  -- what was declared has become what it is changed to
  pub changed : (m n : ModelTree) (es : List DeclTree) → n.decls ≡ map f m.decls ++ es → (c : ℕ) (d : DeclTree)
      → declaration m c ≡ Some d → declaration n c ≡ Some (f d)
  changed m n es is zero d at = absurd (none_some d at)
  changed m n es is (suc i) d at = ap (λ (ds : List DeclTree). slice_get ds i) is ∙ at_old m.decls es i d at

  -- the one behind
  pub behind_there : (ds : List DeclTree) (e : DeclTree) → slice_get (map f ds ++ e ∷ []) (length ds) ≡ Some e
  behind_there [] e = refl
  behind_there (d ∷ ds) e = behind_there ds e

  pub long : (ds es : List DeclTree) → length (map f ds ++ es) ≡ length ds + length es
  long [] es = omega arith
  long (d ∷ ds) es = let rest : length (map f ds ++ es) ≡ length ds + length es = long ds es in omega arith

  module _ (like : (d : DeclTree) → Alike d (f d)) where
    named_like : (name : List ℕ) (d : DeclTree) → is_named name (f d) ≡ is_named name d
    named_like name d = sym (of_alike (is_named name) (λ s t. refl) d (f d) (like d))

    -- the number of what is behind
    pub behind_named : (e : DeclTree) (name : List ℕ) → is_named name e ≡ true → (ds : List DeclTree) (k : ℕ)
        → first_named ds k name ≡ None → first_named (map f ds ++ e ∷ []) k name ≡ Some (k + length ds)
    behind_named e name named [] k none = let eq : k ≡ k + 0 = omega arith in rw named (ap Some eq)
    behind_named e name named (d ∷ ds) k none = by (is_named name d) refl (behind_named e name named ds (suc k))
      where
        by : (b : Bool) → is_named name d ≡ b
            → (first_named ds (suc k) name ≡ None → first_named (map f ds ++ e ∷ []) (suc k) name ≡ Some (suc k + length ds))
            → first_named (map f (d ∷ ds) ++ e ∷ []) k name ≡ Some (k + length (d ∷ ds))
        by true does rest = let wrong : Some k ≡ None = rw does at none in cc
        by false does rest =
            let other : is_named name (f d) ≡ false = named_like name d ∙ does in
            let eq : suc k + length ds ≡ k + suc (length ds) = omega arith in
            rw other (rest (rw does at none) ∙ ap Some eq)

    among : (es : List DeclTree) → AreRoots es → (i : ℕ) → Both None (slice_get es i)
    among _ no_more i = nothing
    among _ (one_more p ds root rest) zero = new p root
    among _ (one_more p ds root rest) (suc i) = among ds rest i

    at_place : (ds es : List DeclTree) → AreRoots es → (i : ℕ) → Both (slice_get ds i) (slice_get (map f ds ++ es) i)
    at_place [] es roots i = among es roots i
    at_place (d ∷ ds) es roots zero = old d (f d) (like d)
    at_place (d ∷ ds) es roots (suc i) = at_place ds es roots i

    pub keeps_named : (ds es : List DeclTree) (n : ℕ) (name : List ℕ) (k : ℕ) → first_named ds n name ≡ Some k
        → first_named (map f ds ++ es) n name ≡ Some k
    keeps_named [] es n name k is = cc
    keeps_named (d ∷ ds) es n name k is = by (is_named name d) refl (keeps_named ds es (suc n) name k)
      where
        by : (b : Bool) → is_named name d ≡ b
            → (first_named ds (suc n) name ≡ Some k → first_named (map f ds ++ es) (suc n) name ≡ Some k)
            → first_named (map f (d ∷ ds) ++ es) n name ≡ Some k
        by true does rest = let here : Some n ≡ Some k = rw does at is in rw (named_like name d ∙ does) here
        by false does rest = rw (named_like name d ∙ does) (rest (rw does at is))

    no_system : (es : List DeclTree) → AreRoots es → (n : ℕ) → first_system n es ≡ 0
    no_system _ no_more n = refl
    no_system _ (one_more p ds root rest) n = no_system ds rest (suc n)

    keeps_system : (ds es : List DeclTree) → AreRoots es → (n : ℕ) → first_system n (map f ds ++ es) ≡ first_system n ds
    keeps_system [] es roots n = no_system es roots n
    keeps_system (d ∷ ds) es roots n = rw (sym (of_alike is_system (λ s t. refl) d (f d) (like d)), keeps_system ds es roots (suc n)) refl

    number_at : (m n : ModelTree) (es : List DeclTree) → n.decls ≡ map f m.decls ++ es → AreRoots es → (c : ℕ)
        → Both (declaration m c) (declaration n c)
    number_at m n es is roots zero = nothing
    number_at m n es is roots (suc i) = rw is (at_place m.decls es roots i)

    pub grown_so : (m n : ModelTree) (es : List DeclTree) → n.decls ≡ map f m.decls ++ es → AreRoots es → Grown m n
    grown_so m n es is roots = record {
      at = number_at m n es is roots;
      classes = λ name k named. rw is (keeps_named m.decls es 1 name k named);
      system = rw is (keeps_system m.decls es roots 1);
      more = length es;
      longer = rw is (long m.decls es);
    }
