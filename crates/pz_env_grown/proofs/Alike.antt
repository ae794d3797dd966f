-- What is the same of a model and of one that has grown out of it.
use Rattle.std.proofs.Common.{◌≡◌, refl, sym, ap, ◌∙◌, ℕ, Option, Some}
use Rattle.std.specs.Option.{option_map_or}
use Rattle.pz_bind_rules.specs.pz_syntax.declared.clusters.SystemDecl.{SystemDecl}
use Rattle.pz_bind_rules.specs.pz_syntax.Classes.{ProcessClassTree, DeclTree, process_class, system, ModelTree}
use Rattle.pz_bind_rules.specs.pz_classes_rules.Numbers.{declaration}
use Rattle.pz_env_grown.specs.Growth.{Alike, same, systems, Both, old, nothing, new, Grown}

-- what is the same of every system is the same of what is alike
pub of_alike : {A : Type 0} (f : DeclTree → A) → ((s t : SystemDecl) → f (system s) ≡ f (system t)) → (d e : DeclTree) → Alike d e → f d ≡ f e
of_alike f still _ _ (same d) = refl
of_alike f still _ _ (systems s t) = still s t

-- and of what has a number, if what is new has nothing of it
pub of_both : {A : Type 0} (f : DeclTree → A) (none : A) → ((s t : SystemDecl) → f (system s) ≡ f (system t))
    → ((p : ProcessClassTree) → f (process_class p) ≡ none)
    → (o q : Option DeclTree) → Both o q → option_map_or f o none ≡ option_map_or f q none
of_both f none still empty _ _ (old d e like) = of_alike f still d e like
of_both f none still empty _ _ nothing = refl
of_both f none still empty _ _ (new p root) = sym (empty p)

-- what is declared has become something alike
pub record Became (n : ModelTree) (c : ℕ) (d : DeclTree) : Type 0 where
  pub decl : DeclTree
  pub there : declaration n c ≡ Some decl
  pub like : Alike d decl

pub became : (m n : ModelTree) → Grown m n → (c : ℕ) (d : DeclTree) → declaration m c ≡ Some d → Became n c d
became m n grown c d here = by (declaration m c) (declaration n c) here refl (grown.at c)
  where
    by : (o q : Option DeclTree) → o ≡ Some d → declaration n c ≡ q → Both o q → Became n c d
    by _ _ is there (old b e like) = let eq : b ≡ d = cc in record { decl = e; there = there; like = rw (sym eq) like }
    by _ _ is there nothing = cc
    by _ _ is there (new p root) = cc

-- a class of the model, and what it is declared as
abbrev pub IsDeclared : ModelTree → ℕ → Type 0
IsDeclared m c = (d : DeclTree) × (declaration m c ≡ Some d)

-- what is the same of every system is the same of a class of the model
pub of_declared : {A : Type 0} (f : DeclTree → A) (none : A) → ((s t : SystemDecl) → f (system s) ≡ f (system t))
    → (m n : ModelTree) → Grown m n → (c : ℕ) → IsDeclared m c
    → option_map_or f (declaration m c) none ≡ option_map_or f (declaration n c) none
of_declared f none still m n grown c (d, is) =
    let now = became m n grown c d is in
    ap (λ (o : Option DeclTree). option_map_or f o none) is
    ∙ of_alike f still d now.decl now.like
    ∙ sym (ap (λ (o : Option DeclTree). option_map_or f o none) now.there)
