-- A model that has all declarations of another, and more behind them. Of what was there only systems have
-- changed; what is new are process classes without a parent.
use Rattle.std.specs.Prelude.{◌≡◌, ℕ, ◌+◌, List, length, Option, Some, None}
use Rattle.pz_bind_rules.specs.pz_syntax.declared.clusters.SystemDecl.{SystemDecl}
use Rattle.pz_bind_rules.specs.pz_syntax.Classes.{ProcessClassTree, DeclTree, process_class, system, ModelTree}
use Rattle.pz_bind_rules.specs.pz_classes_rules.Numbers.{declaration, class}
use Rattle.pz_bind_rules.specs.Nest.{first_system}

-- what a declaration has become
pub data Alike : DeclTree → DeclTree → Type 0 where
  same : (d : DeclTree) → Alike d d
  systems : (s t : SystemDecl) → Alike (system s) (system t)

-- what has a number in the one model and in the other
pub data Both : Option DeclTree → Option DeclTree → Type 0 where
  old : (d e : DeclTree) → Alike d e → Both (Some d) (Some e)
  nothing : Both None None
  new : (p : ProcessClassTree) → p.parent ≡ None → Both None (Some (process_class p))

-- names stand for the classes that they stood for, and the system has the number that it had
pub record Grown (m n : ModelTree) : Type 0 where
  pub at : (c : ℕ) → Both (declaration m c) (declaration n c)
  pub classes : (name : List ℕ) (k : ℕ) → class m name ≡ Some k → class n name ≡ Some k
  pub system : first_system 1 n.decls ≡ first_system 1 m.decls
  pub more : ℕ
  pub longer : length n.decls ≡ length m.decls + more
