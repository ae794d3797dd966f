-- What is known of classes and their names.
use Rattle.std.proofs.Common.{◌≡◌, refl, ℕ, zero, suc, ◌≤◌, List, length, Option, Some, None, arith}
use Rattle.std.proofs.lemmas.Option.{slice_get_within}
use Rattle.std.specs.Option.{option_and_then}
use Rattle.pz_classes_code.specs.pz_syntax.Classes.{DeclTree, ModelTree}
use Rattle.pz_classes.specs.pz_classes_rules.Numbers.{class, declaration}

-- a class that has a declaration is one of the model
pub is_numbered : (m : ModelTree) (c : ℕ) (d : DeclTree) → declaration m c ≡ Some d → c ≤ length m.decls
is_numbered m zero d here = cc
is_numbered m (suc i) d here = let within = slice_get_within m.decls i d here in omega (arith, within)

-- the declaration of a class that has the name
pub named_found : (m : ModelTree) (name : List ℕ) (n : ℕ) (found : Option DeclTree) → class m name ≡ Some n → found ≡ declaration m n → found ≡ option_and_then (declaration m) (class m name)
named_found m name n found here is = rw here is

pub none_named : (m : ModelTree) (name : List ℕ) → class m name ≡ None → None ≡ option_and_then (declaration m) (class m name)
none_named m name here = rw here refl
