-- The ancestors of an ancestor are the last of a class's ancestors.
use Rattle.std.proofs.Common.{◌≡◌, refl, sym, ap, ◌∙◌, ℕ, zero, suc, ◌<◌, ◌≤◌, List, [], ◌∷◌, ◌++◌, append_assoc, append-nil, length, Option, Some, None, IsSome, slice_get, get_or, arith, ◌⊎◌, inl, inr}
use Rattle.std.specs.List.{Contains}
use Rattle.std.specs.Option.{option_map_or, option_or}
use Rattle.std.proofs.lemmas.Cmp.{nat_eq_equiv}
use Rattle.std.proofs.lemmas.Map.Views.{list_any-from_Contains}
use Rattle.std.proofs.lemmas.Option.{slice_get_cases}
use Rattle.pz_classes_code.specs.pz_syntax.declared.names.Id.{Id}
use Rattle.pz_classes_code.specs.pz_syntax.Classes.{DeclTree, ModelTree}
use Rattle.pz_classes_lineage.specs.Reached.{Reaches, itself, further, GoesRound}
use Rattle.pz_classes_rules.specs.Numbers.{declaration}
use Rattle.pz_classes_rules.specs.Ancestors.{parent, ancestors}
use Rattle.pz_classes_rules.specs.Members.{from_root}
use Rattle.pz_classes_rules.specs.Methods.{nearest}
use Rattle.pz_classes_rules.specs.SoundClasses.{BeginsWith}
use Rattle.pz_classes_rules.proofs.Reaching.{followed_from}
use Rattle.pz_classes_rules.proofs.Acyclic.{above}

-- a class that extends another is declared
pub extends_within : (m : ModelTree) (c p : ℕ) → parent m c ≡ Some p → c < suc (length m.decls)
extends_within m zero p up = cc
extends_within m (suc i) p up = by_place (slice_get_cases m.decls i).1
  where
    by_place : ((d : DeclTree) × (i < length m.decls) × (slice_get m.decls i ≡ Some d) × (get_or m.decls i d ≡ d)) ⊎ ((length m.decls ≤ i) × (slice_get m.decls i ≡ None)) → suc i < suc (length m.decls)
    by_place (inl there) = let below = there.1 in omega arith
    by_place (inr past) = let none : None ≡ Some p = rw past.1 at up in cc

-- the line of an ancestor ends the line of the class
pub record Line (m : ModelTree) (c a : ℕ) : Type 0 where
  pub front : List ℕ
  pub is : ancestors m c ≡ front ++ ancestors m a

module _ (m : ModelTree) (flat : (c : ℕ) → GoesRound (parent m) c → ⊥) where
  line_to : (c a : ℕ) → Reaches (parent m) c a → Line m c a
  line_to _ _ (itself c) = record { front = []; is = refl }
  line_to _ _ (further c p k up rest) = on (line_to p k rest)
    where
      on : Line m p k → Line m c k
      on l = record {
        front = c ∷ l.front;
        is = above m flat c (extends_within m c p up) ∙ ap (λ (o : Option ℕ). c ∷ option_map_or (ancestors m) o []) up ∙ ap (λ (line : List ℕ). c ∷ line) l.is;
      }

  pub line_of : (c a : ℕ) → Contains (ancestors m c) a → Line m c a
  line_of c a here = line_to c a (followed_from m (suc (length m.decls)) c a (list_any-from_Contains nat_eq_equiv a (ancestors m c) here))

-- what the last classes have begins what all have
pub begins_on : (own : DeclTree → List Id) (m : ModelTree) (front line : List ℕ) → BeginsWith (from_root own m (front ++ line)) (from_root own m line)
begins_on own m [] line = record { more = []; is = sym (append-nil (from_root own m line)) }
begins_on own m (c ∷ front) line = on (begins_on own m front line)
  where
    mine : List Id
    mine = option_map_or own (declaration m c) []

    on : BeginsWith (from_root own m (front ++ line)) (from_root own m line) → BeginsWith (from_root own m (front ++ line) ++ mine) (from_root own m line)
    on b = record { more = b.more ++ mine; is = ap (λ (xs : List Id). xs ++ mine) b.is ∙ append_assoc (from_root own m line) b.more mine }

-- what one of the last classes has, one of all has
pub nearest_on : {A : Type 0} (f : ℕ → Option A) (front line : List ℕ) → IsSome (nearest f line) → IsSome (nearest f (front ++ line))
nearest_on f [] line has = has
nearest_on {A} f (c ∷ front) line has = by_first (f c) (nearest_on f front line has)
  where
    by_first : (o : Option A) → IsSome (nearest f (front ++ line)) → IsSome (option_or o (nearest f (front ++ line)))
    by_first None rest = rest
    by_first (Some x) rest = refl
