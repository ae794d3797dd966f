-- What the classes of a line declare, one scope for each class.
use Rattle.std.proofs.Common.{◌≡◌, refl, sym, subst, ◌∙◌, ℕ, Bool, true, List, [], ◌∷◌, map, Option, Some, None}
use Rattle.std.specs.List.{list_any, flat_map}
use Rattle.std.specs.Option.{is_some, option_map_or, option_and_then, option_to_list}
use Rattle.std.specs.Str.{bytes_eq}
use Rattle.std.proofs.lemmas.List.Folds.{list_any-append}
use Rattle.pz_classes_code.specs.pz_syntax.declared.names.Id.{Id}
use Rattle.pz_classes_code.specs.pz_syntax.Classes.{DeclTree, StartTree, ModelTree}
use Rattle.pz_classes.specs.pz_classes_rules.Numbers.{declaration}
use Rattle.pz_classes.specs.pz_classes_rules.Members.{from_root}
use Rattle.pz_classes.specs.pz_classes_rules.Starts.{own_start}
use Rattle.pz_classes.specs.pz_classes_rules.Words.{is_among}
use Rattle.pz_check_scopes.specs.Scopes.{Note, outermost}
use Rattle.pz_check_scopes.specs.devices.Holding.{Holds}
use Rattle.pz_check_scopes.specs.declared.nested.Nested.{Nested}
use Rattle.pz_check_names.specs.devices.Shown.{Shows}
use Rattle.pz_check_names.specs.devices.Inherited.{of_each, own_starts, start_along}
use Rattle.pz_check_names.proofs.Shown.{or_flip, some_or, map_outermost, closed_shown}

-- the scopes of the classes that stay
pub each_closed : {K X : Type 0} (eq : K → K → Bool) (matches : K → X → Bool) (own : DeclTree → List X) (depth : ℕ) (decls : List (Option DeclTree)) (before after : Nested K Unit)
    → ((scopes : List (List (Note K Unit))) → Holds eq scopes before → Holds eq (outermost depth scopes) after)
    → Shows eq matches (of_each own decls) before → Shows eq matches (of_each own (outermost depth decls)) after
each_closed eq matches own depth decls before after closed shown =
    subst (λ lists. Shows eq matches lists after) (map_outermost (λ d. option_map_or own d []) depth decls) (closed_shown eq matches depth (of_each own decls) before after closed shown)

module _ (m : ModelTree) where
  -- one of the names of these classes
  pub names_along : (own : DeclTree → List Id) (q : List ℕ) (line : List ℕ)
      → list_any (λ ids. is_among ids q) (of_each own (map (declaration m) line)) ≡ is_among (from_root own m line) q
  names_along own q [] = refl
  names_along own q (c ∷ line) =
      let first : List Id = option_map_or own (declaration m c) [] in
      rw (names_along own q line)
      (or_flip (is_among first q) (is_among (from_root own m line) q)
      ∙ sym (list_any-append (λ (x : Id). bytes_eq q x.name) (from_root own m line) first))

  -- one of the things of these classes
  pub things_along : {X : Type 0} (own : DeclTree → List X) (test : X → Bool) (line : List ℕ)
      → list_any (λ xs. list_any test xs) (of_each own (map (declaration m) line)) ≡ list_any test (flat_map (λ c. option_map_or own (declaration m c) []) line)
  things_along own test [] = refl
  things_along own test (c ∷ line) =
      let first = option_map_or own (declaration m c) [] in
      rw (things_along own test line) (sym (list_any-append test first (flat_map (λ a. option_map_or own (declaration m a) []) line)))

  own_some : (d : Option DeclTree) → list_any (λ (s : StartTree). true) (option_map_or own_starts d []) ≡ is_some (option_and_then own_start d)
  own_some None = refl
  own_some (Some d) = by_start (own_start d)
    where
      by_start : (s : Option StartTree) → list_any (λ (t : StartTree). true) (option_to_list s) ≡ is_some s
      by_start None = refl
      by_start (Some s) = refl

  -- an `init` of these classes
  pub starts_along : (line : List ℕ) → list_any (λ ss. list_any (λ (s : StartTree). true) ss) (of_each own_starts (map (declaration m) line)) ≡ is_some (start_along m line)
  starts_along [] = refl
  starts_along (c ∷ line) =
      rw (own_some (declaration m c), starts_along line)
      (sym (some_or (option_and_then own_start (declaration m c)) (start_along m line)))
