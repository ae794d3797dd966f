-- A walk goes on, with what is noted of the names of the open classes.
use Rattle.std.proofs.Common.{◌≡◌, refl, sym, subst, ap, ◌∙◌, ℕ, suc, ◌-◌, ◌<◌, List, [], ◌∷◌, ◌++◌, length, map, drop, get_or, drop-cons, Bor, Option}
use Rattle.std.proofs.lemmas.List.{length-map, drop-map}
use Rattle.pz_classes.specs.pz_syntax.declared.tokens.Pos.{Pos}
use Rattle.pz_classes.specs.pz_syntax.declared.names.Id.{Id}
use Rattle.pz_classes.specs.pz_syntax.Classes.{ModelTree}
use Rattle.pz_check_violations.specs.declared.violation.Violation.{Violation}
use Rattle.pz_check_violations.specs.Least.{least_from}
use Rattle.pz_classes_lineage.specs.declared.visit.Visit.{Visit}
use Rattle.pz_classes_lineage.specs.Preorder.{outermost}
use Rattle.pz_check_scopes.specs.declared.nested.Nested.{Nested}
use Rattle.pz_classes.specs.pz_classes_rules.Ancestors.{ancestors}
use Rattle.pz_classes.specs.pz_classes_rules.Members.{from_root}
use Rattle.pz_classes.specs.pz_classes_rules.Preorder.{Opens}
use Rattle.pz_check_duplicates.specs.declared.inherited.Inherited.{Inherited}
use Rattle.pz_check_duplicates.specs.devices.Inheriting.{found_in}
use Rattle.pz_check_duplicates.specs.devices.Knowing.{spread, Knows}
use Rattle.pz_check_duplicates.specs.devices.RepeatList.{own_of, own_at, of_line}

-- the outermost of a list stay the outermost
outermost_map : {A B : Type 0} (f : A → B) (n : ℕ) (xs : List A) → outermost n (map f xs) ≡ map f (outermost n xs)
outermost_map f n xs = ap (λ (count : ℕ). drop (count - n) (map f xs)) (length-map xs f) ∙ drop-map f (length xs - n) xs

module _ (m : ModelTree) (sort : Inherited) where
  -- what each of these classes declares
  abbrev pub names_of : List ℕ → List (List Id)
  names_of line = map (own_at sort m) line

  spread_names : (line : List ℕ) → spread (names_of line) ≡ from_root (own_of sort) m line
  spread_names [] = refl
  spread_names (c ∷ outer) = ap (λ (xs : List Id). xs ++ own_at sort m c) (spread_names outer)

  -- While these classes are open, these visits follow.
  pub record Walks (visits : List Visit) (known : Nested (Bor (List ℕ)) Pos) : Type 0 where
    pub line : List ℕ
    pub opens : Opens m line visits
    pub knows : Knows (names_of line) known

  -- one visit further
  pub record Entered (visits : List Visit) (v : Visit) (after : Nested (Bor (List ℕ)) Pos) (least now : Option Violation) : Type 0 where
    pub walks : Walks visits after
    pub found : now ≡ least_from least (of_line m sort (ancestors m v.class))

  first_entered : (v : Visit) (visits : List Visit) (before closed after : Nested (Bor (List ℕ)) Pos) (least now : Option Violation) → Walks (v ∷ visits) before
      → ((names : List (List Id)) → Knows names before → Knows (outermost v.depth names) closed)
      → ((outer : List (List Id)) → Knows outer closed → Knows (own_at sort m v.class ∷ outer) after)
      → ((outer : List (List Id)) → Knows outer closed → now ≡ least_from least (found_in (spread outer) (own_at sort m v.class)))
      → Entered visits v after least now
  first_entered v visits before closed after least now walk closes enters finds =
      let outer = outermost v.depth walk.line in
      let open_line : ancestors m v.class ≡ v.class ∷ outer = walk.opens.1 in
      let kept : Knows (names_of outer) closed = subst (λ (names : List (List Id)). Knows names closed) (outermost_map (own_at sort m) v.depth walk.line) (closes (names_of walk.line) walk.knows) in
      let held : now ≡ least_from least (of_line m sort (v.class ∷ outer)) = finds (names_of outer) kept ∙ ap (λ (xs : List Id). least_from least (found_in xs (own_at sort m v.class))) (spread_names outer) in
      record {
        walks = record {
          line = ancestors m v.class;
          opens = walk.opens.2;
          knows = subst (λ (line : List ℕ). Knows (names_of line) after) (sym open_line) (enters (names_of outer) kept);
        };
        found = held ∙ ap (λ (line : List ℕ). least_from least (of_line m sort line)) (sym open_line);
      }

  pub entered : (visits : List Visit) (v : Visit) (i j : ℕ) (before closed after : Nested (Bor (List ℕ)) Pos) (least now : Option Violation) → i < length visits → v ≡ get_or visits i v → j ≡ suc i
      → Walks (drop i visits) before
      → ((names : List (List Id)) → Knows names before → Knows (outermost v.depth names) closed)
      → ((outer : List (List Id)) → Knows outer closed → Knows (own_at sort m v.class ∷ outer) after)
      → ((outer : List (List Id)) → Knows outer closed → now ≡ least_from least (found_in (spread outer) (own_at sort m v.class)))
      → Entered (drop j visits) v after least now
  entered visits v i j before closed after least now within here next walk closes enters finds =
      let first : drop i visits ≡ v ∷ drop (suc i) visits = drop-cons visits i v within ∙ ap (λ (x : Visit). x ∷ drop (suc i) visits) (sym here) in
      rw next (first_entered v (drop (suc i) visits) before closed after least now (subst (λ (vs : List Visit). Walks vs before) first walk) closes enters finds)
