-- The classes that are open on a walk, and what they declare.
use Rattle.std.proofs.Common.{◌≡◌, refl, sym, ap, ◌∙◌, ℕ, zero, suc, List, [], ◌∷◌, map, Some, slice_get}
use Rattle.std.specs.Option.{option_map_or}
use Rattle.std.specs.Str.{bytes_eq}
use Rattle.std.proofs.lemmas.List.Folds.{list_any-append}
use Rattle.pz_classes_code.specs.pz_syntax.declared.names.Id.{Id}
use Rattle.pz_classes_code.specs.pz_syntax.Classes.{DeclTree, ModelTree}
use Rattle.pz_classes_lineage.specs.declared.visit.Visit.{Visit}
use Rattle.pz_classes_lineage.specs.Preorder.{outermost}
use Rattle.pz_classes.specs.pz_classes_rules.Numbers.{declaration}
use Rattle.pz_classes.specs.pz_classes_rules.Ancestors.{ancestors}
use Rattle.pz_classes.specs.pz_classes_rules.Members.{from_root, spelled}
use Rattle.pz_classes.specs.pz_classes_rules.Preorder.{Opens}
use Rattle.pz_check_instances.specs.devices.NameSets.{has_name, SameNames}
use Rattle.pz_check_instances.specs.devices.Open.{kept}
use Rattle.pz_check_instances.proofs.NameLists.{has_with_all, spelled_append}
use Rattle.pz_check_instances.proofs.Kept.{outermost_map}

module _ (m : ModelTree) where
  -- what is open after so many visits, where this line was open before
  abbrev pub line_from : List ℕ → List Visit → ℕ → List ℕ
  line_from line vs zero = line
  line_from line [] (suc i) = line
  line_from line (v ∷ vs) (suc i) = line_from (ancestors m v.class) vs i

  abbrev pub line_after : List Visit → ℕ → List ℕ
  line_after = line_from []

  -- a visit opens its class inside the outermost of those that are open
  opens_at : (line : List ℕ) (vs : List Visit) (i : ℕ) (v : Visit) → Opens m line vs → slice_get vs i ≡ Some v
      → ancestors m v.class ≡ v.class ∷ outermost v.depth (line_from line vs i)
  opens_at line [] i v opens here = cc
  opens_at line (w ∷ vs) zero v opens here = let same : w ≡ v = cc in rw (← same) opens.1
  opens_at line (w ∷ vs) (suc i) v opens here = opens_at (ancestors m w.class) vs i v opens.2 here

  line_next : (line : List ℕ) (vs : List Visit) (i : ℕ) (v : Visit) → slice_get vs i ≡ Some v → line_from line vs (suc i) ≡ ancestors m v.class
  line_next line [] i v here = cc
  line_next line (w ∷ vs) zero v here = let same : w ≡ v = cc in ap (λ (x : Visit). ancestors m x.class) same
  line_next line (w ∷ vs) (suc i) v here = line_next (ancestors m w.class) vs i v here

  module _ (own : DeclTree → List Id) where
    -- the names that the class of this number itself declares
    abbrev pub own_names : ℕ → List (List ℕ)
    own_names c = spelled (option_map_or own (declaration m c) [])

    -- what each class of a line declares
    abbrev pub scopes_of : List ℕ → List (List (List ℕ))
    scopes_of line = map own_names line

    -- the scopes one visit further
    pub scopes_next : (vs : List Visit) (i : ℕ) (v : Visit) → Opens m [] vs → slice_get vs i ≡ Some v
        → (own_names v.class ∷ outermost v.depth (scopes_of (line_after vs i))) ≡ scopes_of (line_after vs (suc i))
    scopes_next vs i v opens here =
        ap (λ (scopes : List (List (List ℕ))). own_names v.class ∷ scopes) (outermost_map own_names v.depth (line_after vs i))
        ∙ ap scopes_of (sym (opens_at [] vs i v opens here) ∙ sym (line_next [] vs i v here))

    -- what is open at a visit are the names of its class
    pub scopes_at : (vs : List Visit) (i : ℕ) (v : Visit) → slice_get vs i ≡ Some v → scopes_of (line_after vs (suc i)) ≡ scopes_of (ancestors m v.class)
    scopes_at vs i v here = ap scopes_of (line_next [] vs i v here)

    kept_line : (line : List ℕ) (q : List ℕ) → has_name (kept (scopes_of line)) q ≡ has_name (spelled (from_root own m line)) q
    kept_line [] q = refl
    kept_line (c ∷ line) q =
        has_with_all (kept (scopes_of line)) (own_names c) q
        ∙ rw (kept_line line q) (sym (list_any-append (bytes_eq q) (spelled (from_root own m line)) (own_names c))
        ∙ ap (λ (l : List (List ℕ)). has_name l q) (sym (spelled_append (from_root own m line) (option_map_or own (declaration m c) []))))

    -- the names that are kept of a class and its ancestors are those that it has
    pub kept_same : (c : ℕ) → SameNames (kept (scopes_of (ancestors m c))) (spelled (from_root own m (ancestors m c)))
    kept_same c q = kept_line (ancestors m c) q
