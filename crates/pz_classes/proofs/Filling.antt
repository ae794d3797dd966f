-- The table of what classes have, filled line by line.
use Rattle.std.proofs.Common.{◌≡◌, refl, sym, ap, ◌∙◌, subst, ℕ, suc, ◌+◌, ◌<◌, ◌≤◌, ◌≢◌, List, [], ◌∷◌, ◌++◌, length, map, take, Option, Some, None, slice_get, get_or, get_or-set_same, get_or-set_other, arith, ◌⊎◌, inl, inr}
use Rattle.std.proofs.Math.ListN.{set}
use Rattle.std.specs.List.{All, Contains}
use Rattle.std.specs.Option.{IsSome, option_map, option_map_or, option_and_then, unwrap_or}
use Rattle.std.proofs.lemmas.List.{map_more, length-map, length-set, get_or-map, get_or_default}
use Rattle.std.proofs.lemmas.List.Elements.{All-from_get_or, Contains-append_cases, Contains-push_cases}
use Rattle.std.proofs.lemmas.Option.{slice_get-map, slice_get_read, slice_get_past, slice_get_cases}
use Rattle.pz_classes_code.specs.pz_syntax.declared.clusters.Model.{Model}
use Rattle.pz_classes_code.specs.pz_syntax.Classes.{ModelTree}
use Rattle.pz_classes_code.specs.pz_syntax.ClassView.{decl_view, model_view}
use Rattle.pz_classes_lineage.specs.declared.visit.Visit.{Visit}
use Rattle.pz_classes_lineage.specs.Parents.{parent_in}
use Rattle.pz_classes_lineage.specs.Preorder.{visited, IsPreorder}
use Rattle.pz_classes_rules.specs.Ancestors.{parent, ancestors}
use Rattle.pz_classes.specs.declared.members.Members.{Members}
use Rattle.pz_classes.specs.declared.line.End.{End}
use Rattle.pz_classes.specs.devices.Inherited.{HasMembers, AreMembers, none_yet}
use Rattle.pz_classes.specs.devices.Fronts.{kept, kept_above, Inherits, IsTable, Fills, classes_of}
use Rattle.pz_classes.proofs.Walked.{behind_its_parent}

abbrev Table : Type 0
Table = List (Option Members)

some_is : (x y : Members) → Some x ≡ Some y → x ≡ y
some_is x y same = cc

none_is : (x : Members) → None ≡ Some x → ⊥
none_is x same = cc

module _ (table : Table) (c : ℕ) (x : Members) (within : c < length table) where
  here : kept (set table c (Some x)) c ≡ Some x
  here = ap (option_and_then (λ (o : Option Members). o)) (slice_get_read (set table c (Some x)) (length table) c (Some x) (sym (length-set table c (Some x))) within (sym (get_or-set_same table c (Some x) (Some x) within)))

  there : (k : ℕ) → k ≢ c → kept (set table c (Some x)) k ≡ kept table k
  there k other = by_place (slice_get_cases table k).1
    where
      by_place : ((y : Option Members) × (k < length table) × (slice_get table k ≡ Some y) × (get_or table k y ≡ y)) ⊎ ((length table ≤ k) × (slice_get table k ≡ None)) → kept (set table c (Some x)) k ≡ kept table k
      by_place (inl at) =
          let same : slice_get (set table c (Some x)) k ≡ Some at.0 = slice_get_read (set table c (Some x)) (length table) k at.0 (sym (length-set table c (Some x))) at.1 (sym (get_or-set_other table c k (Some x) at.0 other ∙ at.3)) in
          ap (option_and_then (λ (o : Option Members). o)) (same ∙ sym at.2)
      by_place (inr past) =
          let long : length table ≤ k = past.0 in
          let size : length (set table c (Some x)) ≡ length table = length-set table c (Some x) in
          ap (option_and_then (λ (o : Option Members). o)) (slice_get_past (set table c (Some x)) k (omega arith) ∙ sym past.1)

  is_place : (k : ℕ) → (k ≡ c) ⊎ (k ≢ c)
  is_place k = grind arith

module _ (m : ModelTree) where
  pub fills_none : (table : Table) → IsTable m table → Fills m [] table table
  fills_none table is = record { table = is; still = λ c some. some; each = λ c among. (let none = among.1 in absurd (omega arith)) }

  pub fills_one : (table : Table) (c : ℕ) (x : Members) → IsTable m table → c < suc (length m.decls) → HasMembers m (ancestors m c) x → Fills m (c ∷ []) table (set table c (Some x))
  fills_one table c x is below has =
      let within : c < length table = (let counted = is.counted in omega arith) in
      record {
        table = record {
          counted = length-set table c (Some x) ∙ is.counted;
          has = λ k y at. by_place within k y at (is_place table c x within k);
        };
        still = λ k some. still_some within k some (is_place table c x within k);
        each = λ k among. by_name within k (Contains-push_cases [] c k among);
      }
    where
      by_place : c < length table → (k : ℕ) (y : Members) → kept (set table c (Some x)) k ≡ Some y → (k ≡ c) ⊎ (k ≢ c) → HasMembers m (ancestors m k) y
      by_place within k y at (inl same) =
          let there_is : kept (set table c (Some x)) c ≡ Some y = subst (λ (i : ℕ). kept (set table c (Some x)) i ≡ Some y) same at in
          subst (λ (i : ℕ). HasMembers m (ancestors m i) y) (sym same) (subst (HasMembers m (ancestors m c)) (some_is x y (sym (here table c x within) ∙ there_is)) has)
      by_place within k y at (inr other) = is.has k y (sym (there table c x within k other) ∙ at)

      still_some : c < length table → (k : ℕ) → IsSome (kept table k) → (k ≡ c) ⊎ (k ≢ c) → IsSome (kept (set table c (Some x)) k)
      still_some within k some (inl same) = subst (λ (i : ℕ). IsSome (kept (set table c (Some x)) i)) (sym same) (subst IsSome (sym (here table c x within)) refl)
      still_some within k some (inr other) = subst IsSome (sym (there table c x within k other)) some

      by_name : c < length table → (k : ℕ) → Contains [] k ⊎ (c ≡ k) → IsSome (kept (set table c (Some x)) k)
      by_name within k (inl none) = let gone = none.1 in absurd (omega arith)
      by_name within k (inr same) = subst (λ (i : ℕ). IsSome (kept (set table c (Some x)) i)) same (subst IsSome (sym (here table c x within)) refl)

  pub fills_more : (cs ds : List ℕ) (old mid new : Table) → Fills m cs old mid → Fills m ds mid new → Fills m (cs ++ ds) old new
  fills_more cs ds old mid new first then = record {
    table = then.table;
    still = λ c some. then.still c (first.still c some);
    each = λ c among. by_part c (Contains-append_cases cs ds c among);
  }
    where
      by_part : (c : ℕ) → Contains cs c ⊎ Contains ds c → IsSome (kept new c)
      by_part c (inl before) = then.still c (first.each c before)
      by_part c (inr behind) = then.each c behind

  -- what the next class of a line has
  pub fills_end : (ends : List End) (i : ℕ) (d : End) (x : Members) (old table : Table) → i < length ends → Fills m (classes_of (take i ends)) old table
      → (get_or ends i d).class < suc (length m.decls) → HasMembers m (ancestors m (get_or ends i d).class) x
      → Fills m (classes_of (take (i + 1) ends)) old (set table (get_or ends i d).class (Some x))
  fills_end ends i d x old table within fills below has =
      subst (λ (cs : List ℕ). Fills m cs old (set table (get_or ends i d).class (Some x))) (sym (map_more (λ (e : End). e.class) ends i d within))
      (fills_more (classes_of (take i ends)) ((get_or ends i d).class ∷ []) old table (set table (get_or ends i d).class (Some x)) fills
      (fills_one table (get_or ends i d).class x fills.table below has))

  -- of these classes something is kept already
  pub fills_already : (table : Table) (c : ℕ) → IsTable m table → IsSome (kept table c) → Fills m (c ∷ []) table table
  fills_already table c is some = record {
    table = is;
    still = λ k there. there;
    each = λ k among. by_name k (Contains-push_cases [] c k among);
  }
    where
      by_name : (k : ℕ) → Contains [] k ⊎ (c ≡ k) → IsSome (kept table k)
      by_name k (inl none) = let gone = none.1 in absurd (omega arith)
      by_name k (inr same) = subst (λ (i : ℕ). IsSome (kept table i)) same some

  pub fills_fewer : (cs ds : List ℕ) (old new : Table) → ((c : ℕ) → Contains ds c → Contains cs c) → Fills m cs old new → Fills m ds old new
  fills_fewer cs ds old new among fills = record { table = fills.table; still = fills.still; each = λ c is. fills.each c (among c is) }

  -- what a class inherits is kept of its parent
  inherits_kept : (table : Table) → IsTable m table → (parent_of : Option ℕ) → ((p : ℕ) → parent_of ≡ Some p → IsSome (kept table p)) → HasMembers m (option_map_or (ancestors m) parent_of []) (kept_above table none_yet parent_of)
  inherits_kept table is None has = record { fields = refl; variables = refl; ports = refl }
  inherits_kept table is (Some p) has = by_case (kept table p) refl (has p refl)
    where
      by_case : (o : Option Members) → kept table p ≡ o → IsSome (kept table p) → HasMembers m (ancestors m p) (unwrap_or (kept table p) none_yet)
      by_case None none some = let gone : IsSome {T = Members} None = subst IsSome none some in cc
      by_case (Some x) found some = rw found (is.has p x found)

module _ (m : ModelTree) (visits : List Visit) (count : ℕ) (counted : count ≡ suc (length m.decls)) (walk : IsPreorder (parent m) count visits) where
  module _ (i : ℕ) (v : Visit) (within : i < length visits) (is : v ≡ get_or visits i v) where
    at : slice_get visits i ≡ Some v
    at = slice_get_read visits (length visits) i v refl within is

    pub is_class : v.class < count
    is_class = walk.within v.class (subst (λ (x : Visit). Contains (visited visits) x.class) (sym is) (visited_at i within))
      where
        visited_at : (k : ℕ) → k < length visits → Contains (visited visits) (get_or visits k v).class
        visited_at k below = (k, (let same = length-map visits (λ (x : Visit). x.class) in omega arith), get_or-map (λ (x : Visit). x.class) visits k v (get_or visits k v).class below)

    -- its parent was visited before
    pub visit_inherits : (old table : Table) (parents : List (Option ℕ)) → ((c : ℕ) → parent_in parents c ≡ parent m c) → Fills m (visited (take i visits)) old table
        → Inherits m v.class (kept_above table none_yet (parent_in parents v.class))
    visit_inherits old table parents extends fills =
        rw (extends v.class) (inherits_kept m table fills.table (parent m v.class) (λ p up. fills.each p (behind_its_parent (parent m) visits walk.nested i p v at up)))

    visited_one : visited (take (i + 1) visits) ≡ visited (take i visits) ++ v.class ∷ []
    visited_one = map_more (λ (x : Visit). x.class) visits i v within ∙ ap (λ (x : Visit). visited (take i visits) ++ x.class ∷ []) (sym is)

    pub fills_visit : (old table new : Table) → Fills m (visited (take i visits)) old table → Fills m (v.class ∷ []) table new → Fills m (visited (take (i + 1) visits)) old new
    fills_visit old table new before then =
        subst (λ (cs : List ℕ). Fills m cs old new) (sym visited_one) (fills_more m (visited (take i visits)) (v.class ∷ []) old table new before then)

  -- nothing is left out in the end
  pub none_left : (old table : Table) → Fills m (visited visits) old table → All IsSome table
  none_left old table fills = All-from_get_or IsSome table None (λ c below. at_place c (kept_at c below) (fills.each c (walk.whole c (let sized = fills.table.counted in omega arith))))
    where
      kept_at : (c : ℕ) → c < length table → kept table c ≡ get_or table c None
      kept_at c below = ap (option_and_then (λ (o : Option Members). o)) (slice_get_read table (length table) c (get_or table c None) refl below (get_or_default table c None (get_or table c None) below))

      at_place : (c : ℕ) → kept table c ≡ get_or table c None → IsSome (kept table c) → IsSome (get_or table c None)
      at_place c same some = subst IsSome same some

pub all_filled : (m : ModelTree) (table : Table) (members : List Members) → IsTable m table → map Some members ≡ table → AreMembers m members
all_filled m table members is same = record {
  counted = sym (length-map members Some) ∙ ap (λ (t : Table). length t) same ∙ is.counted;
  each = λ c x at. is.has c x (sym (ap (λ (t : Table). kept t c) same) ∙ ap (option_and_then (λ (o : Option Members). o)) (slice_get-map Some members c ∙ ap (option_map Some) at));
}

-- one number for Array and one for each declaration
pub counted_with : (model : Model) → length model.decls + 1 ≡ suc (length (model_view model).decls)
counted_with model = let same : length (model_view model).decls ≡ length model.decls = length-map model.decls decl_view in omega arith

-- nothing is kept yet
pub table_begins : (model : Model) (table : Table) → length table ≡ length model.decls + 1 → ((c : ℕ) → kept table c ≡ None) → IsTable (model_view model) table
table_begins model table counted empty = record {
  counted = counted ∙ counted_with model;
  has = λ c x at. absurd (none_is x (sym (empty c) ∙ at));
}
