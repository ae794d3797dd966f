-- A walk over all classes finds a repeat that is not behind any.
use Rattle.std.proofs.Common.{◌≡◌, sym, subst, ℕ, zero, suc, ◌-◌, List, [], ◌∷◌, length, drop, ◌⊎◌, inl, inr}
use Rattle.std.specs.List.{Contains}
use Rattle.pz_classes.specs.pz_syntax.declared.names.Id.{Id}
use Rattle.pz_classes.specs.pz_syntax.Classes.{ModelTree}
use Rattle.pz_check_violations.specs.declared.violation.Violation.{Violation}
use Rattle.pz_check_violations.specs.Least.{Member}
use Rattle.pz_check_violations.proofs.Members.{member_left, member_right}
use Rattle.pz_classes_lineage.specs.declared.visit.Visit.{Visit}
use Rattle.pz_classes_lineage.specs.Preorder.{outermost, visited}
use Rattle.pz_classes.specs.pz_classes_rules.Ancestors.{ancestors}
use Rattle.pz_classes.specs.pz_classes_rules.Members.{from_root}
use Rattle.pz_classes.specs.pz_classes_rules.Preorder.{Opens}
use Rattle.pz_classes.specs.pz_classes_rules.RepeatRules.{same_name}
use Rattle.pz_check_duplicates.specs.declared.inherited.Inherited.{Inherited}
use Rattle.pz_check_duplicates.specs.devices.Names.{id_place}
use Rattle.pz_check_duplicates.specs.devices.RepeatList.{own_of, own_at, of_line, of_visits}
use Rattle.pz_check_duplicates.proofs.Lists.{none_in, in_cases}
use Rattle.pz_check_duplicates.proofs.Repeated.{At}
use Rattle.pz_classes.proofs.pz_classes_rules_proofs.Turned.{names_turned}
use Rattle.pz_check_duplicates.proofs.Covering.{found_sound, Covers, covers_front, covers_more}

module _ (m : ModelTree) (sort : Inherited) where
  -- the names of these classes, those of the outermost first
  abbrev pub names_on : List ℕ → List Id
  names_on line = from_root (own_of sort) m line

  pub line_sound : (line : List ℕ) (v : Violation) → Member v (of_line m sort line) → At same_name id_place 4 (names_on line) v
  line_sound [] v found = absurd found
  line_sound (c ∷ outer) v found = found_sound same_name id_place 4 names_turned (names_on outer) (own_at sort m c) v found

  module _ (all : List Violation) where
    abbrev CoversOn : List ℕ → Type 0
    CoversOn line = Covers same_name id_place 4 names_turned all (names_on line)

    -- what the outer classes declare is a front of what all declare
    covers_outer : (n : ℕ) (line : List ℕ) → CoversOn line → CoversOn (drop n line)
    covers_outer zero line covers = covers
    covers_outer (suc n) [] covers = covers
    covers_outer (suc n) (c ∷ line) covers = covers_outer n line (covers_front same_name id_place 4 names_turned all (names_on line) (own_at sort m c) covers)

    covers_class : (c : ℕ) (outer line : List ℕ) → line ≡ c ∷ outer → ((v : Violation) → Member v (of_line m sort line) → Member v all) → CoversOn outer → CoversOn line
    covers_class c outer line is given covers =
        let inside : (v : Violation) → Member v (of_line m sort (c ∷ outer)) → Member v all = subst (λ (ks : List ℕ). (v : Violation) → Member v (of_line m sort ks) → Member v all) is given in
        subst (λ (ks : List ℕ). CoversOn ks) (sym is) (covers_more same_name id_place 4 names_turned all (names_on outer) (own_at sort m c) inside covers)

    -- a walk covers each class that it comes to
    pub covers_visited : (visits : List Visit) (line : List ℕ) → Opens m line visits → ((v : Violation) → Member v (of_visits m sort visits) → Member v all) → CoversOn line
        → (c : ℕ) → Contains (visited visits) c → CoversOn (ancestors m c)
    covers_visited [] line nested given covers c here = absurd (none_in c here)
    covers_visited (v ∷ vs) line nested given covers c here = by_part (λ first later. covers_visited vs (ancestors m v.class) nested.2 in_rest first c later) (in_cases v.class (visited vs) c here)
      where
        in_rest : (w : Violation) → Member w (of_visits m sort vs) → Member w all
        in_rest w among = given w (member_right w (of_line m sort (ancestors m v.class)) (of_visits m sort vs) among)

        own : CoversOn (ancestors m v.class)
        own = covers_class v.class (outermost v.depth line) (ancestors m v.class) nested.1
            (λ w among. given w (member_left w (of_line m sort (ancestors m v.class)) (of_visits m sort vs) among))
            (covers_outer (length line - v.depth) line covers)

        by_part : (CoversOn (ancestors m v.class) → Contains (visited vs) c → CoversOn (ancestors m c)) → (v.class ≡ c) ⊎ Contains (visited vs) c → CoversOn (ancestors m c)
        by_part rest (inl is) = subst (λ (k : ℕ). CoversOn (ancestors m k)) is own
        by_part rest (inr later) = rest own later
