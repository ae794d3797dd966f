-- A line of classes grows by one that extends its last.
use Rattle.std.proofs.Common.{◌≡◌, refl, sym, ap, ◌∙◌, subst, ℕ, suc, ◌+◌, ◌<◌, ◌≤◌, List, [], ◌∷◌, ◌++◌, append_assoc, append-nil, length, take, Option, Some, arith}
use Rattle.std.specs.List.{Contains}
use Rattle.std.specs.Option.{option_map_or}
use Rattle.std.proofs.lemmas.List.{length-append, take-append-le, take_all, map-append}
use Rattle.std.proofs.lemmas.List.Elements.{All-append, All-weaker, All-nil, All-cons, Contains-append_left}
use Rattle.pz_classes_code.specs.pz_syntax.Classes.{ModelTree}
use Rattle.pz_classes_lineage.specs.Reached.{GoesRound}
use Rattle.pz_classes_rules.specs.Ancestors.{parent, ancestors}
use Rattle.pz_classes.specs.declared.members.Members.{Members}
use Rattle.pz_classes.specs.declared.members.Lengths.{Lengths}
use Rattle.pz_classes.specs.declared.line.End.{End}
use Rattle.pz_classes.specs.devices.Inherited.{HasMembers, AddsAt, none_yet}
use Rattle.pz_classes.specs.devices.Fronts.{front, lengths, total, behind, AreWithin, IsEnd, Inherits, IsLineTo, classes_of}
use Rattle.pz_classes_rules.proofs.Acyclic.{above}
use Rattle.pz_classes_rules.proofs.Heirs.{extends_within}
use Rattle.pz_classes.proofs.Inheriting.{grows}

-- a front of a list stays as it is where more comes behind
same_front : (n : ℕ) (old more now : List (List ℕ)) → now ≡ old ++ more → n ≤ length old → take n now ≡ take n old
same_front n old more now is within = ap (take n) is ∙ take-append-le n old more within

still_within : (n : ℕ) (old more now : List (List ℕ)) → now ≡ old ++ more → n ≤ length old → n ≤ length now
still_within n old more now is within = let size : length now ≡ length old + length more = ap length is ∙ length-append old more in omega arith

whole_front : (line : Members) → front (lengths line) line ≡ line
whole_front line =
    let fields : take (length line.fields) line.fields ≡ line.fields = take_all (length line.fields) line.fields (omega arith) in
    let variables : take (length line.variables) line.variables ≡ line.variables = take_all (length line.variables) line.variables (omega arith) in
    let ports : take (length line.ports) line.ports ≡ line.ports = take_all (length line.ports) line.ports (omega arith) in
    rw (fields, variables, ports) refl

all_within : (line : Members) → AreWithin (lengths line) line
all_within line = record { fields = omega arith; variables = omega arith; ports = omega arith }

module _ (m : ModelTree) (c : ℕ) (old new : Members) (adds : AddsAt m c old new) (n : Lengths) (within : AreWithin n old) where
  front_kept : front n new ≡ front n old
  front_kept =
      let fields : take n.fields new.fields ≡ take n.fields old.fields = same_front n.fields old.fields _ new.fields adds.fields within.fields in
      let variables : take n.variables new.variables ≡ take n.variables old.variables = same_front n.variables old.variables _ new.variables adds.variables within.variables in
      let ports : take n.ports new.ports ≡ take n.ports old.ports = same_front n.ports old.ports _ new.ports adds.ports within.ports in
      rw (fields, variables, ports) refl

  within_kept : AreWithin n new
  within_kept = record {
    fields = still_within n.fields old.fields _ new.fields adds.fields within.fields;
    variables = still_within n.variables old.variables _ new.variables adds.variables within.variables;
    ports = still_within n.ports old.ports _ new.ports adds.ports within.ports;
  }

-- how many stand above, and how many behind them
pub total_is : (up own : Members) → total (lengths up) (lengths own) ≡ lengths (behind up own)
total_is up own =
    let fields = length-append up.fields own.fields in
    let variables = length-append up.variables own.variables in
    let ports = length-append up.ports own.ports in
    rw (fields, variables, ports) refl

further : (xs old own new : List (List ℕ)) → new ≡ old ++ own → xs ++ new ≡ xs ++ old ++ own
further xs old own new is = ap (λ (ys : List (List ℕ)). xs ++ ys) is ∙ sym (append_assoc xs old own)

adds_behind : (m : ModelTree) (c : ℕ) (up old new : Members) → AddsAt m c old new → AddsAt m c (behind up old) (behind up new)
adds_behind m c up old new adds = record {
  fields = further up.fields old.fields _ new.fields adds.fields;
  variables = further up.variables old.variables _ new.variables adds.variables;
  ports = further up.ports old.ports _ new.ports adds.ports;
}

nothing_above : (up : Members) → behind up none_yet ≡ up
nothing_above up =
    let fields = append-nil up.fields in
    let variables = append-nil up.variables in
    let ports = append-nil up.ports in
    rw (fields, variables, ports) refl

module _ (m : ModelTree) (flat : (c : ℕ) → GoesRound (parent m) c → ⊥) where
  -- the end of a class that has all of the line
  last_end : (c : ℕ) (up own : Members) → c < suc (length m.decls) → HasMembers m (ancestors m c) (behind up own) → IsEnd m (lengths up) (behind up own) (record { class = c; lengths = lengths own })
  last_end c up own below has = record {
    within = subst (λ (n : Lengths). AreWithin n (behind up own)) (sym (total_is up own)) (all_within (behind up own));
    below = below;
    has = subst (HasMembers m (ancestors m c)) (sym (ap (λ (n : Lengths). front n (behind up own)) (total_is up own) ∙ whole_front (behind up own))) has;
  }

  pub line_begins : (c : ℕ) (own : Members) → c < suc (length m.decls) → AddsAt m c none_yet own → IsLineTo m c own (record { class = c; lengths = lengths own } ∷ []) c
  line_begins c own below adds =
      let has_all : (up : Members) → Inherits m c up → HasMembers m (ancestors m c) (behind up own) = λ up inherits.
      subst (λ (line : List ℕ). HasMembers m line (behind up own)) (sym (above m flat c below))
      (grows m c (option_map_or (ancestors m) (parent m c) []) up (behind up own) inherits
      (subst (λ (x : Members). AddsAt m c x (behind up own)) (nothing_above up) (adds_behind m c up none_yet own adds))) in
      record {
        is = record {
          begins = (0, omega arith, refl);
          each = λ up inherits. All-cons (IsEnd m (lengths up) (behind up own)) (record { class = c; lengths = lengths own }) [] (last_end c up own below (has_all up inherits)) (All-nil (IsEnd m (lengths up) (behind up own)));
        };
        below = below;
        has = has_all;
      }

  end_kept : (next : ℕ) (up old new : Members) → AddsAt m next old new → (e : End) → IsEnd m (lengths up) (behind up old) e → IsEnd m (lengths up) (behind up new) e
  end_kept next up old new adds e is = record {
    within = within_kept m next (behind up old) (behind up new) (adds_behind m next up old new adds) (total (lengths up) e.lengths) is.within;
    below = is.below;
    has = subst (HasMembers m (ancestors m e.class)) (sym (front_kept m next (behind up old) (behind up new) (adds_behind m next up old new adds) (total (lengths up) e.lengths) is.within)) is.has;
  }

  pub line_goes_on : (first last next : ℕ) (old new : Members) (ends : List End) → IsLineTo m first old ends last → parent m next ≡ Some last → AddsAt m next old new
      → IsLineTo m first new (ends ++ record { class = next; lengths = lengths new } ∷ []) next
  line_goes_on first last next old new ends line up_is adds =
      let below : next < suc (length m.decls) = extends_within m next last up_is in
      let has_all : (up : Members) → Inherits m first up → HasMembers m (ancestors m next) (behind up new) = λ up inherits.
      subst (λ (l : List ℕ). HasMembers m l (behind up new)) (sym (above m flat next below ∙ ap (λ (o : Option ℕ). next ∷ option_map_or (ancestors m) o []) up_is))
      (grows m next (ancestors m last) (behind up old) (behind up new) (line.has up inherits) (adds_behind m next up old new adds)) in
      record {
        is = record {
          begins = subst (λ (cs : List ℕ). Contains cs first) (sym (map-append (λ (e : End). e.class) ends (record { class = next; lengths = lengths new } ∷ [])))
              (Contains-append_left (classes_of ends) (next ∷ []) first line.is.begins);
          each = λ up inherits.
              All-append (IsEnd m (lengths up) (behind up new)) ends (record { class = next; lengths = lengths new } ∷ [])
              (All-weaker (IsEnd m (lengths up) (behind up old)) (IsEnd m (lengths up) (behind up new)) (end_kept next up old new adds) ends (line.is.each up inherits))
              (All-cons (IsEnd m (lengths up) (behind up new)) (record { class = next; lengths = lengths new }) [] (last_end next up new below (has_all up inherits)) (All-nil (IsEnd m (lengths up) (behind up new))));
        };
        below = below;
        has = has_all;
      }
