-- Where no method begins with itself, no more methods open in one another than there are.
use Rattle.std.proofs.Common.{◌≡◌, refl, sym, subst, ◌≤◌, ◌<◌, ◌+◌, ℕ, zero, suc, Bool, true, false, List, [], ◌∷◌, length, Option, Some, None, slice_get, eqb, arith, IsTrue, Contains}
use Rattle.std.specs.Option.{option_map_or}
use Rattle.std.specs.List.{IsDistinct, AllByRecursion, list_any}
use Rattle.std.proofs.lemmas.Bool.{eqb-true}
use Rattle.std.proofs.lemmas.Map.Keys.{IsDistinct-cons}
use Rattle.std.proofs.lemmas.Map.Steps.{length-le_from_distinct_below}
use Rattle.pz_bind_rules.specs.pz_syntax.declared.names.Id.{Id}
use Rattle.pz_bind_rules.specs.pz_syntax.Classes.{DeclTree, ModelTree}
use Rattle.pz_bind_rules.specs.pz_check_violations.Order.{violation}
use Rattle.pz_bind_rules.specs.pz_classes_rules.declared.method_id.Counts.TheVariants.{Process}
use Rattle.pz_bind_rules.specs.pz_classes_rules.Numbers.{declaration}
use Rattle.pz_bind_rules.specs.pz_classes_rules.Kinds.{is_process}
use Rattle.pz_bind_rules.specs.pz_classes_rules.Methods.{method_id}
use Rattle.pz_classes_openings.specs.Methods.{methods}
use Rattle.pz_classes_openings.specs.Openings.{begun_at, HasMethod, called, Leads, itself, further}
use Rattle.pz_classes_openings.specs.OpeningRules.{round}
use Rattle.pz_classes_openings.proofs.Found.{Standing, found_there}
use Rattle.pz_rules.specs.Openable.{IsProcessClass}
use Rattle.pz_rules.specs.Opening.{depth_of}
use Rattle.pz_rules.specs.Shallow.{Shallow}
use Rattle.pz_rules.specs.CallLaws.{NoRounds}

apart : (k : ℕ) (xs : List ℕ) → list_any (eqb k) xs ≡ false → AllByRecursion (λ y. eqb k y ≡ false) xs
apart k [] none = tt
apart k (x ∷ xs) none = by_test (eqb k x) refl (apart k xs)
  where
    by_test : (b : Bool) → eqb k x ≡ b → (list_any (eqb k) xs ≡ false → AllByRecursion (λ y. eqb k y ≡ false) xs) → AllByRecursion (λ y. eqb k y ≡ false) (x ∷ xs)
    by_test true is rest = let wrong : true ≡ false = rw is at none in cc
    by_test false is rest = (is, rest (rw is at none))

below : {A : Type 0} (xs : List A) (k : ℕ) (x : A) → slice_get xs k ≡ Some x → k < length xs
below [] k x is = cc
below (y ∷ xs) zero x is = omega arith
below (y ∷ xs) (suc k) x is = let later = below xs k x is in omega (arith, later)

pub has_called : (m : ModelTree) (c : ℕ) (x : Id) (l : ℕ) → called m c x ≡ Some (method_id l) → HasMethod m c l
has_called m c x l is = (record { name = x.name; counts = Process 0 0 }, is)

module _ (m : ModelTree) (c : ℕ) (d : DeclTree) (declared : declaration m c ≡ Some d) (process : IsTrue (is_process d)) (none : NoRounds m) where
  -- each of these leads to this method
  abbrev AllLead : List ℕ → ℕ → Type 0
  AllLead xs k = (q : ℕ) → list_any (eqb q) xs ≡ true → Leads m c q k

  abbrev AllBelow : List ℕ → Type 0
  AllBelow xs = (q : ℕ) → list_any (eqb q) xs ≡ true → q < length (methods m)

  within : (k : ℕ) → HasMethod m c k → k < length (methods m)
  within k has = by_standing (found_there m has.0 c k has.1)
    where
      by_standing : Standing (methods m) k has.0 → k < length (methods m)
      by_standing st = below (methods m) k st.method st.there

  module _ (k : ℕ) (xs : List ℕ) (lead : AllLead (k ∷ xs) k) (low : AllBelow (k ∷ xs)) (has : HasMethod m c k) (x : Id) (l : ℕ) (begun : Contains (begun_at m k) x) (is : called m c x ≡ Some (method_id l)) where
    all_lead : AllLead (l ∷ k ∷ xs) l
    all_lead q among = by_test (eqb q l) refl among
      where
        by_test : (b : Bool) → eqb q l ≡ b → list_any (eqb q) (l ∷ k ∷ xs) ≡ true → Leads m c q l
        by_test true e i = subst (λ (n : ℕ). Leads m c n l) (sym (eqb-true q l e)) itself
        by_test false e i = further k l x (lead q (rw e at i)) begun is

    all_below : AllBelow (l ∷ k ∷ xs)
    all_below q among = by_test (eqb q l) refl among
      where
        by_test : (b : Bool) → eqb q l ≡ b → list_any (eqb q) (l ∷ k ∷ xs) ≡ true → q < length (methods m)
        by_test true e i = let same : q ≡ l = eqb-true q l e in let at : l < length (methods m) = within l (has_called m c x l is) in omega (arith, same, at)
        by_test false e i = low q (rw e at i)

    not_again : list_any (eqb l) (k ∷ xs) ≡ true → ⊥
    not_again again = none (violation 23 x.pos) (round c k l d x declared process has begun is (lead l again))

  abbrev IsKnown : ℕ → ℕ → List ℕ → Type 0
  IsKnown depth k xs = IsDistinct eqb (k ∷ xs) → AllBelow (k ∷ xs) → AllLead (k ∷ xs) k → HasMethod m c k → length (methods m) ≤ depth + length xs → Shallow m c depth k

  goes_on : (depth k : ℕ) (xs : List ℕ) → IsDistinct eqb (k ∷ xs) → AllBelow (k ∷ xs) → AllLead (k ∷ xs) k → HasMethod m c k → length (methods m) ≤ suc depth + length xs
      → (x : Id) (l : ℕ) → Contains (begun_at m k) x → called m c x ≡ Some (method_id l) → IsKnown depth l (k ∷ xs) → Shallow m c depth l
  goes_on depth k xs once low lead has enough x l begun is go = by_test (list_any (eqb l) (k ∷ xs)) refl
    where
      by_test : (b : Bool) → list_any (eqb l) (k ∷ xs) ≡ b → Shallow m c depth l
      by_test true e = absurd (not_again k xs lead low has x l begun is e)
      by_test false e =
          go (IsDistinct-cons eqb l (k ∷ xs) (apart l (k ∷ xs) e) once) (all_below k xs lead low has x l begun is) (all_lead k xs lead low has x l begun is) (has_called m c x l is) (omega (arith, enough))

  shallow : (depth k : ℕ) (xs : List ℕ) → IsKnown depth k xs
  shallow zero k xs once low lead has enough =
      let many = length-le_from_distinct_below (k ∷ xs) (length (methods m)) once low in
      absurd (omega (arith, many, enough))
  shallow (suc depth) k xs once low lead has enough = λ x l begun is. goes_on depth k xs once low lead has enough x l begun is (shallow depth l (k ∷ xs))

  alone_leads : (k : ℕ) → AllLead (k ∷ []) k
  alone_leads k q among = by_test (eqb q k) refl among
    where
      by_test : (b : Bool) → eqb q k ≡ b → list_any (eqb q) (k ∷ []) ≡ true → Leads m c q k
      by_test true e i = subst (λ (n : ℕ). Leads m c n k) (sym (eqb-true q k e)) itself
      by_test false e i = let wrong : false ≡ true = rw e at i in cc

  alone_below : (k : ℕ) → HasMethod m c k → AllBelow (k ∷ [])
  alone_below k has q among = by_test (eqb q k) refl among
    where
      by_test : (b : Bool) → eqb q k ≡ b → list_any (eqb q) (k ∷ []) ≡ true → q < length (methods m)
      by_test true e i = let same : q ≡ k = eqb-true q k e in let at : k < length (methods m) = within k has in omega (arith, same, at)
      by_test false e i = let wrong : false ≡ true = rw e at i in cc

  from_alone : (k : ℕ) → HasMethod m c k → Shallow m c (depth_of m) k
  unfolding IsDistinct
  from_alone k has = shallow (length (methods m)) k [] (IsDistinct-cons eqb k [] tt tt) (alone_below k has) (alone_leads k) has (omega arith)

pub methods_are_shallow : (m : ModelTree) (c k : ℕ) → IsProcessClass m c → NoRounds m → HasMethod m c k → Shallow m c (depth_of m) k
methods_are_shallow m c k process none has = by_decl (declaration m c) refl process
  where
    by_decl : (o : Option DeclTree) → declaration m c ≡ o → IsTrue (option_map_or is_process o false) → Shallow m c (depth_of m) k
    by_decl None is p = cc
    by_decl (Some d) is p = from_alone m c d is p none k has
