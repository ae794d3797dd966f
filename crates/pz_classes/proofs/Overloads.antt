-- Methods that are put behind those of their name.
use Rattle.std.proofs.Common.{◌≡◌, refl, sym, ap, subst, ◌∙◌, ℕ, Bool, true, false, ◌&&◌, List, [], ◌∷◌, ◌++◌, Option, Some, None, IsSome, Vec, Global, if◌then◌else◌}
use Rattle.std.specs.Option.{option_or, unwrap_or}
use Rattle.std.specs.Str.{bytes_eq}
use Rattle.std.specs.Map.{lookup, KeepsOthers, IsKeyTest, AreApart}
use Rattle.std.proofs.lemmas.Bool.{eqb-true}
use Rattle.std.proofs.lemmas.Slice.Eq.{bytes_eq-Decides}
use Rattle.indexmap.specs.IndexMap.{IndexMap, get_by, UpdatesBy}
use Rattle.pz_classes_rules.specs.declared.method_id.Counts.{Counts}
use Rattle.pz_classes_rules.specs.declared.method_id.Counts.TheVariants.{Data, Process}
use Rattle.pz_classes_rules.specs.declared.method_id.MethodId.{MethodId}
use Rattle.pz_classes.specs.declared.method_index.Overload.{Overload}
use Rattle.pz_classes.specs.declared.method_index.Methods.{Methods}
use Rattle.pz_classes_rules.specs.Methods.{Signature, same_counts, same_signature}
use Rattle.pz_classes.specs.devices.MethodIn.{first_with_counts, overloads_in, method_in}

abbrev Key : Type 0
Key = Vec ℕ Global

abbrev same_key : Key → Key → Bool
same_key a b = bytes_eq a.items b.items

-- what a map has at a name
abbrev pub at_name : {V S : Type 0} → List ℕ → IndexMap Key V S → Option V
at_name name m = get_by (λ k. bytes_eq name k.items) m

keeps_others : {V : Type 0} (test : Key → Bool) (old new : List (Key × V)) → KeepsOthers same_key test old new
    → (other : Key → Bool) → IsKeyTest same_key other → AreApart test other → lookup other new ≡ lookup other old
unfolding KeepsOthers
keeps_others test old new keeps = keeps

-- a map with a value at the name, and at each other name what it had
pub named : {V S : Type 0} (old new : IndexMap Key V S) (name : List ℕ) (v : V) → UpdatesBy same_key (λ k. bytes_eq name k.items) old new (Some v)
    → (q : List ℕ) → at_name q new ≡ (if bytes_eq q name then Some v else at_name q old)
named old new name v updates q = by_name (bytes_eq q name) refl
  where
    by_name : (b : Bool) → bytes_eq q name ≡ b → at_name q new ≡ (if bytes_eq q name then Some v else at_name q old)
    by_name true is = rw is (subst (λ (n : List ℕ). at_name n new ≡ Some v) (sym ((bytes_eq-Decides q name).0 is)) updates.1)
    by_name false is = rw is (keeps_others (λ k. bytes_eq name k.items) old.entries new.entries updates.3 (λ k. bytes_eq q k.items)
        (λ x y same. ap (λ (n : List ℕ). bytes_eq n y.items) ((bytes_eq-Decides q x.items).0 same))
        (λ k same. subst (λ (n : List ℕ). bytes_eq q n ≡ false) ((bytes_eq-Decides name k.items).0 same) is))

-- the same where a key that spells the name is added to a map that looking up has left as it was
pub named_key : {V S : Type 0} (old left new : IndexMap Key V S) (key : Key) (name : List ℕ) (v : V) → left ≡ old → key.items ≡ name → UpdatesBy same_key (same_key key) left new (Some v)
    → (q : List ℕ) → at_name q new ≡ (if bytes_eq q name then Some v else at_name q old)
named_key old left new key name v kept spelled updates = rw (← kept, ← spelled) (named left new key.items v updates)

-- one more of its name, behind those that were there
pub one_more : {S : Type 0} (old new : IndexMap Key (List Overload) S) (name : List ℕ) (o : Overload) (os : List Overload) → os ≡ unwrap_or (at_name name old) [] ++ o ∷ []
    → ((q : List ℕ) → at_name q new ≡ (if bytes_eq q name then Some os else at_name q old))
    → (q : List ℕ) → unwrap_or (at_name q new) [] ≡ (if bytes_eq q name then unwrap_or (at_name q old) [] ++ o ∷ [] else unwrap_or (at_name q old) [])
one_more old new name o os grown put q = rw (put q) (by_name (bytes_eq q name) refl)
  where
    by_name : (b : Bool) → bytes_eq q name ≡ b
        → unwrap_or (if b then Some os else at_name q old) [] ≡ (if b then unwrap_or (at_name q old) [] ++ o ∷ [] else unwrap_or (at_name q old) [])
    by_name true is = grown ∙ ap (λ (n : List ℕ). unwrap_or (at_name n old) [] ++ o ∷ []) (sym ((bytes_eq-Decides q name).0 is))
    by_name false is = refl

module _ (counts : Counts) (o : Overload) where
  -- the last is found where none before it is
  found_last : (os : List Overload) → first_with_counts counts (os ++ o ∷ []) ≡ option_or (first_with_counts counts os) (if same_counts counts o.counts then Some o.id else None)
  found_last [] = refl
  found_last (x ∷ xs) = by_counts (same_counts counts x.counts) (found_last xs)
    where
      rest : Option MethodId
      rest = if same_counts counts o.counts then Some o.id else None

      by_counts : (b : Bool) → first_with_counts counts (xs ++ o ∷ []) ≡ option_or (first_with_counts counts xs) rest
          → (if b then Some x.id else first_with_counts counts (xs ++ o ∷ [])) ≡ option_or (if b then Some x.id else first_with_counts counts xs) rest
      by_counts true later = refl
      by_counts false later = later

or_none : {A : Type 0} (found : Option A) → found ≡ option_or found None
or_none None = refl
or_none (Some x) = refl

-- this one was put behind the others of its name
abbrev pub Put : Methods → Methods → List ℕ → Overload → Type 0
Put old new name o = (q : List ℕ) → overloads_in new q ≡ (if bytes_eq q name then overloads_in old q ++ o ∷ [] else overloads_in old q)

-- a method that is put is found where none before it is
pub put_is_found : (old new : Methods) (name : List ℕ) (o : Overload) → Put old new name o
    → (s : Signature) → method_in new s ≡ option_or (method_in old s) (if same_signature s (record { name = name; counts = o.counts }) then Some o.id else None)
put_is_found old new name o put s = rw (put s.name) (by_tests (bytes_eq s.name name) (found_last s.counts o (overloads_in old s.name)))
  where
    by_counts : (c : Bool) → option_or (method_in old s) (if c then Some o.id else None) ≡ option_or (method_in old s) (if c && true then Some o.id else None)
    by_counts true = refl
    by_counts false = refl

    by_tests : (b : Bool) → first_with_counts s.counts (overloads_in old s.name ++ o ∷ []) ≡ option_or (method_in old s) (if same_counts s.counts o.counts then Some o.id else None)
        → first_with_counts s.counts (if b then overloads_in old s.name ++ o ∷ [] else overloads_in old s.name)
        ≡ option_or (method_in old s) (if same_counts s.counts o.counts && b then Some o.id else None)
    by_tests true last = last ∙ by_counts (same_counts s.counts o.counts)
    by_tests false last = by_none (same_counts s.counts o.counts)
      where
        by_none : (c : Bool) → method_in old s ≡ option_or (method_in old s) (if c && false then Some o.id else None)
        by_none true = or_none (method_in old s)
        by_none false = or_none (method_in old s)

both_true : (b c : Bool) → (b && c) ≡ true → (b ≡ true) × (c ≡ true)
both_true true true is = (refl, refl)
both_true true false is = cc
both_true false c is = cc

same_counts_is : (a b : Counts) → same_counts a b ≡ true → a ≡ b
same_counts_is (Data i) (Data j) is = ap Data (eqb-true i j is)
same_counts_is (Data i) (Process j l) is = cc
same_counts_is (Process i k) (Data j) is = cc
same_counts_is (Process i k) (Process j l) is = let both = both_true _ _ is in rw (eqb-true i j both.0, eqb-true k l both.1) refl

same_is : (s t : Signature) → same_signature s t ≡ true → s ≡ t
same_is s t is =
    let both = both_true (same_counts s.counts t.counts) (bytes_eq s.name t.name) is in
    rw (same_counts_is s.counts t.counts both.0, (bytes_eq-Decides s.name t.name).0 both.1) refl

-- a method with a signature that one before it has is not found
pub first_is_found : (methods : Methods) (t : Signature) (id : MethodId) → IsSome (method_in methods t)
    → (s : Signature) → method_in methods s ≡ option_or (method_in methods s) (if same_signature s t then Some id else None)
first_is_found methods t id has s = by_test (same_signature s t) refl
  where
    some : (o : Option MethodId) → IsSome o → (p : Option MethodId) → o ≡ option_or o p
    some (Some x) is p = refl
    some None is p = cc

    by_test : (b : Bool) → same_signature s t ≡ b → method_in methods s ≡ option_or (method_in methods s) (if b then Some id else None)
    by_test true is = some (method_in methods s) (subst (λ (r : Signature). IsSome (method_in methods r)) (sym (same_is s t is)) has) (Some id)
    by_test false is = or_none (method_in methods s)
