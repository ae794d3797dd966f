-- Keys that are added to a set.
use Rattle.std.proofs.Common.{◌≡◌, refl, sym, ◌∙◌, ap, ℕ, Bool, true, false, not, ◌&&◌, ◌||◌, nat_eq, List, [], ◌∷◌, ◌++◌, if◌then◌else◌}
use Rattle.std.specs.declared.result.Result.{Result}
use Rattle.std.specs.declared.result.Result.TheVariants.{Ok, Err}
use Rattle.std.specs.Result.{IfOk}
use Rattle.std.specs.List.{list_any}
use Rattle.std.specs.Str.{bytes_eq}
use Rattle.std.proofs.lemmas.Bool.{eqb-true, and_parts}
use Rattle.std.proofs.lemmas.List.Folds.{list_any-append}
use Rattle.std.proofs.lemmas.Slice.Eq.{bytes_eq-Decides}
use Rattle.indexmap.specs.IndexSet.{insert_key}

pub or_assoc : (a b c : Bool) → ((a || b) || c) ≡ (a || (b || c))
or_assoc true b c = refl
or_assoc false b c = refl

pub or_none : (a : Bool) → (a || false) ≡ a
or_none true = refl
or_none false = refl

pub and_assoc : (a b c d : Bool) → (a && (b && (c && d))) ≡ (a && b && c && d)
and_assoc false b c d = refl
and_assoc true false c d = refl
and_assoc true true false d = refl
and_assoc true true true d = refl

or_true : (a : Bool) → (a || true) ≡ true
or_true true = refl
or_true false = refl

same_twice : (a b : Bool) → ((a || b) || a) ≡ (a || b)
same_twice true b = refl
same_twice false b = or_none b

-- what follows from what an outcome has
pub if_ok : {T E : Type 0} (P Q : T → Type 0) (r : Result T E) → ((x : T) → P x → Q x) → IfOk r P → IfOk r Q
if_ok P Q (Ok x) step has = step x has
if_ok P Q (Err e) step has = has

pub turned : (a b : Bool) → a ≡ not b → b ≡ not a
turned a true is = rw is refl
turned a false is = rw is refl

module _ {K : Type 0} (eq : K → K → Bool) (test : K → Bool) (k : K) (alike : (x : K) → eq k x ≡ true → test k ≡ test x) where
  -- a key that is there passes the tests of its equal
  there : (ks : List K) → list_any (eq k) ks ≡ true → (list_any test ks || test k) ≡ list_any test ks
  there [] is = cc
  there (x ∷ xs) is = by_key (λ later. there xs later) (eq k x) refl
    where
      by_key : (list_any (eq k) xs ≡ true → (list_any test xs || test k) ≡ list_any test xs) → (b : Bool) → eq k x ≡ b → ((test x || list_any test xs) || test k) ≡ (test x || list_any test xs)
      by_key rest true at = rw (alike x at) (same_twice (test x) (list_any test xs))
      by_key rest false at =
          let later : list_any (eq k) xs ≡ true = rw at at is in
          or_assoc (test x) (list_any test xs) (test k) ∙ ap (λ (r : Bool). test x || r) (rest later)

  pub any_inserted : (ks : List K) → list_any test (insert_key eq ks k) ≡ (list_any test ks || test k)
  any_inserted ks = by_key (list_any (eq k) ks) refl
    where
      by_key : (b : Bool) → list_any (eq k) ks ≡ b → list_any test (if b then ks else ks ++ k ∷ []) ≡ (list_any test ks || test k)
      by_key true is = sym (there ks is)
      by_key false is = list_any-append test ks (k ∷ []) ∙ ap (λ (r : Bool). list_any test ks || r) (or_none (test k))

same_bytes : (xs ys q : List ℕ) → bytes_eq xs ys ≡ true → bytes_eq q xs ≡ bytes_eq q ys
same_bytes xs ys q is = ap (λ (n : List ℕ). bytes_eq q n) ((bytes_eq-Decides xs ys).0 is)

same_number : (i j n : ℕ) → nat_eq i j ≡ true → nat_eq n i ≡ nat_eq n j
same_number i j n is = ap (λ (k : ℕ). nat_eq n k) (eqb-true i j is)

pub selectors_alike : (xs ys : List ℕ) (i j : ℕ) (q : List ℕ) (n : ℕ) → (bytes_eq xs ys && nat_eq i j) ≡ true → (nat_eq n i && bytes_eq q xs) ≡ (nat_eq n j && bytes_eq q ys)
selectors_alike xs ys i j q n is =
    let both = and_parts (bytes_eq xs ys) (nat_eq i j) is in
    rw (same_bytes xs ys q both.0, same_number i j n both.1) refl
