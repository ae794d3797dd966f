-- What the code finds of the names that an instance gives is what the rule says.
use Rattle.std.proofs.Common.{◌≡◌, refl, sym, ap, subst, ◌∙◌, ℕ, ◌+◌, ◌≤◌, arith, Bool, true, false, ◌&&◌, ◌||◌, nat_eq, cond, List, [], ◌∷◌, ◌++◌, length, ◌⊎◌, inl, inr, append_assoc}
use Rattle.std.specs.List.{list_all, count_by, IsDistinct}
use Rattle.std.specs.Str.{bytes_eq}
use Rattle.std.proofs.lemmas.Bool.Decides.{nat_tests}
use Rattle.std.proofs.lemmas.Slice.Eq.{bytes_eq-Decides}
use Rattle.std.proofs.lemmas.Cmp.{lists_equiv, nat_eq_equiv}
use Rattle.std.proofs.lemmas.List.{length_push}
use Rattle.std.proofs.lemmas.List.Folds.{list_any-append}
use Rattle.std.proofs.lemmas.List.Sums.{sum_by-append}
use Rattle.std.proofs.lemmas.Map.Keys.{IsDistinct-push}
use Rattle.std.proofs.lemmas.Map.Made.{length-le_from_is_member}
use Rattle.pz_check_instances.specs.devices.NameSets.{has_name, SameNames}
use Rattle.pz_check_instances.specs.devices.Given.{all_new, gives_wanted}
use Rattle.pz_classes.specs.pz_classes_rules.InstanceRules.{gives_each}
use Rattle.pz_check_instances.proofs.NameLists.{all_false, some_false, all_same, has_first, has_later}

-- how often a name stands in a list
abbrev times : List ℕ → List (List ℕ) → ℕ
times q xs = count_by (bytes_eq q) xs

times_append : (q : List ℕ) (xs ys : List (List ℕ)) → times q (xs ++ ys) ≡ times q xs + times q ys
times_append q xs ys = sum_by-append (λ x. cond (bytes_eq q x) 1 0) xs ys

times_first : (q x : List ℕ) (xs : List (List ℕ)) → times q (x ∷ xs) ≡ cond (bytes_eq q x) 1 0 + times q xs
times_first q x xs = let parts : times q (x ∷ xs) ≡ (0 + cond (bytes_eq q x) 1 0) + times q xs = times_append q (x ∷ []) xs in omega arith

-- it is there as often as at least once, or not at all
abbrev Told : Bool → ℕ → Type 0
Told b n = ((b ≡ true) × (1 ≤ n)) ⊎ ((b ≡ false) × (n ≡ 0))

told : (q : List ℕ) (xs : List (List ℕ)) → Told (has_name xs q) (times q xs)
told q [] = inr (refl, refl)
told q (x ∷ xs) = by_first (bytes_eq q x) refl (told q xs)
  where
    by_first : (b : Bool) → bytes_eq q x ≡ b → Told (has_name xs q) (times q xs) → Told (has_name (x ∷ xs) q) (times q (x ∷ xs))
    by_first true is rest =
        let count : times q (x ∷ xs) ≡ 1 + times q xs = rw (times_first q x xs, is) refl in
        inl (rw is refl, omega arith)
    by_first false is rest =
        let parts : times q (x ∷ xs) ≡ 0 + times q xs = rw (times_first q x xs, is) refl in
        let count : times q (x ∷ xs) ≡ times q xs = omega arith in
        rw (count, is) rest

-- no name stands there twice
abbrev Once : List (List ℕ) → Type 0
Once xs = (q : List ℕ) → times q xs ≤ 1

once_more : (xs : List (List ℕ)) (x : List ℕ) → Once xs → has_name xs x ≡ false → Once (xs ++ x ∷ [])
once_more xs x once absent q = by_first (bytes_eq q x) refl
  where
    by_first : (b : Bool) → bytes_eq q x ≡ b → times q (xs ++ x ∷ []) ≤ 1
    by_first true is =
        let same : q ≡ x = (bytes_eq-Decides q x).0 is in
        let new : has_name xs q ≡ false = cc in
        let none : times q xs ≡ 0 = elim (told q xs) [ inl t ↦ absurd (cc (t.0, new)) | inr t ↦ t.1 ] in
        let count : times q (xs ++ x ∷ []) ≡ times q xs + 1 = rw (times_append q xs (x ∷ []), is) refl in
        omega arith
    by_first false is =
        let count : times q (xs ++ x ∷ []) ≡ times q xs + 0 = rw (times_append q xs (x ∷ []), is) refl in
        let before : times q xs ≤ 1 = once q in
        omega arith

append_none : (xs : List (List ℕ)) → xs ≡ xs ++ []
append_none [] = refl
append_none (x ∷ xs) = ap (λ (l : List (List ℕ)). x ∷ l) (append_none xs)

-- each that is given is wanted, and none comes twice
record AreNew (wanted seen xs : List (List ℕ)) : Type 0 where
  wanted_all : list_all (has_name wanted) xs ≡ true
  once : Once (seen ++ xs)
  distinct : IsDistinct bytes_eq (seen ++ xs)

are_new : (wanted seen xs : List (List ℕ)) → Once seen → IsDistinct bytes_eq seen → all_new wanted seen xs ≡ true → AreNew wanted seen xs
are_new wanted seen [] once distinct is = record { wanted_all = refl; once = subst Once (append_none seen) once; distinct = subst (IsDistinct bytes_eq) (append_none seen) distinct }
are_new wanted seen (x ∷ xs) once distinct is = by_tests (are_new wanted (seen ++ x ∷ []) xs) (has_name wanted x) (has_name seen x) refl refl
  where
    by_tests : (Once (seen ++ x ∷ []) → IsDistinct bytes_eq (seen ++ x ∷ []) → all_new wanted (seen ++ x ∷ []) xs ≡ true → AreNew wanted (seen ++ x ∷ []) xs)
        → (a b : Bool) → has_name wanted x ≡ a → has_name seen x ≡ b → AreNew wanted seen (x ∷ xs)
    by_tests rest true false asked fresh =
        let later : all_new wanted (seen ++ x ∷ []) xs ≡ true = rw (asked, fresh) at is in
        let are = rest (once_more seen x once fresh) (IsDistinct-push (lists_equiv nat_eq_equiv) seen x distinct fresh) later in
        let joined : (seen ++ x ∷ []) ++ xs ≡ seen ++ x ∷ xs = append_assoc seen (x ∷ []) xs in
        record { wanted_all = rw asked are.wanted_all; once = subst Once joined are.once; distinct = subst (IsDistinct bytes_eq) joined are.distinct }
    by_tests rest true true asked again = let none : true ≡ false = sym (rw (asked, again) at is) in cc
    by_tests rest false b asked fresh = let none : true ≡ false = sym (rw asked at is) in cc

-- where they are not, one is not wanted or comes twice
abbrev IsWrong : List (List ℕ) → List (List ℕ) → List ℕ → Type 0
IsWrong wanted all x = (has_name wanted x ≡ false) ⊎ ((has_name wanted x ≡ true) × (2 ≤ times x all))

record Refuses (wanted seen xs : List (List ℕ)) : Type 0 where
  name : List ℕ
  there : has_name xs name ≡ true
  wrong : IsWrong wanted (seen ++ xs) name

refuses : (wanted seen xs : List (List ℕ)) → all_new wanted seen xs ≡ false → Refuses wanted seen xs
refuses wanted seen [] is = cc
refuses wanted seen (x ∷ xs) is = by_tests (refuses wanted (seen ++ x ∷ []) xs) (has_name wanted x) (has_name seen x) refl refl
  where
    by_tests : (all_new wanted (seen ++ x ∷ []) xs ≡ false → Refuses wanted (seen ++ x ∷ []) xs)
        → (a b : Bool) → has_name wanted x ≡ a → has_name seen x ≡ b → Refuses wanted seen (x ∷ xs)
    by_tests rest true false asked fresh =
        let later : all_new wanted (seen ++ x ∷ []) xs ≡ false = rw (asked, fresh) at is in
        let r = rest later in
        let same : (seen ++ x ∷ []) ++ xs ≡ seen ++ x ∷ xs = append_assoc seen (x ∷ []) xs in
        record { name = r.name; there = has_later x xs r.name r.there; wrong = subst (λ (l : List (List ℕ)). IsWrong wanted l r.name) same r.wrong }
    by_tests rest true true asked again =
        let before : 1 ≤ times x seen = elim (told x seen) [ inl t ↦ t.1 | inr t ↦ absurd (cc (t.0, again)) ] in
        let itself : bytes_eq x x ≡ true = (bytes_eq-Decides x x).1 refl in
        let first : times x (x ∷ xs) ≡ 1 + times x xs = rw (times_first x x xs, itself) refl in
        let count : times x (seen ++ x ∷ xs) ≡ times x seen + times x (x ∷ xs) = times_append x seen (x ∷ xs) in
        record { name = x; there = has_first x xs; wrong = inr (asked, omega arith) }
    by_tests rest false b asked fresh = record { name = x; there = has_first x xs; wrong = inl asked }

all_agree : (p r : List ℕ → Bool) → ((q : List ℕ) → p q ≡ r q) → (xs : List (List ℕ)) → list_all p xs ≡ list_all r xs
all_agree p r agree [] = refl
all_agree p r agree (x ∷ xs) = rw (agree x) (ap (λ (b : Bool). r x && b) (all_agree p r agree xs))

once_is : (b : Bool) (n : ℕ) → n ≤ 1 → Told b n → b ≡ nat_eq n 1
once_is b n few (inl t) = let one : n ≡ 1 = omega arith in rw (t.0, one) refl
once_is b n few (inr t) = rw (t.0, t.1) refl

with_none : (b : Bool) → false ≡ (b && false)
with_none true = refl
with_none false = refl

with_all_true : (a b : Bool) → b ≡ true → a ≡ (a && b)
with_all_true true b is = sym is
with_all_true false b is = refl

-- where all pass a test, each does
passes : (p : List ℕ → Bool) (xs : List (List ℕ)) (q : List ℕ) → list_all p xs ≡ true → has_name xs q ≡ true → p q ≡ true
passes p xs q all there = by_test (p q) refl
  where
    by_test : (b : Bool) → p q ≡ b → p q ≡ true
    by_test true is = is
    by_test false fails = let none : list_all p xs ≡ false = all_false p xs q there fails in cc

-- of different names that are all wanted none is missing where they are as many as the wanted
as_many : (given kept : List (List ℕ)) → IsDistinct bytes_eq given → IsDistinct bytes_eq kept → list_all (has_name kept) given ≡ true
    → nat_eq (length given) (length kept) ≡ list_all (has_name given) kept
as_many given kept apart distinct wanted_all = by_test (list_all (has_name given) kept) refl
  where
    is_wanted : (q : List ℕ) → has_name given q ≡ true → has_name kept q ≡ true
    is_wanted q there = passes (has_name kept) given q wanted_all there

    by_test : (b : Bool) → list_all (has_name given) kept ≡ b → nat_eq (length given) (length kept) ≡ b
    by_test true all =
        let few : length given ≤ length kept = length-le_from_is_member (lists_equiv nat_eq_equiv) given kept apart is_wanted in
        let many : length kept ≤ length given = length-le_from_is_member (lists_equiv nat_eq_equiv) kept given distinct (λ q. passes (has_name given) kept q all) in
        grind (arith, nat_tests)
    by_test false fails =
        let one = some_false (has_name given) kept fails in
        let among : (q : List ℕ) → has_name (given ++ one.0 ∷ []) q ≡ true → has_name kept q ≡ true = λ q there. also one.0 one.1 q (rw (list_any-append (bytes_eq q) given (one.0 ∷ [])) at there) in
        let more : length (given ++ one.0 ∷ []) ≤ length kept =
        length-le_from_is_member (lists_equiv nat_eq_equiv) (given ++ one.0 ∷ []) kept (IsDistinct-push (lists_equiv nat_eq_equiv) given one.0 apart one.2) among in
        let count : length (given ++ one.0 ∷ []) ≡ length given + 1 = length_push given one.0 in
        grind (arith, nat_tests)
      where
        also : (x : List ℕ) → has_name kept x ≡ true → (q : List ℕ) → (has_name given q || (bytes_eq q x || false)) ≡ true → has_name kept q ≡ true
        also x there q at = by_part (has_name given q) refl (bytes_eq q x) refl
          where
            by_part : (a : Bool) → has_name given q ≡ a → (b : Bool) → bytes_eq q x ≡ b → has_name kept q ≡ true
            by_part true is b other = is_wanted q is
            by_part false is true other = let same : q ≡ x = (bytes_eq-Decides q x).0 other in cc
            by_part false is false other = let none : false ≡ true = rw (is, other) at at in cc

no_names : IsDistinct bytes_eq []
unfolding IsDistinct
no_names = tt

-- the list of the wanted names may be another one with the same names
pub gives_is : (given kept wanted : List (List ℕ)) → IsDistinct bytes_eq kept → SameNames kept wanted → gives_wanted given kept ≡ gives_each given wanted
gives_is given kept wanted distinct same = by_outcome (all_new kept [] given) refl
  where
    refused : (x : List ℕ) → has_name given x ≡ true → IsWrong kept given x → false ≡ gives_each given wanted
    refused x there (inl unwanted) =
        let fails : list_all (has_name wanted) given ≡ false = all_false (has_name wanted) given x there (sym (same x) ∙ unwanted) in
        rw fails (with_none (list_all (λ q. nat_eq (times q given) 1) wanted))
    refused x there (inr again) =
        let two : 2 ≤ times x given = again.1 in
        let not_once : nat_eq (times x given) 1 ≡ false = grind (arith, nat_tests) in
        let fails : list_all (λ q. nat_eq (times q given) 1) wanted ≡ false = all_false (λ q. nat_eq (times q given) 1) wanted x (sym (same x) ∙ again.0) not_once in
        rw fails refl

    counted : Once given → list_all (has_name given) wanted ≡ list_all (λ q. nat_eq (times q given) 1) wanted
    counted few = all_agree (has_name given) (λ q. nat_eq (times q given) 1) (λ q. once_is (has_name given q) (times q given) (few q) (told q given)) wanted

    found : AreNew kept [] given → nat_eq (length given) (length kept) ≡ gives_each given wanted
    found are =
        let no_other : list_all (has_name wanted) given ≡ true = sym (all_agree (has_name kept) (has_name wanted) same given) ∙ are.wanted_all in
        as_many given kept are.distinct distinct are.wanted_all
        ∙ all_same (has_name given) kept wanted same
        ∙ counted are.once
        ∙ with_all_true (list_all (λ q. nat_eq (times q given) 1) wanted) (list_all (has_name wanted) given) no_other

    and_true : (b : Bool) → (b && true) ≡ b
    and_true true = refl
    and_true false = refl

    by_outcome : (b : Bool) → all_new kept [] given ≡ b → (nat_eq (length given) (length kept) && b) ≡ gives_each given wanted
    by_outcome true is = and_true (nat_eq (length given) (length kept)) ∙ found (are_new kept [] given (λ q. omega arith) no_names is)
    by_outcome false is =
        let r = refuses kept [] given is in
        sym (with_none (nat_eq (length given) (length kept))) ∙ refused r.name r.there r.wrong
