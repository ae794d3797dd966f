-- The first of a list with their key, found one after the other.
use Rattle.std.proofs.Common.{◌≡◌, refl, sym, ap, ap₂, ◌∙◌, ℕ, ◌+◌, Bool, true, false, ◌&&◌, ◌||◌, not, List, [], ◌∷◌, ◌++◌, map, cond}
use Rattle.std.specs.Prelude.{if◌then◌else◌}
use Rattle.std.specs.List.{filter, list_any, position_or_len}
use Rattle.std.proofs.lemmas.List.{append_assoc}
use Rattle.std.proofs.lemmas.List.Folds.{list_any-append}
use Rattle.pz_env.specs.devices.Firsts.{firsts, has, with_key, news}

or_false : (a : Bool) → (a || false) ≡ a
or_false true = refl
or_false false = refl

-- two tests one after the other
filter_both : {X : Type 0} (p q r : X → Bool) (xs : List X) → ((x : X) → r x ≡ (q x && p x)) → filter p (filter q xs) ≡ filter r xs
filter_both {X = X} p q r [] both = refl
filter_both {X = X} p q r (x ∷ xs) both = by (q x) (p x) refl refl (both x) (filter_both p q r xs both)
  where
    by : (b a : Bool) → q x ≡ b → p x ≡ a → r x ≡ (q x && p x) → filter p (filter q xs) ≡ filter r xs → filter p (filter q (x ∷ xs)) ≡ filter r (x ∷ xs)
    by true true e f g rest = ap₂ (λ (c : Bool) (ys : List X). filter p (cond c (x ∷ filter q xs) ys)) e refl ∙ ap (λ (c : Bool). cond c (x ∷ filter p (filter q xs)) (filter p (filter q xs))) f ∙ ap (λ (ys : List X). x ∷ ys) rest ∙ sym (ap (λ (c : Bool). cond c (x ∷ filter r xs) (filter r xs)) (g ∙ ap₂ (λ (c d : Bool). c && d) e f))
    by true false e f g rest = ap (λ (c : Bool). filter p (cond c (x ∷ filter q xs) (filter q xs))) e ∙ ap (λ (c : Bool). cond c (x ∷ filter p (filter q xs)) (filter p (filter q xs))) f ∙ rest ∙ sym (ap (λ (c : Bool). cond c (x ∷ filter r xs) (filter r xs)) (g ∙ ap₂ (λ (c d : Bool). c && d) e f))
    by false a e f g rest = ap (λ (c : Bool). filter p (cond c (x ∷ filter q xs) (filter q xs))) e ∙ rest ∙ sym (ap (λ (c : Bool). cond c (x ∷ filter r xs) (filter r xs)) (g ∙ ap₂ (λ (c d : Bool). c && d) e f))

neither : (a b : Bool) → not (a || b) ≡ (not b && not a)
neither true true = refl
neither true false = refl
neither false true = refl
neither false false = refl

filter_all : {X : Type 0} (xs : List X) → filter (λ y. not false) xs ≡ xs
filter_all [] = refl
filter_all (x ∷ xs) = ap (λ ys. x ∷ ys) (filter_all xs)

-- what comes behind one that is there does not matter for its number
place_there : {K : Type 0} (test : K → Bool) (seen ks : List K) → list_any test seen ≡ true → position_or_len test (seen ++ ks) ≡ position_or_len test seen
place_there test [] ks there = absurd cc
place_there test (s ∷ seen) ks there = by (test s) refl (place_there test seen ks)
  where
    by : (b : Bool) → test s ≡ b → (list_any test seen ≡ true → position_or_len test (seen ++ ks) ≡ position_or_len test seen) → position_or_len test (s ∷ (seen ++ ks)) ≡ position_or_len test (s ∷ seen)
    by true e rest = ap (λ (c : Bool). if not c then 1 + position_or_len test (seen ++ ks) else 0) e ∙ sym (ap (λ (c : Bool). if not c then 1 + position_or_len test seen else 0) e)
    by false e rest = ap (λ (c : Bool). if not c then 1 + position_or_len test (seen ++ ks) else 0) e ∙ ap (λ (n : ℕ). 1 + n) (rest (sym (ap (λ (c : Bool). c || list_any test seen) e) ∙ there)) ∙ sym (ap (λ (c : Bool). if not c then 1 + position_or_len test seen else 0) e)

-- one that comes next has the number that it would get
place_next : {K : Type 0} (test : K → Bool) (seen : List K) (k : K) (ks : List K) → test k ≡ true → position_or_len test (seen ++ k ∷ ks) ≡ position_or_len test seen
place_next test [] k ks is = ap (λ (c : Bool). if not c then 1 + position_or_len test ks else 0) is
place_next test (s ∷ seen) k ks is = by (test s) refl (place_next test seen k ks is)
  where
    by : (b : Bool) → test s ≡ b → position_or_len test (seen ++ k ∷ ks) ≡ position_or_len test seen → position_or_len test (s ∷ (seen ++ k ∷ ks)) ≡ position_or_len test (s ∷ seen)
    by true e rest = ap (λ (c : Bool). if not c then 1 + position_or_len test (seen ++ k ∷ ks) else 0) e ∙ sym (ap (λ (c : Bool). if not c then 1 + position_or_len test seen else 0) e)
    by false e rest = ap (λ (c : Bool). if not c then 1 + position_or_len test (seen ++ k ∷ ks) else 0) e ∙ ap (λ (n : ℕ). 1 + n) rest ∙ sym (ap (λ (c : Bool). if not c then 1 + position_or_len test seen else 0) e)

module _ {X K : Type 0} (is : K → K → Bool) (sound : (a b : K) → is a b ≡ true → a ≡ b) (key : X → K) where
  -- what has been added is there, and what was there
  pub has_with : (seen : List K) (n e : K) → has is key (with_key is key seen n) e ≡ (has is key seen e || is e n)
  has_with seen n e = by (has is key seen n) refl
    where
      by : (b : Bool) → has is key seen n ≡ b → has is key (if b then seen else seen ++ n ∷ []) e ≡ (has is key seen e || is e n)
      by false there = list_any-append (is e) seen (n ∷ []) ∙ ap (λ b. has is key seen e || b) (or_false (is e n))
      by true there = alike (is e n) refl
        where
          alike : (b : Bool) → is e n ≡ b → has is key seen e ≡ (has is key seen e || b)
          alike false s = sym (or_false (has is key seen e))
          alike true s =
              let found : has is key seen e ≡ true = ap (has is key seen) (sound e n s) ∙ there in
              found ∙ ap (λ b. b || true) (sym found)

  -- what is made of those that are new, one after the other
  pub collects : {B : Type 0} (f : X → B) (seen : List K) (x : X) (rest : List X) (done new whole : List B) (b : B) → b ≡ f x
      → new ≡ (if has is key seen (key x) then done else done ++ b ∷ []) → done ++ map f (news is key seen (x ∷ rest)) ≡ whole
      → new ++ map f (news is key (with_key is key seen (key x)) rest) ≡ whole
  collects {B = B} f seen x rest done new whole b is_made made before = ap (λ (ys : List B). ys ++ map f later) made ∙ by (has is key seen (key x)) refl
    where
      later : List X
      later = news is key (with_key is key seen (key x)) rest

      by : (c : Bool) → has is key seen (key x) ≡ c → (if has is key seen (key x) then done else done ++ b ∷ []) ++ map f later ≡ whole
      by true e = ap (λ (c : Bool). (if c then done else done ++ b ∷ []) ++ map f later) e ∙ sym (ap (λ (c : Bool). done ++ map f (if c then later else x ∷ later)) e) ∙ before
      by false e =
          ap (λ (c : Bool). (if c then done else done ++ b ∷ []) ++ map f later) e
          ∙ append_assoc done (b ∷ []) (map f later)
          ∙ ap (λ (y : B). done ++ y ∷ map f later) is_made
          ∙ sym (ap (λ (c : Bool). done ++ map f (if c then later else x ∷ later)) e)
          ∙ before

  module _ (same : X → X → Bool) (agree : (x y : X) → same x y ≡ is (key y) (key x)) where
    -- what is new is what is first and has not been seen
    pub news_are : (seen : List K) (xs : List X) → news is key seen xs ≡ filter (λ y. not (has is key seen (key y))) (firsts same xs)
    news_are seen [] = refl
    news_are seen (x ∷ xs) = by (has is key seen (key x)) refl (after (news_are (with_key is key seen (key x)) xs))
      where
        left : List X
        left = filter (λ y. not (has is key seen (key y))) (filter (λ y. not (same x y)) (firsts same xs))

        after : news is key (with_key is key seen (key x)) xs ≡ filter (λ y. not (has is key (with_key is key seen (key x)) (key y))) (firsts same xs) → news is key (with_key is key seen (key x)) xs ≡ left
        after before =
            before
            ∙ sym (filter_both (λ y. not (has is key seen (key y))) (λ y. not (same x y)) (λ y. not (has is key (with_key is key seen (key x)) (key y))) (firsts same xs)
            (λ y. ap not (has_with seen (key x) (key y)) ∙ neither (has is key seen (key y)) (is (key y) (key x)) ∙ ap (λ b. not b && not (has is key seen (key y))) (sym (agree x y))))

        by : (b : Bool) → has is key seen (key x) ≡ b → news is key (with_key is key seen (key x)) xs ≡ left → news is key seen (x ∷ xs) ≡ filter (λ y. not (has is key seen (key y))) (firsts same (x ∷ xs))
        by true e then_left =
            ap (λ (c : Bool). if c then news is key (with_key is key seen (key x)) xs else x ∷ news is key (with_key is key seen (key x)) xs) e ∙ then_left
            ∙ sym (ap (λ (c : Bool). if not c then x ∷ left else left) e)
        by false e then_left =
            ap (λ (c : Bool). if c then news is key (with_key is key seen (key x)) xs else x ∷ news is key (with_key is key seen (key x)) xs) e ∙ ap (λ ys. x ∷ ys) then_left
            ∙ sym (ap (λ (c : Bool). if not c then x ∷ left else left) e)

    -- where none has been seen, each first one is new
    pub all_new : (xs : List X) → news is key [] xs ≡ firsts same xs
    all_new xs = news_are [] xs ∙ filter_all (firsts same xs)

    module _ (whole : List X) where
      -- what has been seen, and what is new of the rest, are the first of the whole
      abbrev pub IsOnTheWay : List K → List X → Type 0
      IsOnTheWay seen rest = seen ++ map key (news is key seen rest) ≡ map key (firsts same whole)

      pub at_the_start : IsOnTheWay [] whole
      at_the_start = ap (map key) (all_new whole)

      pub goes_on : (seen : List K) (x : X) (rest : List X) → IsOnTheWay seen (x ∷ rest) → IsOnTheWay (with_key is key seen (key x)) rest
      goes_on seen x rest = by (has is key seen (key x)) refl
        where
          by : (b : Bool) → has is key seen (key x) ≡ b → IsOnTheWay seen (x ∷ rest) → IsOnTheWay (with_key is key seen (key x)) rest
          by true e on = ap (λ (c : Bool). (if c then seen else seen ++ key x ∷ []) ++ map key (news is key (with_key is key seen (key x)) rest)) e ∙ sym (ap (λ (c : Bool). seen ++ map key (if c then news is key (with_key is key seen (key x)) rest else x ∷ news is key (with_key is key seen (key x)) rest)) e) ∙ on
          by false e on =
              ap (λ (c : Bool). (if c then seen else seen ++ key x ∷ []) ++ map key (news is key (with_key is key seen (key x)) rest)) e
              ∙ append_assoc seen (key x ∷ []) (map key (news is key (with_key is key seen (key x)) rest))
              ∙ sym (ap (λ (c : Bool). seen ++ map key (if c then news is key (with_key is key seen (key x)) rest else x ∷ news is key (with_key is key seen (key x)) rest)) e) ∙ on

      -- the number of a key among those seen, or that which it gets, is that among the first of the whole
      pub is_number : ((k : K) → is k k ≡ true) → (seen : List K) (x : X) (rest : List X) → IsOnTheWay seen (x ∷ rest)
          → position_or_len (is (key x)) seen ≡ position_or_len (is (key x)) (map key (firsts same whole))
      is_number same_key seen x rest on = by (has is key seen (key x)) refl ∙ ap (position_or_len (is (key x))) on
        where
          by : (b : Bool) → has is key seen (key x) ≡ b → position_or_len (is (key x)) seen ≡ position_or_len (is (key x)) (seen ++ map key (news is key seen (x ∷ rest)))
          by true e = sym (place_there (is (key x)) seen (map key (news is key seen (x ∷ rest))) e)
          by false e = sym (ap (λ (c : Bool). position_or_len (is (key x)) (seen ++ map key (if c then news is key (with_key is key seen (key x)) rest else x ∷ news is key (with_key is key seen (key x)) rest))) e ∙ place_next (is (key x)) seen (key x) (map key (news is key (with_key is key seen (key x)) rest)) (same_key (key x)))
