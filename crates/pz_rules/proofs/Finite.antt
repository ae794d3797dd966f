-- Predicates of which all that meet them can be listed, and lists of them in a strict order.
use Rattle.std.proofs.Common.{◌≡◌, ◌<◌, ◌≤◌, ◌⊎◌, inl, inr, ℕ, zero, suc, List, [], ◌∷◌, ◌++◌, Option, Some, None, refl, sym, subst, arith}
use Rattle.std.specs.List.{All, AllPairs, Contains, flat_map}
use Rattle.std.proofs.lemmas.List.Elements.{All-nil, All-cons, All-append, All-weaker, All-contains, All-contains_itself, Contains-append_left, Contains-append_right}
use Rattle.std.proofs.lemmas.Bool.{cases_lt}
use Rattle.std.proofs.lemmas.List.Kept.{AllPairs-cons}
use Rattle.pz_rules.proofs.Locals.{some_is, no_some}
use Rattle.pz_rules.proofs.Lists.{Contains-first, Contains-later, Contains-cases, AllPairs-nil, AllPairs-head, AllPairs-tail}
use Rattle.pz_rules.proofs.Orders.{Either}

-- it is known whether
abbrev pub Known : Type 0 → Type 0
Known A = A ⊎ (A → ⊥)

-- all that meet P are in the list, and no others
pub record Finite {X : Type 0} (P : X → Type 0) : Type 0 where
  pub list : List X
  pub sound : All P list
  pub every : (x : X) → P x → Contains list x

pub alike : {X : Type 0} {P Q : X → Type 0} → ((x : X) → P x → Q x) → ((x : X) → Q x → P x) → Finite P → Finite Q
alike {X} {P} {Q} to from f = record { list = f.list; sound = All-weaker P Q to f.list f.sound; every = λ x q. f.every x (from x q) }

pub nothing : {X : Type 0} {P : X → Type 0} → ((x : X) → P x → ⊥) → Finite P
nothing {X} {P} none = record { list = []; sound = All-nil P; every = λ x p. absurd (none x p) }

pub just : {X : Type 0} {P : X → Type 0} (y : X) → P y → ((x : X) → P x → x ≡ y) → Finite P
just {X} {P} y p only = record { list = y ∷ []; sound = All-cons P y [] p (All-nil P); every = λ x q. (0, omega arith, sym (only x q)) }

pub from_option : {X : Type 0} (o : Option X) → Finite (λ x. o ≡ Some x)
from_option None = nothing (λ x e. no_some e)
from_option (Some y) = just y refl (λ x e. sym (some_is e))

pub where_known : {X : Type 0} {P : X → Type 0} {A : Type 0} → Known A → Finite P → Finite (λ x. A × P x)
where_known (inl a) f = alike (λ x p. (a, p)) (λ x q. q.1) f
where_known (inr not) f = nothing (λ x q. not q.0)

pub either : {X : Type 0} {P Q : X → Type 0} → Finite P → Finite Q → Finite (λ x. P x ⊎ Q x)
either {X} {P} {Q} f g = record {
  list = f.list ++ g.list;
  sound = All-append (λ x. P x ⊎ Q x) f.list g.list (All-weaker P (λ x. P x ⊎ Q x) (λ x p. inl p) f.list f.sound) (All-weaker Q (λ x. P x ⊎ Q x) (λ x q. inr q) g.list g.sound);
  every = λ x h. of_both x h;
}
  where
    of_both : (x : X) → P x ⊎ Q x → Contains (f.list ++ g.list) x
    of_both x (inl p) = Contains-append_left f.list g.list x (f.every x p)
    of_both x (inr q) = Contains-append_right f.list g.list x (g.every x q)

module _ {X Y : Type 0} where
  pub all_in : (P : X → Type 0) (R : Y → Type 0) (h : X → List Y) (xs : List X) → ((x : X) → P x → All R (h x)) → All P xs → All R (flat_map h xs)
  all_in P R h [] each all = All-nil R
  all_in P R h (x ∷ xs) each all =
      All-append R (h x) (flat_map h xs) (each x (all 0 x (omega arith)))
      (all_in P R h xs each (λ k d within. all (suc k) d (omega (arith, within))))

  pub is_in : (h : X → List Y) (xs : List X) (x : X) (y : Y) → Contains xs x → Contains (h x) y → Contains (flat_map h xs) y
  is_in h [] x y (k, within, is) inner = absurd (omega (arith, within))
  is_in h (z ∷ zs) x y outer inner = by (Contains-cases z zs x outer) (λ later. is_in h zs x y later inner)
    where
      by : (x ≡ z) ⊎ Contains zs x → (Contains zs x → Contains (flat_map h zs) y) → Contains (flat_map h (z ∷ zs)) y
      by (inl same) go = Contains-append_left (h z) (flat_map h zs) y (subst (λ (w : X). Contains (h w) y) same inner)
      by (inr later) go = Contains-append_right (h z) (flat_map h zs) y (go later)

  -- some x meets P, and y goes with it
  pub bind : {P : X → Type 0} {Q : X → Y → Type 0} → Finite P → ((x : X) → Finite (Q x)) → Finite (λ y. (x : X) × P x × Q x y)
  bind {P} {Q} f g = record {
    list = flat_map (λ x. (g x).list) f.list;
    sound = all_in P (λ y. (x : X) × P x × Q x y) (λ x. (g x).list) f.list (λ x p. All-weaker (Q x) (λ y. (z : X) × P z × Q z y) (λ y q. (x, p, q)) (g x).list (g x).sound) f.sound;
    every = λ y h. is_in (λ x. (g x).list) f.list h.0 y (f.every h.0 h.1) ((g h.0).every y h.2);
  }

-- the numbers below n
abbrev pub up_to : ℕ → List ℕ
up_to zero = []
up_to (suc n) = n ∷ up_to n

below_all : (n m : ℕ) → n < suc m → All (λ i. i < m) (up_to n)
below_all zero m h = All-nil (λ i. i < m)
below_all (suc n) m h = All-cons (λ i. i < m) n (up_to n) (omega (arith, h)) (below_all n m (omega (arith, h)))

last_or_before : (i n : ℕ) → i < suc n → (i ≡ n) ⊎ (i < n)
last_or_before i n h = by (cases_lt i n)
  where
    by : (i < n) ⊎ (n ≤ i) → (i ≡ n) ⊎ (i < n)
    by (inl less) = inr less
    by (inr more) = inl (omega (arith, h, more))

pub below_every : (n i : ℕ) → i < n → Contains (up_to n) i
below_every zero i h = absurd (omega (arith, h))
below_every (suc n) i h = by (last_or_before i n h) (λ less. below_every n i less)
  where
    by : (i ≡ n) ⊎ (i < n) → (i < n → Contains (up_to n) i) → Contains (up_to (suc n)) i
    by (inl same) go = (0, omega arith, sym same)
    by (inr less) go = Contains-later n (up_to n) i (go less)

pub below : (n : ℕ) → Finite (λ i. i < n)
below n = record { list = up_to n; sound = below_all n n (omega arith); every = λ i h. below_every n i h }

-- In order

pub record Sorted {X : Type 0} (R : X → X → Type 0) (P : X → Type 0) : Type 0 where
  pub list : List X
  pub ordered : AllPairs R list
  pub sound : All P list
  pub every : (x : X) → P x → Contains list x

-- one before all others
pub record Least {X : Type 0} (R : X → X → Type 0) (P : X → Type 0) : Type 0 where
  pub one : X
  pub is_one : P one
  pub first : (x : X) → P x → (x ≡ one) ⊎ R one x

module _ {X : Type 0} (R : X → X → Type 0) (P : X → Type 0) (transitive : (x y z : X) → R x y → R y z → R x z) (three : (x y : X) → P x → P y → Either R x y) where
  -- a list with one more
  record With (a : X) (xs : List X) : Type 0 where
    pub list : List X
    pub ordered : AllPairs R list
    pub sound : All P list
    pub has : Contains list a
    pub keeps : (b : X) → Contains xs b → Contains list b
    pub only : (b : X) → Contains list b → (b ≡ a) ⊎ Contains xs b

  contains_all : (Q : X → Type 0) (xs : List X) → ((b : X) → Contains xs b → Q b) → All Q xs
  contains_all Q xs each = All-weaker (Contains xs) Q each xs (All-contains_itself xs)

  front : (a x : X) (xs : List X) → P a → AllPairs R (x ∷ xs) → All P (x ∷ xs) → R a x → With a (x ∷ xs)
  front a x xs p ordered all before = record {
    list = a ∷ x ∷ xs;
    ordered = AllPairs-cons R a (x ∷ xs) (All-cons (R a) x xs before (All-weaker (R x) (R a) (λ y later. transitive a x y before later) xs (AllPairs-head R x xs ordered))) ordered;
    sound = All-cons P a (x ∷ xs) p all;
    has = Contains-first a (x ∷ xs);
    keeps = λ b h. Contains-later a (x ∷ xs) b h;
    only = λ b h. Contains-cases a (x ∷ xs) b h;
  }

  already : (a x : X) (xs : List X) → AllPairs R (x ∷ xs) → All P (x ∷ xs) → a ≡ x → With a (x ∷ xs)
  already a x xs ordered all same = record {
    list = x ∷ xs;
    ordered = ordered;
    sound = all;
    has = subst (λ (b : X). Contains (x ∷ xs) b) (sym same) (Contains-first x xs);
    keeps = λ b h. h;
    only = λ b h. inr h;
  }

  further : (a x : X) (xs : List X) → AllPairs R (x ∷ xs) → All P (x ∷ xs) → R x a → With a xs → With a (x ∷ xs)
  further a x xs ordered all after w = record {
    list = x ∷ w.list;
    ordered = AllPairs-cons R x w.list (contains_all (R x) w.list (λ b h. of_both b (w.only b h))) w.ordered;
    sound = All-cons P x w.list (all 0 x (omega arith)) w.sound;
    has = Contains-later x w.list a w.has;
    keeps = λ b h. kept b (Contains-cases x xs b h);
    only = λ b h. sorted_out b (Contains-cases x w.list b h);
  }
    where
      of_both : (b : X) → (b ≡ a) ⊎ Contains xs b → R x b
      of_both b (inl same) = subst (R x) (sym same) after
      of_both b (inr later) = All-contains (R x) xs b (AllPairs-head R x xs ordered) later

      kept : (b : X) → (b ≡ x) ⊎ Contains xs b → Contains (x ∷ w.list) b
      kept b (inl same) = subst (λ (c : X). Contains (x ∷ w.list) c) (sym same) (Contains-first x w.list)
      kept b (inr later) = Contains-later x w.list b (w.keeps b later)

      back : (b : X) → (b ≡ a) ⊎ Contains xs b → (b ≡ a) ⊎ Contains (x ∷ xs) b
      back b (inl same) = inl same
      back b (inr later) = inr (Contains-later x xs b later)

      sorted_out : (b : X) → (b ≡ x) ⊎ Contains w.list b → (b ≡ a) ⊎ Contains (x ∷ xs) b
      sorted_out b (inl same) = inr (subst (λ (c : X). Contains (x ∷ xs) c) (sym same) (Contains-first x xs))
      sorted_out b (inr inside) = back b (w.only b inside)

  insert_by : (a x : X) (xs : List X) → P a → AllPairs R (x ∷ xs) → All P (x ∷ xs) → Either R a x → With a xs → With a (x ∷ xs)
  insert_by a x xs p ordered all (inl before) w = front a x xs p ordered all before
  insert_by a x xs p ordered all (inr (inl same)) w = already a x xs ordered all same
  insert_by a x xs p ordered all (inr (inr after)) w = further a x xs ordered all after w

  insert : (a : X) (xs : List X) → P a → AllPairs R xs → All P xs → With a xs
  insert a [] p ordered all = record {
    list = a ∷ [];
    ordered = AllPairs-cons R a [] (All-nil (R a)) (AllPairs-nil R);
    sound = All-cons P a [] p (All-nil P);
    has = Contains-first a [];
    keeps = λ b h. absurd (omega (arith, h.1));
    only = λ b h. Contains-cases a [] b h;
  }
  insert a (x ∷ xs) p ordered all =
      insert_by a x xs p ordered all (three a x p (all 0 x (omega arith)))
      (insert a xs p (AllPairs-tail R x xs ordered) (λ k d within. all (suc k) d (omega (arith, within))))

  -- a list in order that has all of this one
  record InOrder (xs : List X) : Type 0 where
    pub list : List X
    pub ordered : AllPairs R list
    pub sound : All P list
    pub has : (b : X) → Contains xs b → Contains list b

  in_order : (xs : List X) → All P xs → InOrder xs
  in_order [] all = record { list = []; ordered = AllPairs-nil R; sound = All-nil P; has = λ b h. h }
  in_order (x ∷ xs) all = step (in_order xs (λ k d within. all (suc k) d (omega (arith, within))))
    where
      step : InOrder xs → InOrder (x ∷ xs)
      step r = record { list = w.list; ordered = w.ordered; sound = w.sound; has = λ b h. of_both b (Contains-cases x xs b h) }
        where
          w : With x r.list
          w = insert x r.list (all 0 x (omega arith)) r.ordered r.sound

          of_both : (b : X) → (b ≡ x) ⊎ Contains xs b → Contains w.list b
          of_both b (inl same) = subst (λ (c : X). Contains w.list c) (sym same) w.has
          of_both b (inr later) = w.keeps b (r.has b later)

  pub sorted : Finite P → Sorted R P
  sorted f = let r = in_order f.list f.sound in record { list = r.list; ordered = r.ordered; sound = r.sound; every = λ x p. r.has x (f.every x p) }

  pub least : Finite P → Least R P ⊎ ((x : X) → P x → ⊥)
  least f = by (sorted f).list (sorted f).ordered (sorted f).sound (sorted f).every
    where
      by : (xs : List X) → AllPairs R xs → All P xs → ((x : X) → P x → Contains xs x) → Least R P ⊎ ((x : X) → P x → ⊥)
      by [] ordered all every = inr (λ x p. absurd (omega (arith, (every x p).1)))
      by (y ∷ ys) ordered all every = inl (record { one = y; is_one = all 0 y (omega arith); first = λ x p. of_both x (Contains-cases y ys x (every x p)) })
        where
          of_both : (x : X) → (x ≡ y) ⊎ Contains ys x → (x ≡ y) ⊎ R y x
          of_both x (inl same) = inl same
          of_both x (inr later) = inr (All-contains (R y) ys x (AllPairs-head R y ys ordered) later)
