-- Scopes that are opened, left, noted in and asked.
use Rattle.std.proofs.Common.{◌≡◌, refl, sym, ap, subst, ◌∙◌, ℕ, suc, ◌+◌, ◌-◌, ◌<◌, ◌≤◌, Bool, true, false, ◌||◌, List, [], ◌∷◌, ◌++◌, map, length, take, get_or, Option, Some, None, append_assoc, arith}
use Rattle.std.specs.List.{list_any, flat_map}
use Rattle.std.specs.Option.{is_some, option_or}
use Rattle.std.proofs.lemmas.List.{length-map, drop-map, map-append, take_more, take_all, append-nil}
use Rattle.std.proofs.lemmas.Grind.{flat_map-append}
use Rattle.std.proofs.lemmas.List.Folds.{list_any-append}
use Rattle.pz_check_scopes.specs.Scopes.{Note, latest, value_in, outermost}
use Rattle.pz_check_scopes.specs.devices.Holding.{Holds}
use Rattle.pz_check_scopes.specs.declared.nested.Nested.{Nested}
use Rattle.pz_check_names.specs.devices.Shown.{Shows, has_note, is_key_of}
use Rattle.pz_check_names.proofs.Sets.{or_none}

pub map_outermost : {A B : Type 0} (f : A → B) (n : ℕ) (xs : List A) → outermost n (map f xs) ≡ map f (outermost n xs)
map_outermost f n xs = rw (length-map xs f) (drop-map f (length xs - n) xs)

pub or_flip : (a b : Bool) → (a || b) ≡ (b || a)
or_flip true true = refl
or_flip true false = refl
or_flip false true = refl
or_flip false false = refl

pub some_or : {A : Type 0} (a b : Option A) → is_some (option_or a b) ≡ (is_some a || is_some b)
some_or None b = refl
some_or (Some x) b = refl

pub any_mapped : {A : Type 0} (test : A → Bool) (xs : List A) → list_any (λ (b : Bool). b) (map test xs) ≡ list_any test xs
any_mapped test [] = refl
any_mapped test (x ∷ xs) = ap (λ (b : Bool). test x || b) (any_mapped test xs)

-- one of a list further, behind those that are there
module _ {Y : Type 0} where
  one_taken : (ys : List Y) (y : Y) (i j : ℕ) → i < length ys → y ≡ get_or ys i y → j ≡ suc i → take j ys ≡ take i ys ++ y ∷ []
  one_taken ys y i j within here after =
      let next : j ≡ i + 1 = omega (arith, after) in
      rw next (take_more ys i y within ∙ ap (λ (z : Y). take i ys ++ z ∷ []) (sym here))

  taken_after : (own ys : List Y) (y : Y) (i j : ℕ) → i < length ys → y ≡ get_or ys i y → j ≡ suc i → (own ++ take i ys) ++ y ∷ [] ≡ own ++ take j ys
  taken_after own ys y i j within here after = rw (one_taken ys y i j within here after) (append_assoc own (take i ys) (y ∷ []))

  -- all of it
  pub all_taken : (own ys : List Y) (i : ℕ) → length ys ≤ i → own ++ take i ys ≡ own ++ ys
  all_taken own ys i within = ap (λ (zs : List Y). own ++ zs) (take_all i ys within)

  pub flat_after : {X : Type 0} (f : Y → List X) (own : List X) (ys : List Y) (y : Y) (i j : ℕ) → i < length ys → y ≡ get_or ys i y → j ≡ suc i
      → (own ++ flat_map f (take i ys)) ++ f y ≡ own ++ flat_map f (take j ys)
  flat_after f own ys y i j within here after =
      rw (one_taken ys y i j within here after, flat_map-append f (take i ys) (y ∷ []), append-nil (f y)) (append_assoc own (flat_map f (take i ys)) (f y))

  pub mapped_after : {X : Type 0} (f : Y → X) (own : List X) (ys : List Y) (y : Y) (i j : ℕ) → i < length ys → y ≡ get_or ys i y → j ≡ suc i
      → (own ++ map f (take i ys)) ++ f y ∷ [] ≡ own ++ map f (take j ys)
  mapped_after f own ys y i j within here after =
      rw (one_taken ys y i j within here after, map-append f (take i ys) (y ∷ [])) (append_assoc own (map f (take i ys)) (f y ∷ []))

module _ {K X : Type 0} (eq : K → K → Bool) (matches : K → X → Bool) where
  latest_some : (scope : List (Note K Unit)) (key : K) → is_some (latest eq scope key) ≡ has_note eq matches key scope
  latest_some [] key = refl
  latest_some (n ∷ ns) key = by_test (latest_some ns key) (eq key n.key) refl
    where
      by_test : is_some (latest eq ns key) ≡ has_note eq matches key ns → (b : Bool) → eq key n.key ≡ b → is_some (latest eq (n ∷ ns) key) ≡ has_note eq matches key (n ∷ ns)
      by_test later true is = rw is refl
      by_test later false is = rw is later

  value_some : (scopes : List (List (Note K Unit))) (key : K) → is_some (value_in eq scopes key) ≡ list_any (has_note eq matches key) scopes
  value_some [] key = refl
  value_some (scope ∷ outer) key = rw (some_or (latest eq scope key) (value_in eq outer key), latest_some scope key, value_some outer key) refl

  -- something is noted for the key of each thing, and for no other
  pub value_shown : (lists : List (List X)) (nested : Nested K Unit) (key : K) → Shows eq matches lists nested
      → (value : Option Unit) → ((scopes : List (List (Note K Unit))) → Holds eq scopes nested → value ≡ value_in eq scopes key)
      → is_some value ≡ list_any (is_key_of eq matches key) lists
  value_shown lists nested key shown value found =
      ap (λ (v : Option Unit). is_some v) (found shown.scopes shown.held)
      ∙ (value_some shown.scopes key
      ∙ (sym (any_mapped (has_note eq matches key) shown.scopes)
      ∙ (ap (λ (bs : List Bool). list_any (λ (b : Bool). b) bs) (shown.same key)
      ∙ any_mapped (is_key_of eq matches key) lists)))

  pub none_shown : (nested : Nested K Unit) → Holds eq [] nested → Shows eq matches [] nested
  none_shown nested held = record { scopes = []; held = held; same = λ key. refl }

  pub opened_shown : (lists : List (List X)) (before after : Nested K Unit)
      → ((scopes : List (List (Note K Unit))) → Holds eq scopes before → Holds eq ([] ∷ scopes) after)
      → Shows eq matches lists before → Shows eq matches ([] ∷ lists) after
  opened_shown lists before after opened shown = record {
    scopes = [] ∷ shown.scopes;
    held = opened shown.scopes shown.held;
    same = λ key. ap (λ (bs : List Bool). false ∷ bs) (shown.same key);
  }

  pub closed_shown : (depth : ℕ) (lists : List (List X)) (before after : Nested K Unit)
      → ((scopes : List (List (Note K Unit))) → Holds eq scopes before → Holds eq (outermost depth scopes) after)
      → Shows eq matches lists before → Shows eq matches (outermost depth lists) after
  closed_shown depth lists before after closed shown = record {
    scopes = outermost depth shown.scopes;
    held = closed shown.scopes shown.held;
    same = λ key. sym (map_outermost (has_note eq matches key) depth shown.scopes)
        ∙ (ap (λ (bs : List Bool). outermost depth bs) (shown.same key)
        ∙ map_outermost (is_key_of eq matches key) depth lists);
  }

  one_more : (own : List X) (x : X) (k : K) (was : Bool) → is_key_of eq matches k own ≡ was → (matches k x || was) ≡ is_key_of eq matches k (own ++ x ∷ [])
  one_more own x k was is =
      rw (← is) (or_flip (matches k x) (is_key_of eq matches k own)
      ∙ sym (list_any-append (matches k) own (x ∷ []) ∙ ap (λ (b : Bool). is_key_of eq matches k own || b) (or_none (matches k x))))

  pub noted_shown : (own : List X) (outer : List (List X)) (key : K) (x : X) (before after : Nested K Unit) (value : Unit)
      → ((k : K) → eq k key ≡ matches k x)
      → ((scope : List (Note K Unit)) (scopes : List (List (Note K Unit))) → Holds eq (scope ∷ scopes) before → Holds eq ((record { key = key; value = value } ∷ scope) ∷ scopes) after)
      → Shows eq matches (own ∷ outer) before → Shows eq matches ((own ++ x ∷ []) ∷ outer) after
  noted_shown own outer key x before after value alike noted shown = by_scopes shown.scopes shown.held shown.same
    where
      by_scopes : (scopes : List (List (Note K Unit))) → Holds eq scopes before → ((k : K) → map (has_note eq matches k) scopes ≡ map (is_key_of eq matches k) (own ∷ outer))
          → Shows eq matches ((own ++ x ∷ []) ∷ outer) after
      by_scopes [] held same = let never = same key in absurd cc
      by_scopes (scope ∷ scopes) held same = record {
        scopes = (record { key = key; value = value } ∷ scope) ∷ scopes;
        held = noted scope scopes held;
        same = λ k.
            let both = same k in
            let first : is_key_of eq matches k own ≡ has_note eq matches k scope = cc in
            let rest : map (has_note eq matches k) scopes ≡ map (is_key_of eq matches k) outer = cc in
            rw (alike k, one_more own x k (has_note eq matches k scope) first, rest) refl;
      }

  -- one of a list further
  pub next_shown : (own xs : List X) (outer : List (List X)) (key : K) (x : X) (i j : ℕ) (before after : Nested K Unit) (value : Unit)
      → i < length xs → x ≡ get_or xs i x → j ≡ suc i
      → ((k : K) → eq k key ≡ matches k x)
      → ((scope : List (Note K Unit)) (scopes : List (List (Note K Unit))) → Holds eq (scope ∷ scopes) before → Holds eq ((record { key = key; value = value } ∷ scope) ∷ scopes) after)
      → Shows eq matches ((own ++ take i xs) ∷ outer) before → Shows eq matches ((own ++ take j xs) ∷ outer) after
  next_shown own xs outer key x i j before after value within here later alike noted shown =
      subst (λ (ys : List X). Shows eq matches (ys ∷ outer) after) (taken_after own xs x i j within here later)
      (noted_shown (own ++ take i xs) outer key x before after value alike noted shown)
