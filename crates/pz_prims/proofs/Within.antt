-- Values that are answered refer to objects that are there.
use Rattle.std.proofs.Common.{◌≡◌, ◌++◌, ℕ, zero, suc, ℤ, pos, negsuc, List, [], ◌∷◌, length, Bool, true, false, Option, None, Some, Ok, Err, Result, refl, ap, ◌∙◌, arith}
use Rattle.std.specs.Prelude.{if◌then◌else◌, IfOk, IfSome, OnOk, OnErr, All, slice_get, bytes_eq, nat_le, option_map, neg_ℤ, ◌+ℤ◌, ◌-ℤ◌, ◌*ℤ◌, unsigned_abs, int_div}
use Rattle.std.specs.Option.{option_map_or}
use Rattle.pz_state.specs.pz_value.declared.value.Value.{Value}
use Rattle.pz_state.specs.pz_value.declared.value.Value.TheVariants as value
use Rattle.pz_state.specs.declared.fault.FaultKind.TheVariants as fault
use Rattle.pz_state.specs.Objects.{ObjectView}
use Rattle.pz_state.specs.References.{RefersWithin}
use Rattle.pz_state.specs.States.{StateView, object, at_object, fitted, set_item, resized, HasObject}
use Rattle.pz_state.specs.Marks.{Seen, changed}
use Rattle.pz_prims.specs.declared.answer.Prim.{Prim}
use Rattle.pz_prims.specs.Rows.{Rows, Answer, beside, answered}
use Rattle.pz_prims.specs.EveryValue.{every_value}
use Rattle.pz_prims.specs.Integers.{integers, fits, number, of_integer, is_zero, divided_by}
use Rattle.pz_prims.specs.Booleans.{booleans, of_boolean}
use Rattle.pz_prims.specs.Chars.{chars, of_char}
use Rattle.pz_prims.specs.Strings.{strings, of_string, string, string_limit, at_place}
use Rattle.pz_prims.specs.Arrays.{Changed, arrays, array_limit, resize, put}
use Rattle.pz_prims.specs.Table.{Outcome, outcome, of_itself, of_array, by_sort, told, understood, is_array}
use Rattle.pz_prims.specs.Promises.{AnswersWithin}
use Rattle.pz_prims.specs.devices.Staying.{StaysWithin}
use Rattle.pz_prims.proofs.Outcomes.{outcome-by_found, IsPlain, of_itself-plain}

-- what holds of each row

abbrev EachRow : {A : Type 0} → (A → Type 0) → List (List ℕ × A) → Type 0
EachRow P [] = Unit {0}
EachRow P (row ∷ rows) = P row.1 × EachRow P rows

record Gives {X : Type 0} (P : Answer X → Type 0) (rows : Rows X) : Type 0 where
  alone : EachRow P rows.alone
  with_one : EachRow (λ answer. (v : Value) → P (answer v)) rows.with_one
  with_two : EachRow (λ answer. (v w : Value) → P (answer v w)) rows.with_two

some_either : {A : Type 0} (P : A → Type 0) (test : Bool) (x : A) (later : Option A) → P x → IfSome later P → IfSome (if test then Some x else later) P
some_either P true x later h k = h
some_either P false x later h k = k

beside_each : {A : Type 0} (P : A → Type 0) (selector : List ℕ) (rows : List (List ℕ × A)) → EachRow P rows → IfSome (beside selector rows) P
beside_each P selector [] each = tt
beside_each P selector (row ∷ rows) each = some_either P (bytes_eq selector row.0) row.1 (beside selector rows) each.0 (beside_each P selector rows each.1)

answered_gives : {X : Type 0} (P : Answer X → Type 0) (rows : Rows X) → Gives P rows → (selector : List ℕ) (args : List Value) → IfSome (answered rows selector args) P
unfolding answered
answered_gives P rows gives selector [] = beside_each P selector rows.alone gives.alone
answered_gives P rows gives selector (v ∷ []) = applied (beside selector rows.with_one) (beside_each _ selector rows.with_one gives.with_one)
  where
    applied : (found : Option (Value → Answer _)) → IfSome found (λ answer. (w : Value) → P (answer w)) → IfSome (option_map (λ answer. answer v) found) P
    applied None h = tt
    applied (Some answer) h = h v
answered_gives P rows gives selector (v ∷ w ∷ []) = applied (beside selector rows.with_two) (beside_each _ selector rows.with_two gives.with_two)
  where
    applied : (found : Option (Value → Value → Answer _)) → IfSome found (λ answer. (x y : Value) → P (answer x y)) → IfSome (option_map (λ answer. answer v w) found) P
    applied None h = tt
    applied (Some answer) h = h v w
answered_gives P rows gives selector (v ∷ w ∷ x ∷ more) = tt

either : {A : Type 0} (P : A → Type 0) (test : Bool) (x y : A) → P x → P y → P (if test then x else y)
either P true x y h k = h
either P false x y h k = k

integer_argument : {X : Type 0} (P : Answer X → Type 0) → P (Err fault.NotInteger) → (answer : ℤ → Answer X) → ((b : ℤ) → P (answer b)) → (v : Value) → P (of_integer answer v)
integer_argument P none answer h value.Nil = none
integer_argument P none answer h (value.Bool b) = none
integer_argument P none answer h (value.Int b) = h b
integer_argument P none answer h (value.Char c) = none
integer_argument P none answer h (value.Str t) = none
integer_argument P none answer h (value.Ref r) = none

abbrev GivesWithin : ℕ → Answer Value → Type 0
GivesWithin n (Ok v) = RefersWithin n v
GivesWithin n (Err fault) = Unit {0}

-- rows that do not speak of the state give no references
module _ (n : ℕ) where
  within_number : (z : ℤ) → GivesWithin n (number z)
  within_number z = either (GivesWithin n) (fits z) (Ok (value.Int z)) (Err fault.Overflow) tt tt

  within_divided : (b : ℤ) (answer : Answer Value) → GivesWithin n answer → GivesWithin n (divided_by b answer)
  within_divided b answer h = either (GivesWithin n) (is_zero b) (Err fault.DivideByZero) answer tt h

  by_integer : (answer : ℤ → Answer Value) → ((b : ℤ) → GivesWithin n (answer b)) → (v : Value) → GivesWithin n (of_integer answer v)
  by_integer answer h = integer_argument (GivesWithin n) tt answer h

  by_boolean : (answer : Bool → Answer Value) → ((b : Bool) → GivesWithin n (answer b)) → (v : Value) → GivesWithin n (of_boolean answer v)
  by_boolean answer h value.Nil = tt
  by_boolean answer h (value.Bool b) = h b
  by_boolean answer h (value.Int b) = tt
  by_boolean answer h (value.Char c) = tt
  by_boolean answer h (value.Str t) = tt
  by_boolean answer h (value.Ref r) = tt

  by_char : (answer : ℕ → Answer Value) → ((b : ℕ) → GivesWithin n (answer b)) → (v : Value) → GivesWithin n (of_char answer v)
  by_char answer h value.Nil = tt
  by_char answer h (value.Bool b) = tt
  by_char answer h (value.Int b) = tt
  by_char answer h (value.Char c) = h c
  by_char answer h (value.Str t) = tt
  by_char answer h (value.Ref r) = tt

  by_string : (answer : List ℕ → Answer Value) → ((b : List ℕ) → GivesWithin n (answer b)) → (v : Value) → GivesWithin n (of_string answer v)
  by_string answer h value.Nil = tt
  by_string answer h (value.Bool b) = tt
  by_string answer h (value.Int b) = tt
  by_string answer h (value.Char c) = tt
  by_string answer h (value.Str t) = h t
  by_string answer h (value.Ref r) = tt

  within_string : (bytes : List ℕ) → GivesWithin n (string bytes)
  within_string bytes = either (GivesWithin n) (nat_le (length bytes) string_limit) (Ok (value.Str bytes)) (Err fault.StoreFull) tt tt

  within_char : (found : Option ℕ) → GivesWithin n (option_map_or (λ byte. Ok (value.Char byte)) found (Err fault.Index))
  within_char None = tt
  within_char (Some byte) = tt

  every_value_within : (v : Value) → Gives (GivesWithin n) (every_value v)
  unfolding every_value
  every_value_within v = record {
    alone = (tt, tt);
    with_one = (λ w. tt, (λ w. tt, (λ w. tt, (λ w. tt, tt))));
    with_two = tt;
  }

  integers_within : (a : ℤ) → Gives (GivesWithin n) (integers a)
  unfolding integers
  integers_within a = record {
    alone = (within_number (neg_ℤ a), (within_number (pos (unsigned_abs a)), (tt, tt)));
    with_one = (
      by_integer _ (λ b. within_number (a +ℤ b)),
      (
        by_integer _ (λ b. within_number (a -ℤ b)),
        (
          by_integer _ (λ b. within_number (a *ℤ b)),
          (
            by_integer _ (λ b. within_divided b (number (int_div a b)) (within_number (int_div a b))),
            (
              by_integer _ (λ b. within_divided b (number (int_div a b)) (within_number (int_div a b))),
              (
                by_integer _ (λ b. within_divided b (Ok (value.Int (a -ℤ (int_div a b *ℤ b)))) tt),
                (
                  by_integer _ (λ b. tt),
                  (
                    by_integer _ (λ b. tt),
                    (
                      by_integer _ (λ b. tt),
                      (
                        by_integer _ (λ b. tt),
                        (
                          by_integer _ (λ b. tt),
                          (by_integer _ (λ b. tt), tt),
                        ),
                      ),
                    ),
                  ),
                ),
              ),
            ),
          ),
        ),
      ),
    );
    with_two = tt;
  }

  booleans_within : (a : Bool) → Gives (GivesWithin n) (booleans a)
  unfolding booleans
  booleans_within a = record {
    alone = (tt, (tt, (tt, tt)));
    with_one = (by_boolean _ (λ b. tt), (by_boolean _ (λ b. tt), (by_boolean _ (λ b. tt), tt)));
    with_two = tt;
  }

  chars_within : (a : ℕ) → Gives (GivesWithin n) (chars a)
  unfolding chars
  chars_within a = record {
    alone = (tt, (tt, tt));
    with_one = (by_char _ (λ b. tt), (by_char _ (λ b. tt), (by_char _ (λ b. tt), (by_char _ (λ b. tt), tt))));
    with_two = tt;
  }

  strings_within : (a : List ℕ) → Gives (GivesWithin n) (strings a)
  unfolding strings
  strings_within a = record {
    alone = (tt, (tt, tt));
    with_one = (
      by_string _ (λ b. within_string (a ++ b)),
      (
        by_string _ (λ b. within_string (a ++ b)),
        (by_integer _ (λ place. within_char (at_place a place)), tt),
      ),
    );
    with_two = tt;
  }

  by_sort_within : (v : Value) (selector : List ℕ) (args : List Value) → IfSome (by_sort v selector args) (GivesWithin n)
  by_sort_within value.Nil selector args = tt
  by_sort_within (value.Bool a) selector args = answered_gives (GivesWithin n) (booleans a) (booleans_within a) selector args
  by_sort_within (value.Int a) selector args = answered_gives (GivesWithin n) (integers a) (integers_within a) selector args
  by_sort_within (value.Char a) selector args = answered_gives (GivesWithin n) (chars a) (chars_within a) selector args
  by_sort_within (value.Str a) selector args = answered_gives (GivesWithin n) (strings a) (strings_within a) selector args
  by_sort_within (value.Ref r) selector args = tt

  told_within : (answer : Answer Value) → GivesWithin n answer → AnswersWithin n (told answer)
  told_within (Ok v) h = h
  told_within (Err fault) h = tt

  understood_within : (answer : Option (Answer Value)) → IfSome answer (GivesWithin n) → AnswersWithin n (understood answer)
  understood_within None h = tt
  understood_within (Some answer) h = told_within answer h

pub plain_within : (s : StateView) (v : Value) (selector : List ℕ) (args : List Value) → IsPlain v → StaysWithin s (of_itself s v selector args)
plain_within s v selector args plain =
    rw (of_itself-plain s v selector args plain) (understood_within (length s.objects) (by_sort v selector args) (by_sort_within (length s.objects) v selector args), refl)

-- Arrays

length-at_object : (r : ℕ) (change : List Value → List Value) (objects : List ObjectView) → length (at_object r change objects) ≡ length objects
length-at_object zero change [] = refl
length-at_object zero change (o ∷ os) = refl
length-at_object (suc r) change [] = refl
length-at_object (suc r) change (o ∷ os) = ap suc (length-at_object r change os)

all_at : {A : Type 0} (P : A → Type 0) (items : List A) (i : ℕ) → All P items → IfSome (slice_get items i) P
all_at P [] zero all = tt
all_at P [] (suc i) all = tt
all_at P (x ∷ xs) zero all = all 0 x (omega arith)
all_at P (x ∷ xs) (suc i) all = all_at P xs i (λ k d below. all (suc k) d (omega arith))

all_at_place : {A : Type 0} (P : A → Type 0) (items : List A) (place : ℤ) → All P items → IfSome (at_place items place) P
all_at_place P items (pos zero) all = tt
all_at_place P items (pos (suc before)) all = all_at P items before all
all_at_place P items (negsuc n) all = tt

abbrev ChangesWithin : ℕ → Answer Changed → Type 0
ChangesWithin n (Ok c) = RefersWithin n c.value × (length c.state.objects ≡ n)
ChangesWithin n (Err fault) = Unit {0}

module _ (s : StateView) (r : ℕ) (there : HasObject s r) (all : All (RefersWithin (length s.objects)) (object s r).items) where
  abbrev Fine : Answer Changed → Type 0
  Fine = ChangesWithin (length s.objects)

  resize_within : (size : ℤ) → Fine (resize s r size)
  resize_within (pos size) = either Fine (nat_le size array_limit) (Ok (record { value = value.Ref r; state = resized s r size })) (Err fault.Index) (there, length-at_object r (fitted size) s.objects) tt
  resize_within (negsuc n) = tt

  put_within : (v : Value) (place : ℤ) → Fine (put s r v place)
  put_within v (pos zero) = tt
  put_within v (pos (suc before)) = either Fine (nat_le (suc before) (length (object s r).items)) (Ok (record { value = value.Ref r; state = set_item s r before v })) (Err fault.Index) (there, length-at_object r _ s.objects) tt
  put_within v (negsuc n) = tt

  item_within : (found : Option Value) → IfSome found (RefersWithin (length s.objects)) → Fine (option_map_or (λ item. Ok (record { value = item; state = s })) found (Err fault.Index))
  item_within None h = tt
  item_within (Some item) h = (h, refl)

  arrays_within : Gives Fine (arrays s r)
  unfolding arrays
  arrays_within = record {
    alone = ((tt, refl), tt);
    with_one = (
      integer_argument Fine tt _ resize_within,
      (integer_argument Fine tt _ (λ place. item_within (at_place (object s r).items place) (all_at_place _ (object s r).items place all)), tt),
    );
    with_two = (λ place v. integer_argument Fine tt _ (put_within v) place, tt);
  }

  array_within : (found : Option (Answer Changed)) → IfSome found Fine → StaysWithin s (of_array s found)
  array_within None h = (tt, refl)
  array_within (Some (Ok c)) h = (h.0, h.1)
  array_within (Some (Err fault)) h = (tt, refl)

  pub object_within : (selector : List ℕ) (args : List Value) → StaysWithin s (of_itself s (value.Ref r) selector args)
  object_within selector args =
      either (StaysWithin s) (is_array (object s r).class) _ _
      (array_within (answered (arrays s r) selector args) (answered_gives Fine (arrays s r) arrays_within selector args))
      (tt, refl)

-- the whole

pub within_first : (s : StateView) (v : Value) (selector : List ℕ) (args : List Value) (answer : Answer Value) → answered (every_value v) selector args ≡ Some answer → StaysWithin s (outcome s v selector args)
within_first s v selector args answer found =
    let given : IfSome (answered (every_value v) selector args) (GivesWithin (length s.objects)) = answered_gives _ (every_value v) (every_value_within (length s.objects) v) selector args in
    rw (outcome-by_found s v selector args (Some answer) found) (told_within (length s.objects) answer (rw found at given), refl)

pub within_later : (s : StateView) (v : Value) (selector : List ℕ) (args : List Value) → answered (every_value v) selector args ≡ None → StaysWithin s (of_itself s v selector args) → StaysWithin s (outcome s v selector args)
within_later s v selector args found h = rw (outcome-by_found s v selector args None found) h

-- the clauses on a call

pub within_by : {E : Type 0} (result : Result Prim E) (s : StateView) (o : Outcome) → IfOk result (λ p. p ≡ o.answer) → StaysWithin s o → IfOk result (AnswersWithin (length s.objects))
within_by (Ok p) s o is stays = rw is stays.0
within_by (Err e) s o is stays = tt

pub count_by : {E : Type 0} (result : Result Prim E) (old new : Seen) (o : Outcome) → OnOk result (new ≡ changed old o.state) → OnErr result (new ≡ old) → StaysWithin old.held o → length new.held.objects ≡ length old.held.objects
count_by (Ok p) old new o now same stays = ap (λ n. length n.held.objects) now ∙ stays.1
count_by (Err e) old new o now same stays = ap (λ n. length n.held.objects) same
