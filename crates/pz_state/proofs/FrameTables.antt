-- What a table of frames has at a number, and what a change of the table changes.
use Rattle.std.proofs.Common.{◌≡◌, ℕ, zero, suc, Bool, true, false, nat_lt, nat_eq, ◌+◌, ◌-◌, ◌≤◌, ◌<◌, List, [], ◌∷◌, ◌++◌, length, slice_set, slice_index_or, Option, Some, None, is_some, IsSome, Vec, unwrap_or, inl, inr, refl, ap, subst, sym, ◌∙◌, arith, rules}
use Rattle.std.proofs.lemmas.Bool.{cases_lt}
use Rattle.std.specs.declared.alloc.Global.{Global}
use Rattle.std.proofs.lemmas.List.{get_or-set_same, get_or_default, get_or_past, length-set}
use Rattle.pz_value.specs.declared.value.Value.{Value}
use Rattle.pz_state_flags.specs.Flags.{is_set, IsFirstClear}
use Rattle.pz_state.specs.States.{Frames, locals_in, locals_of, at_frame, with_frame, without_frame, IsLeastFree}
use Rattle.pz_state.proofs.Reading.{set_read}
use Rattle.pz_state.specs.devices.FrameTables.{Table, StoredFrames, frames_from, stored}

below : {a b : ℕ} → a < b → nat_lt a b ≡ true
below q = search rules

not_below : {a b : ℕ} → b ≤ a → nat_lt a b ≡ false
not_below q = search rules

other : {a b : ℕ} → a < b → nat_eq a b ≡ false
other q = search rules

same : (a : ℕ) → nat_eq a a ≡ true
same a = search rules

abbrev pub items_of : Option (Vec Value Global) → Option (List Value)
items_of None = None
items_of (Some values) = Some values.items

-- no frame of a table has a number before its first
pub absent : (n k : ℕ) (table : Table) → k < n → locals_in (frames_from n table) k ≡ None
absent n k [] lt = refl
absent n k (None ∷ rest) lt = absent (suc n) k rest (omega arith)
absent n k (Some values ∷ rest) lt = let ne : nat_eq n k ≡ false = search rules in rw ne (absent (suc n) k rest (omega arith))

-- the frame at a place of the table
pub found : (n i : ℕ) (table : Table) (x : Option (Vec Value Global)) → i < length table → x ≡ slice_index_or table i x → locals_in (frames_from n table) (n + i) ≡ items_of x
found n i [] x lt e = absurd (omega arith)
found n zero (None ∷ rest) x lt e = absent (suc n) (n + 0) rest (omega arith) ∙ ap items_of (sym e)
found n zero (Some values ∷ rest) x lt e = let k : n + 0 ≡ n = omega arith in rw (k, same n) (ap items_of (sym e))
found n (suc i) (None ∷ rest) x lt e = ap (λ k. locals_in (frames_from (suc n) rest) k) (omega arith) ∙ found (suc n) i rest x (omega arith) e
found n (suc i) (Some values ∷ rest) x lt e = let b : n < n + suc i = omega arith in rw (other b)
    (ap (λ k. locals_in (frames_from (suc n) rest) k) (omega arith) ∙ found (suc n) i rest x (omega arith) e)

-- no frame has a number past the end of the table
pub past : (n k : ℕ) (table : Table) → n + length table ≤ k → locals_in (frames_from n table) k ≡ None
past n k [] le = refl
past n k (None ∷ rest) le = past (suc n) k rest (omega arith)
past n k (Some values ∷ rest) le = let b : n < k = omega arith in rw (other b) (past (suc n) k rest (omega arith))

-- another list of locals for an open frame
pub updated : (n i : ℕ) (table : Table) (old new : Vec Value Global) (change : List Value → List Value) → i < length table → Some old ≡ slice_index_or table i (Some old) → new.items ≡ change old.items
    → frames_from n (slice_set table i (Some new)) ≡ at_frame (n + i) change (frames_from n table)
updated n i [] old new change lt e f = absurd (omega arith)
updated n zero (None ∷ rest) old new change lt e f = absurd cc
updated n zero (Some values ∷ rest) old new change lt e f = let k : n + 0 ≡ n = omega arith in let same_old : old ≡ values = cc in
    rw (k, same n) (ap (λ (items : List Value). (n, items) ∷ frames_from (suc n) rest) (f ∙ ap (λ (v : Vec Value Global). change v.items) same_old))
updated n (suc i) (None ∷ rest) old new change lt e f = updated (suc n) i rest old new change (omega arith) e f ∙ ap (λ (k : ℕ). at_frame k change (frames_from (suc n) rest)) (omega arith)
updated n (suc i) (Some values ∷ rest) old new change lt e f = let b : n < n + suc i = omega arith in rw (other b)
    (ap (λ (fs : Frames). (n, values.items) ∷ fs) (updated (suc n) i rest old new change (omega arith) e f ∙ ap (λ (k : ℕ). at_frame k change (frames_from (suc n) rest)) (omega arith)))

first : (k n : ℕ) (values : List Value) (table : Table) → k < n → with_frame k values (frames_from n table) ≡ (k, values) ∷ frames_from n table
first k n values [] lt = refl
first k n values (None ∷ rest) lt = first k (suc n) values rest (omega arith)
first k n values (Some other_values ∷ rest) lt = rw (below lt) refl

-- a frame where none was
pub opens : (n i : ℕ) (table : Table) (new : Vec Value Global) → i < length table → locals_in (frames_from n table) (n + i) ≡ None
    → frames_from n (slice_set table i (Some new)) ≡ with_frame (n + i) new.items (frames_from n table)
opens n i [] new lt e = absurd (omega arith)
opens n zero (None ∷ rest) new lt e = let k : n + 0 ≡ n = omega arith in rw k (sym (first n (suc n) new.items rest (omega arith)))
opens n zero (Some values ∷ rest) new lt e = let k : n + 0 ≡ n = omega arith in absurd (some_is_none (rw (k, same n) at e))
  where
    some_is_none : Some values.items ≡ None → ⊥
    some_is_none q = cc
opens n (suc i) (None ∷ rest) new lt e = let k : suc n + i ≡ n + suc i = omega arith in
    opens (suc n) i rest new (omega arith) (ap (λ (m : ℕ). locals_in (frames_from (suc n) rest) m) k ∙ e) ∙ ap (λ (m : ℕ). with_frame m new.items (frames_from (suc n) rest)) k
opens n (suc i) (Some values ∷ rest) new lt e = let k : suc n + i ≡ n + suc i = omega arith in let b : n < n + suc i = omega arith in let a : n ≤ n + suc i = omega arith in
    let absent_after : locals_in (frames_from (suc n) rest) (n + suc i) ≡ None = rw (other b) at e in
    rw (not_below a) (ap (λ (fs : Frames). (n, values.items) ∷ fs)
    (opens (suc n) i rest new (omega arith) (ap (λ (m : ℕ). locals_in (frames_from (suc n) rest) m) k ∙ absent_after) ∙ ap (λ (m : ℕ). with_frame m new.items (frames_from (suc n) rest)) k))

-- no frame where one was
pub closes : (n i : ℕ) (table : Table) (old : Vec Value Global) → i < length table → Some old ≡ slice_index_or table i (Some old)
    → frames_from n (slice_set table i None) ≡ without_frame (n + i) (frames_from n table)
closes n i [] old lt e = absurd (omega arith)
closes n zero (None ∷ rest) old lt e = absurd cc
closes n zero (Some values ∷ rest) old lt e = let k : n + 0 ≡ n = omega arith in rw (k, same n) refl
closes n (suc i) (None ∷ rest) old lt e = let k : suc n + i ≡ n + suc i = omega arith in
    closes (suc n) i rest old (omega arith) e ∙ ap (λ (m : ℕ). without_frame m (frames_from (suc n) rest)) k
closes n (suc i) (Some values ∷ rest) old lt e = let k : suc n + i ≡ n + suc i = omega arith in let b : n < n + suc i = omega arith in
    rw (other b) (ap (λ (fs : Frames). (n, values.items) ∷ fs) (closes (suc n) i rest old (omega arith) e ∙ ap (λ (m : ℕ). without_frame m (frames_from (suc n) rest)) k))

-- An open frame has a place in the table of all frames.

empty_has_none : (o : Option (List Value)) → o ≡ None → IsSome o → ⊥
empty_has_none None e has = cc
empty_has_none (Some values) e has = absurd cc

pub has_place : (table : Table) (number : ℕ) → IsSome (locals_in (frames_from 1 table) number) → (1 ≤ number) × (number - 1 < length table)
has_place table zero has = absurd (empty_has_none _ (absent 1 0 table (omega arith)) has)
has_place table (suc i) has = elim (cases_lt i (length table)) [
  | inl lt ↦ (omega arith, omega arith)
  | inr ge ↦ absurd (empty_has_none _ (past 1 (suc i) table (omega arith)) has)
]

pub has_frame : (o : Option (List Value)) (slot : ℕ) → slot < length (unwrap_or o []) → IsSome o
has_frame None slot lt = absurd (omega arith)
has_frame (Some values) slot lt = refl

pub at_number : (table : Table) (number : ℕ) (x : Option (Vec Value Global)) → 1 ≤ number → number - 1 < length table → x ≡ slice_index_or table (number - 1) x → locals_in (frames_from 1 table) number ≡ items_of x
at_number table number x ge lt e = ap (λ k. locals_in (frames_from 1 table) k) (omega arith) ∙ found 1 (number - 1) table x lt e

pub not_empty : (table : Table) (number : ℕ) (x : Option (Vec Value Global)) → IsSome (locals_in (frames_from 1 table) number) → x ≡ slice_index_or table (number - 1) x → x ≡ None → ⊥
not_empty table number x has e none = let p = has_place table number has in
    empty_has_none _ (at_number table number x p.0 p.1 e ∙ ap items_of none) has

-- where the local of an open frame stands
pub record Placed (table : Table) (frames : Frames) (number slot : ℕ) : Type 0 where
  pub positive : 1 ≤ number
  pub within : number - 1 < length table
  pub not_closed : (x : Option (Vec Value Global)) → x ≡ slice_index_or table (number - 1) x → x ≡ None → ⊥
  pub local : (x : Option (Vec Value Global)) (locals : Vec Value Global) → x ≡ slice_index_or table (number - 1) x → x ≡ Some locals → (slot < length locals.items) × (locals_of frames number ≡ locals.items)

placed : (table : Table) (number slot : ℕ) → slot < length (locals_of (frames_from 1 table) number) → Placed table (frames_from 1 table) number slot
placed table number slot lt = let has = has_frame _ slot lt in let p = has_place table number has in record {
  positive = p.0;
  within = p.1;
  not_closed = λ x e none. not_empty table number x has e none;
  local = λ x locals e some. let q : locals_of (frames_from 1 table) number ≡ locals.items = ap (λ (o : Option (List Value)). unwrap_or o []) (at_number table number x p.0 p.1 e ∙ ap items_of some) in (rw q at lt, q);
}

pub local_at : {seen : StoredFrames} (table : Table) → stored table ≡ seen → (number slot : ℕ) → slot < length (locals_of seen.frames number) → Placed table seen.frames number slot
local_at {seen} table v number slot = subst (λ (s : StoredFrames). slot < length (locals_of s.frames number) → Placed table s.frames number slot) v (placed table number slot)

-- the frames once an open one has other locals, and once it has its own again
pub record Replaced (table : Table) (frames : Frames) (number : ℕ) (old new : Vec Value Global) : Type 0 where
  pub changes : (change : List Value → List Value) → new.items ≡ change old.items → frames_from 1 (slice_set table (number - 1) (Some new)) ≡ at_frame number change frames
  pub back : (change : List Value → List Value) → old.items ≡ change new.items → at_frame number change (frames_from 1 (slice_set table (number - 1) (Some new))) ≡ frames
  pub locals : locals_of (frames_from 1 (slice_set table (number - 1) (Some new))) number ≡ new.items

replaced_in : (table : Table) (number : ℕ) (old new : Vec Value Global) → 1 ≤ number → number - 1 < length table → Some old ≡ slice_index_or table (number - 1) (Some old) → Replaced table (frames_from 1 table) number old new
replaced_in table number old new ge lt e = let k : 1 + (number - 1) ≡ number = omega arith in
    let i = number - 1 in
    let after = slice_set table (number - 1) (Some new) in
    let after_lt : number - 1 < length after = rw length-set lt in
    let there : Some new ≡ slice_index_or after (number - 1) (Some new) = sym (get_or-set_same table (number - 1) (Some new) (Some new) lt) in
    record {
      changes = λ change f. updated 1 i table old new change lt e f ∙ ap (λ (m : ℕ). at_frame m change (frames_from 1 table)) k;
      back = λ change f. sym (updated 1 i after new old change after_lt there f ∙ ap (λ (m : ℕ). at_frame m change (frames_from 1 after)) k)
          ∙ ap (λ (t : Table). frames_from 1 t) (set_read table (number - 1) (Some old) (Some new) e);
      locals = ap (λ (o : Option (List Value)). unwrap_or o []) (at_number after number (Some new) ge after_lt there);
    }

pub replaced : {seen : StoredFrames} (table : Table) → stored table ≡ seen → (number : ℕ) (x : Option (Vec Value Global)) (old new : Vec Value Global) → 1 ≤ number → number - 1 < length table → x ≡ slice_index_or table (number - 1) x → x ≡ Some old
    → Replaced table seen.frames number old new
replaced {seen} table v number x old new ge lt e some = subst (λ (s : StoredFrames). Replaced table s.frames number old new) v
    (replaced_in table number old new ge lt (subst (λ (y : Option (Vec Value Global)). y ≡ slice_index_or table (number - 1) y) some e))

-- the frames once an open one is closed, and once it is open again
pub record Closed (table : Table) (frames : Frames) (number : ℕ) (old : Vec Value Global) (now : Option (Vec Value Global)) : Type 0 where
  pub changes : frames_from 1 (slice_set table (number - 1) now) ≡ without_frame number frames
  pub back : with_frame number old.items (frames_from 1 (slice_set table (number - 1) now)) ≡ frames
  pub free : locals_in (frames_from 1 (slice_set table (number - 1) now)) number ≡ None

closed_in : (table : Table) (number : ℕ) (old : Vec Value Global) → 1 ≤ number → number - 1 < length table → Some old ≡ slice_index_or table (number - 1) (Some old) → Closed table (frames_from 1 table) number old None
closed_in table number old ge lt e = let k : 1 + (number - 1) ≡ number = omega arith in
    let i = number - 1 in
    let after = slice_set table (number - 1) None in
    let after_lt : number - 1 < length after = rw length-set lt in
    let gone : None ≡ slice_index_or after (number - 1) None = sym (get_or-set_same table (number - 1) None None lt) in
    let free_after : locals_in (frames_from 1 after) number ≡ None = at_number after number None ge after_lt gone in
    record {
      changes = closes 1 i table old lt e ∙ ap (λ (m : ℕ). without_frame m (frames_from 1 table)) k;
      back = sym (opens 1 i after old after_lt (ap (λ (m : ℕ). locals_in (frames_from 1 after) m) k ∙ free_after) ∙ ap (λ (m : ℕ). with_frame m old.items (frames_from 1 after)) k)
          ∙ ap (λ (t : Table). frames_from 1 t) (set_read table (number - 1) (Some old) None e);
      free = free_after;
    }

pub closed : {seen : StoredFrames} (table : Table) → stored table ≡ seen → (number : ℕ) (x now : Option (Vec Value Global)) (old : Vec Value Global) → 1 ≤ number → number - 1 < length table → x ≡ slice_index_or table (number - 1) x → x ≡ Some old → now ≡ None
    → Closed table seen.frames number old now
closed {seen} table v number x now old ge lt e some none = subst (λ (s : StoredFrames). Closed table s.frames number old now) v
    (subst (λ (y : Option (Vec Value Global)). Closed table (frames_from 1 table) number old y) (sym none)
    (closed_in table number old ge lt (subst (λ (y : Option (Vec Value Global)). y ≡ slice_index_or table (number - 1) y) some e)))

pub has_place_seen : {seen : StoredFrames} (table : Table) → stored table ≡ seen → (number : ℕ) → IsSome (locals_in seen.frames number) → (1 ≤ number) × (number - 1 < length table)
has_place_seen {seen} table v number = subst (λ (s : StoredFrames). IsSome (locals_in s.frames number) → (1 ≤ number) × (number - 1 < length table)) v (has_place table number)

pub not_empty_seen : {seen : StoredFrames} (table : Table) → stored table ≡ seen → (number : ℕ) (x : Option (Vec Value Global)) → IsSome (locals_in seen.frames number) → x ≡ slice_index_or table (number - 1) x → x ≡ None → ⊥
not_empty_seen {seen} table v number x = subst (λ (s : StoredFrames). IsSome (locals_in s.frames number) → x ≡ slice_index_or table (number - 1) x → x ≡ None → ⊥) v (not_empty table number x)

-- a frame under a number that is free
pub opened : {seen : StoredFrames} (table : Table) → stored table ≡ seen → (number : ℕ) (new : Vec Value Global) → 1 ≤ number → number ≤ seen.room → locals_in seen.frames number ≡ None
    → frames_from 1 (slice_set table (number - 1) (Some new)) ≡ with_frame number new.items seen.frames
opened {seen} table v number new ge = subst (λ (s : StoredFrames). number ≤ s.room → locals_in s.frames number ≡ None → frames_from 1 (slice_set table (number - 1) (Some new)) ≡ with_frame number new.items s.frames) v
    (λ le free. let k : 1 + (number - 1) ≡ number = omega arith in
    opens 1 (number - 1) table new (omega arith) (ap (λ (m : ℕ). locals_in (frames_from 1 table) m) k ∙ free) ∙ ap (λ (m : ℕ). with_frame m new.items (frames_from 1 table)) k)

-- The least number that no open frame has.

is_some_items : (x : Option (Vec Value Global)) → is_some x ≡ true → is_some (items_of x) ≡ true
is_some_items None e = absurd cc
is_some_items (Some values) e = refl

not_some : (x : Option (Vec Value Global)) → is_some x ≡ false → x ≡ None
not_some None e = refl
not_some (Some values) e = absurd cc

-- these flags are set for the open frames of a table
abbrev Flagged : List ℕ → Table → Type 0
Flagged words table = (i : ℕ) → is_set words i ≡ is_some (slice_index_or table i None)

first_within : (table : Table) (words : List ℕ) (place : ℕ) → Flagged words table → IsFirstClear words place → place ≤ length table
first_within table words place flags first_clear = elim (cases_lt (length table) place) [
  | inl lt ↦ let none : slice_index_or table (length table) None ≡ None = get_or_past table (length table) None (omega arith) in
      let some : is_some (slice_index_or table (length table) None) ≡ true = sym (flags (length table)) ∙ first_clear.below (length table) lt in absurd cc
  | inr ge ↦ ge
]

least_in : (table : Table) (words : List ℕ) (place : ℕ) → Flagged words table → IsFirstClear words place → IsLeastFree (frames_from 1 table) (place + 1)
least_in table words place flags first_clear = record {
  positive = omega arith;
  free = elim (cases_lt place (length table)) [
    | inl lt ↦ ap (λ k. locals_in (frames_from 1 table) k) (omega arith) ∙ found 1 place table None lt (sym (not_some _ (sym (flags place) ∙ first_clear.clear)))
    | inr ge ↦ past 1 (place + 1) table (omega arith)
  ];
  below = λ n positive lt. let i = n - 1 in let within : i < length table = let w = first_within table words place flags first_clear in omega arith in let x = slice_index_or table i None in
      ap is_some (ap (λ k. locals_in (frames_from 1 table) k) (omega arith) ∙ found 1 i table x within (get_or_default table i None x within))
      ∙ is_some_items x (sym (flags i) ∙ first_clear.below i (omega arith));
}

pub least : {seen : StoredFrames} (table : Table) → stored table ≡ seen → (words : List ℕ) (place : ℕ) → Flagged words table → IsFirstClear words place → IsLeastFree seen.frames (place + 1)
least {seen} table v words place flags first_clear = subst (λ (s : StoredFrames). IsLeastFree s.frames (place + 1)) v (least_in table words place flags first_clear)

pub least_fits : {seen : StoredFrames} (table : Table) → stored table ≡ seen → (words : List ℕ) (place : ℕ) → Flagged words table → IsFirstClear words place → place ≤ seen.room
least_fits {seen} table v words place flags first_clear = subst (λ (s : StoredFrames). place ≤ s.room) v (first_within table words place flags first_clear)

-- one more place without a frame
pub frames_from-widened : (n : ℕ) (table : Table) → frames_from n (table ++ None ∷ []) ≡ frames_from n table
frames_from-widened n [] = refl
frames_from-widened n (None ∷ rest) = frames_from-widened (suc n) rest
frames_from-widened n (Some values ∷ rest) = ap (λ (fs : Frames). (n, values.items) ∷ fs) (frames_from-widened (suc n) rest)

-- A frame opened under a free number.

with_first : (number : ℕ) (values : List Value) (f : ℕ × List Value) (fs : Frames) → nat_eq f.0 number ≡ false → (b : Bool) → nat_lt number f.0 ≡ b
    → (without_frame number (with_frame number values fs) ≡ fs) → without_frame number (with_frame number values (f ∷ fs)) ≡ f ∷ fs
with_first number values f fs ne true lt ih = rw (lt, same number) refl
with_first number values f fs ne false ge ih = rw (ge, ne) (ap (λ (gs : Frames). f ∷ gs) ih)

found_first : (number : ℕ) (values : List Value) (f : ℕ × List Value) (fs : Frames) → nat_eq f.0 number ≡ false → (b : Bool) → nat_lt number f.0 ≡ b
    → (locals_in (with_frame number values fs) number ≡ Some values) → locals_in (with_frame number values (f ∷ fs)) number ≡ Some values
found_first number values f fs ne true lt ih = rw (lt, same number) refl
found_first number values f fs ne false ge ih = rw (ge, ne) ih

pub tail_has_none : (number : ℕ) (f : ℕ × List Value) (fs : Frames) (b : Bool) → nat_eq f.0 number ≡ b → locals_in (f ∷ fs) number ≡ None → (b ≡ false) × (locals_in fs number ≡ None)
tail_has_none number f fs true eq e = absurd (not_none f.1 (rw eq at e))
  where
    not_none : (values : List Value) → Some values ≡ None → ⊥
    not_none values q = cc
tail_has_none number f fs false ne e = (refl, rw ne at e)

pub without_frame-with_frame : (number : ℕ) (values : List Value) (fs : Frames) → locals_in fs number ≡ None → without_frame number (with_frame number values fs) ≡ fs
without_frame-with_frame number values [] e = rw (same number) refl
without_frame-with_frame number values (f ∷ fs) e = let t = tail_has_none number f fs (nat_eq f.0 number) refl e in
    with_first number values f fs t.0 (nat_lt number f.0) refl (without_frame-with_frame number values fs t.1)

pub locals_in-with_frame : (number : ℕ) (values : List Value) (fs : Frames) → locals_in fs number ≡ None → locals_in (with_frame number values fs) number ≡ Some values
locals_in-with_frame number values [] e = rw (same number) refl
locals_in-with_frame number values (f ∷ fs) e = let t = tail_has_none number f fs (nat_eq f.0 number) refl e in
    found_first number values f fs t.0 (nat_lt number f.0) refl (locals_in-with_frame number values fs t.1)
