-- What an answer of a part of the reading says of the parts that it is made of.
use Rattle.std.proofs.Common.{◌≡◌, refl, ap, subst, ℕ, Bool, true, false, ◌&&◌, not, List, Option, Some, None, Ok, Result, ◌⊎◌, inl, inr}
use Rattle.std.specs.Prelude.{if◌then◌else◌, bytes_eq, option_map, IfOk}
use Rattle.std.proofs.lemmas.Slice.Eq.{bytes_eq-Decides}
use Rattle.pz_words.specs.Jobs.{or_else}
use Rattle.pz_words.specs.devices.Reading.{only_if, then_maybe, is_none}

pub some_same : {A : Type 0} (x y : A) → Some x ≡ Some y → x ≡ y
some_same x y e = ap (or_else x) e

pub none_some : {A : Type 0} (x : A) → None ≡ Some x → ⊥
none_some x e = cc

pub false_true : false ≡ true → ⊥
false_true e = cc

pub only_if_some : {A : Type 0} (b : Bool) (x y : A) → only_if b x ≡ Some y → (b ≡ true) × (x ≡ y)
only_if_some true x y e = (refl, some_same x y e)
only_if_some false x y e = absurd (none_some y e)

pub only_if_true : {A : Type 0} (b : Bool) (x : A) → b ≡ true → only_if b x ≡ Some x
only_if_true true x e = refl
only_if_true false x e = absurd (false_true e)

pub only_if_false : {A : Type 0} (b : Bool) (x : A) → (b ≡ true → ⊥) → only_if b x ≡ None
only_if_false true x e = absurd (e refl)
only_if_false false x e = refl

pub then_some : {A B : Type 0} (o : Option A) (f : A → Option B) (y : B) → then_maybe o f ≡ Some y → (x : A) × (o ≡ Some x) × (f x ≡ Some y)
then_some None f y e = absurd (none_some y e)
then_some (Some x) f y e = (x, refl, e)

pub map_some : {A B : Type 0} (f : A → B) (o : Option A) (y : B) → option_map f o ≡ Some y → (x : A) × (o ≡ Some x) × (f x ≡ y)
map_some f None y e = absurd (none_some y e)
map_some f (Some x) y e = (x, refl, some_same (f x) y e)

pub both_true : (a b : Bool) → (a && b) ≡ true → (a ≡ true) × (b ≡ true)
both_true true b e = (refl, e)
both_true false b e = absurd (false_true e)

pub true_both : (a b : Bool) → a ≡ true → b ≡ true → (a && b) ≡ true
true_both true b e f = f
true_both false b e f = absurd (false_true e)

pub not_true : (b : Bool) → not b ≡ true → b ≡ false
not_true true e = absurd (false_true e)
not_true false e = refl

pub unless_some : {A : Type 0} (b : Bool) (o : Option A) (y : A) → (if b then None else o) ≡ Some y → (b ≡ false) × (o ≡ Some y)
unless_some true o y e = absurd (none_some y e)
unless_some false o y e = (refl, e)

pub when_some : {A : Type 0} (b : Bool) (o : Option A) (y : A) → (if b then o else None) ≡ Some y → (b ≡ true) × (o ≡ Some y)
when_some true o y e = (refl, e)
when_some false o y e = absurd (none_some y e)

by_case : {A : Type 0} (b : Bool) (P : Type 0) → (b ≡ true → P) → (x other y : A) → (if b then x else other) ≡ y → (P × (x ≡ y)) ⊎ (other ≡ y)
by_case true P d x other y e = inl (d refl, e)
by_case false P d x other y e = inr e

-- the word is this one, or the answer is that for others
pub by_word : {A : Type 0} (w k : List ℕ) (x other y : A) → (if bytes_eq w k then x else other) ≡ y → ((w ≡ k) × (x ≡ y)) ⊎ (other ≡ y)
by_word w k x other y e = by_case (bytes_eq w k) (w ≡ k) (bytes_eq-Decides w k).0 x other y e

pub none_is : {A : Type 0} (o : Option A) → is_none o ≡ true → o ≡ None
none_is None e = refl
none_is (Some x) e = absurd (false_true e)

pub ok_told : {A E : Type 0} (r : Result A E) (x : A) (P : A → Type 0) → r ≡ Ok x → IfOk r P → P x
ok_told r x P e told = subst (λ s. IfOk s P) e told
