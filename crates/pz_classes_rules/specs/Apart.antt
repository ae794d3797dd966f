-- Lists in which nothing stands twice.
use Rattle.std.specs.Prelude.{◌≡◌, ℕ, Bool, List, Some, IsTrue, slice_get}

-- of these no two, each at a place of its own, are the same
abbrev pub AreApart : {A : Type 0} → (A → A → Bool) → List A → Type 0
AreApart {A} same xs = (i j : ℕ) (x y : A) → slice_get xs i ≡ Some x → slice_get xs j ≡ Some y → IsTrue (same x y) → i ≡ j
