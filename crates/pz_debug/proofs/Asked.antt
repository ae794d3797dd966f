-- The words ask for one session, or for none.
use Rattle.std.proofs.Common.{◌≡◌, ◌≤◌, ◌<◌, ℕ, List, [], ◌∷◌, length, map, get_or, Bool, true, Option, Some, None, refl, sym, ap, subst, ◌∙◌, arith}
use Rattle.std.specs.Prelude.{IsTrue}
use Rattle.pz_words.specs.Jobs.{is_name}
use Rattle.pz_io.specs.Outside.{FilesState, SinkState}
use Rattle.pz_debug.specs.Asked.{Asked, Asks, session, IsAsked, something, nothing}
use Rattle.pz_debug.specs.declared.status.DebugStatus.{DebugStatus}
use Rattle.pz_debug.specs.devices.Keeping.{KeepsPromises}

one_asked : (words : List (List ℕ)) (a b : Asked) → Asks words a → Asks words b → a ≡ b
one_asked _ _ _ (session model commands is also) (session _ _ be too) = refl

pub asked_is : (words : List (List ℕ)) (a : Asked) (b : Option Asked) → Asks words a → IsAsked words b → Some a ≡ b
asked_is words a _ asks (something b other) = ap (λ (x : Asked). Some x) (one_asked words a b asks other)
asked_is words a _ asks (nothing none) = absurd (none a asks)

pub none_is : (words : List (List ℕ)) (b : Option Asked) → ((a : Asked) → Asks words a → ⊥) → IsAsked words b → None ≡ b
none_is words _ none (something b other) = absurd (none b other)
none_is words _ none (nothing also) = refl

module _ (f g : FilesState) (before now : SinkState) (given : DebugStatus) where
  pub keeps_asked : (a b : Option Asked) → a ≡ b → KeepsPromises a f g before now given → KeepsPromises b f g before now given
  keeps_asked a b same kept = subst (λ (o : Option Asked). KeepsPromises o f g before now given) same kept

pub names : (r : Bool) (word other : List ℕ) → r ≡ is_name word → r ≡ true → word ≡ other → IsTrue (is_name other)
names r word other is holds same = subst (λ (w : List ℕ). IsTrue (is_name w)) same (sym is ∙ holds)

pub session_of : {W : Type 0} (text : W → List ℕ) (words : List W) (a b : W) (one two : List ℕ) → 2 ≤ length words → length words < 3 → a ≡ get_or words 0 a → b ≡ get_or words 1 b → one ≡ text a → two ≡ text b
    → IsTrue (is_name (text a)) → IsTrue (is_name (text b)) → Asks (map text words) (record { model = one; commands = two })
session_of text [] a b one two many few first second says tells model commands = absurd (omega (arith, many))
session_of text (v ∷ []) a b one two many few first second says tells model commands = absurd (omega (arith, many))
session_of text (v ∷ w ∷ []) a b one two many few first second says tells model commands =
    subst (λ (l : List (List ℕ)). Asks l (record { model = one; commands = two }))
    (ap (λ (u : List ℕ). u ∷ two ∷ []) (says ∙ ap text first) ∙ ap (λ (u : List ℕ). text v ∷ u ∷ []) (tells ∙ ap text second))
    (session one two (subst (λ (u : List ℕ). IsTrue (is_name u)) (sym says) model) (subst (λ (u : List ℕ). IsTrue (is_name u)) (sym tells) commands))
session_of text (v ∷ w ∷ x ∷ xs) a b one two many few first second says tells model commands = absurd (omega (arith, few))
