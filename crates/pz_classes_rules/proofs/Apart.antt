-- What does not repeat is apart.
use Rattle.std.proofs.Common.{◌≡◌, ◌≢◌, refl, sym, ℕ, Bool, true, false, ◌&&◌, ◌||◌, IsTrue, List, nat_eq, nat_lt, arith, ◌⊎◌, inl, inr}
use Rattle.std.proofs.lemmas.Bool.Decides.{nat_tests}
use Rattle.pz_classes_code.specs.pz_syntax.declared.tokens.Pos.{Pos}
use Rattle.pz_check_violations.specs.Order.{pos_before}
use Rattle.pz_classes_rules.specs.RepeatRules.{Repeats}
use Rattle.pz_classes_rules.specs.Apart.{AreApart}

-- by two numbers in turn
abbrev before : ℕ → ℕ → ℕ → ℕ → Bool
before a b x y = nat_lt a x || (nat_eq a x && nat_lt b y)

not_both : (a b x y : ℕ) → before a b x y ≡ true → before x y a b ≡ false
not_both a b x y is = grind (arith, nat_tests)

either : (i j : ℕ) → (i ≡ j) ⊎ (i ≢ j)
either i j = grind arith

pub apart : {A : Type 0} (same : A → A → Bool) (place : A → Pos) (xs : List A) → ((x y : A) → IsTrue (same x y) → IsTrue (same y x)) → ((y : A) → Repeats same place xs y → ⊥) → AreApart same xs
apart {A} same place xs turned never i j x y first second alike = by_places (either i j)
  where
    by_test : i ≢ j → (b : Bool) → pos_before (place y) (place x) ≡ b → i ≡ j
    by_test other false behind = absurd (never y (record {
      first = x;
      first_at = i;
      again_at = j;
      first_there = first;
      again_there = second;
      apart = other;
      alike = alike;
      later = behind;
    }))
    by_test other true before_it = absurd (never x (record {
      first = y;
      first_at = j;
      again_at = i;
      first_there = second;
      again_there = first;
      apart = λ is. other (sym is);
      alike = turned x y alike;
      later = not_both (place y).line (place y).column (place x).line (place x).column before_it;
    }))

    by_places : (i ≡ j) ⊎ (i ≢ j) → i ≡ j
    by_places (inl is) = is
    by_places (inr other) = by_test other (pos_before (place y) (place x)) refl
