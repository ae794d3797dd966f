-- The order of places, from that of violations.
use Rattle.std.proofs.Common.{◌≡◌, refl, sym, ap, ◌∙◌, true≢false, ℕ, Bool, true, false, ◌&&◌, ◌||◌, nat_lt, arith}
use Rattle.std.proofs.lemmas.Bool.Decides.{nat_tests}
use Rattle.pz_classes.specs.pz_syntax.declared.tokens.Pos.{Pos}
use Rattle.pz_check_violations.specs.Order.{violation, pos_before, pos_same, is_before}
use Rattle.pz_check_violations.proofs.Order.{not_before_itself, never_before, not_behind}

nothing_more : (a b : Bool) → a || (b && false) ≡ a
nothing_more true b = refl
nothing_more false true = refl
nothing_more false false = refl

not_less : (n : ℕ) → nat_lt n n ≡ false
not_less n = grind (arith, nat_tests)

-- two violations of a rule are ordered as their places
pub same_rule : (rule : ℕ) (p q : Pos) → is_before (violation rule p) (violation rule q) ≡ pos_before p q
same_rule rule p q = ap (λ (b : Bool). pos_before p q || (pos_same p q && b)) (not_less rule) ∙ nothing_more (pos_before p q) (pos_same p q)

pub not_before_its_own : (p : Pos) → pos_before p p ≡ false
not_before_its_own p = sym (same_rule 4 p p) ∙ not_before_itself (violation 4 p)

pub never_sooner : (p q r : Pos) → pos_before p q ≡ false → pos_before q r ≡ false → pos_before p r ≡ false
never_sooner p q r first second =
    sym (same_rule 4 p r) ∙ never_before (violation 4 p) (violation 4 q) (violation 4 r) (same_rule 4 p q ∙ first) (same_rule 4 q r ∙ second)

pub not_later : (p q : Pos) → pos_before p q ≡ true → pos_before q p ≡ false
not_later p q first = sym (same_rule 4 q p) ∙ not_behind (violation 4 p) (violation 4 q) (same_rule 4 p q ∙ first)

-- what is not behind the first of two places is before the second
pub before_second : (p q r : Pos) → pos_before p q ≡ false → pos_before p r ≡ true → pos_before q r ≡ true
before_second p q r early later = by_test (pos_before q r) refl
  where
    by_test : (t : Bool) → pos_before q r ≡ t → pos_before q r ≡ true
    by_test true is = is
    by_test false is = absurd (true≢false (sym later ∙ never_sooner p q r early is))
