-- What single searches find, joined.
use Rattle.std.proofs.Common.{◌≡◌, true, Option, Some, None, ◌⊎◌, inl, inr}
use Rattle.std.specs.Option.{is_some}
use Rattle.pz_classes.specs.pz_syntax.declared.tokens.Pos.{Pos}
use Rattle.pz_classes.specs.pz_syntax.Classes.{ModelTree}
use Rattle.pz_classes.specs.pz_check_violations.declared.violation.Violation.{Violation}
use Rattle.pz_classes.specs.pz_check_violations.Order.{violation}
use Rattle.pz_classes.specs.pz_check_violations.Least.{LeastOf, sooner}
use Rattle.pz_classes.proofs.pz_check_violations_proofs.TwoLeasts.{sooner_is_least}
use Rattle.pz_classes.specs.pz_classes_rules.WordRules.{BreaksWord}
use Rattle.pz_classes.specs.pz_classes_rules.RepeatRules.{BreaksC4}
use Rattle.pz_classes.specs.pz_classes_rules.InstanceRules.{BreaksC14, BreaksC15}
use Rattle.pz_classes.specs.pz_classes_rules.ChannelRules.{BreaksC16, BreaksC17}
use Rattle.pz_classes.specs.pz_classes_rules.SizeRules.{BreaksC19, BreaksC20, HasNoSize, by_class, by_name, by_holding, by_system, too_large}
use Rattle.pz_classes.specs.pz_classes_rules.Soundness.{Breaks, a_word, a_repeat, given, holding, an_end, two_ends, size, the_system}
use Rattle.pz_check.specs.Together.{BreaksSize}

-- the least of the same violations
same_least : (V W : Violation → Type 0) → ((v : Violation) → V v → W v) → ((v : Violation) → W v → V v) → (found : Option Violation) → LeastOf V found → LeastOf W found
same_least V W there back None none = λ v here. none v (back v here)
same_least V W there back (Some v) is = record { violated = there v is.violated; least = λ u here. is.least u (back u here) }

-- a rule that cannot be violated has no least violation
never_found : (V : Violation → Type 0) → ((v : Violation) → V v → ⊥) → LeastOf V None
never_found V never = never

module _ (m : ModelTree) where
  pub size_joined : (first second third : Option Violation) → LeastOf (BreaksC15 m) first → LeastOf (BreaksC20 m) second → LeastOf (BreaksC19 m) third
      → LeastOf (BreaksSize m) (sooner (sooner first second) third)
  size_joined first second third a b c =
      sooner_is_least (λ v. BreaksC15 m v ⊎ BreaksC20 m v) (BreaksC19 m) (sooner first second) third
      (sooner_is_least (BreaksC15 m) (BreaksC20 m) first second a b) c

  abbrev Named : Violation → Type 0
  Named v = BreaksWord m v ⊎ BreaksC4 m v

  abbrev Connected : Violation → Type 0
  Connected v = (BreaksC14 m v ⊎ BreaksC16 m v) ⊎ BreaksC17 m v

  abbrev Any : Violation → Type 0
  Any v = (Named v ⊎ Connected v) ⊎ BreaksSize m v

  is_some_rule : (v : Violation) → Any v → Breaks m v
  is_some_rule v (inl (inl (inl x))) = a_word v x
  is_some_rule v (inl (inl (inr x))) = a_repeat v x
  is_some_rule v (inl (inr (inl (inl x)))) = given v x
  is_some_rule v (inl (inr (inl (inr x)))) = an_end v x
  is_some_rule v (inl (inr (inr x))) = two_ends v x
  is_some_rule v (inr (inl (inl x))) = holding v x
  is_some_rule v (inr (inl (inr x))) = the_system v x
  is_some_rule v (inr (inr x)) = size v x

  is_any : (v : Violation) → Breaks m v → Any v
  is_any _ (a_word v x) = inl (inl (inl x))
  is_any _ (a_repeat v x) = inl (inl (inr x))
  is_any _ (given v x) = inl (inr (inl (inl x)))
  is_any _ (an_end v x) = inl (inr (inl (inr x)))
  is_any _ (two_ends v x) = inl (inr (inr x))
  is_any _ (holding v x) = inr (inl (inl x))
  is_any _ (the_system v x) = inr (inl (inr x))
  is_any _ (size v x) = inr (inr x)

  pub all_joined : (words repeats instances ends doubled sized : Option Violation)
      → LeastOf (BreaksWord m) words → LeastOf (BreaksC4 m) repeats → LeastOf (BreaksC14 m) instances → LeastOf (BreaksC16 m) ends
      → LeastOf (BreaksC17 m) doubled → LeastOf (BreaksSize m) sized
      → LeastOf (Breaks m) (sooner (sooner (sooner words repeats) (sooner (sooner instances ends) doubled)) sized)
  all_joined words repeats instances ends doubled sized a b c d e f =
      let named : LeastOf Named (sooner words repeats) = sooner_is_least (BreaksWord m) (BreaksC4 m) words repeats a b in
      let near : LeastOf (λ v. BreaksC14 m v ⊎ BreaksC16 m v) (sooner instances ends) = sooner_is_least (BreaksC14 m) (BreaksC16 m) instances ends c d in
      let connected : LeastOf Connected (sooner (sooner instances ends) doubled) = sooner_is_least (λ v. BreaksC14 m v ⊎ BreaksC16 m v) (BreaksC17 m) (sooner instances ends) doubled near e in
      let both : LeastOf (λ v. Named v ⊎ Connected v) (sooner (sooner words repeats) (sooner (sooner instances ends) doubled)) =
      sooner_is_least Named Connected (sooner words repeats) (sooner (sooner instances ends) doubled) named connected in
      same_least Any (Breaks m) is_some_rule is_any _ (sooner_is_least (λ v. Named v ⊎ Connected v) (BreaksSize m) (sooner (sooner words repeats) (sooner (sooner instances ends) doubled)) sized both f)

  -- where one of the rules is violated without which nothing has a size, no size is too large
  pub no_size_found : HasNoSize m → LeastOf (BreaksC19 m) None
  no_size_found no_size = never
    where
      never : (v : Violation) → BreaksC19 m v → ⊥
      never _ (too_large s sized here large) = sized no_size

  pub by_holding_found : (found : Option Violation) → is_some found ≡ true → LeastOf (BreaksC15 m) found → LeastOf (BreaksC19 m) None
  by_holding_found None some is = cc
  by_holding_found (Some v) some is = no_size_found (by_holding v is.violated)

  pub by_system_found : (found : Option Violation) → is_some found ≡ true → LeastOf (BreaksC20 m) found → LeastOf (BreaksC19 m) None
  by_system_found None some is = cc
  by_system_found (Some v) some is = no_size_found (by_system v is.violated)

  pub by_word_found : (pos : Pos) → BreaksWord m (violation 13 pos) ⊎ BreaksWord m (violation 18 pos) → LeastOf (BreaksC19 m) None
  by_word_found pos (inl x) = no_size_found (by_class pos x)
  by_word_found pos (inr x) = no_size_found (by_name pos x)

  -- without any of them it has one
  pub is_sized : LeastOf (BreaksC15 m) None → LeastOf (BreaksC20 m) None → ((pos : Pos) → BreaksWord m (violation 13 pos) ⊎ BreaksWord m (violation 18 pos) → ⊥) → HasNoSize m → ⊥
  is_sized holds systems words (by_class pos x) = words pos (inl x)
  is_sized holds systems words (by_name pos x) = words pos (inr x)
  is_sized holds systems words (by_holding v x) = holds v x
  is_sized holds systems words (by_system v x) = systems v x
