-- What an action leaves of a process has short delays and is not too high.
use Rattle.std.proofs.Common.{◌≡◌, ◌≤◌, if◌then◌else◌, nat_le, ℕ, Bool, true, false, Result, Ok, Err, refl, sym, subst}
use Rattle.std.proofs.lemmas.Bool.{leb-true}
use Rattle.pz_rules.specs.pz_syntax.declared.tokens.Pos.{Pos}
use Rattle.pz_rules.specs.pz_offer.PlaceOrder.{Place}
use Rattle.pz_rules.specs.pz_offer.declared.trouble.Trouble.{Trouble}
use Rattle.pz_rules.specs.pz_offer.declared.trouble.Trouble.TheVariants.{High}
use Rattle.pz_rules.specs.Terms.{Term, height}
use Rattle.pz_rules.specs.Settings.{Process, Context, home_of}
use Rattle.pz_rules.specs.Leaving.{residual, swept, settled}
use Rattle.pz_rules.specs.Meanings.{and_then}
use Rattle.pz_rules.specs.Short.{IsShort}
use Rattle.pz_rules.proofs.Opened.{residual_short}
use Rattle.pz_tree_acting.proofs.Calm.{LeavesShort}

-- ---------------------------------------------------------- the whole process

pub record IsLeft (limit : ℕ) (p : Process) : Type 0 where
  pub short : IsShort p.term
  pub low : height p.term ≤ limit

-- answers that are no troubles
abbrev answered : Process → Result Process Trouble
answered p = Ok p

the_same : (p q : Process) → answered p ≡ answered q → p ≡ q
the_same p q e = cc

low_enough : (n limit : ℕ) → nat_le n limit ≡ true → n ≤ limit
low_enough n limit e = leb-true n limit e

module _ (a : Context) (pos : Pos) where
  within : (q p : Process) → IsShort q.term → (b : Bool) → nat_le (height q.term) a.setting.limits.height ≡ b → Ok p ≡ (if b then Ok q else Err (High a.process pos)) → IsLeft a.setting.limits.height p
  within q p short true e is = subst (IsLeft a.setting.limits.height) (sym (the_same p q is)) (record { short = short; low = low_enough (height q.term) a.setting.limits.height e })
  within q p short false e is = absurd cc

  pub is_left : (t : Term) (place : Place) (left : Result Process Trouble) (p : Process) → IsShort t → LeavesShort left → Ok p ≡ and_then left (settled a pos t place) → IsLeft a.setting.limits.height p
  is_left t place (Ok x) p short on is =
      let q = swept (residual (home_of a) 0 t place x) in
      within q p (residual_short (home_of a) 0 t place x short on) (nat_le (height q.term) a.setting.limits.height) refl is
  is_left t place (Err trouble) p short on is = absurd cc
