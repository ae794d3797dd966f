-- Terms and configurations with less than 2^64 clock units left of each delay.
use Rattle.std.specs.Prelude.{◌≡◌, ◌<◌, ◌^◌, ℕ, Some, Ok, slice_get}
use Rattle.pz_bind_rules.specs.pz_syntax.declared.tokens.Pos.{Pos}
use Rattle.pz_bind_rules.specs.pz_syntax.Statements.{delay}
use Rattle.pz_offer.specs.declared.end.End.{End}
use Rattle.pz_rules.specs.Terms.{Code, Term, done, leaf, wait, sequence, parallel, select, guarded, frame, abort, idle, handling, Terms, no_terms, and}
use Rattle.pz_rules.specs.Settings.{Setting, Process, Context}
use Rattle.pz_rules.specs.Evaluations.{Lasts}
use Rattle.pz_rules.specs.Configurations.{Config}
use Rattle.pz_rules.specs.Offers.{PartAt}

abbrev mutual
  -- of each delay that has begun less than 2^64 clock units are left
  pub IsShort : Term → Type 0
  IsShort done = Unit {0}
  IsShort (leaf s) = Unit {0}
  IsShort (wait left at) = left < 2 ^ 64
  IsShort (sequence t rest) = IsShort t
  IsShort (parallel ts) = AreShort ts
  IsShort (select ts) = AreShort ts
  IsShort (guarded test at t) = IsShort t
  IsShort (frame number inputs results t) = IsShort t
  IsShort (abort t u) = IsShort t × IsShort u
  IsShort (idle t u again) = IsShort t × IsShort u
  IsShort (handling t u again) = IsShort t × IsShort u

  pub AreShort : Terms → Type 0
  AreShort no_terms = Unit {0}
  AreShort (and t ts) = IsShort t × AreShort ts

-- in each process
abbrev pub DelaysAreShort : Config → Type 0
DelaysAreShort c = (i : ℕ) (p : Process) → slice_get c.processes i ≡ Some p → IsShort p.term

-- Each active delay that has not begun takes less than 2^64 clock units. An Integer of the program has 64 bits, so it
-- is so wherever the program stands; one of the definitions has no bound.
abbrev pub TimesAreShort : Setting → Config → Type 0
TimesAreShort setting c = (at : End) (a : Context) (f : ℕ) (pos : Pos) (time : Code) (left : ℕ)
    → PartAt setting c at a f (leaf (delay pos time)) → Lasts a f pos time (Ok left) → left < 2 ^ 64
