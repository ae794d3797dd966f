-- What the outcome of an evaluation means where a value of some sort is wanted, or the trouble that
-- it is. A trouble names the process i, and the statement's place where the evaluation names none.
use Rattle.std.specs.Prelude.{ℕ, pos, negsuc, Bool, Result, Ok, Err}
use Rattle.pz_bind_rules.specs.pz_syntax.declared.tokens.Pos.{Pos}
use Rattle.pz_bind_rules.specs.pz_value.declared.value.Value.{Value}
use Rattle.pz_bind_rules.specs.pz_value.declared.value.Value.TheVariants as value
use Rattle.pz_offer.specs.pz_state.declared.fault.FaultKind.{FaultKind}
use Rattle.pz_offer.specs.pz_state.declared.fault.FaultKind.TheVariants.{NegativeDelay, NotBoolean, NotInteger}
use Rattle.pz_offer.specs.declared.trouble.Trouble.{Trouble}
use Rattle.pz_offer.specs.declared.trouble.Trouble.TheVariants.{Fault}

-- goes on from what was reached
abbrev pub and_then : {A B : Type 0} → Result A Trouble → (A → Result B Trouble) → Result B Trouble
and_then (Ok x) f = f x
and_then (Err t) f = Err t

-- a fault of a statement
abbrev pub fault : {A : Type 0} → FaultKind → ℕ → Pos → Result A Trouble
fault kind i at = Err (Fault kind i at)

-- a test is true or false
abbrev pub truth : ℕ → Pos → Value → Result Bool Trouble
truth i at (value.Bool b) = Ok b
truth i at _ = fault NotBoolean i at

-- a delay takes 0 clock units or more
abbrev pub duration : ℕ → Pos → Value → Result ℕ Trouble
duration i at (value.Int (pos n)) = Ok n
duration i at (value.Int (negsuc n)) = fault NegativeDelay i at
duration i at _ = fault NotInteger i at
