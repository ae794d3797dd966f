-- What a line of a trace begins with: that of an action with three numbers and a blank after each. They
-- are decimal, without sign or leading zero.
use Rattle.std.specs.Prelude.{◌≡◌, ◌<◌, ◌^◌, ℕ, List, ◌++◌, codes}
use Rattle.std.specs.Fmt.{decimal}
use Rattle.pz_trace.specs.declared.headings.Heading.{Heading}
use Rattle.pz_trace.specs.declared.headings.Heading.TheVariants.{Step, Other}

-- a clock, a number of offers, and the number of one of them, each of which fits its type
pub record BeginsWithNumbers (line : List ℕ) (clock n k : ℕ) : Type 0 where
  pub clock_fits : clock < 2 ^ 128
  pub n_fits : n < 2 ^ 64
  pub k_fits : k < 2 ^ 64
  pub rest : List ℕ
  pub is_line : line ≡ decimal clock ++ (codes " " ++ (decimal n ++ (codes " " ++ (decimal k ++ (codes " " ++ rest)))))

pub data IsHeading (line : List ℕ) : Heading → Type 0 where
  step : (clock n k : ℕ) → BeginsWithNumbers line clock n k → IsHeading line (Step clock n k)
  other : ((clock n k : ℕ) → BeginsWithNumbers line clock n k → ⊥) → IsHeading line Other
