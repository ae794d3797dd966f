-- What a `/` begins, computed.
use Rattle.std.specs.Prelude.{ℕ, List, [], ◌∷◌, ◌++◌, Bool, true, false, ◌==◌, drop}
use Rattle.pz_lexer.specs.Bytes.{begins}
use Rattle.pz_lexer.specs.Comments.{begins_pair, is_in_line}
use Rattle.pz_lexer.specs.declared.sorts.Sort.{Sort}
use Rattle.pz_lexer.specs.declared.sorts.Reason.{Reason}
use Rattle.pz_lexer.specs.devices.Step.{piece, stop, Step, front, back}
use Rattle.pz_lexer.specs.devices.SymbolStep.{symbol_step}

-- what stands before the next `*/`, and what follows it
pub data Closed : Type 0 where
  closed : List ℕ → List ℕ → Closed
  open_end : Closed

abbrev pub longer : ℕ → Closed → Closed
longer b (closed body rest) = closed (b ∷ body) rest
longer b open_end = open_end

abbrev pub close_of : List ℕ → Closed
close_of [] = open_end
close_of (b ∷ bs) = elim (begins_pair 42 47 (b ∷ bs)) [ true ↦ closed [] (drop 1 bs) | false ↦ longer b (close_of bs) ]

abbrev pub block_by : Closed → List ℕ → Step
block_by (closed body rest) bs = piece (47 ∷ 42 ∷ body ++ 42 ∷ 47 ∷ []) Sort.BlockComment rest
block_by open_end bs = stop [] (47 ∷ 42 ∷ bs) Reason.OpenComment

abbrev pub line_step : List ℕ → Step
line_step bs = piece (47 ∷ 47 ∷ front is_in_line bs) Sort.LineComment (back is_in_line bs)

abbrev pub block_step : List ℕ → Step
block_step bs = block_by (close_of bs) bs

abbrev pub slash_by : Bool → Bool → List ℕ → Step
slash_by true _ bs = line_step (drop 1 bs)
slash_by false true bs = block_step (drop 1 bs)
slash_by false false bs = symbol_step (47 ∷ bs)

-- what a `/` begins, given what follows it
abbrev pub slash_step : List ℕ → Step
slash_step bs = slash_by (begins (λ b. b == 47) bs) (begins (λ b. b == 42) bs) bs
