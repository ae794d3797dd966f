-- The point that a line of a trace shows.
use Rattle.std.specs.Prelude.{ℕ, List, ◌++◌, codes}
use Rattle.std.specs.Fmt.{decimal}
use Rattle.pz_bind.specs.pz_syntax.declared.tokens.Pos.{Pos}
use Rattle.pz_trace.specs.Words.{pos_text}
use Rattle.pz_watch.specs.Points.{Happening, passing, internal, communication, Point}

-- `path kind line:column`
abbrev pub internal_words : (path kind : List ℕ) → Pos → List ℕ
internal_words path kind at = path ++ (codes " " ++ (kind ++ (codes " " ++ pos_text at)))

-- `wire from ! message(..) -> to`, where what is sent along stands right behind the message
abbrev pub communication_words : (wire from message along to : List ℕ) → List ℕ
communication_words wire from message along to =
    wire ++ (codes " " ++ ((from ++ (codes " ! " ++ (message ++ along))) ++ (codes " -> " ++ to)))

-- `clock n k words`
abbrev pub line_of : (clock n k : ℕ) → List ℕ → List ℕ
line_of clock n k words =
    decimal clock ++ (codes " " ++ (decimal n ++ (codes " " ++ (decimal k ++ (codes " " ++ (words ++ codes "\n"))))))

-- what a line tells that begins with this clock
pub data Tells (clock : ℕ) : Happening → List ℕ → Type 0 where
  -- `clock time d`
  time : (d : ℕ) → Tells clock passing (decimal clock ++ (codes " time " ++ (decimal d ++ codes "\n")))
  step : (n k : ℕ) (path kind : List ℕ) (at : Pos) → Tells clock (internal path kind) (line_of clock n k (internal_words path kind at))
  exchange : (n k : ℕ) (wire from message along to : List ℕ)
      → Tells clock (communication message from to) (line_of clock n k (communication_words wire from message along to))

abbrev pub Shows : List ℕ → Point → Type 0
Shows line point = Tells point.clock point.event line
