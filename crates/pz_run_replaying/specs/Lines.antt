-- The lines of a replay that are none of a trace. Each ends with LF.
use Rattle.std.specs.Prelude.{ℕ, List, ◌++◌, codes}
use Rattle.std.specs.Fmt.{decimal}
use Rattle.pz_trace.specs.Lines.{newline}

-- a trace is refused at the line of this number, from 1
abbrev pub refused_line : ℕ → List ℕ
refused_line number = codes "refused line " ++ (decimal number ++ newline)

-- the line of the rules, with its LF, in the place of one that is refused
abbrev pub expected_line : List ℕ → List ℕ
expected_line line = codes "expected " ++ line
