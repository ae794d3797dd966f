-- The lines that the program prints beside those of a trace. Words are separated by one blank, numbers
-- are decimal, and every line ends with LF.
use Rattle.std.specs.Prelude.{ℕ, List, ◌++◌, codes}
use Rattle.std.specs.Fmt.{decimal}
use Rattle.pz_syntax.specs.declared.tokens.Pos.{Pos}
use Rattle.pz_run_reading.specs.declared.refusal.Refusal.{Refusal}
use Rattle.pz_run_reading.specs.declared.refusal.Refusal.TheVariants as refusal

abbrev pub newline : List ℕ
newline = codes "\n"

-- how the program is called
abbrev pub usage_line : List ℕ
usage_line = codes "usage: poosl_run run MODEL | menu MODEL | replay MODEL TRACE | check MODEL | make N | ring N | watch MODEL WATCHES | drive MODEL SCRIPT | format MODEL\n"

-- a file that cannot be opened or read
abbrev pub read_fault_line : List ℕ → List ℕ
read_fault_line name = codes "read fault: " ++ (name ++ newline)

-- a file that is longer than its limit
abbrev pub too_long_line : List ℕ → List ℕ
too_long_line name = codes "too long: " ++ (name ++ newline)

-- a file that is no list of watches: the line that is to blame
abbrev pub watch_refused_line : ℕ → List ℕ
watch_refused_line number = codes "watch refused line " ++ (decimal number ++ newline)

-- a file that is no script, or a script that cannot drive the system: the line that is to blame
abbrev pub script_refused_line : ℕ → List ℕ
script_refused_line number = codes "script refused line " ++ (decimal number ++ newline)

-- a model that is accepted: how many processes and how many wires its system has
abbrev pub accepted_line : ℕ → ℕ → List ℕ
accepted_line processes wires = codes "accepted " ++ (decimal processes ++ (codes " processes " ++ (decimal wires ++ codes " wires\n")))

-- a rule by its number
abbrev pub rule_name : ℕ → List ℕ
rule_name rule = codes "C" ++ decimal rule

-- a model that is refused: `model refused: kind line:column`
abbrev pub kind_line : List ℕ → Pos → List ℕ
kind_line kind at = codes "model refused: " ++ (kind ++ (codes " " ++ (decimal at.line ++ (codes ":" ++ (decimal at.column ++ newline)))))

abbrev pub model_refused_line : Refusal → List ℕ
model_refused_line (refusal.BadByte at) = kind_line (codes "BadByte") at
model_refused_line (refusal.OpenComment at) = kind_line (codes "OpenComment") at
model_refused_line (refusal.OpenString at) = kind_line (codes "OpenString") at
model_refused_line (refusal.BadNumber at) = kind_line (codes "BadNumber") at
model_refused_line (refusal.Syntax at) = kind_line (codes "Syntax") at
model_refused_line (refusal.TooNested at) = kind_line (codes "TooNested") at
model_refused_line (refusal.Violates v) = kind_line (rule_name v.rule) v.pos
