-- The text of the model of a ring. Every line ends with LF.
use Rattle.std.specs.Prelude.{ℕ, ◌+◌, ◌==◌, if◌then◌else◌, List, [], ◌∷◌, ◌++◌, codes}
use Rattle.std.specs.List.{flat_map, range_with_len}
use Rattle.std.specs.Fmt.{decimal}

abbrev pub lines : List (List ℕ) → List ℕ
lines texts = flat_map (λ t. t ++ codes "\n") texts

abbrev pub classes : List ℕ
classes = lines (
    codes "process class Station(first : Boolean)" ∷
    codes "ports left, right, sup" ∷
    codes "messages left?token(Integer), right!token(Integer), sup?halt" ∷
    codes "variables t : Integer" ∷
    codes "init start()()" ∷
    codes "methods start()()" ∷
    codes "if first then right!token(0) fi;" ∷
    codes "interrupt loop()() with (sup?halt; delay 3)" ∷
    codes "loop()() left?token(t); delay 1; right!token(t + 1); loop()()" ∷
    codes "process class Supervisor" ∷
    codes "ports sup" ∷
    codes "messages sup!halt" ∷
    codes "init loop()()" ∷
    codes "methods loop()() delay 10; sup!halt; loop()()" ∷
    codes "system" ∷
    codes "instances" ∷ [])

-- the stations are numbered from 0
abbrev pub name : ℕ → List ℕ
name i = codes "s" ++ decimal i

-- the first station has the token
abbrev pub is_first : ℕ → List ℕ
is_first i = if i == 0 then codes "true" else codes "false"

abbrev pub station : ℕ → List ℕ
station i = name i ++ (codes " : Station(first := " ++ (is_first i ++ codes ")\n"))

-- of so many stations, the one behind this one; behind the last one comes the first
abbrev pub next : ℕ → ℕ → ℕ
next n i = if i + 1 == n then 0 else i + 1

abbrev pub channel : ℕ → ℕ → List ℕ
channel n i = codes "{" ++ (name i ++ (codes ".right, " ++ (name (next n i) ++ codes ".left}\n")))

abbrev pub halted_end : ℕ → List ℕ
halted_end i = codes ", " ++ (name i ++ codes ".sup")

-- the texts for all stations, one after another
abbrev pub each : ℕ → (ℕ → List ℕ) → List ℕ
each n text = flat_map text (range_with_len 0 n)

-- the channel of the supervisor and all stations
abbrev pub halting : ℕ → List ℕ
halting n = codes "{v.sup" ++ (each n halted_end ++ codes "}\n")

abbrev pub model : ℕ → List ℕ
model n = classes ++ (each n station ++ (lines (codes "v : Supervisor" ∷ codes "channels" ∷ []) ++ (each n (channel n) ++ halting n)))
