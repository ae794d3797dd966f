-- The limits of the program.
use Rattle.std.specs.Prelude.{ℕ}

-- the most bytes that a model may have, a trace, a file of watches, and a script
abbrev pub model_limit : ℕ
model_limit = 8388608

abbrev pub trace_limit : ℕ
trace_limit = 67108864

abbrev pub watch_limit : ℕ
watch_limit = 65536

abbrev pub script_limit : ℕ
script_limit = 1048576
