-- The files that a job reads.
use Rattle.std.specs.Prelude.{ℕ, List, [], ◌∷◌, Option, Some, None}
use Rattle.pz_words.specs.declared.jobs.Job.{Job}
use Rattle.pz_words.specs.declared.jobs.Job.TheVariants.{Run, Menu, Replay, Check, Make, Ring, Format, Watch, Drive}
use Rattle.pz_run_output.specs.Limits.{model_limit, trace_limit, watch_limit, script_limit}

-- a file, and the most bytes that it may have
pub record JobFile : Type 0 where
  pub name : List ℕ
  pub limit : ℕ

abbrev pub model_file : List ℕ → JobFile
model_file name = record { name = name; limit = model_limit }

abbrev pub trace_file : List ℕ → JobFile
trace_file name = record { name = name; limit = trace_limit }

abbrev pub watch_file : List ℕ → JobFile
watch_file name = record { name = name; limit = watch_limit }

abbrev pub script_file : List ℕ → JobFile
script_file name = record { name = name; limit = script_limit }

-- in their order: the model first; without a job there is none
abbrev pub files_of : Option Job → List JobFile
files_of None = []
files_of (Some (Run model choice limits summary)) = model_file model ∷ []
files_of (Some (Menu model choice limits)) = model_file model ∷ []
files_of (Some (Replay model trace units)) = model_file model ∷ trace_file trace ∷ []
files_of (Some (Check model)) = model_file model ∷ []
files_of (Some (Make n)) = []
files_of (Some (Ring n choice limits)) = []
files_of (Some (Format model)) = model_file model ∷ []
files_of (Some (Watch model watches choice limits)) = model_file model ∷ watch_file watches ∷ []
files_of (Some (Drive model script choice limits)) = model_file model ∷ script_file script ∷ []
