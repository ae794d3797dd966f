-- What holds of the job that the words of a command line ask for, or of none.
use Rattle.std.specs.Prelude.{ℕ, List, Option}
use Rattle.pz_words.specs.declared.jobs.Job.{Job}
use Rattle.pz_words.specs.Jobs.{IsAsked}

-- There is one such job, or there is none: that is a law of `pz_words`.
abbrev pub OfAsked : List (List ℕ) → (Option Job → Type 0) → Type 0
OfAsked words P = (a : Option Job) → IsAsked words a → P a
