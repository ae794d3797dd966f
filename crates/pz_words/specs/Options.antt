-- The options of a command line: what each one is written as, and what they say together.
use Rattle.std.specs.Prelude.{◌≡◌, ◌≢◌, ◌≤◌, ⊤, ℕ, true, false, List, [], ◌∷◌, Some, None, All, codes}
use Rattle.std.specs.List.{flat_map, AllPairs}
use Rattle.std.specs.Fmt.{decimal}
use Rattle.pz_words.specs.declared.jobs.Choice.TheVariants as choice
use Rattle.pz_words.specs.declared.options.OptionWord.{OptionWord}
use Rattle.pz_words.specs.declared.options.OptionWord.TheVariants.{Chooses, Steps, Until, Units, Summary}
use Rattle.pz_words.specs.declared.options.Options.{Options}
use Rattle.pz_words.specs.Numbers.{IsShort, listed, AreEntries}

-- an option and its value are two words
abbrev pub words_of : OptionWord → List (List ℕ)
words_of (Chooses choice.First) = codes "--first" ∷ []
words_of (Chooses (choice.Seed n)) = codes "--seed" ∷ decimal n ∷ []
words_of (Chooses (choice.List entries)) = codes "--choices" ∷ listed entries ∷ []
words_of (Steps n) = codes "--steps" ∷ decimal n ∷ []
words_of (Until n) = codes "--until" ∷ decimal n ∷ []
words_of (Units n) = codes "--units" ∷ decimal n ∷ []
words_of Summary = codes "--summary" ∷ []

-- the most actions that may be chosen, and the most units of an evaluation
abbrev pub step_limit : ℕ
step_limit = 1000000000

abbrev pub unit_limit : ℕ
unit_limit = 1000000000

-- the values that an option may have
abbrev pub IsAllowed : OptionWord → Type 0
IsAllowed (Chooses choice.First) = ⊤
IsAllowed (Chooses (choice.Seed n)) = IsShort n
IsAllowed (Chooses (choice.List entries)) = AreEntries entries
IsAllowed (Steps n) = n ≤ step_limit
IsAllowed (Until n) = IsShort n
IsAllowed (Units n) = (1 ≤ n) × (n ≤ unit_limit)
IsAllowed Summary = ⊤

-- what an option speaks of; the three choices speak of one thing
pub data Subject : Type 0 where
  choosing : Subject
  most_steps : Subject
  last_clock : Subject
  units_each : Subject
  printing : Subject

abbrev pub subject_of : OptionWord → Subject
subject_of (Chooses c) = choosing
subject_of (Steps n) = most_steps
subject_of (Until n) = last_clock
subject_of (Units n) = units_each
subject_of Summary = printing

abbrev pub nothing_said : Options
nothing_said = record { choice = None; steps = None; until = None; units = None; summary = false }

abbrev pub with_option : OptionWord → Options → Options
with_option (Chooses c) o = record o { choice = Some c }
with_option (Steps n) o = record o { steps = Some n }
with_option (Until n) o = record o { until = Some n }
with_option (Units n) o = record o { units = Some n }
with_option Summary o = record o { summary = true }

-- what is said once these have been added
abbrev pub said_with : Options → List OptionWord → Options
said_with o [] = o
said_with o (s ∷ ss) = said_with (with_option s o) ss

abbrev pub DifferInSubject : OptionWord → OptionWord → Type 0
DifferInSubject s t = subject_of s ≢ subject_of t

-- The words are those of some options, in any order, no two of which speak of the same; and this is
-- what they say.
pub record AreOptions (words : List (List ℕ)) (o : Options) : Type 0 where
  pub settings : List OptionWord
  pub written : words ≡ flat_map words_of settings
  pub allowed : All IsAllowed settings
  pub once : AllPairs DifferInSubject settings
  pub meant : o ≡ said_with nothing_said settings
