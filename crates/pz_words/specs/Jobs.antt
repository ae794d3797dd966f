-- The jobs, and the command lines that ask for them: the name of the job, what it is done with, and
-- the options that it has.
use Rattle.std.specs.Prelude.{◌≡◌, ◌↔◌, ◌≤◌, ℕ, Bool, false, ◌==◌, not, IsTrue, List, [], ◌∷◌, Option, Some, None, codes}
use Rattle.std.specs.Fmt.{decimal}
use Rattle.pz_words.specs.declared.jobs.Choice.{Choice}
use Rattle.pz_words.specs.declared.jobs.Choice.TheVariants as choice
use Rattle.pz_words.specs.declared.jobs.RunLimits.{RunLimits}
use Rattle.pz_words.specs.declared.jobs.Job.{Job}
use Rattle.pz_words.specs.declared.jobs.Job.TheVariants.{Run, Menu, Replay, Check, Make, Ring, Format, Watch, Drive}
use Rattle.pz_words.specs.declared.options.Options.{Options}
use Rattle.pz_words.specs.Options.{AreOptions}

abbrev pub or_else : {A : Type 0} → A → Option A → A
or_else default None = default
or_else default (Some x) = x

-- where no option says how many actions are chosen at most, and how many units an evaluation has
abbrev pub usual_steps : ℕ
usual_steps = 1000

abbrev pub usual_units : ℕ
usual_units = 100000

-- the most stations of a ring
abbrev pub station_limit : ℕ
station_limit = 1000

abbrev pub choice_or : Choice → Options → Choice
choice_or default o = or_else default o.choice

abbrev pub units_of : Options → ℕ
units_of o = or_else usual_units o.units

abbrev pub limits_of : Options → RunLimits
limits_of o = record { steps = or_else usual_steps o.steps; until = o.until; units = units_of o }

-- not empty, and it does not begin with `-`
abbrev pub is_name : List ℕ → Bool
is_name [] = false
is_name (b ∷ bs) = not (b == 45)

-- the stations of a ring
pub record IsRingSize (n : ℕ) : Type 0 where
  pub least : 2 ≤ n
  pub most : n ≤ station_limit

-- of options, only units are said
pub record OnlyUnits (o : Options) : Type 0 where
  pub choice : o.choice ≡ None
  pub steps : o.steps ≡ None
  pub until : o.until ≡ None
  pub summary : o.summary ≡ false

-- The job that a command line asks for. Any other list of words asks for none.
pub data Asks : List (List ℕ) → Job → Type 0 where
  run : (model : List ℕ) (options : List (List ℕ)) (o : Options)
      → IsTrue (is_name model) → AreOptions options o
      → Asks (codes "run" ∷ model ∷ options) (Run model (choice_or choice.First o) (limits_of o) o.summary)
  -- without a choice the list is empty, so that the menu is that of the first offers
  menu : (model : List ℕ) (options : List (List ℕ)) (o : Options)
      → IsTrue (is_name model) → AreOptions options o → o.summary ≡ false
      → Asks (codes "menu" ∷ model ∷ options) (Menu model (choice_or (choice.List []) o) (limits_of o))
  replay : (model trace : List ℕ) (options : List (List ℕ)) (o : Options)
      → IsTrue (is_name model) → IsTrue (is_name trace) → AreOptions options o → OnlyUnits o
      → Asks (codes "replay" ∷ model ∷ trace ∷ options) (Replay model trace (units_of o))
  check : (model : List ℕ)
      → IsTrue (is_name model)
      → Asks (codes "check" ∷ model ∷ []) (Check model)
  make : (n : ℕ)
      → IsRingSize n
      → Asks (codes "make" ∷ decimal n ∷ []) (Make n)
  ring : (n : ℕ) (options : List (List ℕ)) (o : Options)
      → IsRingSize n → AreOptions options o → o.summary ≡ false
      → Asks (codes "ring" ∷ decimal n ∷ options) (Ring n (choice_or choice.First o) (limits_of o))
  format : (model : List ℕ)
      → IsTrue (is_name model)
      → Asks (codes "format" ∷ model ∷ []) (Format model)
  watch : (model watches : List ℕ) (options : List (List ℕ)) (o : Options)
      → IsTrue (is_name model) → IsTrue (is_name watches) → AreOptions options o → o.summary ≡ false
      → Asks (codes "watch" ∷ model ∷ watches ∷ options) (Watch model watches (choice_or choice.First o) (limits_of o))
  drive : (model script : List ℕ) (options : List (List ℕ)) (o : Options)
      → IsTrue (is_name model) → IsTrue (is_name script) → AreOptions options o → o.summary ≡ false
      → Asks (codes "drive" ∷ model ∷ script ∷ options) (Drive model script (choice_or choice.First o) (limits_of o))

-- this is what the words ask for: a job, or none
abbrev pub IsAsked : List (List ℕ) → Option Job → Type 0
IsAsked words found = (j : Job) → (found ≡ Some j) ↔ Asks words j
