-- The command line read word by word, as the code reads it: functions that find what is asked for.
use Rattle.std.specs.Prelude.{ℕ, ◌^◌, nat_lt, nat_le, Bool, true, false, ◌&&◌, ◌||◌, ◌==◌, not, if◌then◌else◌, bytes_eq, eqb, List, [], ◌∷◌, Option, Some, None, option_map, codes}
use Rattle.std.specs.List.{slice_split}
use Rattle.std.specs.Fmt.{decimal}
use Rattle.std.specs.Str.Parse.{digits_value}
use Rattle.pz_words.specs.declared.jobs.Choice.TheVariants as choice
use Rattle.pz_words.specs.declared.jobs.Job.{Job}
use Rattle.pz_words.specs.declared.words.Pair.{Pair}
use Rattle.pz_words.specs.declared.jobs.Job.TheVariants.{Run, Menu, Replay, Check, Make, Ring, Format, Watch, Drive}
use Rattle.pz_words.specs.Jobs.{station_limit}
use Rattle.pz_words.specs.declared.options.OptionWord.{OptionWord}
use Rattle.pz_words.specs.declared.options.OptionWord.TheVariants.{Chooses, Steps, Until, Units, Summary}
use Rattle.pz_words.specs.declared.options.Options.{Options}
use Rattle.pz_words.specs.Options.{step_limit, unit_limit}
use Rattle.pz_words.specs.declared.names.Valued.{Valued}
use Rattle.pz_words.specs.declared.names.Valued.TheVariants as option
use Rattle.pz_words.specs.declared.reading.Heard.{Heard}
use Rattle.pz_words.specs.declared.reading.Heard.TheVariants.{Says, Names, Nothing}
use Rattle.pz_words.specs.Options.{nothing_said, with_option}
use Rattle.pz_words.specs.Jobs.{choice_or, units_of, limits_of, is_name}

-- Numbers

abbrev pub only_if : {A : Type 0} → Bool → A → Option A
only_if b x = if b then Some x else None

abbrev pub then_maybe : {A B : Type 0} → Option A → (A → Option B) → Option B
then_maybe None f = None
then_maybe (Some x) f = f x

abbrev pub number_of : List ℕ → Option ℕ
number_of word = only_if (nat_lt (digits_value 10 word) (2 ^ 64) && bytes_eq word (decimal (digits_value 10 word))) (digits_value 10 word)

-- no plus first, and no zero before more
abbrev pub is_plain : List ℕ → Bool
is_plain [] = true
is_plain (b ∷ []) = not (b == 43) && (not (b == 48) || true)
is_plain (b ∷ c ∷ bs) = not (b == 43) && (not (b == 48) || false)

abbrev pub number_between : ℕ → ℕ → List ℕ → Option ℕ
number_between least most word = then_maybe (number_of word) (λ n. only_if (nat_le least n && nat_le n most) n)

abbrev pub numbers_of : List (List ℕ) → Option (List ℕ)
numbers_of [] = Some []
numbers_of (w ∷ ws) = then_maybe (number_of w) (λ n. option_map (λ ns. n ∷ ns) (numbers_of ws))

-- Options

abbrev pub value_of : Valued → List ℕ → Option OptionWord
value_of option.Seed word = option_map (λ n. Chooses (choice.Seed n)) (number_of word)
value_of option.Choices word = option_map (λ ns. Chooses (choice.List ns)) (numbers_of (slice_split (λ b. eqb b 44) word))
value_of option.Steps word = option_map (λ n. Steps n) (number_between 0 step_limit word)
value_of option.Until word = option_map (λ n. Until n) (number_of word)
value_of option.Units word = option_map (λ n. Units n) (number_between 1 unit_limit word)

abbrev pub flag : List ℕ → Option OptionWord
flag word =
    if bytes_eq word (codes "--first") then Some (Chooses choice.First)
    else (if bytes_eq word (codes "--summary") then Some Summary else None)

abbrev pub option_named : List ℕ → Option Valued
option_named word =
    if bytes_eq word (codes "--seed") then Some option.Seed
    else (if bytes_eq word (codes "--choices") then Some option.Choices
    else (if bytes_eq word (codes "--steps") then Some option.Steps
    else (if bytes_eq word (codes "--until") then Some option.Until
    else (if bytes_eq word (codes "--units") then Some option.Units else None))))

abbrev pub heard_setting : Option OptionWord → Heard
heard_setting None = Nothing
heard_setting (Some s) = Says s

abbrev pub heard_name : Option Valued → Heard
heard_name None = Nothing
heard_name (Some o) = Names o

abbrev pub heard_first : Option OptionWord → Option Valued → Heard
heard_first (Some s) o = Says s
heard_first None o = heard_name o

abbrev pub heard : Option Valued → List ℕ → Heard
heard (Some o) word = heard_setting (value_of o word)
heard None word = heard_first (flag word) (option_named word)

abbrev pub is_none : {A : Type 0} → Option A → Bool
is_none None = true
is_none (Some x) = false

-- nothing is said yet of what the option speaks of
abbrev pub is_free : OptionWord → Options → Bool
is_free (Chooses c) o = is_none o.choice
is_free (Steps n) o = is_none o.steps
is_free (Until n) o = is_none o.until
is_free (Units n) o = is_none o.units
is_free Summary o = not o.summary

abbrev pub if_so : Bool → Options → Option Options
if_so good o = only_if good o

-- what is read behind a word, by what it says
abbrev pub behind : (Options → Option Valued → Option Options) → Options → Heard → Option Options
behind rest o (Says s) = if is_free s o then rest (with_option s o) None else None
behind rest o (Names v) = rest o (Some v)
behind rest o Nothing = None

-- from what has been said on, where the value of an option may be awaited
abbrev pub read_on : Options → Option Valued → List (List ℕ) → Option Options
read_on o awaited [] = if_so (is_none awaited) o
read_on o awaited (w ∷ ws) = behind (λ next wanted. read_on next wanted ws) o (heard awaited w)

-- Jobs

abbrev pub name_of : List ℕ → Option (List ℕ)
name_of word = only_if (is_name word) word

abbrev pub stations_of : List ℕ → Option ℕ
stations_of word = number_between 2 station_limit word

abbrev pub run_of : List (List ℕ) → Option Job
run_of [] = None
run_of (model ∷ options) = then_maybe (read_on nothing_said None options) (λ o. option_map (λ name. Run name (choice_or choice.First o) (limits_of o) o.summary) (name_of model))

abbrev pub menu_of : List (List ℕ) → Option Job
menu_of [] = None
menu_of (model ∷ options) = then_maybe (read_on nothing_said None options) (λ o. if o.summary then None else option_map (λ name. Menu name (choice_or (choice.List []) o) (limits_of o)) (name_of model))

abbrev pub says_only_units : Options → Bool
says_only_units o = is_none o.choice && (is_none o.steps && (is_none o.until && not o.summary))

abbrev pub units_in : List (List ℕ) → Option ℕ
units_in options = then_maybe (read_on nothing_said None options) (λ o. only_if (says_only_units o) (units_of o))

abbrev pub replay_of : List (List ℕ) → Option Job
replay_of [] = None
replay_of (model ∷ []) = None
replay_of (model ∷ trace ∷ options) = then_maybe (units_in options) (λ units. then_maybe (name_of model) (λ name. option_map (λ t. Replay name t units) (name_of trace)))

abbrev pub check_of : List (List ℕ) → Option Job
check_of [] = None
check_of (model ∷ []) = option_map (λ name. Check name) (name_of model)
check_of (model ∷ other ∷ words) = None

abbrev pub make_of : List (List ℕ) → Option Job
make_of [] = None
make_of (size ∷ []) = option_map (λ n. Make n) (stations_of size)
make_of (size ∷ other ∷ words) = None

abbrev pub ring_of : List (List ℕ) → Option Job
ring_of [] = None
ring_of (size ∷ options) = then_maybe (stations_of size) (λ n. then_maybe (read_on nothing_said None options) (λ o. if o.summary then None else Some (Ring n (choice_or choice.First o) (limits_of o))))

abbrev pub format_of : List (List ℕ) → Option Job
format_of [] = None
format_of (model ∷ []) = option_map (λ name. Format name) (name_of model)
format_of (model ∷ other ∷ words) = None

abbrev pub unsummed : List (List ℕ) → Option Options
unsummed options = then_maybe (read_on nothing_said None options) (λ o. if o.summary then None else Some o)

-- a model and a second file, and how the options say that the model is run
abbrev pub as_pair : List ℕ → List ℕ → Options → Pair
as_pair model second o = record { model = model; second = second; choice = choice_or choice.First o; limits = limits_of o }

abbrev pub pair_of : List (List ℕ) → Option Pair
pair_of [] = None
pair_of (model ∷ []) = None
pair_of (model ∷ second ∷ options) =
    then_maybe (unsummed options) (λ o. then_maybe (name_of model) (λ name. option_map (λ other. as_pair name other o) (name_of second)))

abbrev pub watches_of : Pair → Job
watches_of p = Watch p.model p.second p.choice p.limits

abbrev pub drives_of : Pair → Job
drives_of p = Drive p.model p.second p.choice p.limits

abbrev pub watch_of : List (List ℕ) → Option Job
watch_of words = option_map watches_of (pair_of words)

abbrev pub drive_of : List (List ℕ) → Option Job
drive_of words = option_map drives_of (pair_of words)

abbrev pub job_of : List ℕ → List (List ℕ) → Option Job
job_of command words =
    if bytes_eq command (codes "run") then run_of words
    else (if bytes_eq command (codes "menu") then menu_of words
    else (if bytes_eq command (codes "replay") then replay_of words
    else (if bytes_eq command (codes "check") then check_of words
    else (if bytes_eq command (codes "make") then make_of words
    else (if bytes_eq command (codes "ring") then ring_of words
    else (if bytes_eq command (codes "format") then format_of words
    else (if bytes_eq command (codes "watch") then watch_of words
    else (if bytes_eq command (codes "drive") then drive_of words else None))))))))

abbrev pub job_in : List (List ℕ) → Option Job
job_in [] = None
job_in (command ∷ words) = job_of command words
