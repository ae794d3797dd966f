-- What words ask for.
use Rattle.std.proofs.Common.{◌≡◌, ◌≤◌, ℕ, suc, true, List, [], ◌∷◌, Option, Some, None, refl, sym, subst, arith}
use Rattle.std.specs.Prelude.{All}
use Rattle.pz_io.specs.Outside.{FilesState, SinkState}
use Rattle.pz_words.specs.declared.jobs.Job.{Job}
use Rattle.pz_words.specs.declared.options.Options.{Options}
use Rattle.pz_words.specs.declared.options.OptionWord.{OptionWord}
use Rattle.pz_words.specs.declared.options.OptionWord.TheVariants.{Chooses, Steps, Until, Units, Summary}
use Rattle.pz_words.specs.Options.{step_limit, IsAllowed, nothing_said, with_option, said_with, AreOptions}
use Rattle.pz_words.specs.Jobs.{Asks, IsAsked, or_else, usual_steps, usual_units}
use Rattle.pz_words.specs.Jobs as jobs
use Rattle.pz_run_output.specs.declared.status.Status.{Status}
use Rattle.pz_sim.specs.pz_term_simulator.Simulations.{Simulation}
use Rattle.pz_run_output.specs.Words.{OfAsked}
use Rattle.pz_run_output.specs.Promises.{CameThrough}
use Rattle.pz_run.specs.HandedOut.{HandsOut}
use Rattle.pz_run_output.specs.devices.Words.{HasRingSize, HasFewActions, HasUnits}
use Rattle.pz_run_output.specs.devices.Keeping.{KeepsPromises}

one_asked : (words : List (List ℕ)) (x y : Option Job) → IsAsked words x → IsAsked words y → x ≡ y
one_asked words (Some j) y a b = sym ((b j).1 ((a j).0 refl))
one_asked words None (Some j) a b = (a j).1 ((b j).0 refl)
one_asked words None None a b = refl

-- what is kept of the job that was found is kept of the one that was asked for
pub keeps_asked : (words : List (List ℕ)) (found : Option Job) → IsAsked words found
    → (f g : FilesState) (before now : SinkState) (given : Status) → KeepsPromises found f g before now given → OfAsked words (λ a. KeepsPromises a f g before now given)
keeps_asked words found is f g before now given kept a asked =
    subst (λ (a : Option Job). KeepsPromises a f g before now given) (one_asked words found a is asked) kept

-- and so is what is handed out of it
pub hands_asked : (words : List (List ℕ)) (found : Option Job) → IsAsked words found
    → (f g : FilesState) (given : Status) (left : Option Simulation) → (f.told ≡ true → CameThrough f g given → HandsOut f.held found left)
    → OfAsked words (λ a. f.told ≡ true → CameThrough f g given → HandsOut f.held a left)
hands_asked words found is f g given left hands a asked told came =
    subst (λ (a : Option Job). HandsOut f.held a left) (one_asked words found a is asked) (hands told came)

sized : (words : List (List ℕ)) (job : Job) → Asks words job → HasRingSize job
sized _ _ (jobs.run model options o is are) = tt
sized _ _ (jobs.menu model options o is are full) = tt
sized _ _ (jobs.replay model trace options o is is_trace are only) = tt
sized _ _ (jobs.check model is) = tt
sized _ _ (jobs.make n size) = size
sized _ _ (jobs.ring n options o size are full) = size
sized _ _ (jobs.format model is) = tt
sized _ _ (jobs.watch model watches options o is are_watches are full) = tt
sized _ _ (jobs.drive model script options o is is_script are full) = tt

pub found_sized : (words : List (List ℕ)) (job : Job) → IsAsked words (Some job) → HasRingSize job
found_sized words job is = sized words job ((is job).0 refl)

-- how many actions options allow

abbrev AllowsFew : Options → Type 0
AllowsFew o = or_else usual_steps o.steps ≤ step_limit

with_few : (s : OptionWord) (o : Options) → IsAllowed s → AllowsFew o → AllowsFew (with_option s o)
with_few (Chooses c) o is few = few
with_few (Steps n) o is few = is
with_few (Until n) o is few = few
with_few (Units n) o is few = few
with_few Summary o is few = few

said_few : (o : Options) (ss : List OptionWord) → All IsAllowed ss → AllowsFew o → AllowsFew (said_with o ss)
said_few o [] all few = few
said_few o (s ∷ ss) all few = said_few (with_option s o) ss (λ k d below. all (suc k) d (omega (arith, below))) (with_few s o (all 0 s (omega arith)) few)

options_few : (words : List (List ℕ)) (o : Options) → AreOptions words o → AllowsFew o
options_few words o are = subst AllowsFew (sym are.meant) (said_few nothing_said are.settings are.allowed (omega arith))

asks_few : (words : List (List ℕ)) (job : Job) → Asks words job → HasFewActions job
asks_few _ _ (jobs.run model options o is are) = options_few options o are
asks_few _ _ (jobs.menu model options o is are full) = options_few options o are
asks_few _ _ (jobs.replay model trace options o is is_trace are only) = tt
asks_few _ _ (jobs.check model is) = tt
asks_few _ _ (jobs.make n size) = tt
asks_few _ _ (jobs.ring n options o size are full) = options_few options o are
asks_few _ _ (jobs.format model is) = tt
asks_few _ _ (jobs.watch model watches options o is are_watches are full) = options_few options o are
asks_few _ _ (jobs.drive model script options o is is_script are full) = options_few options o are

pub found_few : (words : List (List ℕ)) (job : Job) → IsAsked words (Some job) → HasFewActions job
found_few words job is = asks_few words job ((is job).0 refl)

-- and how many units they give

abbrev GivesUnits : Options → Type 0
GivesUnits o = 1 ≤ or_else usual_units o.units

with_units : (s : OptionWord) (o : Options) → IsAllowed s → GivesUnits o → GivesUnits (with_option s o)
with_units (Chooses c) o is some = some
with_units (Steps n) o is some = some
with_units (Until n) o is some = some
with_units (Units n) o is some = is.0
with_units Summary o is some = some

said_units : (o : Options) (ss : List OptionWord) → All IsAllowed ss → GivesUnits o → GivesUnits (said_with o ss)
said_units o [] all some = some
said_units o (s ∷ ss) all some = said_units (with_option s o) ss (λ k d below. all (suc k) d (omega (arith, below))) (with_units s o (all 0 s (omega arith)) some)

asks_units : (words : List (List ℕ)) (job : Job) → Asks words job → HasUnits job
asks_units _ _ (jobs.run model options o is are) = tt
asks_units _ _ (jobs.menu model options o is are full) = tt
asks_units _ _ (jobs.replay model trace options o is is_trace are only) = tt
asks_units _ _ (jobs.check model is) = tt
asks_units _ _ (jobs.make n size) = tt
asks_units _ _ (jobs.ring n options o size are full) = tt
asks_units _ _ (jobs.format model is) = tt
asks_units _ _ (jobs.watch model watches options o is are_watches are full) = tt
asks_units _ _ (jobs.drive model script options o is is_script are full) = subst GivesUnits (sym are.meant) (said_units nothing_said are.settings are.allowed (omega arith))

pub found_units : (words : List (List ℕ)) (job : Job) → IsAsked words (Some job) → HasUnits job
found_units words job is = asks_units words job ((is job).0 refl)
