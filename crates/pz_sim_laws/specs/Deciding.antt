-- The moment, and the offers by their numbers, from what each process can do in short and the pairs.
use Rattle.std.specs.Prelude.{◌+◌, ◌-◌, ℕ, zero, suc, Bool, true, false, List, length, map, Option, Some, None}
use Rattle.std.specs.Option.{option_or}
use Rattle.pz_tree_standing.specs.pz_offer.declared.trouble.Trouble.{Trouble}
use Rattle.pz_match.specs.Pairs.{Judged, taken, first_trouble}
use Rattle.pz_tree_standing.specs.pz_rules.declared.moment.Moment.{Moment}
use Rattle.pz_tree_standing.specs.pz_rules.declared.moment.Moment.TheVariants.{Actions, Time, Finished, Deadlock, Faulty}
use Rattle.pz_tree_standing.specs.pz_rules.Leaving.{is_done}
use Rattle.pz_sim_totals.specs.declared.total.Total.{Total}
use Rattle.pz_sim_totals.specs.Sums as sums
use Rattle.pz_tree_standing.specs.Summaries.{summary_of}
use Rattle.pz_sim_laws.specs.Members.{Member}

abbrev pub unfinished : Bool → ℕ
unfinished true = 0
unfinished false = 1

-- what a process can do in short, whose own clock is that of all
abbrev pub total_of : ℕ → Member → Total
total_of clock m = record { summary = summary_of m.seen clock 0 m.term; unfinished = unfinished (is_done m.term) }

abbrev pub total_of_all : ℕ → List Member → Total
total_of_all clock ms = sums.all (map (total_of clock) ms)

-- where nothing has a trouble: of so many offers, when the first delay is over, and how many processes are not done
abbrev pub calm : ℕ → ℕ → Option ℕ → ℕ → Moment
calm clock (suc n) due left = Actions (suc n)
calm clock zero (Some due) left = Time (due - clock)
calm clock zero None zero = Finished
calm clock zero None (suc n) = Deadlock

abbrev pub unless : Option Trouble → Moment → Moment
unless (Some t) m = Faulty t
unless None m = m

-- how many offers there are: internal actions, and pairs that are taken
abbrev pub offers_in : Total → List Judged → ℕ
offers_in total ps = total.summary.internal + length (taken ps)

-- the first trouble of what parts are asked, else the first of a condition; else the offers are counted, else time passes,
-- else all is over, or stands
abbrev pub decided : ℕ → Total → List Judged → Moment
decided clock total ps = unless (option_or total.summary.trouble (first_trouble ps)) (calm clock (offers_in total ps) total.summary.due total.unfinished)
