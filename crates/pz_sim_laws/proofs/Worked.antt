-- Moments that totals and pairs decide, worked out.
use Rattle.std.proofs.Common.{◌≡◌, ℕ, [], Option, Some, None, refl}
use Rattle.pz_tree_standing.specs.pz_syntax.declared.tokens.Pos.{Pos}
use Rattle.pz_tree_standing.specs.pz_offer.declared.trouble.Trouble.{Trouble}
use Rattle.pz_tree_standing.specs.pz_offer.declared.trouble.Trouble.TheVariants.{Spent}
use Rattle.pz_tree_standing.specs.pz_rules.declared.moment.Moment.TheVariants.{Actions, Time, Finished, Deadlock, Faulty}
use Rattle.pz_sim_totals.specs.declared.total.Total.{Total}
use Rattle.pz_sim_laws.specs.Deciding.{decided}

place : Pos
place = record { line = 3; column = 1 }

of : ℕ → Option ℕ → Option Trouble → ℕ → Total
of internal due trouble left = record { summary = record { internal = internal; sends = 0; receives = 0; due = due; trouble = trouble }; unfinished = left }

-- a trouble hides the offers, and offers hide a delay that is over at once
faulty : decided 7 (of 2 (Some 7) (Some (Spent 1 place)) 1) [] ≡ Faulty (Spent 1 place)
unfolding of
faulty = refl

acting : decided 7 (of 2 (Some 7) None 1) [] ≡ Actions 2
unfolding of
acting = refl

-- time passes to the first delay that is over, by what the clock has to go
passing : decided 7 (of 0 (Some 9) None 1) [] ≡ Time 2
unfolding of
passing = refl

finished : decided 7 (of 0 None None 0) [] ≡ Finished
unfolding of
finished = refl

deadlock : decided 7 (of 0 None None 2) [] ≡ Deadlock
unfolding of
deadlock = refl
