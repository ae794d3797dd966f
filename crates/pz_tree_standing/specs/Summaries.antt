-- The summary of a term: how many internal actions, sends and receives its active parts have, when the first of
-- its delays is over, and the first trouble of what they are asked.
use Rattle.std.specs.Prelude.{◌+◌, ℕ, Bool, true, false, List, [], ◌∷◌, length, Option, Some, None, option_map, Result, Ok, Err}
use Rattle.pz_rules.specs.pz_offer.declared.trouble.Trouble.{Trouble}
use Rattle.pz_rules.specs.pz_offer.declared.summary.Summary.{Summary}
use Rattle.pz_rules.specs.pz_offer.Summaries.{nothing, least, join}
use Rattle.pz_rules.specs.Terms.{Term, Terms, no_terms, and}
use Rattle.pz_rules.specs.Settings.{Context}
use Rattle.pz_rules.specs.devices.Walk.{ActivePart, Noted, active_parts, noted, does, sent_by, received_by, waiting, troubled_by}

abbrev pub least_of : List (Noted ℕ) → Option ℕ
least_of [] = None
least_of (n ∷ ns) = least (Some n.what) (least_of ns)

abbrev pub first_of : List (Noted Trouble) → Option Trouble
first_of [] = None
first_of (n ∷ ns) = Some n.what

-- of what these parts can do, where their clock shows c
abbrev pub summary_in : Context → ℕ → List ActivePart → Summary
summary_in a c ps = record {
  internal = length (noted (does a) ps);
  sends = length (noted (sent_by a) ps);
  receives = length (noted (λ f. received_by) ps);
  due = option_map (λ left. c + left) (least_of (noted (waiting a) ps));
  trouble = first_of (noted (troubled_by a) ps);
}

-- of a term that stands in frame f, whose own clock shows c; what its parts are asked is asked at the clock of the
-- process
abbrev pub summary_of : Context → ℕ → ℕ → Term → Summary
summary_of a c f t = summary_in a c (active_parts a f t)

-- of parts side by side
abbrev pub summaries_of : Context → ℕ → ℕ → Terms → Summary
summaries_of a c f no_terms = nothing
summaries_of a c f (and t ts) = join (summary_of a c f t) (summaries_of a c f ts)

-- of what stands behind a guard of which the test came to this
abbrev pub gated : Result Bool Trouble → Summary → Summary
gated (Ok true) s = s
gated (Ok false) s = nothing
gated (Err t) s = record nothing { trouble = Some t }
