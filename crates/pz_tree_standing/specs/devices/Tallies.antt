-- The summary of a term, part by part.
use Rattle.std.specs.Prelude.{◌+◌, ℕ, List, [], ◌∷◌, Option, Some, None, option_map}
use Rattle.pz_rules.specs.pz_offer.declared.summary.Summary.{Summary}
use Rattle.pz_rules.specs.pz_offer.Summaries.{nothing, join}
use Rattle.pz_rules.specs.Terms.{Term}
use Rattle.pz_rules.specs.Settings.{Context}
use Rattle.pz_rules.specs.devices.Walk.{ActivePart, does, sent_by, received_by, waiting, troubled_by}

abbrev pub one : {X : Type 0} → Option X → ℕ
one None = 0
one (Some x) = 1

-- what a part adds by itself
abbrev pub own_summary : Context → ℕ → ℕ → Term → Summary
own_summary a c f t = record {
  internal = one (does a f t);
  sends = one (sent_by a f t);
  receives = one (received_by t);
  due = option_map (λ left. c + left) (waiting a f t);
  trouble = troubled_by a f t;
}

abbrev pub tally : Context → ℕ → List ActivePart → Summary
tally a c [] = nothing
tally a c (p ∷ ps) = join (own_summary a c p.frame p.part) (tally a c ps)
