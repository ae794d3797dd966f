-- How a run goes on that a command line asks for.
use Rattle.pz_choice.specs.Resolvers.{Resolver, always_first, seeded, listed, choice, left_over}
use Rattle.pz_rules.specs.ChosenRuns.{Policy}
use Rattle.pz_words.specs.declared.jobs.Choice.{Choice}
use Rattle.pz_words.specs.declared.jobs.Choice.TheVariants.{First, Seed, List as Entries}
use Rattle.pz_words.specs.declared.jobs.RunLimits.{RunLimits}

-- who chooses offers
abbrev pub resolver_of : Choice → Resolver
resolver_of First = always_first
resolver_of (Seed seed) = seeded seed
resolver_of (Entries entries) = listed entries

-- no more actions than the steps, and no passing beyond the bound
abbrev pub policy_of : Resolver → RunLimits → Policy
policy_of r limits = record { choose = choice r; ahead = left_over r; steps = limits.steps; until = limits.until }
