-- What is known of the jobs that words ask for.
use Rattle.std.specs.Prelude.{◌≤◌}
use Rattle.pz_trace.specs.pz_rules.Clocks.{most_actions}
use Rattle.pz_words.specs.declared.jobs.Job.{Job}
use Rattle.pz_words.specs.declared.jobs.Job.TheVariants.{Run, Menu, Make, Ring, Watch, Drive}
use Rattle.pz_words.specs.Jobs.{IsRingSize}

-- a ring has no more stations than it may have
abbrev pub HasRingSize : Job → Type 0
HasRingSize (Make n) = IsRingSize n
HasRingSize (Ring n choice limits) = IsRingSize n
HasRingSize job = Unit {0}

-- a run takes no more actions than a run may take
abbrev pub HasFewActions : Job → Type 0
HasFewActions (Run model choice limits summary) = limits.steps ≤ most_actions
HasFewActions (Menu model choice limits) = limits.steps ≤ most_actions
HasFewActions (Ring n choice limits) = limits.steps ≤ most_actions
HasFewActions (Watch model watches choice limits) = limits.steps ≤ most_actions
HasFewActions (Drive model script choice limits) = limits.steps ≤ most_actions
HasFewActions job = Unit {0}

-- each evaluation of a run that a script drives has a unit at least
abbrev pub HasUnits : Job → Type 0
HasUnits (Drive model script choice limits) = 1 ≤ limits.units
HasUnits job = Unit {0}
