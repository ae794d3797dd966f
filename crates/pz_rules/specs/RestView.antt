-- The statements that wait behind the one that is open, in the order in which they come.
use Rattle.std.specs.Prelude.{List, [], ◌∷◌, drop, Some, None}
use Rattle.pz_bind_rules.specs.pz_classes_code.declared.step.Step.{Step}
use Rattle.pz_rules.specs.declared.rest.Waiting.{Waiting}
use Rattle.pz_rules.specs.declared.rest.Waiting.TheVariants.{From, Again}

abbrev pub steps_waiting : Waiting → List Step
steps_waiting (From all first) = drop first all
steps_waiting (Again None) = []
steps_waiting (Again (Some step)) = step ∷ []
