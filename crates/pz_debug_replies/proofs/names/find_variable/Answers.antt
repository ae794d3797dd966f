use Rattle.std.proofs.Common.{ℕ, List, ap, ◌∙◌}
use Rattle.pz_classes_code.specs.Places.{place_in}
use Rattle.pz_debug_replies.proofs.names.find_variable.Goals as goal

pub returns : goal.returns
returns c = λ place at. c.place.ensures ∙ ap (λ (names : List (List ℕ)). place_in names c.args.name.now) (c.variables_of.ensures place at)
