use Rattle.std.proofs.Common.{List, sym, ap, subst, ◌∙◌}
use Rattle.std.specs.Prelude.{All}
use Rattle.pz_classes_code.specs.pz_value.declared.value.Value.{Value}
use Rattle.pz_rules.specs.pz_state.References.{RefersWithin}
use Rattle.pz_rules.specs.pz_state.States.{initial}
use Rattle.pz_rules.specs.pz_state.Marks.{Seen}
use Rattle.std.specs.Option.{option_map, option_copied}
use Rattle.pz_classes_code.specs.StepView as step
use Rattle.pz_bind.specs.pz_classes.CheckedView.{checked_model}
use Rattle.pz_rules.specs.View.{term_view}
use Rattle.pz_part_actions.specs.pz_part_opening.Homes.{home_view}
use Rattle.pz_term_processes.proofs.First.{plain_values, starts_as}
use Rattle.pz_term_processes.proofs.starting.first_of.Goals as goal

pub new-state-requires : goal.new-state-requires
new-state-requires c =
    subst (λ (vs : List Value). All (RefersWithin 0) vs) (sym c.in_ok-copies_of.ensures)
    (plain_values (checked_model c.args.checked.now) c.args.net.now c.args.process c.values.result.now c.requires.of_model c.requires.there c.values.ensures)

pub returns : goal.returns
returns c = λ place at.
    starts_as c.trees_are_sets.ensures.statements (checked_model c.args.checked.now) c.classes.result.now c.args.net.now c.args.limits c.args.process c.class.result c.in-Some.call.now c.values.result.now
    (home_view c.home_at-home.result) (term_view c.in_ok-term.term) c.new-state.result c.open_step.new.state c.sweep.new.state place
    c.classes.ensures.tabled c.requires.of_model at c.class.ensures.is (λ m known. ap (λ r. option_map step.view (option_copied r)) (sym c.in-Some.is) ∙ c.init.ensures m known) c.values.ensures
    (c.home_at-home.ensures.home place at) (ap (λ (z : Seen). z.held) c.new-state.ensures ∙ ap (λ (vs : List Value). initial vs) c.in_ok-copies_of.ensures) c.in_ok-term.ensures.opened c.in_ok-sweep.ensures
