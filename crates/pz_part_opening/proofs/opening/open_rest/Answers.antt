use Rattle.std.proofs.Common.{◌∙◌, sym, ap, List, length}
use Rattle.std.specs.Prelude.{◌==◌}
use Rattle.pz_classes_code.specs.declared.step.Step.{Step}
use Rattle.pz_part_opening.specs.Homes.{home_view}
use Rattle.pz_part_opening.proofs.Openings.{none_waits, one_waits, more_wait}
use Rattle.pz_part_opening.proofs.opening.open_rest.Goals as goal

pub returns-in_default-clause-opened : goal.returns-in_default-clause-opened
returns-in_default-clause-opened c = none_waits (home_view c.args.home.now) c.args.rest c.args.state.now c.in_default.ensures

pub returns-then-is_empty-clause-opened : goal.returns-then-is_empty-clause-opened
returns-then-is_empty-clause-opened c =
    one_waits (home_view c.args.home.now) c.in-Some.step.now c.in_ok-term.term c.args.state.now c.open_step.new.state c.in_ok-term.ensures.opened c.args.rest c.in-Some.ensures
    (sym (c.is_empty.ensures ∙ ap (λ (xs : List Step). length xs == 0) c.behind_first-rest.ensures) ∙ c.if-is_empty.true)

pub returns-clause-opened : goal.returns-clause-opened
returns-clause-opened c =
    more_wait (home_view c.args.home.now) c.in-Some.step.now c.in_ok-term.term c.args.state.now c.open_step.new.state c.in_ok-term.ensures.opened c.args.rest c.behind_first-rest.result c.in_ok-boxed.boxed
    c.in-Some.ensures c.behind_first-rest.ensures c.in_ok-boxed.ensures (sym c.is_empty.ensures ∙ c.if-is_empty.false)
