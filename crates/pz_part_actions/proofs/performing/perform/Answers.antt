use Rattle.std.proofs.Common.{sym, subst, ap}
use Rattle.std.specs.Result.{IfOk}
use Rattle.std.proofs.Math.Logic.{∥∥₁_map}
use Rattle.pz_classes_code.specs.pz_syntax.declared.tokens.Pos.{Pos}
use Rattle.pz_part_queries.specs.pz_classes.CheckedView.{checked_model}
use Rattle.pz_rules.specs.declared.action.Kind.{Kind}
use Rattle.pz_rules.specs.InternalActions.{Can}
use Rattle.pz_rules.specs.View.{term_view}
use Rattle.pz_part_queries.specs.pz_eval.Known.{AreKnown}
use Rattle.pz_part_queries.specs.declared.standpoint.Standpoint.{Standpoint}
use Rattle.pz_part_queries.specs.Standpoints.{Knows}
use Rattle.pz_part_actions.specs.Becoming.{process_left, HasPerformed}
use Rattle.pz_part_actions.specs.Fitting.{FitsHere}
use Rattle.pz_part_actions.specs.devices.Standing.{seen_there}
use Rattle.pz_part_actions.proofs.performing.perform.Goals as goal

pub perform_part-requires-clause-known : goal.perform_part-requires-clause-known
perform_part-requires-clause-known c = subst (λ (x : Standpoint). AreKnown x.classes.now) (sym c.at_home.ensures) c.requires.known

pub perform_part-requires-clause-edition : goal.perform_part-requires-clause-edition
perform_part-requires-clause-edition c = ap (λ (x : Standpoint). x.limits.edition) c.at_home.ensures

pub perform_part-requires-clause-fits : goal.perform_part-requires-clause-fits
perform_part-requires-clause-fits c =
    subst (λ (x : Standpoint). ∥ FitsHere x c.args.home.now.class (term_view c.args.part.now) ∥₁) (sym c.at_home.ensures)
    (∥∥₁_map c.requires.fits (λ w. record { model = w.model; knows = w.knows; bodies = w.bodies; belongs = w.belongs; locals = w.locals; fits = w.fits }))

pub returns-clause-performs : goal.returns-clause-performs
returns-clause-performs c =
    subst
    (λ (x : Standpoint). (kind : Kind) (pos : Pos) → Knows (checked_model c.args.home.now.checked.now) x → Can (seen_there x c.args.home.now c.args.state.now.held) c.args.frame.0 (term_view c.args.part.now) kind pos
    → IfOk c.perform_part.result (λ left. HasPerformed (seen_there x c.args.home.now c.args.state.now.held) c.args.frame.0 (term_view c.args.part.now) pos (process_left c.perform_part.new.state.held left)))
    c.at_home.ensures c.perform_part.ensures.performs
