use Rattle.std.proofs.Common.{inr, ◌∙◌, subst}
use Rattle.std.specs.Coded.{le_prop}
use Rattle.std.proofs.Math.Logic.{∥∥₁_elim}
use Rattle.pz_classes_code.specs.pz_syntax.Classes.{ModelTree}
use Rattle.pz_classes.specs.pz_classes_rules.Soundness.{IsSound}
use Rattle.pz_classes.specs.CheckedView.{checked_model}
use Rattle.pz_part_opening.specs.Homes.{home_view}
use Rattle.pz_part_opening.proofs.Called.{has_class, is_two, none_called, data_called, is_called}
use Rattle.pz_part_opening.proofs.home.Home.called.Goals as goal

pub process_method-requires : goal.process_method-requires
process_method-requires c =
    let self = c.args.self.now in
    has_class (checked_model self.checked.now) c.classes-classes.result.now self.class self.process c.classes-classes.ensures.tabled

pub returns-in_err-found : goal.returns-in_err-found
returns-in_err-found c =
    rw c.from_residual.ensures (inr (
    none_called (home_view c.args.self.now) c.args.method.now c.classes-classes.result.now c.classes-classes.ensures.tabled c.as_bytes-name.result.now (c.as_bytes-name.ensures.value ∙ c.as_str.ensures) c.in_err-found.ensures.body))

pub body-requires : goal.body-requires
body-requires c = ∥∥₁_elim c.classes-classes.ensures.tabled le_prop (λ are. c.in_ok-found.ensures.belongs (checked_model c.args.self.now.checked.now) are)

pub returns-in-Process : goal.returns-in-Process
returns-in-Process c =
    let self = c.args.self.now in
    let two = is_two self.edition c.eq.result c.eq.ensures c.if-eq.false in (
      record {
        edition = two;
        sound = subst (λ (m : ModelTree). IsSound m) c.model-model.ensures.is c.model-model.ensures.sound;
        process = self.process;
        rounds = self.rounds two;
      },
      is_called (home_view self) c.args.method.now c.classes-classes.result.now c.classes-classes.ensures.tabled c.as_bytes-name.result.now (c.as_bytes-name.ensures.value ∙ c.as_str.ensures) c.trees_are_sets.ensures.bodies
          c.in_ok-found.found c.body.result.now c.in-Process.locals c.in-Process.stmts c.in_ok-found.ensures.method c.in_ok-found.ensures.body c.body.ensures c.in-Process.is,
    )

pub returns-in-Data : goal.returns-in-Data
returns-in-Data c = inr (
    data_called (home_view c.args.self.now) c.args.method.now c.classes-classes.result.now c.classes-classes.ensures.tabled c.as_bytes-name.result.now (c.as_bytes-name.ensures.value ∙ c.as_str.ensures)
    c.in_ok-found.found c.body.result.now c.in-Data.locals c.in-Data.code c.in_ok-found.ensures.body c.body.ensures c.in-Data.is)
