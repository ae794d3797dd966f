use Rattle.std.proofs.Common.{ℕ, sym, subst, ap, ◌∙◌}
use Rattle.pz_classes_code.specs.pz_value.declared.value.ClassId.{ClassId}
use Rattle.pz_bind.specs.pz_classes.CheckedView.{checked_model}
use Rattle.pz_bind.specs.pz_classes.Tables.{HasClass}
use Rattle.pz_rules.specs.Settings as rules
use Rattle.pz_term_processes.proofs.ProcessClasses.{class_is, process_class}
use Rattle.pz_term_processes.proofs.homes.home_at.Goals as goal

pub returns-clause-home : goal.returns-clause-home
returns-clause-home c = λ place there.
    c.new.ensures.home
    ∙ ap (λ (n : ℕ). let h : rules.Home = record { model = checked_model c.args.checked.now; edition = c.args.limits.edition; class = n } in h)
    (class_is (checked_model c.args.checked.now) c.args.net.now c.args.process place c.class-class.result c.requires.of_model there c.class-class.ensures.is)

pub returns-clause-belongs : goal.returns-clause-belongs
returns-clause-belongs c = λ m classes is are. subst (λ (k : ClassId). HasClass classes k) (sym c.new.ensures.class) (c.class-class.ensures.belongs m classes is are)

pub new-requires-clause-process : goal.new-requires-clause-process
new-requires-clause-process c =
    process_class (checked_model c.args.checked.now) c.args.net.now c.args.process c.class-class.result c.requires.of_model c.requires.there c.processes_have_classes.ensures.law c.class-class.ensures.is
