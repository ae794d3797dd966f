use Rattle.std.proofs.Common.{List, subst}
use Rattle.std.proofs.Math.Logic.{∥∥₁_elim}
use Rattle.std.specs.Coded.{le_prop}
use Rattle.pz_bind.specs.pz_classes.CheckedView.{checked_model}
use Rattle.pz_term_processes.specs.declared.process.Process.{Process}
use Rattle.pz_term_processes.specs.Standing.{setting_of, config_of}
use Rattle.pz_term_enabled.specs.devices.Deciding.{Decides}
use Rattle.pz_term_enabled.proofs.looking.look.Goals as goal

pub returns-clause-moment : goal.returns-clause-moment
returns-clause-moment c =
    let setting = setting_of (checked_model c.args.checked.now) c.args.limits in
    c.decide.ensures.moment setting (config_of c.args.clock c.args.processes.now)
    (λ i p there. ∥∥₁_elim c.requires.processes le_prop (λ known. known.low i p there))
    (subst (λ (ps : List Process). Decides setting (config_of c.args.clock ps) c.find_trouble.new.found c.in_ok-trouble.trouble) c.in_ok-found.ensures.unchanged c.in_ok-trouble.ensures.decides)

pub returns-clause-actions : goal.returns-clause-actions
returns-clause-actions c =
    let setting = setting_of (checked_model c.args.checked.now) c.args.limits in
    c.decide.ensures.actions setting (config_of c.args.clock c.args.processes.now)
    (subst (λ (ps : List Process). Decides setting (config_of c.args.clock ps) c.find_trouble.new.found c.in_ok-trouble.trouble) c.in_ok-found.ensures.unchanged c.in_ok-trouble.ensures.decides)

pub returns-clause-times : goal.returns-clause-times
returns-clause-times c = c.in_ok-found.ensures.surveyed.times
