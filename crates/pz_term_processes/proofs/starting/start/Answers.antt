use Rattle.std.proofs.Common.{Option, sym, subst}
use Rattle.std.specs.Option.{MatchOption}
use Rattle.pz_bind.specs.pz_classes.CheckedView.{checked_model}
use Rattle.pz_rules.specs.pz_classes_rules.Soundness.{IsSound}
use Rattle.pz_rules.specs.pz_offer.declared.trouble.Trouble.{Trouble}
use Rattle.pz_rules.specs.Moments.{IsFirstHigh}
use Rattle.pz_rules.specs.devices.Start.{start_of}
use Rattle.pz_term_processes.specs.Starting.{StartsLow}
use Rattle.pz_term_processes.specs.Standing.{setting_of}
use Rattle.pz_term_processes.proofs.Starts.{are_processes}
use Rattle.pz_term_processes.proofs.starting.start.Goals as goal

pub returns-in_ok-all_begun-in-None-clause-processes : goal.returns-in_ok-all_begun-in-None-clause-processes
returns-in_ok-all_begun-in-None-clause-processes c =
    let setting = setting_of (checked_model c.args.checked.now) c.args.limits in
    are_processes c.what_fits_goes_on.ensures.start c.start_is_one.ensures.one c.start_is_one.ensures.computed (checked_model c.args.checked.now) c.in_ok-all_begun-in-None.field-0.items c.args.limits
    (subst IsSound c.model-model.ensures.is c.model-model.ensures.sound) c.in_ok-all_begun-in-None.ensures
    (subst (λ (o : Option Trouble). MatchOption o (StartsLow setting) (IsFirstHigh setting (start_of setting))) c.in-None.is c.first_too_high.ensures)
