use Rattle.std.proofs.Common.{subst}
use Rattle.pz_bind.specs.pz_classes.CheckedView.{checked_model}
use Rattle.pz_rules.specs.pz_classes_rules.Soundness.{IsSound}
use Rattle.pz_rules.specs.declared.action.Action.{Action}
use Rattle.pz_rules.specs.declared.action.Action.TheVariants.{Internal, Comm}
use Rattle.pz_rules.specs.Offers.{Offers}
use Rattle.pz_term_processes.specs.Standing.{setting_of, config_of}
use Rattle.pz_term_steps.proofs.Nexts.{pair_offered, still_processes}
use Rattle.pz_term_steps.proofs.stepping.step.Goals as goal

pub communicate-requires-clause-pair : goal.communicate-requires-clause-pair
communicate-requires-clause-pair c =
    let setting = setting_of (checked_model c.args.checked.now) c.args.limits in
    let config = config_of c.args.clock c.args.processes.now in (
      c.in-Comm.wire,
      c.in-Comm.message,
      pair_offered setting config c.in-Comm.wire c.in-Comm.sender c.in-Comm.receiver c.in-Comm.message c.in-Comm.parcel (subst (λ (a : Action). Offers setting config a) c.in-Comm.is c.requires.offered),
    )

pub returns-in-Internal-clause-processes : goal.returns-in-Internal-clause-processes
returns-in-Internal-clause-processes c =
    let setting = setting_of (checked_model c.args.checked.now) c.args.limits in
    still_processes setting c.args.clock c.args.processes.now c.act.new.processes (Internal c.in-Internal.at c.in-Internal.kind c.in-Internal.pos) c.act.result
    c.one_next.ensures.whole c.what_fits_goes_on.ensures.stays c.low_terms_stay.ensures.action (subst IsSound c.model-model.ensures.is c.model-model.ensures.sound) c.requires.processes
    (c.act.ensures.steps c.in-Internal.kind c.in-Internal.pos) c.act.ensures.stays

pub returns-in-Comm-clause-processes : goal.returns-in-Comm-clause-processes
returns-in-Comm-clause-processes c =
    let setting = setting_of (checked_model c.args.checked.now) c.args.limits in
    still_processes setting c.args.clock c.args.processes.now c.communicate.new.processes (Comm c.in-Comm.wire c.in-Comm.sender c.in-Comm.receiver c.in-Comm.message c.in-Comm.parcel) c.communicate.result
    c.one_next.ensures.whole c.what_fits_goes_on.ensures.stays c.low_terms_stay.ensures.action (subst IsSound c.model-model.ensures.is c.model-model.ensures.sound) c.requires.processes
    (c.communicate.ensures.steps c.in-Comm.wire c.in-Comm.message) c.communicate.ensures.stays
