use Rattle.std.proofs.Common.{arith}
use Rattle.pz_bind.specs.pz_classes.CheckedView.{checked_model}
use Rattle.pz_rules.specs.declared.moment.Moment.TheVariants.{Actions}
use Rattle.pz_term_processes.specs.Standing.{setting_of}
use Rattle.pz_term.specs.Plains.{simulation_of}
use Rattle.pz_term.proofs.Kept.{kept_processes, never_other}
use Rattle.pz_term.proofs.Moved.{within_shown, action_offered, chosen_acts, chosen_stops}
use Rattle.pz_term.proofs.Short.{acted_short}
use Rattle.pz_term.proofs.Variables.{stayed, stopped_holds}
use Rattle.pz_term.proofs.plain.Plain.take.Goals as goal

pub index-action-requires : goal.index-action-requires
index-action-requires c =
    let within = within_shown (setting_of (checked_model c.args.self.now.checked) c.args.self.now.limits) c.args.self.now.clock c.args.self.now.processes.items c.args.self.now.standing c.in-Whole.outlook c.requires.there.0 c.args.k c.one_moment.ensures.one c.one_list_of_offers.ensures.one c.in-Whole.ensures.value c.requires.there.1 c.requires.there.2 c.args.self.now.holds in
    omega (arith, within, c.in-Whole.outlook.actions.ok.0)

pub step_at-requires-clause-processes : goal.step_at-requires-clause-processes
step_at-requires-clause-processes c = kept_processes (setting_of (checked_model c.args.self.now.checked) c.args.self.now.limits) c.args.self.now.clock c.args.self.now.processes.items c.args.self.now.standing (Actions c.requires.there.0) c.one_moment.ensures.one tt c.requires.there.1 c.args.self.now.holds

pub step_at-requires-clause-offered : goal.step_at-requires-clause-offered
step_at-requires-clause-offered c = action_offered (setting_of (checked_model c.args.self.now.checked) c.args.self.now.limits) c.args.self.now.clock c.args.self.now.processes.items c.args.self.now.standing c.in-Whole.outlook c.requires.there.0 c.args.k c.one_moment.ensures.one c.one_list_of_offers.ensures.one c.in-Whole.ensures.value c.requires.there.1 c.requires.there.2 c.args.self.now.holds c.index-action.result.now c.index-action.ensures

pub returns-in-Ok-look_on-clause-ok : goal.returns-in-Ok-look_on-clause-ok
returns-in-Ok-look_on-clause-ok c =
    chosen_acts (setting_of (checked_model c.args.self.now.checked) c.args.self.now.limits) c.args.self.now.clock c.args.self.now.processes.items c.args.self.now.standing c.in-Whole.outlook c.requires.there.0 c.args.k c.one_moment.ensures.one c.one_list_of_offers.ensures.one c.in-Whole.ensures.value c.requires.there.1 c.requires.there.2 c.args.self.now.holds c.index-action.result.now (simulation_of c.look_on.new.self) c.step_at.new.processes.items c.step_at.result c.in-Ok.left c.in-Ok-left.field-0
    c.index-action.ensures c.in-Ok.is c.in-Ok-left.is c.step_at.ensures.steps c.in-Ok-look_on.ensures.ok

pub returns-in-Err-clause-ok : goal.returns-in-Err-clause-ok
returns-in-Err-clause-ok c =
    chosen_stops (setting_of (checked_model c.args.self.now.checked) c.args.self.now.limits) c.args.self.now.clock c.args.self.now.processes.items c.args.self.now.standing c.in-Whole.outlook c.requires.there.0 c.args.k c.one_moment.ensures.one c.one_list_of_offers.ensures.one c.in-Whole.ensures.value c.requires.there.1 c.requires.there.2 c.args.self.now.holds c.index-action.result.now c.step_at.new.processes.items c.step_at.result c.in-Ok.left c.in-Err.trouble
    c.index-action.ensures c.in-Ok.is c.in-Err.is c.step_at.ensures.steps c.step_at.ensures.stays

pub invariant_of-self-in-Err : goal.invariant_of-self-in-Err
invariant_of-self-in-Err c =
    let setting = setting_of (checked_model c.args.self.now.checked) c.args.self.now.limits in
    record {
      of_model = c.args.self.now.of_model;
      rounds = c.args.self.now.rounds;
      holds =
          stopped_holds setting c.args.self.now.clock c.args.self.now.processes.items c.step_at.new.processes.items c.in-Err.trouble
          (stayed c.args.self.now.processes.items c.step_at.new.processes.items c.step_at.result c.in-Ok.left c.in-Err.trouble c.in-Ok.is c.in-Err.is c.step_at.ensures.stays)
          (kept_processes setting c.args.self.now.clock c.args.self.now.processes.items c.args.self.now.standing (Actions c.requires.there.0) c.one_moment.ensures.one tt c.requires.there.1 c.args.self.now.holds);
    }

pub unreachable-requires : goal.unreachable-requires
unreachable-requires c =
    never_other (setting_of (checked_model c.args.self.now.checked) c.args.self.now.limits) c.args.self.now.clock c.args.self.now.processes.items c.args.self.now.standing c.replace.result c.requires.there.0 c.one_moment.ensures.one c.requires.there.1 c.args.self.now.holds
    c.replace.ensures.value c.in_default.not-Whole

pub look_on-requires-clause-short : goal.look_on-requires-clause-short
look_on-requires-clause-short c =
    acted_short (setting_of (checked_model c.args.self.now.checked) c.args.self.now.limits) c.args.self.now.clock c.args.self.now.processes.items c.step_at.new.processes.items c.args.self.now.standing
    c.one_moment.ensures.one c.args.self.now.holds c.short_stays.ensures.law c.requires.there.0 c.requires.there.1 c.index-action.result.now c.step_at.result c.in-Ok.left c.in-Ok-left.field-0 c.in-Ok.is c.in-Ok-left.is c.step_at.ensures.steps
