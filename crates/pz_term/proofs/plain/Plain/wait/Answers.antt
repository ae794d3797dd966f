use Rattle.std.proofs.Common.{◌≡◌, ◌+◌, ap, arith}
use Rattle.std.proofs.lemmas.Result.{on_ok_weaker}
use Rattle.pz_bind.specs.pz_classes.CheckedView.{checked_model}
use Rattle.pz_rules.specs.declared.moment.Moment.TheVariants.{Time}
use Rattle.pz_term_processes.specs.Standing.{setting_of}
use Rattle.pz_term_simulator.specs.Simulations.{Simulation, clock_in}
use Rattle.pz_term.specs.Plains.{simulation_of}
use Rattle.pz_term.proofs.Kept.{is_moment, kept_processes}
use Rattle.pz_term.proofs.Moved.{time_passes, clock_there}
use Rattle.pz_term.proofs.Short.{passed_short, time_short}
use Rattle.pz_term.proofs.plain.Plain.wait.Goals as goal

pub elapse_at-requires-clause-processes : goal.elapse_at-requires-clause-processes
elapse_at-requires-clause-processes c = kept_processes (setting_of (checked_model c.args.self.now.checked) c.args.self.now.limits) c.args.self.now.clock c.args.self.now.processes.items c.args.self.now.standing (Time c.args.time) c.one_moment.ensures.one tt c.requires.there c.args.self.now.holds

pub returns-clause-ok : goal.returns-clause-ok
returns-clause-ok c =
    on_ok_weaker c.look_on.result
    (λ is.
    time_passes (setting_of (checked_model c.args.self.now.checked) c.args.self.now.limits) c.args.self.now.clock c.args.self.now.processes.items c.elapse_at.new.processes.items c.args.self.now.standing c.args.time (simulation_of c.look_on.new.self) c.one_moment.ensures.one c.args.self.now.holds c.requires.there c.in_ok-elapse_at.ensures.passes
    is)
    c.look_on.ensures.ok

pub elapse_at-requires-clause-moment : goal.elapse_at-requires-clause-moment
elapse_at-requires-clause-moment c = is_moment (setting_of (checked_model c.args.self.now.checked) c.args.self.now.limits) c.args.self.now.clock c.args.self.now.processes.items c.args.self.now.standing (Time c.args.time) c.one_moment.ensures.one tt c.requires.there c.args.self.now.holds

pub returns-clause-short : goal.returns-clause-short
returns-clause-short c =
    on_ok_weaker c.look_on.result
    (λ is.
    let after : clock_in (simulation_of c.look_on.new.self) ≡ c.args.self.now.clock + c.args.time = ap (λ (s : Simulation). clock_in s) is in
    let before = clock_there (setting_of (checked_model c.args.self.now.checked) c.args.self.now.limits) c.args.self.now.clock c.args.self.now.processes.items c.args.self.now.standing c.args.time c.one_moment.ensures.one c.args.self.now.holds c.requires.there in
    let short = time_short (setting_of (checked_model c.args.self.now.checked) c.args.self.now.limits) c.args.self.now.clock c.args.self.now.processes.items c.elapse_at.new.processes.items c.args.self.now.standing c.one_moment.ensures.one c.args.self.now.holds c.args.time c.requires.there c.moments_are_short.ensures.law in
    omega (arith, after, before, short))
    c.look_on.ensures.ok

pub look_on-requires-clause-short : goal.look_on-requires-clause-short
look_on-requires-clause-short c =
    passed_short (setting_of (checked_model c.args.self.now.checked) c.args.self.now.limits) c.args.self.now.clock c.args.self.now.processes.items c.elapse_at.new.processes.items c.args.self.now.standing
    c.one_moment.ensures.one c.args.self.now.holds c.args.time c.requires.there c.short_passes.ensures.law c.in_ok-elapse_at.ensures.passes

pub overflow_add-self : goal.overflow_add-self
overflow_add-self c =
    let setting = setting_of (checked_model c.args.self.now.checked) c.args.self.now.limits in
    let short = time_short setting c.args.self.now.clock c.args.self.now.processes.items c.elapse_at.new.processes.items c.args.self.now.standing c.one_moment.ensures.one c.args.self.now.holds c.args.time c.requires.there c.moments_are_short.ensures.law in
    let before = clock_there setting c.args.self.now.clock c.args.self.now.processes.items c.args.self.now.standing c.args.time c.one_moment.ensures.one c.args.self.now.holds c.requires.there in
    let low = c.requires.low in
    omega (arith, low, before, short)
