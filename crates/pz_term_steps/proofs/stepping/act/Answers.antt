use Rattle.std.proofs.Common.{◌∙◌, Ok, Err, refl, subst, ap}
use Rattle.std.specs.Prelude.{slice_index_or, slice_set}
use Rattle.std.proofs.lemmas.Option.{slice_get-get_or}
use Rattle.pz_bind.specs.pz_classes.CheckedView.{checked_model}
use Rattle.pz_rules.specs.pz_classes_rules.Soundness.{IsSound}
use Rattle.pz_rules.specs.InternalActions.{Performs}
use Rattle.pz_rules.specs.View.{term_view}
use Rattle.pz_term_processes.specs.declared.process.Process.{Process}
use Rattle.pz_term_processes.specs.Standing.{setting_of, process_view}
use Rattle.pz_rules.specs.pz_bind_rules.Nest.{class_at}
use Rattle.pz_term_processes.specs.pz_part_opening.Homes.{home_view}
use Rattle.pz_term_steps.specs.devices.Deeds.{CanAct, begun_process, seen_at}
use Rattle.pz_term_steps.proofs.Lists.{set_back}
use Rattle.pz_term_steps.proofs.Marked.{may_act}
use Rattle.pz_term_steps.proofs.AtHome.{net_has, term_fits, class_there, knows_there, can_there, leaves_there}
use Rattle.pz_term_steps.proofs.Finished.{process_is, begun_trouble, acts_still, leaves_finished, leaves_trouble, acts_at}
use Rattle.pz_term_steps.proofs.Nexts.{act_ready, acted, acted_trouble}
use Rattle.pz_term_steps.proofs.stepping.act.Goals as goal

pub home_at-home-requires-clause-there : goal.home_at-home-requires-clause-there
home_at-home-requires-clause-there c =
    let m = checked_model c.args.checked.now in
    let ps = c.args.processes.now in
    let at = act_ready (setting_of m c.args.limits) c.args.clock ps c.args.at.now c.requires.offered in
    net_has m c.args.net.now c.args.at.now.process at.home c.requires.of_model at.at_home

pub bounds-processes-at : goal.bounds-processes-at
bounds-processes-at c =
    let m = checked_model c.args.checked.now in
    let ps = c.args.processes.now in
    let at = act_ready (setting_of m c.args.limits) c.args.clock ps c.args.at.now c.requires.offered in
    at.within

pub begin_internal-requires-clause-knows : goal.begin_internal-requires-clause-knows
begin_internal-requires-clause-knows c =
    let m = checked_model c.args.checked.now in
    let ps = c.args.processes.now in
    let at = act_ready (setting_of m c.args.limits) c.args.clock ps c.args.at.now c.requires.offered in
    knows_there m c.args.limits (record { classes = c.classes.result; limits = c.args.limits; process = c.args.at.now.process; clock = c.args.clock }) c.home_at-home.result at.home (c.home_at-home.ensures.home at.home at.at_home) refl
    c.classes.ensures.tabled

pub begin_internal-requires-clause-can : goal.begin_internal-requires-clause-can
begin_internal-requires-clause-can c =
    let m = checked_model c.args.checked.now in
    let ps = c.args.processes.now in
    let at = act_ready (setting_of m c.args.limits) c.args.clock ps c.args.at.now c.requires.offered in
    let p = slice_index_or ps c.args.at.now.process c.index-processes-at.result in
    let there = slice_get-get_or ps c.args.at.now.process c.index-processes-at.result at.within in
    can_there m c.args.limits (record { classes = c.classes.result; limits = c.args.limits; process = c.args.at.now.process; clock = c.args.clock }) c.home_at-home.result at.home (c.home_at-home.ensures.home at.home at.at_home) refl
    CanAct p.state.held (term_view p.term) c.as_slice-place.result.now (at.able p there (class_at m at.home) refl c.as_slice-place.result.now c.as_slice-place.ensures)

pub begin_internal-requires-clause-fits : goal.begin_internal-requires-clause-fits
begin_internal-requires-clause-fits c =
    let m = checked_model c.args.checked.now in
    let ps = c.args.processes.now in
    let at = act_ready (setting_of m c.args.limits) c.args.clock ps c.args.at.now c.requires.offered in
    let p = slice_index_or ps c.args.at.now.process c.index-processes-at.result in
    let there = slice_get-get_or ps c.args.at.now.process c.index-processes-at.result at.within in
    term_fits m c.args.limits c.args.clock c.args.net.now (record { classes = c.classes.result; limits = c.args.limits; process = c.args.at.now.process; clock = c.args.clock }) ps c.args.at.now.process at.home p c.home_at-home.result.class
    c.sound_bodies_fit.ensures.law (subst IsSound c.model-model.ensures.is c.model-model.ensures.sound) c.requires.of_model c.requires.processes c.classes.ensures.tabled c.home_at-home.ensures.belongs
    at.at_home there (class_there m c.args.limits (record { classes = c.classes.result; limits = c.args.limits; process = c.args.at.now.process; clock = c.args.clock }) c.home_at-home.result at.home (c.home_at-home.ensures.home at.home at.at_home) refl)

pub finish-requires-clause-may_act : goal.finish-requires-clause-may_act
finish-requires-clause-may_act c =
    let m = checked_model c.args.checked.now in
    let ps = c.args.processes.now in
    let at = act_ready (setting_of m c.args.limits) c.args.clock ps c.args.at.now c.requires.offered in
    let p = slice_index_or ps c.args.at.now.process c.index-processes-at.result in
    let there = slice_get-get_or ps c.args.at.now.process c.index-processes-at.result at.within in
    let can = at.able p there (class_at m at.home) refl c.as_slice-place.result.now c.as_slice-place.ensures in
    acts_still p c.begin_internal.new.process c.as_slice-place.result.now c.begin_internal.ensures.term
    (may_act CanAct (seen_at (setting_of m c.args.limits) c.args.at.now.process (class_at m at.home) c.args.clock p.state.held) (term_view p.term) c.as_slice-place.result.now can c.active_parts_may_act.ensures.law)

pub returns-in_ok-finish-in-Ok-clause-steps : goal.returns-in_ok-finish-in-Ok-clause-steps
returns-in_ok-finish-in-Ok-clause-steps c =
    let m = checked_model c.args.checked.now in
    let ps = c.args.processes.now in
    let at = act_ready (setting_of m c.args.limits) c.args.clock ps c.args.at.now c.requires.offered in
    let p = slice_index_or ps c.args.at.now.process c.index-processes-at.result in
    let there = slice_get-get_or ps c.args.at.now.process c.index-processes-at.result at.within in
    let can = at.able p there (class_at m at.home) refl c.as_slice-place.result.now c.as_slice-place.ensures in
    let a = seen_at (setting_of m c.args.limits) c.args.at.now.process (class_at m at.home) c.args.clock p.state.held in
    let leaves = leaves_there m c.args.limits (record { classes = c.classes.result; limits = c.args.limits; process = c.args.at.now.process; clock = c.args.clock }) c.home_at-home.result at.home (c.home_at-home.ensures.home at.home at.at_home) refl Performs p.state.held (term_view p.term) c.as_slice-place.result.now
    (begun_process (home_view c.home_at-home.result) (term_view p.term) c.as_slice-place.result.now c.begin_internal.new.process.state.held c.in_ok-begun.field-0) c.in_ok-begun.ensures.leaves in
    acted (setting_of m c.args.limits) c.args.clock ps c.args.at.now c.finish.new.process
    (acts_at (setting_of m c.args.limits) c.args.clock ps c.args.at.now CanAct at p there Performs (class_at m at.home) refl c.as_slice-place.result.now c.as_slice-place.ensures (Ok (process_view c.finish.new.process))
    (leaves_finished (home_view c.home_at-home.result) a Performs p c.begin_internal.new.process c.as_slice-place.result.now c.in_ok-begun.field-0 leaves c.in-Ok.begun c.begin_internal.new.process c.finish.new.process
    c.in-Ok.is refl c.begin_internal.ensures.term c.in_ok-finish-in-Ok.ensures))

pub returns-in-Err-clause-steps : goal.returns-in-Err-clause-steps
returns-in-Err-clause-steps c =
    let m = checked_model c.args.checked.now in
    let ps = c.args.processes.now in
    let at = act_ready (setting_of m c.args.limits) c.args.clock ps c.args.at.now c.requires.offered in
    let p = slice_index_or ps c.args.at.now.process c.index-processes-at.result in
    let there = slice_get-get_or ps c.args.at.now.process c.index-processes-at.result at.within in
    let can = at.able p there (class_at m at.home) refl c.as_slice-place.result.now c.as_slice-place.ensures in
    let a = seen_at (setting_of m c.args.limits) c.args.at.now.process (class_at m at.home) c.args.clock p.state.held in
    let leaves = leaves_there m c.args.limits (record { classes = c.classes.result; limits = c.args.limits; process = c.args.at.now.process; clock = c.args.clock }) c.home_at-home.result at.home (c.home_at-home.ensures.home at.home at.at_home) refl Performs p.state.held (term_view p.term) c.as_slice-place.result.now
    (begun_process (home_view c.home_at-home.result) (term_view p.term) c.as_slice-place.result.now c.begin_internal.new.process.state.held c.in_ok-begun.field-0) c.in_ok-begun.ensures.leaves in
    acted_trouble (setting_of m c.args.limits) c.args.clock ps c.args.at.now c.in-Err.trouble
    (acts_at (setting_of m c.args.limits) c.args.clock ps c.args.at.now CanAct at p there Performs (class_at m at.home) refl c.as_slice-place.result.now c.as_slice-place.ensures (Err c.in-Err.trouble)
    (leaves_trouble (home_view c.home_at-home.result) a Performs p c.begin_internal.new.process c.as_slice-place.result.now c.in_ok-begun.field-0 leaves c.in-Err.trouble c.in-Err.is))

pub returns-in-Err-clause-stays : goal.returns-in-Err-clause-stays
returns-in-Err-clause-stays c =
    let m = checked_model c.args.checked.now in
    let ps = c.args.processes.now in
    let at = act_ready (setting_of m c.args.limits) c.args.clock ps c.args.at.now c.requires.offered in
    let p = slice_index_or ps c.args.at.now.process c.index-processes-at.result in
    let there = slice_get-get_or ps c.args.at.now.process c.index-processes-at.result at.within in
    ap (λ (x : Process). slice_set ps c.args.at.now.process x)
    (process_is c.begin_internal.new.process p c.begin_internal.ensures.term (begun_trouble p.state c.begin_internal.new.process.state c.in_ok-begun.field-0 c.in-Err.trouble c.in-Err.is c.in_ok-begun.ensures.state))
    ∙ set_back ps c.args.at.now.process p there
