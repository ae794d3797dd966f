use Rattle.std.proofs.lemmas.Result.{on_ok_weaker}
use Rattle.pz_rules.specs.pz_bind_rules.Nest.{class_at}
use Rattle.pz_rules.specs.Ports.{HasWires}
use Rattle.pz_term_enabled.proofs.Further.{WalkLaws}
use Rattle.pz_term_enabled.proofs.Seeing.{wired, sends_fit, receives_fit, process_surveyed}
use Rattle.pz_term_enabled.proofs.surveying.survey_process.Goals as goal

pub returns-clause-surveyed : goal.returns-clause-surveyed
returns-clause-surveyed c = λ m config seen below.
    let net = c.args.net.now in
    let here = c.args.here.now in
    let process = c.args.process.now in
    let listed = c.walks_list_what_is_active.ensures in
    let laws : WalkLaws = record {
      internal = listed.internal;
      sends = listed.sends;
      parcels = listed.parcels;
      receives = listed.receives;
      delays = listed.delays;
      troubles = listed.troubles;
      tests_computed = c.evaluations_are_computed.ensures.tests;
      times_computed = c.evaluations_are_computed.ensures.times;
    } in
    let wires : HasWires m = c.wires_are_known.ensures.law m seen.sound in
    let fits = c.active_parts_fit.ensures.law in
    let found = c.in_ok-found.found in
    let walked = c.in_ok-found.ensures.walked m (class_at m seen.place) seen.known in
    on_ok_weaker c.add_found.result
    (process_surveyed m config net here process seen wires laws found c.is_done-done.result c.args.survey.now c.add_found.new.survey c.is_done-done.ensures walked below)
    (c.add_found.ensures m (wired m config net here process seen wires) (sends_fit m config net here process seen wires laws fits found walked) (receives_fit m config net here process seen wires laws fits found walked))
