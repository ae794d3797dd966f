use Rattle.std.proofs.Common.{List, sym, subst}
use Rattle.std.proofs.lemmas.Result.{IfOk-weaker}
use Rattle.pz_bind.specs.pz_classes.CheckedView.{checked_model}
use Rattle.pz_term_processes.specs.Standing.{setting_of, config_of}
use Rattle.pz_term_matching.specs.declared.ends.Pair.{Pair}
use Rattle.pz_term_matching.specs.Matches.{AreMatches}
use Rattle.pz_term_enabled.specs.devices.Judged.{OfPairs}
use Rattle.pz_term_enabled.specs.devices.Communications.{OfAll}
use Rattle.pz_term_enabled.proofs.Communications.{comes_to}
use Rattle.pz_term_enabled.proofs.judging.add_communications.Goals as goal

pub returns-clause-judged : goal.returns-clause-judged
returns-clause-judged c =
    let setting = setting_of (checked_model c.args.checked.now) c.args.limits in
    let config = config_of c.args.clock c.args.processes.now in
    let old = c.args.actions.now.items in
    let new = c.add_pairs.new.actions.items in
    let are_matches = subst (λ (ps : List Pair). AreMatches c.args.senders.now c.args.receivers.now ps) (sym c.as_slice.ensures.value) c.in_ok-pairs.ensures.pairs in
    IfOk-weaker c.add_pairs.result (OfPairs setting config c.args.senders.now c.args.receivers.now c.as_slice.result.now old new) (OfAll setting config old new)
    (λ trouble come. comes_to setting config c.args.senders.now c.args.receivers.now c.requires.senders c.requires.receivers c.one_verdict.ensures.law c.as_slice.result.now are_matches old new trouble come)
    c.add_pairs.ensures.judged
