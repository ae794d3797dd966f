use Rattle.std.proofs.Common.{List, refl, sym, subst, ◌∙◌, rules}
use Rattle.pz_bind.specs.pz_classes.CheckedView.{checked_model}
use Rattle.pz_term_processes.specs.declared.process.Process.{Process}
use Rattle.pz_term_processes.specs.Standing.{setting_of, config_of}
use Rattle.pz_term_matching.specs.declared.ends.Pair.{Pair}
use Rattle.pz_term_matching.specs.declared.ends.Receiver.{Receiver}
use Rattle.pz_term_enabled.specs.Surveyed.{IsReceiver}
use Rattle.pz_term_enabled.specs.devices.Judged.{OfOne}
use Rattle.pz_term_enabled.proofs.Communications.{none_yet, sender_within, receiver_within, joins_read, goes_on, stops}
use Rattle.pz_term_enabled.proofs.judging.add_pairs.Goals as goal

abbrev unread : Pair
unread = record { sender = 0; receiver = 0 }

pub loop-pair-init : goal.loop-pair-init
loop-pair-init c = record {
  processes = refl;
  judged = none_yet (setting_of (checked_model c.args.checked.now) c.args.limits) (config_of c.args.clock c.args.processes.now) c.args.senders.now c.args.receivers.now c.args.pairs.now c.args.actions.now.items c.args.actions.now.items refl;
}

pub bounds-senders-pair : goal.bounds-senders-pair
bounds-senders-pair c =
    sender_within (setting_of (checked_model c.args.checked.now) c.args.limits) (config_of c.args.clock c.args.processes.now) c.args.senders.now c.args.receivers.now c.args.pairs.now c.loop-pair.pair-index unread c.loop-pair-test.true c.requires.fit

pub bounds-receivers-pair : goal.bounds-receivers-pair
bounds-receivers-pair c =
    receiver_within (setting_of (checked_model c.args.checked.now) c.args.limits) (config_of c.args.clock c.args.processes.now) c.args.senders.now c.args.receivers.now c.args.pairs.now c.loop-pair.pair-index unread c.loop-pair-test.true c.requires.fit

pub offset_bounds-senders-pair : goal.offset_bounds-senders-pair
offset_bounds-senders-pair c =
    let within = sender_within (setting_of (checked_model c.args.checked.now) c.args.limits) (config_of c.args.clock c.args.processes.now) c.args.senders.now c.args.receivers.now c.args.pairs.now c.loop-pair.pair-index unread c.loop-pair-test.true c.requires.fit in
    search rules

pub offset_bounds-receivers-pair : goal.offset_bounds-receivers-pair
offset_bounds-receivers-pair c =
    let within = receiver_within (setting_of (checked_model c.args.checked.now) c.args.limits) (config_of c.args.clock c.args.processes.now) c.args.senders.now c.args.receivers.now c.args.pairs.now c.loop-pair.pair-index unread c.loop-pair-test.true c.requires.fit in
    search rules

pub add_pair-requires : goal.add_pair-requires
add_pair-requires c =
    let setting = setting_of (checked_model c.args.checked.now) c.args.limits in
    let config = config_of c.args.clock c.args.processes.now in
    let within = receiver_within setting config c.args.senders.now c.args.receivers.now c.args.pairs.now c.loop-pair.pair-index unread c.loop-pair-test.true c.requires.fit in
    subst (λ (ps : List Process). IsReceiver setting (config_of c.args.clock ps) c.index-receivers-pair.result) (sym c.loop-pair.invariant.processes)
    (subst (λ (r : Receiver). IsReceiver setting config r) (sym c.index-receivers-pair.is) (c.requires.receivers _ c.index-receivers-pair.result within))

pub returns-then-is_some-clause-judged : goal.returns-then-is_some-clause-judged
returns-then-is_some-clause-judged c =
    let setting = setting_of (checked_model c.args.checked.now) c.args.limits in
    let config = config_of c.args.clock c.args.processes.now in
    let s = c.index-senders-pair.result in
    let r = c.index-receivers-pair.result in
    let joins = joins_read setting config c.args.senders.now c.args.receivers.now c.args.pairs.now c.loop-pair.pair-index unread c.loop-pair-test.true s r c.requires.fit c.index-senders-pair.is c.index-receivers-pair.is in
    stops setting config c.args.senders.now c.args.receivers.now c.args.pairs.now c.loop-pair.pair-index unread c.loop-pair-test.true s r joins c.args.actions.now.items c.loop-pair.actions.items c.add_pair.new.actions.items c.in_ok-trouble.trouble
    (sym c.is_some.ensures ∙ c.if-is_some.true) c.loop-pair.invariant.judged
    (subst (λ (ps : List Process). OfOne setting (config_of c.args.clock ps) s r c.loop-pair.actions.items c.add_pair.new.actions.items c.in_ok-trouble.trouble) c.loop-pair.invariant.processes c.in_ok-trouble.ensures.judged)

pub loop-pair-preserved : goal.loop-pair-preserved
loop-pair-preserved c =
    let setting = setting_of (checked_model c.args.checked.now) c.args.limits in
    let config = config_of c.args.clock c.args.processes.now in
    let s = c.index-senders-pair.result in
    let r = c.index-receivers-pair.result in
    let joins = joins_read setting config c.args.senders.now c.args.receivers.now c.args.pairs.now c.loop-pair.pair-index unread c.loop-pair-test.true s r c.requires.fit c.index-senders-pair.is c.index-receivers-pair.is in
    record {
      processes = c.in_ok-trouble.ensures.unchanged ∙ c.loop-pair.invariant.processes;
      judged = goes_on setting config c.args.senders.now c.args.receivers.now c.args.pairs.now c.loop-pair.pair-index unread c.loop-pair-test.true s r joins c.args.actions.now.items c.loop-pair.actions.items c.add_pair.new.actions.items c.in_ok-trouble.trouble
          (sym c.is_some.ensures ∙ c.if-is_some.false) c.loop-pair.invariant.judged
          (subst (λ (ps : List Process). OfOne setting (config_of c.args.clock ps) s r c.loop-pair.actions.items c.add_pair.new.actions.items c.in_ok-trouble.trouble) c.loop-pair.invariant.processes c.in_ok-trouble.ensures.judged);
    }
