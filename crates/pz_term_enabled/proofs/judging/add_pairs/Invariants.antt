use Rattle.std.proofs.Common.{◌≡◌, take}
use Rattle.pz_bind.specs.pz_classes.CheckedView.{checked_model}
use Rattle.pz_term_processes.specs.Standing.{setting_of, config_of}
use Rattle.pz_term_enabled.specs.devices.Judged.{AddsAll}
use Rattle.pz_term_enabled.proofs.judging.add_pairs.Given as goal

abbrev pub invariant-loop-pair : goal.invariant-loop-pair
invariant-loop-pair l = record {
  processes : l.processes ≡ l.initial.processes;
  judged : AddsAll (setting_of (checked_model l.checked) l.limits) (config_of l.clock l.initial.processes) l.senders l.receivers (take l.pair-index l.pairs) l.initial.actions.items l.actions.items;
}
