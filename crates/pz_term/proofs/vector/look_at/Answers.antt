use Rattle.std.proofs.Common.{List, OnOk, subst}
use Rattle.pz_bind.specs.pz_classes.CheckedView.{checked_model}
use Rattle.pz_rules.specs.Short.{TimesAreShort}
use Rattle.pz_term_processes.specs.declared.process.Process.{Process}
use Rattle.pz_term_processes.specs.Standing.{setting_of, config_of}
use Rattle.pz_term.proofs.vector.look_at.Goals as goal

pub returns-clause-times : goal.returns-clause-times
returns-clause-times c =
    subst (λ (ps : List Process). OnOk c.look.result (TimesAreShort (setting_of (checked_model c.args.checked.now) c.args.limits) (config_of c.args.clock ps)))
    c.as_mut_slice.ensures.value c.look.ensures.times
