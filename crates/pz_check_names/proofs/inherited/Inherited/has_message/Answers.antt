use Rattle.std.proofs.Common.{◌∙◌, map}
use Rattle.pz_classes.specs.pz_classes_rules.Numbers.{declaration}
use Rattle.pz_classes.specs.pz_classes_rules.CallRules.{is_message, own_messages}
use Rattle.pz_check_names.specs.devices.Inherited.{of_each}
use Rattle.pz_check_names.proofs.Shown.{value_shown}
use Rattle.pz_check_names.proofs.Along.{things_along}
use Rattle.pz_check_names.proofs.inherited.Inherited.has_message.Goals as goal

pub returns : goal.returns
returns c = λ m line shown.
    let made = c.new-sought.ensures in
    let found = c.is_some.ensures ∙ value_shown _ _ (of_each own_messages (map (declaration m) line)) c.args.self.now.messages c.new-sought.result shown.messages c.get.result c.get.ensures.value in
    (rw (made.on, made.directed, made.named, made.counted) at found)
    ∙ things_along m own_messages (is_message c.args.port.now c.args.out c.args.name.now c.args.count) line
