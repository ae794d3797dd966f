use Rattle.std.proofs.Common.{[]}
use Rattle.pz_classes.specs.pz_classes_rules.Members.{own_variables, own_ports, section}
use Rattle.pz_classes.specs.pz_classes_rules.CallRules.{own_messages}
use Rattle.pz_check_names.specs.devices.Inherited.{of_each, own_methods, own_starts}
use Rattle.pz_check_names.proofs.inherited.Inherited.note_process.Goals as goal

pub returns : goal.returns
returns c = λ outer shown.
    let class = c.args.class.now in
    let parameters = c.in_ok-note_section.ensures [] (of_each own_variables outer) shown.variables in
    record {
      fields = shown.fields;
      variables = c.in_ok-note_section-2.ensures (section class.parameters) (of_each own_variables outer) parameters;
      ports = c.in_ok-note_optional.ensures [] (of_each own_ports outer) shown.ports;
      messages = c.in_ok-note_messages.ensures [] (of_each own_messages outer) shown.messages;
      methods = c.in_ok-note_methods.ensures [] (of_each own_methods outer) shown.methods;
      starts = c.in_ok-note_start.ensures (of_each own_starts outer) shown.starts;
    }
