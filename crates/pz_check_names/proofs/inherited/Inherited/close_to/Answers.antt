use Rattle.pz_classes.specs.pz_classes_rules.Members.{own_fields, own_variables, own_ports}
use Rattle.pz_classes.specs.pz_classes_rules.CallRules.{own_messages}
use Rattle.pz_check_names.specs.devices.Inherited.{own_methods, own_starts}
use Rattle.pz_check_names.proofs.Along.{each_closed}
use Rattle.pz_check_names.proofs.inherited.Inherited.close_to.Goals as goal

pub returns : goal.returns
returns c = λ decls shown.
    let depth = c.args.depth in
    record {
      fields = each_closed _ _ own_fields depth decls _ _ c.close_to.ensures.closed shown.fields;
      variables = each_closed _ _ own_variables depth decls _ _ c.close_to-2.ensures.closed shown.variables;
      ports = each_closed _ _ own_ports depth decls _ _ c.close_to-3.ensures.closed shown.ports;
      messages = each_closed _ _ own_messages depth decls _ _ c.close_to-4.ensures.closed shown.messages;
      methods = each_closed _ _ own_methods depth decls _ _ c.close_to-5.ensures.closed shown.methods;
      starts = each_closed _ _ own_starts depth decls _ _ c.close_to-6.ensures.closed shown.starts;
    }
