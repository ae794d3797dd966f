use Rattle.std.proofs.Common.{◌≡◌, ◌+◌, map, drop}
use Rattle.std.specs.Option.{option_map, option_or}
use Rattle.pz_classes_code.specs.pz_syntax.ClassView.{process_method_view}
use Rattle.pz_classes_rules.specs.Methods.{Signature, process_signature, first_with, method_id}
use Rattle.pz_classes.specs.devices.MethodIn.{method_in}
use Rattle.pz_classes.proofs.methods.process_methods.Given as goal

abbrev pub invariant-loop-method : goal.invariant-loop-method
invariant-loop-method l = record {
  counted : l.named.next ≡ l.first + l.method-index;
  found : (s : Signature) → option_or (method_in l.named s) (option_map method_id (first_with l.named.next s (map process_signature (map process_method_view (drop l.method-index l.methods)))))
      ≡ option_map method_id (first_with l.first s (map process_signature (map process_method_view l.methods)));
}
