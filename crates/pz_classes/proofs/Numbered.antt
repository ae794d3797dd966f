-- The methods of classes, numbered through.
use Rattle.std.proofs.Common.{◌≡◌, sym, ap, ◌∙◌, ℕ, ◌+◌, List, [], length}
use Rattle.std.specs.Option.{option_map, option_map_or}
use Rattle.pz_classes_code.specs.pz_syntax.Classes.{ModelTree}
use Rattle.pz_classes.specs.declared.method_index.Methods.{Methods}
use Rattle.pz_classes_rules.specs.Numbers.{declaration}
use Rattle.pz_classes_rules.specs.Methods.{Signature, signatures, first_with, method_id, methods_before}
use Rattle.pz_classes_rules.proofs.Within.{methods}
use Rattle.pz_classes.specs.devices.MethodIn.{HasMethods, HasMethodsOf}
use Rattle.pz_classes_rules.proofs.MethodCounts.{methods_after}

-- a class that declares these methods
pub declares : (m : ModelTree) (c : ℕ) (ss : List Signature) (named : Methods) → ss ≡ option_map_or signatures (declaration m c) [] → HasMethods (methods_before m c) ss named → HasMethodsOf m c named
declares m c ss named are has = record {
  each = λ s. has.each s ∙ ap (λ (ts : List Signature). option_map method_id (first_with (methods_before m c) s ts)) are;
  next = has.next ∙ ap (λ (ts : List Signature). methods_before m c + length ts) are ∙ sym (methods_after m c);
}
