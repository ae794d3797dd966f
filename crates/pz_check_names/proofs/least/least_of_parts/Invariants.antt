use Rattle.std.proofs.Common.{◌≡◌, drop}
use Rattle.pz_check_violations.specs.Least.{least_from}
use Rattle.pz_check_names.specs.devices.Scopes.{model_of, decl_of}
use Rattle.pz_check_names.specs.devices.Misuses.{of_parts}
use Rattle.pz_check_names.proofs.least.least_of_parts.Given as goal

abbrev pub invariant-loop-part : goal.invariant-loop-part
invariant-loop-part l = least_from l.least (of_parts (model_of l.declared) l.scope.class.0 (decl_of l.scope) (drop l.part-index l.parts))
    ≡ least_from l.fn.before (of_parts (model_of l.declared) l.scope.class.0 (decl_of l.scope) l.parts)
