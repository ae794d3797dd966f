-- The scope that the code holds.
use Rattle.pz_classes_code.specs.declared.scope.Scope.{Scope}
use Rattle.pz_classes_code.specs.NumberIn.{number_in}
use Rattle.pz_classes_code.specs.Places.{place_in}
use Rattle.pz_classes_code.specs.Resolution as spec

abbrev pub scope_view : Scope → spec.Scope
scope_view s = record {
  locals = number_in s.locals.now;
  shared = place_in s.shared.now.names;
  ports = place_in s.ports.now.names;
  classes = number_in s.classes.now;
}
