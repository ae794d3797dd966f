use Rattle.std.proofs.Common.{refl, sym, subst, ℕ, suc, ◌+◌, List, [], get_or, arith}
use Rattle.pz_classes.specs.pz_classes_rules.Ancestors.{ancestors}
use Rattle.pz_classes_lineage.specs.declared.visit.Visit.{Visit}
use Rattle.pz_check_names.specs.devices.Inherited.{IsOpen}
use Rattle.pz_check_names.specs.devices.Scopes.{model_of}
use Rattle.pz_check_names.proofs.Walks.{visits_step, found_step}
use Rattle.pz_check_names.proofs.least.least_of_each.Goals as goal

pub loop-visit-init : goal.loop-visit-init
loop-visit-init c = record {
  opened = ([], c.requires.empty, c.requires.opens);
  found = refl;
}

pub least_of_class-requires-clause-opened : goal.least_of_class-requires-clause-opened
least_of_class-requires-clause-opened c =
    let m = model_of c.args.declared.now in
    let was = c.loop-visit.invariant.opened in
    let next = visits_step m c.args.visits.now (record { class = 0; depth = 0 }) c.loop-visit.visit-index (suc c.loop-visit.visit-index) c.loop-visit-test.true refl was.0 was.2 in
    subst (λ (line : List ℕ). IsOpen m line c.enter.new.self) (sym next.1) (c.in_ok-enter.ensures was.0 was.1)

pub loop-visit-preserved : goal.loop-visit-preserved
loop-visit-preserved c =
    let m = model_of c.args.declared.now in
    let visits = c.args.visits.now in
    let i = c.loop-visit.visit-index in
    let none : Visit = record { class = 0; depth = 0 } in
    let was = c.loop-visit.invariant.opened in
    let next = visits_step m visits none i (i + 1) c.loop-visit-test.true (omega arith) was.0 was.2 in
    let opened = subst (λ (line : List ℕ). IsOpen m line c.enter.new.self) (sym next.1) (c.in_ok-enter.ensures was.0 was.1) in
    record {
      opened = (ancestors m (get_or visits i none).class, opened, next.2);
      found = found_step m visits none i _ c.loop-visit-test.true (omega arith) _ _ _ c.in_ok-least.ensures c.loop-visit.invariant.found;
    }
