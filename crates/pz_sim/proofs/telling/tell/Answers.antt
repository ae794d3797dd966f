use Rattle.std.proofs.Common.{◌≡◌, List, Some, sym, subst}
use Rattle.std.specs.Prelude.{slice_get}
use Rattle.std.proofs.Math.Logic.{∥∥₁_elim, ∥∥₁_map}
use Rattle.pz_bind.specs.pz_classes.CheckedView.{checked_model}
use Rattle.pz_tree.specs.declared.tree.Tree.{Tree}
use Rattle.pz_sim.specs.devices.Tables.{AreHeardBut}
use Rattle.pz_sim.proofs.Told.{tells_within, tells_fresh, as_it_was, still_fresh, speaks_then}
use Rattle.pz_sim.proofs.telling.tell.Goals as goal

pub bounds-trees-process : goal.bounds-trees-process
bounds-trees-process g c = tells_within (checked_model c.args.checked.now) c.args.clock c.args.trees.now c.args.pairs.now c.args.process c.requires.can

pub sends-requires-clause-fresh : goal.sends-requires-clause-fresh
sends-requires-clause-fresh g c = tells_fresh (checked_model c.args.checked.now) c.args.clock c.args.trees.now c.args.pairs.now c.args.process c.index-trees-process.result c.requires.can

pub receives-requires-clause-fresh : goal.receives-requires-clause-fresh
receives-requires-clause-fresh g c =
    still_fresh (checked_model c.args.checked.now) c.args.clock c.args.trees.now c.args.pairs.now c.args.process c.index-trees-process.result c.sends.new.self c.in_ok-sends.ensures.unchanged c.requires.can

pub speak-requires : goal.speak-requires
speak-requires g c =
    ∥∥₁_elim c.requires.of_model squash₁ (λ net. ∥∥₁_map c.requires.can (λ x.
    speaks_then (checked_model c.args.checked.now) c.args.clock c.args.trees.now c.args.pairs.now c.args.process c.index-trees-process.result c.sends.new.self c.in_ok-sends.ensures.unchanged c.walks_list_what_is_active.ensures.receives
    c.in_ok-sends.sends.items c.in_ok-receives.receives.items x (λ fresh fits. c.in_ok-sends.ensures.offers fresh net fits) (λ fresh fits. c.in_ok-receives.ensures.offers fresh net fits)))

pub returns-clause-table : goal.returns-clause-table
returns-clause-table g c net hs tree is heard table can =
    let m = checked_model c.args.checked.now in
    let was = as_it_was m c.args.clock c.args.trees.now c.args.pairs.now c.args.process c.index-trees-process.result c.sends.new.self c.in_ok-sends.ensures.unchanged in
    c.speak.ensures.table hs tree (subst (λ (us : List Tree). slice_get us c.args.process ≡ Some tree) (sym was) is) (subst (λ (us : List Tree). AreHeardBut m c.args.clock us c.args.process hs) (sym was) heard)
    (speaks_then m c.args.clock c.args.trees.now c.args.pairs.now c.args.process c.index-trees-process.result c.sends.new.self c.in_ok-sends.ensures.unchanged c.walks_list_what_is_active.ensures.receives
    c.in_ok-sends.sends.items c.in_ok-receives.receives.items can (λ fresh fits. c.in_ok-sends.ensures.offers fresh net fits) (λ fresh fits. c.in_ok-receives.ensures.offers fresh net fits)) table
