use Rattle.std.proofs.Math.Logic.{∥∥₁_map}
use Rattle.pz_sim.specs.devices.Acting.{model_at}
use Rattle.pz_sim.proofs.Outcomes.{on_any}
use Rattle.pz_sim.proofs.Told.{tells_within, tells_fresh}
use Rattle.pz_sim.proofs.Renewed.{counted_anew}
use Rattle.pz_sim.proofs.acting.renew.Goals as goal

pub bounds-trees-process : goal.bounds-trees-process
bounds-trees-process g c = tells_within (model_at c.args.scene) c.args.scene.clock c.args.trees.now c.args.pairs.now c.args.process c.requires.can

pub total_in-total-requires : goal.total_in-total-requires
total_in-total-requires g c = record {
  fresh = ∥∥₁_map (tells_fresh (model_at c.args.scene) c.args.scene.clock c.args.trees.now c.args.pairs.now c.args.process c.index-trees-process.result c.requires.can) (λ fresh. (model_at c.args.scene, fresh));
}

pub returns-clause-totals : goal.returns-clause-totals
returns-clause-totals g c tree is fresh same_clock =
    on_any c.tell.result
    (counted_anew (model_at c.args.scene) c.args.scene.clock c.args.trees.now c.args.process c.index-trees-process.result tree c.total_in-total.result c.args.totals.now c.set.new.self is fresh same_clock c.total_in-total.ensures.total c.in_ok-set.ensures.ok)
