use Rattle.std.proofs.Common.{◌+◌, List, ℕ, sym, subst, arith}
use Rattle.pz_sim.specs.devices.Acting.{model_at}
use Rattle.pz_sim.specs.devices.Passing.{AreSilenced}
use Rattle.pz_sim.proofs.Quieted.{next_fresh, silent_so, passed_over, silent_free, silent_now}
use Rattle.pz_sim.proofs.passing.silence_clocked.Goals as goal

pub names_clock-requires : goal.names_clock-requires
names_clock-requires g c = record {
  fresh = next_fresh (model_at c.args.scene) c.args.scene.clock c.args.process c.args.trees.now c.args.pairs.now c.args.named.now.items c.requires.within c.requires.silent c.index-trees-process.result;
}

pub silence-requires : goal.silence-requires
silence-requires g c = silent_so (model_at c.args.scene) c.args.scene.clock c.args.process c.args.trees.now c.args.pairs.now c.args.named.now.items c.requires.within c.requires.silent

pub returns-then-not-names_clock-clause-silent : goal.returns-then-not-names_clock-clause-silent
returns-then-not-names_clock-clause-silent g c =
    passed_over (model_at c.args.scene) c.args.scene.clock c.args.process c.args.trees.now c.args.pairs.now c.args.named.now.items c.requires.within c.requires.silent c.index-trees-process.result c.names_clock.result c.names_clock.ensures.names
    c.if-not-names_clock.true

pub returns-clause-silent : goal.returns-clause-silent
returns-clause-silent g c =
    subst (λ (ns : List ℕ). ∥ AreSilenced (model_at c.args.scene) c.args.scene.clock (c.args.process + 1) c.args.trees.now c.silence.new.pairs ns ∥₁) (sym c.in_ok-push.ensures.items)
    (silent_now (model_at c.args.scene) c.args.scene.clock c.args.process c.args.trees.now c.args.pairs.now c.args.named.now.items c.requires.within c.requires.silent c.index-trees-process.result c.names_clock.result c.names_clock.ensures.names
    c.if-not-names_clock.false c.silence.new.pairs (λ hs h is heard table. c.in_ok-silence.ensures.table hs h is heard table))

pub returns-clause-ticks : goal.returns-clause-ticks
returns-clause-ticks g c =
    let free =
    silent_free (model_at c.args.scene) c.args.scene.clock c.args.process c.args.trees.now c.args.pairs.now c.args.named.now.items c.requires.within c.requires.silent c.index-trees-process.result c.names_clock.result c.names_clock.ensures.names
    c.if-not-names_clock.false c.silence.new.pairs (λ hs h is heard table. c.in_ok-silence.ensures.table hs h is heard table) in
    omega (arith, c.in_ok-silence.ensures.ticks, free)
