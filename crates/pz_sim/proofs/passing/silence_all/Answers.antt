use Rattle.std.proofs.Common.{◌≡◌, ◌∙◌, ◌+◌, ℕ, List, length, refl, sym, ap, subst, arith}
use Rattle.pz_sim.specs.devices.Acting.{model_at}
use Rattle.pz_sim.specs.devices.Passing.{AreSilenced}
use Rattle.pz_tree.specs.declared.tree.Tree.{Tree}
use Rattle.pz_sim.proofs.passing.silence_all.Goals as goal

pub loop-process-init : goal.loop-process-init
loop-process-init g c = record {
  trees = refl;
  silent = subst (λ (ns : List ℕ). ∥ AreSilenced (model_at c.args.scene) c.args.scene.clock 0 c.args.trees.now c.args.pairs.now ns ∥₁) (sym c.new-named.ensures.items) c.requires.silent;
  ticks = refl;
}

pub silence_clocked-requires-clause-within : goal.silence_clocked-requires-clause-within
silence_clocked-requires-clause-within g c =
    let same = ap (λ (ts : List Tree). length ts) c.loop-process.invariant.trees in
    omega (arith, same, c.requires.count, c.loop-process-test.true)

pub silence_clocked-requires-clause-silent : goal.silence_clocked-requires-clause-silent
silence_clocked-requires-clause-silent g c =
    subst (λ (ts : List Tree). ∥ AreSilenced (model_at c.args.scene) c.args.scene.clock c.loop-process.process ts c.loop-process.pairs c.loop-process.named.items ∥₁) (sym c.loop-process.invariant.trees) c.loop-process.invariant.silent

pub loop-process-preserved : goal.loop-process-preserved
loop-process-preserved g c = record {
  trees = c.in_ok-silence_clocked.ensures.trees ∙ c.loop-process.invariant.trees;
  silent = subst (λ (ts : List Tree). ∥ AreSilenced (model_at c.args.scene) c.args.scene.clock (c.loop-process.process + 1) ts c.silence_clocked.new.pairs c.silence_clocked.new.named.items ∥₁) c.loop-process.invariant.trees
      c.in_ok-silence_clocked.ensures.silent;
  ticks = c.in_ok-silence_clocked.ensures.ticks ∙ c.loop-process.invariant.ticks;
}

pub returns-clause-silent : goal.returns-clause-silent
returns-clause-silent g c =
    let done : c.loop-process.process ≡ c.args.count = omega (arith, c.loop-process.auto.process-end, c.loop-process-test.false) in
    subst (λ (n : ℕ). ∥ AreSilenced (model_at c.args.scene) c.args.scene.clock n c.args.trees.now c.loop-process.pairs c.loop-process.named.items ∥₁) done c.loop-process.invariant.silent

pub returns-clause-trees : goal.returns-clause-trees
returns-clause-trees g c = c.loop-process.invariant.trees

pub returns-clause-ticks : goal.returns-clause-ticks
returns-clause-ticks g c = c.loop-process.invariant.ticks
