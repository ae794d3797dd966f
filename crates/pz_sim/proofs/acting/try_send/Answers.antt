use Rattle.std.proofs.Common.{◌≤◌, ◌+◌, ◌*◌, subst}
use Rattle.std.specs.Prelude.{OnOk}
use Rattle.std.proofs.lemmas.Option.{get_or_from_slice_get}
use Rattle.std.proofs.Math.Logic.{∥∥₁_elim, ∥∥₁_map}
use Rattle.std.proofs.Math.Nat.{ℕ_set}
use Rattle.pz_tree.specs.Deeds.{CanSend}
use Rattle.pz_rules.specs.pz_copy.Parcels.{ParcelView}
use Rattle.pz_tree.specs.pz_tree_regrowing.Costs.{on_way}
use Rattle.pz_tree.specs.declared.tree.Tree.{Tree}
use Rattle.pz_tree.specs.Trees.{term_in}
use Rattle.pz_sim.specs.devices.Acting.{model_at, setting_at, MayAct}
use Rattle.pz_sim.proofs.Acted.{some_within, some_read, some_rounds, has_tried}
use Rattle.pz_sim.proofs.acting.try_send.Goals as goal

pub bounds-trees-at : goal.bounds-trees-at
bounds-trees-at g c = some_within (setting_at c.args.scene) c.args.scene.clock CanSend c.args.trees.now c.args.at.now c.requires.may

pub trial-requires-clause-fresh : goal.trial-requires-clause-fresh
trial-requires-clause-fresh g c = ∥∥₁_map (some_read (setting_at c.args.scene) c.args.scene.clock CanSend c.args.trees.now c.args.at.now c.requires.may c.index-trees-at.result) (λ x. x.1.fresh)

pub trial-requires-clause-clock : goal.trial-requires-clause-clock
trial-requires-clause-clock g c = ∥∥₁_elim (some_read (setting_at c.args.scene) c.args.scene.clock CanSend c.args.trees.now c.args.at.now c.requires.may c.index-trees-at.result) (ℕ_set _ _) (λ x. x.1.same_clock)

pub trial-requires-clause-fits : goal.trial-requires-clause-fits
trial-requires-clause-fits g c = ∥∥₁_map (some_read (setting_at c.args.scene) c.args.scene.clock CanSend c.args.trees.now c.args.at.now c.requires.may c.index-trees-at.result) (λ x. x.1.fits)

pub trial-requires-clause-rounds : goal.trial-requires-clause-rounds
trial-requires-clause-rounds g c = some_rounds (setting_at c.args.scene) c.args.scene.clock CanSend c.args.trees.now c.args.at.now c.requires.may c.index-trees-at.result c.requires.rounds

pub trial-requires-clause-can : goal.trial-requires-clause-can
trial-requires-clause-can g c = ∥∥₁_map (some_read (setting_at c.args.scene) c.args.scene.clock CanSend c.args.trees.now c.args.at.now c.requires.may c.index-trees-at.result) (λ x. (x.0, x.1.it_can))

pub returns-clause-answers : goal.returns-clause-answers
returns-clause-answers g c = has_tried (setting_at c.args.scene) c.args.scene.clock c.args.trees.now c.args.at.now c.requires.may c.index-trees-at.result c.trial.result c.trial.ensures.answers

pub returns-clause-ticks : goal.returns-clause-ticks
returns-clause-ticks g c t t_is =
    subst (λ (x : Tree). (parcel : ParcelView) → MayAct (model_at c.args.scene) c.args.scene.clock (CanSend parcel) x c.args.at.now.place → OnOk c.trial.result (c.trial.new.steps ≤ c.args.steps.now + 5 * on_way (term_in x) c.args.at.now.place))
    (get_or_from_slice_get c.args.trees.now c.args.at.now.process t c.index-trees-at.result t_is) (λ parcel may. c.trial.ensures.ticks parcel may.fresh may.it_can)
