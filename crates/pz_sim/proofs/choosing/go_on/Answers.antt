use Rattle.std.proofs.Common.{◌≡◌, List, Result, sym, subst}
use Rattle.std.specs.Prelude.{⊤, OnOk, OnErr}
use Rattle.std.proofs.Math.Logic.{∥∥₁_map}
use Rattle.pz_rules.specs.pz_offer.declared.trouble.Trouble.{Trouble}
use Rattle.pz_sim_totals.specs.Sums.{all}
use Rattle.pz_sim_laws.specs.Deciding.{offers_in}
use Rattle.pz_sim_laws.specs.Leading.{LeadsTo}
use Rattle.pz_tree.specs.declared.tree.Tree.{Tree}
use Rattle.pz_sim.specs.Costs.{TakesSoon}
use Rattle.pz_sim.specs.devices.Acting.{model_at, setting_at, config_at, AreTold, reached}
use Rattle.pz_sim.specs.devices.Holding.{AreTrees}
use Rattle.pz_sim.proofs.Advanced.{kept_anew}
use Rattle.pz_sim.proofs.Communicated.{table_there}
use Rattle.pz_sim.proofs.choosing.go_on.Goals as goal

pub decide-requires : goal.decide-requires
decide-requires g c =
    let s = c.args.scene in
    let t = c.take_kth.new in
    table_there (setting_at s) s.clock t.trees t.totals t.pairs (subst (λ (r : Result ⊤ Trouble). OnOk r (∥ AreTold (setting_at s) s.clock t.trees t.totals t.pairs ∥₁)) c.in-Ok.is c.in_ok-left.ensures.told)

pub returns-in_ok-moment-in-Ok-clause-leads : goal.returns-in_ok-moment-in-Ok-clause-leads
returns-in_ok-moment-in-Ok-clause-leads g c =
    let s = c.args.scene in
    subst (λ (r : Result ⊤ Trouble). ∥ LeadsTo (setting_at s) (config_at s c.args.trees.now) (offers_in (all c.args.totals.now) c.args.pairs.now.pairs) c.args.k (reached (model_at s) s.clock c.take_kth.new.trees r) ∥₁)
    c.in-Ok.is c.in_ok-left.ensures.leads

pub returns-in_ok-moment-in-Ok-clause-holds : goal.returns-in_ok-moment-in-Ok-clause-holds
returns-in_ok-moment-in-Ok-clause-holds g c =
    let s = c.args.scene in
    let t = c.take_kth.new in
    kept_anew (setting_at s) s.clock t.trees t.totals t.pairs c.in_ok-moment-in-Ok.moment
    (subst (λ (r : Result ⊤ Trouble). OnOk r (∥ AreTold (setting_at s) s.clock t.trees t.totals t.pairs ∥₁)) c.in-Ok.is c.in_ok-left.ensures.told) c.in_ok-moment-in-Ok.ensures

pub returns-in-Err-clause-leads : goal.returns-in-Err-clause-leads
returns-in-Err-clause-leads g c =
    let s = c.args.scene in (
      subst (λ (r : Result ⊤ Trouble). ∥ LeadsTo (setting_at s) (config_at s c.args.trees.now) (offers_in (all c.args.totals.now) c.args.pairs.now.pairs) c.args.k (reached (model_at s) s.clock c.take_kth.new.trees r) ∥₁)
          c.in-Err.is c.in_ok-left.ensures.leads,
      subst (λ (r : Result ⊤ Trouble). OnErr r (c.take_kth.new.trees ≡ c.args.trees.now)) c.in-Err.is c.in_ok-left.ensures.unchanged,
    )

pub returns-in-Err-clause-holds : goal.returns-in-Err-clause-holds
returns-in-Err-clause-holds g c =
    let s = c.args.scene in
    subst (λ (ts : List Tree). ∥ AreTrees (setting_at s) s.clock ts ∥₁)
    (sym (subst (λ (r : Result ⊤ Trouble). OnErr r (c.take_kth.new.trees ≡ c.args.trees.now)) c.in-Err.is c.in_ok-left.ensures.unchanged))
    (∥∥₁_map c.requires.told (λ k. k.are_trees))

pub returns-in_ok-moment-in-Ok-clause-ticks : goal.returns-in_ok-moment-in-Ok-clause-ticks
returns-in_ok-moment-in-Ok-clause-ticks g c =
    let s = c.args.scene in
    let t = c.take_kth.new in
    subst (λ (r : Result ⊤ Trouble). OnOk r (∥ TakesSoon (setting_at s) s.clock c.args.k c.args.trees.now t.trees t.pairs.pairs c.args.steps.now t.steps ∥₁)) c.in-Ok.is c.in_ok-left.ensures.ticks
