-- Of which processes variables are shown.
use Rattle.std.proofs.Common.{◌≡◌, ◌<◌, ℕ, length, arith}
use Rattle.std.proofs.Math.Logic.{∥∥₁_elim}
use Rattle.std.proofs.Math.Nat.{ℕ_set}
use Rattle.pz_rules.specs.pz_syntax.Classes.{ModelTree}
use Rattle.pz_rules.specs.pz_bind_rules.Nest.{processes}
use Rattle.pz_bind.specs.declared.net.Net.{Net}
use Rattle.pz_bind.specs.devices.Nets.{IsNet}
use Rattle.pz_rules.specs.declared.moment.Moment.{Moment}
use Rattle.pz_rules.specs.declared.moment.Moment.TheVariants.{Broken}
use Rattle.pz_sim.specs.pz_term_simulator.Simulations.{Simulation, stands, broken, IsMomentOf, model_in}
use Rattle.pz_sim.specs.pz_term_simulator.Shown.{CanShow}

pub can_show : (s : Simulation) (m : Moment) (net : Net) (i count : ℕ) → IsMomentOf s m → (m ≡ Broken → ⊥) → ∥ IsNet (model_in s) net ∥₁ → ((model : ModelTree) → IsNet model net → count ≡ length (processes model)) → i < count → CanShow s i
can_show (stands setting c standing) m net i count is other known counted within =
    let same : count ≡ length (processes setting.model) = ∥∥₁_elim known (ℕ_set count (length (processes setting.model))) (counted setting.model) in
    omega (arith, within, same)
can_show (broken setting) m net i count is other known counted within = absurd (other is)
