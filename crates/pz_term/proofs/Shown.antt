-- The moment and the offers of a simulator.
use Rattle.std.proofs.Common.{◌≡◌, ℕ, List, Some, refl, sym, ap}
use Rattle.std.specs.Prelude.{slice_get}
use Rattle.pz_rules.specs.declared.action.Action.{Action}
use Rattle.pz_rules.specs.declared.moment.Moment.TheVariants.{Actions, Stopped, Broken}
use Rattle.pz_rules.specs.Settings.{Setting}
use Rattle.pz_term_processes.specs.declared.process.Process.{Process}
use Rattle.pz_term.specs.declared.standing.Standing.{Standing}
use Rattle.pz_term.specs.declared.standing.Standing.TheVariants as standing
use Rattle.pz_term.specs.declared.plain.Plain.{Plain}
use Rattle.pz_term_simulator.specs.Simulations as simulations
use Rattle.pz_term_simulator.specs.Simulations.{Simulation, IsMomentOf, AreOffersOf, IsOffer, setting_in, model_in, limits_in}
use Rattle.pz_term.specs.Plains.{simulation_at, simulation_of, model_of}

-- the setting of a plain simulator
setting_at : (setting : Setting) (clock : ℕ) (ps : List Process) (x : Standing) → setting_in (simulation_at setting clock ps x) ≡ setting
setting_at setting clock ps (standing.Whole outlook) = refl
setting_at setting clock ps (standing.High trouble) = refl
setting_at setting clock ps (standing.Stopped trouble) = refl
setting_at setting clock ps standing.Broken = refl

pub model_is : (p : Plain) → model_of p ≡ model_in (simulation_of p)
model_is p = ap (λ (setting : Setting). setting.model) (sym (setting_at _ p.clock p.processes.items p.standing))

pub limits_are : (p : Plain) → p.limits ≡ limits_in (simulation_of p)
limits_are p = ap (λ (setting : Setting). setting.limits) (sym (setting_at _ p.clock p.processes.items p.standing))

-- an offer of the list is that of its number
pub offer_of_list : (s : Simulation) (offers : List Action) (n k : ℕ) (a : Action) → AreOffersOf s offers → IsMomentOf s (Actions n) → slice_get offers k ≡ Some a → IsOffer s k a
offer_of_list _ offers n k a (simulations.some setting c m _ is are) now chosen = record { offers = offers; all = are; chosen = chosen }
offer_of_list _ _ n k a (simulations.none s never) now chosen = absurd (never n now)
