-- A session before its first step, and what was said of it.
use Rattle.std.proofs.Common.{◌≡◌, ◌≢◌, ℕ, List, [], Result, Ok, Err, refl, sym, subst}
use Rattle.pz_io.specs.Outside.{SinkState}
use Rattle.pz_io.specs.declared.writing.Halt.{Halt}
use Rattle.pz_bind.specs.pz_syntax.Classes.{ModelTree}
use Rattle.pz_bind.specs.pz_classes_rules.Soundness.{IsSound}
use Rattle.pz_classes_openings.specs.OpeningRules.{Opens}
use Rattle.pz_term_processes.specs.pz_rules.Settings.{Setting}
use Rattle.pz_sim.specs.pz_term_simulator.Simulations as simulations
use Rattle.pz_sim.specs.pz_term_simulator.Simulations.{Simulation, Starts, setting_in}
use Rattle.pz_debug_session.specs.declared.step.Step.{Step}
use Rattle.pz_debug_session.specs.Laws.{BeginsLow}
use Rattle.pz_debug_replies.specs.Replying.{IsAt, WroteSession}
use Rattle.pz_debug.specs.declared.status.DebugStatus.TheVariants.{Done, WriteFault}
use Rattle.pz_debug.specs.Output.{setting_for, PrintsSession, replies}
use Rattle.pz_debug.specs.devices.Saying.{Says, halted_as}
use Rattle.pz_debug.proofs.Sayings.{said_whole, said_halted}

pub setting_is : (setting : Setting) (s : Simulation) → Starts setting s → setting_in s ≡ setting
setting_is setting _ (simulations.starts c is) = refl

at_start : BeginsLow → (m : ModelTree) (s : Simulation) → IsSound m → Opens m → Starts (setting_for m) s → IsAt [] s
at_start begins m _ sound opens (simulations.starts c is) = record { sound = sound; opens = λ two. opens; place = begins (setting_for m) _ (simulations.starts c is) }

pub is_at : BeginsLow → (m : ModelTree) (xs : List Step) (s : Simulation) → xs ≡ [] → IsSound m → Opens m → Starts (setting_for m) s → IsAt xs s
is_at begins m xs s start_of sound opens started = subst (λ (l : List Step). IsAt l s) (sym start_of) (at_start begins m s sound opens started)

done_ordinary : Done ≢ WriteFault
done_ordinary e = cc

pub says_whole : {A : Type 0} (m : ModelTree) (setting : Setting) (commands : List ℕ) (before now : SinkState) (r : Result A Halt) (done : A) → setting ≡ setting_for m → r ≡ Ok done → WroteSession setting commands before now r → Says (PrintsSession m commands) before now Done
says_whole {A} m setting commands before now r done same is wrote =
    finish (subst (λ (p : Result A Halt). WroteSession (setting_for m) commands before now p) is (subst (λ (u : Setting). WroteSession u commands before now r) same wrote))
  where
    finish : WroteSession (setting_for m) commands before now (let p : Result A Halt = Ok done in p) → Says (PrintsSession m commands) before now Done
    finish y = record { bytes = y.text; wanted = Done; prints = replies y.text y.is_text; said = said_whole before now y.text Done done_ordinary y.wrote }

pub says_halted : {A : Type 0} (m : ModelTree) (setting : Setting) (commands : List ℕ) (before now : SinkState) (r : Result A Halt) (halt : Halt) → setting ≡ setting_for m → r ≡ Err halt → WroteSession setting commands before now r
    → Says (PrintsSession m commands) before now (halted_as halt)
says_halted {A} m setting commands before now r halt same is wrote =
    finish (subst (λ (p : Result A Halt). WroteSession (setting_for m) commands before now p) is (subst (λ (u : Setting). WroteSession u commands before now r) same wrote))
  where
    finish : WroteSession (setting_for m) commands before now (let p : Result A Halt = Err halt in p) → Says (PrintsSession m commands) before now (halted_as halt)
    finish y = record { bytes = y.text; wanted = Done; prints = replies y.text y.is_text; said = said_halted before now y.text Done halt y.wrote }
