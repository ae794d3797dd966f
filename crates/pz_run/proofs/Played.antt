-- What was said of a run that was played.
use Rattle.std.proofs.Common.{◌≡◌, ◌≢◌, ◌∙◌, Result, Ok, Err, sym, subst, ap}
use Rattle.pz_io.specs.Outside.{SinkState}
use Rattle.pz_io.specs.declared.writing.Halt.{Halt}
use Rattle.pz_bind.specs.pz_syntax.Classes.{ModelTree}
use Rattle.pz_run_output.specs.pz_trace.pz_rules.Runs.{Ending, ended, deadlocked, troubled, halted, refused}
use Rattle.pz_sim.specs.pz_term_simulator.Simulations.{Simulation}
use Rattle.pz_run_output.specs.pz_env_closing.pz_run_playing.declared.finale.Finale.{Finale}
use Rattle.pz_run_output.specs.pz_env_closing.pz_run_playing.Playing.{Plays}
use Rattle.pz_run_output.specs.declared.play.Play.{Play}
use Rattle.pz_run_output.specs.declared.status.Status.{Status}
use Rattle.pz_run_output.specs.declared.status.Status.TheVariants.{WriteFault}
use Rattle.pz_run_output.specs.Plays.{told_of, setting_for, policy_for}
use Rattle.pz_run_output.specs.Status.{status_of}
use Rattle.pz_run_output.specs.Output.{PrintsRun, plays}
use Rattle.pz_run_output.specs.devices.Halting.{given_as}
use Rattle.pz_run_output.specs.devices.Saying.{Said, Says}
use Rattle.pz_run_output.proofs.Sayings.{said_whole, said_halted}

pub ordinary : (ending : Ending) → status_of ending ≢ WriteFault
ordinary ended is = cc
ordinary deadlocked is = cc
ordinary (troubled trouble) is = cc
ordinary halted is = cc
ordinary (refused entry count) is = cc

module _ (p : Play) (m : ModelTree) (t : Simulation) (before now : SinkState) where
  pub says_run : (r : Result Finale Halt) (given : Status) → given ≡ given_as r → Plays (setting_for m p) (policy_for p) (told_of p.telling) t before now r → Says (PrintsRun p m) before now given
  says_run (Ok finale) given is played =
      let same : given ≡ status_of played.run.ending = is ∙ ap status_of played.finale in
      record {
        bytes = played.text;
        wanted = status_of played.run.ending;
        prints = plays played.run played.text played.tells;
        said = subst (λ (s : Status). Said before now played.text (status_of played.run.ending) s) (sym same)
            (said_whole before now played.text (status_of played.run.ending) (ordinary played.run.ending) played.wrote);
      }
  says_run (Err halt) given is played = record {
    bytes = played.text;
    wanted = status_of played.run.ending;
    prints = plays played.run played.text played.tells;
    said = subst (λ (s : Status). Said before now played.text (status_of played.run.ending) s) (sym is)
        (said_halted before now played.text (status_of played.run.ending) halt played.wrote);
  }
