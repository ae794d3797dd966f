-- What was said of a run that a script drives.
use Rattle.std.proofs.Common.{◌≡◌, inr, ◌∙◌, ◌≤◌, ℕ, List, Result, Ok, Err, refl, sym, subst, ap, arith}
use Rattle.pz_io.specs.Outside.{SinkState}
use Rattle.pz_io.specs.declared.writing.Halt.{Halt}
use Rattle.pz_bind.specs.pz_syntax.Classes.{ModelTree}
use Rattle.pz_run_output.specs.pz_trace.pz_rules.declared.limits.Limits.{Limits}
use Rattle.pz_run_output.specs.pz_trace.declared.forms.Form.TheVariants.{Three}
use Rattle.pz_run_output.specs.pz_trace.Forms.{limits_of}
use Rattle.pz_run_output.specs.pz_env_closing.pz_env_script.declared.entry.Entry.{Entry}
use Rattle.pz_run_output.specs.pz_env_closing.pz_env_script.Laws.{IsOneScript, IsNeverBoth}
use Rattle.pz_run_output.specs.pz_env_closing.pz_env_rules.Text.{drive_header}
use Rattle.pz_run_output.specs.pz_env_closing.pz_env_tree.ClosedTree.{closed_tree}
use Rattle.pz_run_output.specs.pz_env_closing.pz_env_tree.Refusals.{IsFirstRefused}
use Rattle.pz_run_output.specs.pz_env_closing.pz_env_sound.MayClose.{MayClose}
use Rattle.pz_run_output.specs.pz_env_closing.pz_env_mimics.Closing.{MayDrive}
use Rattle.pz_run_output.specs.pz_env_closing.Laws.{ClosedRunsAreDriven, OneDrivenEnding}
use Rattle.pz_sim.specs.pz_term_simulator.Simulations.{Simulation}
use Rattle.pz_run_output.specs.pz_env_closing.pz_run_playing.declared.finale.Finale.{Finale}
use Rattle.pz_run_output.specs.pz_env_closing.pz_run_playing.RunText.{text_under}
use Rattle.pz_run_output.specs.pz_env_closing.pz_run_playing.Playing.{PlaysUnder}
use Rattle.pz_run_output.specs.pz_run_lines.Lines.{script_refused_line}
use Rattle.pz_run_output.specs.declared.play.Play.{Play}
use Rattle.pz_run_output.specs.declared.status.Status.{Status}
use Rattle.pz_run_output.specs.declared.status.Status.TheVariants.{ScriptRefused}
use Rattle.pz_run_output.specs.Plays.{setting_for, policy_for, DrivenRunOf}
use Rattle.pz_run_output.specs.Scripts.{IsScriptFor, IsScriptRefused, malformed, unfit}
use Rattle.pz_run_output.specs.Status.{status_of}
use Rattle.pz_run_output.specs.Output.{PrintsDriven, no_script, drives}
use Rattle.pz_run_output.specs.devices.Halting.{given_as}
use Rattle.pz_run.specs.devices.Driving.{IsSmallOpen, PrintsScript, PrintsClosedRun, plays}
use Rattle.pz_run_output.specs.devices.Saying.{Said, Says, Answers}
use Rattle.pz_run.proofs.Played.{ordinary}
use Rattle.pz_run_output.proofs.Sayings.{said_whole, said_halted, answers_by}

-- ---- of a closed model

module _ (p : Play) (m : ModelTree) (t : Simulation) (before now : SinkState) where
  pub says_closed : (r : Result Finale Halt) (given : Status) → given ≡ given_as r → PlaysUnder (setting_for m p) (policy_for p) (drive_header p.limits.units) t before now r
      → Says (PrintsClosedRun p m) before now given
  says_closed (Ok finale) given is played =
      let text = text_under (drive_header p.limits.units) m played.run.events played.run.end.clock played.run.ending in
      let wanted = status_of played.run.ending in
      let same : given ≡ wanted = is ∙ ap status_of played.finale in
      record {
        bytes = text;
        wanted = wanted;
        prints = plays played.run;
        said = subst (λ (s : Status). Said before now text wanted s) (sym same) (said_whole before now text wanted (ordinary played.run.ending) played.wrote);
      }
  says_closed (Err halt) given is played =
      let text = text_under (drive_header p.limits.units) m played.run.events played.run.end.clock played.run.ending in
      let wanted = status_of played.run.ending in
      record {
        bytes = text;
        wanted = wanted;
        prints = plays played.run;
        said = subst (λ (s : Status). Said before now text wanted s) (sym is) (said_halted before now text wanted halt played.wrote);
      }

-- ---- of a model and a script

abbrev pub drive_limits : Play → Limits
drive_limits p = limits_of (Three p.limits.units) p.limits.units

pub may_drive : (p : Play) → 1 ≤ p.limits.units → MayDrive (drive_limits p)
may_drive p some = record { edition = refl; units = some; depth = omega arith; height = omega arith }

pub may_close : (m : ModelTree) (file : List ℕ) (script : List Entry) → IsSmallOpen m → IsScriptFor m file script → MayClose m script
may_close m file script is fits = record { sound = is.sound; opens = is.opens; few = let small = is.small in omega (arith, small); written = ∣ (file, fits.is_script) ∣₁; unrefused = fits.fits }

module _ (drives_so : ClosedRunsAreDriven) (p : Play) (some : 1 ≤ p.limits.units) (m : ModelTree) (file : List ℕ) (script : List Entry) (model : IsSmallOpen m) (fits : IsScriptFor m file script) where
  driven_print : (bytes : List ℕ) (status : Status) → PrintsClosedRun p (closed_tree m script) bytes status → PrintsDriven p m file bytes status
  driven_print _ _ (plays run) =
      let x = drives_so m script (drive_limits p) (policy_for p) (may_close m file script model fits) (file, fits.is_script) (may_drive p some) run in
      subst (λ (s : Status). PrintsDriven p m file (text_under (drive_header p.limits.units) (closed_tree m script) run.events run.end.clock run.ending) s) (ap status_of x.1.ending)
      (subst (λ (bytes : List ℕ). PrintsDriven p m file bytes (status_of x.0.ending)) x.1.text (drives script x.0 fits))

  pub driven_said : (before now : SinkState) (given : Status) → Answers (PrintsClosedRun p (closed_tree m script)) before now given → Answers (PrintsDriven p m file) before now given
  driven_said before now given answers = answers_by (PrintsClosedRun p (closed_tree m script)) (PrintsDriven p m file) driven_print before now given answers

-- the file is no script, or one that cannot drive the system
pub no_script_said : (p : Play) (m : ModelTree) (file : List ℕ) (before now : SinkState) (line : ℕ) (given : Status) → IsScriptRefused m file line → Said before now (script_refused_line line) ScriptRefused given
    → Answers (PrintsDriven p m file) before now given
no_script_said p m file before now line given wrong said = inr (record { bytes = script_refused_line line; wanted = ScriptRefused; prints = no_script line wrong; said = said })

-- ---- the one status that goes with it

module _ (once : OneDrivenEnding) (one : IsOneScript) (never : IsNeverBoth) (p : Play) (some : 1 ≤ p.limits.units) (m : ModelTree) (model : IsSmallOpen m) (file : List ℕ) where
  unrefused : {X : Type 0} (script : List Entry) → IsScriptFor m file script → (line : ℕ) → IsScriptRefused m file line → X
  unrefused script fits _ (malformed line wrong) = absurd (never file script line fits.is_script wrong)
  unrefused script fits _ (unfit other line is wrong) = absurd (fits.fits line (subst (λ (s : List Entry). IsFirstRefused m s line) (one file other script is fits.is_script) wrong))

  same_end : (script other : List Entry) (run : DrivenRunOf p m script) (another : DrivenRunOf p m other) → IsScriptFor m file script → script ≡ other → run.ending ≡ another.ending
  same_end script other run another fits same =
      let moved : (run' : DrivenRunOf p m other) × (run.ending ≡ run'.ending) = subst (λ (s : List Entry). (run' : DrivenRunOf p m s) × (run.ending ≡ run'.ending)) same (run, refl) in
      let fits' : IsScriptFor m file other = subst (IsScriptFor m file) same fits in
      moved.1 ∙ once m other (drive_limits p) (policy_for p) (may_close m file other model fits') (file, fits'.is_script) (may_drive p some) moved.0 another

  pub of_driven : (bytes : List ℕ) (status : Status) → PrintsDriven p m file bytes status → PrintsScript p m file bytes status
  of_driven _ _ (no_script line wrong) = record {
    prints = no_script line wrong;
    only = λ script run fits. unrefused script fits line wrong;
    no_script = λ _ _. refl;
  }
  of_driven _ _ (drives script run fits) = record {
    prints = drives script run fits;
    only = λ other another also. ap status_of (same_end script other run another fits (one file script other fits.is_script also.is_script));
    no_script = λ line wrong. unrefused script fits line wrong;
  }
