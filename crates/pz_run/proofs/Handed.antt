-- What is handed out, by how a run, a text or a file went.
use Rattle.std.proofs.Common.{◌≡◌, ◌⊎◌, inl, inr, ◌∙◌, ◌≤◌, ℕ, List, Bool, true, false, Option, Some, None, Result, Ok, Err, length, refl, sym, subst}
use Rattle.pz_io.specs.Outside.{Entries, FilesState, SinkState, lookup, Rose, LacksName, FilesFailedLast, Exceeds}
use Rattle.pz_io.specs.declared.whole.ReadError.{ReadError}
use Rattle.pz_io.specs.declared.whole.ReadError.TheVariants as unread
use Rattle.pz_io.specs.declared.writing.Halt.{Halt}
use Rattle.pz_io.specs.declared.writing.Halt.TheVariants as halt
use Rattle.pz_bind.specs.pz_syntax.Classes.{ModelTree}
use Rattle.pz_run_output.specs.pz_trace.pz_rules.Runs.{Ending, ended, deadlocked, troubled, halted, refused}
use Rattle.pz_run_output.specs.pz_trace.declared.forms.Form.{Form}
use Rattle.pz_run_output.specs.pz_trace.TraceText.{run_ending}
use Rattle.pz_run_output.specs.pz_trace.Forms.{HasHeader}
use Rattle.pz_run_output.specs.pz_lines.Identifiers.{is_identifier}
use Rattle.pz_watch.specs.Files.{NamedFormula, AreWatches, IsRefusedAt}
use Rattle.pz_watch.specs.declared.errors.ReadWatchesError.{ReadWatchesError}
use Rattle.pz_watch.specs.declared.errors.ReadWatchesError.TheVariants as no_list
use Rattle.pz_run_output.specs.pz_env_closing.pz_env_script.declared.entry.Entry.{Entry}
use Rattle.pz_run_output.specs.pz_env_closing.pz_env_tree.ClosedTree.{closed_tree}
use Rattle.pz_sim.specs.pz_term_simulator.Simulations.{Simulation}
use Rattle.pz_run_output.specs.pz_env_closing.pz_run_playing.declared.finale.Finale.{Finale}
use Rattle.pz_run_output.specs.pz_env_closing.pz_run_playing.declared.finale.Judged.{Judged}
use Rattle.pz_run_output.specs.pz_env_closing.pz_run_playing.Endings.{ending_of}
use Rattle.pz_run_output.specs.pz_env_closing.pz_run_playing.Playing.{PlaysUnder, Plays}
use Rattle.pz_run_output.specs.pz_env_closing.pz_run_playing.Watched.{PlaysWatched}
use Rattle.pz_run_output.specs.pz_run_replaying.declared.replayed.Replayed.{Replayed}
use Rattle.pz_run_output.specs.pz_run_replaying.declared.replayed.Replayed.TheVariants as replayed
use Rattle.pz_run_output.specs.pz_run_replaying.Replays.{IsReplayed}
use Rattle.pz_run_output.specs.pz_run_lines.pz_run_reading.declared.refusal.Refusal.{Refusal}
use Rattle.pz_run_output.specs.pz_run_lines.pz_run_reading.declared.refusal.Refusal.TheVariants as refusal
use Rattle.pz_run_output.specs.pz_run_lines.pz_run_reading.Answers.{OnRefused}
use Rattle.pz_run_output.specs.pz_run_lines.pz_run_reading.Openings.{IsOpeningRefusal}
use Rattle.pz_run_output.specs.pz_run_lines.pz_run_reading.declared.read_error.ReadModelError.{ReadModelError}
use Rattle.pz_run_output.specs.pz_run_lines.pz_run_reading.declared.read_error.ReadModelError.TheVariants.{NoMemory, Refused}
use Rattle.pz_run_output.specs.declared.play.Play.{Play}
use Rattle.pz_run_output.specs.declared.status.Status.{Status}
use Rattle.pz_run_output.specs.declared.status.Status.TheVariants as status
use Rattle.pz_run_output.specs.Files.{JobFile}
use Rattle.pz_run_output.specs.Plays.{told_of, setting_for, setting_with, policy_for}
use Rattle.pz_run_output.specs.Editions.{IsOfSecondEdition, OpensFor}
use Rattle.pz_run_output.specs.Scripts.{IsScriptFor, IsScriptRefused}
use Rattle.pz_run_output.specs.Status.{status_of, replay_status}
use Rattle.pz_run_output.specs.Promises.{CameThrough}
use Rattle.pz_run.specs.HandedOut.{RunHandsOut, where_it_ended, WatchHandsOut, DriveHandsOut, TraceHandsOut, ModelHandsOut, FileHandsOut, NeverBegun, HandsOut}
use Rattle.pz_run.specs.HandedOut as handed
use Rattle.pz_run_output.specs.devices.Halting.{halted_as, given_as, judged_as, watched, replayed_as}
use Rattle.pz_run.specs.devices.Handing.{Hands, FileHands}
use Rattle.pz_run_output.specs.devices.Reading.{SaysUnread}
use Rattle.pz_run_output.specs.devices.Replaying.{WasRead}
use Rattle.pz_run_output.specs.devices.Texts.{SaysRefusal}
use Rattle.pz_run_output.proofs.Keeps.{raised_rose}

-- ---- of a run

-- where writing halted, nothing is said of it
halted_hands : (Q : Option Simulation → Type 0) (h : Halt) (given : Status) (left : Option Simulation) → given ≡ halted_as h → Hands Q given left
halted_hands Q halt.NoMemory given left is written ample = absurd (ample is)
halted_hands Q halt.WriteFault given left is written ample = absurd (written is)

module _ (p : Play) (m : ModelTree) (t : Simulation) (before now : SinkState) where
  pub run_hands : (r : Result Finale Halt) (given : Status) → given ≡ given_as r → Plays (setting_for m p) (policy_for p) (told_of p.telling) t before now r
      → Hands (RunHandsOut p m) given (Some t)
  run_hands (Ok finale) given is played written ample = subst (λ (s : Simulation). RunHandsOut p m (Some s)) (sym played.arrives) (where_it_ended played.run)
  run_hands (Err h) given is played written ample = halted_hands (RunHandsOut p m) h given (Some t) is written ample

  pub under_hands : (header : List ℕ) (r : Result Finale Halt) (given : Status) → given ≡ given_as r → PlaysUnder (setting_for m p) (policy_for p) header t before now r
      → Hands (RunHandsOut p m) given (Some t)
  under_hands header (Ok finale) given is played written ample = subst (λ (s : Simulation). RunHandsOut p m (Some s)) (sym played.arrives) (where_it_ended played.run)
  under_hands header (Err h) given is played written ample = halted_hands (RunHandsOut p m) h given (Some t) is written ample

  pub judged_hands : (ws : List NamedFormula) (r : Result Judged Halt) (given : Status) → given ≡ judged_as r → PlaysWatched (setting_for m p) (policy_for p) ws t before now r
      → Hands (RunHandsOut p m) given (Some t)
  judged_hands ws (Ok judged) given is played written ample = subst (λ (s : Simulation). RunHandsOut p m (Some s)) (sym played.arrives) (where_it_ended played.run)
  judged_hands ws (Err h) given is played written ample = halted_hands (RunHandsOut p m) h given (Some t) is written ample

module _ (units : ℕ) (m : ModelTree) (form : Form) (trace : List ℕ) (is_told : HasHeader form trace) (asked : OpensFor trace m) (t : Simulation) (before now : SinkState) where
  pub replay_hands : (r : Result Replayed Halt) (given : Status) → given ≡ replayed_as r → IsReplayed (setting_with m form units) trace t before now r
      → Hands (TraceHandsOut units m trace) given (Some t)
  replay_hands (Ok outcome) given is done written ample =
      subst (λ (s : Simulation). TraceHandsOut units m trace (Some s)) (sym done.arrives) (handed.replays form done.text done.outcome done.end is_told asked done.replays)
  replay_hands (Err h) given is done written ample = halted_hands (TraceHandsOut units m trace) h given (Some t) is written ample

-- of a trace on a model that does not open
pub closed_hands : (units : ℕ) (m : ModelTree) (trace : List ℕ) (e : ReadModelError) (before now : SinkState) (given : Status) → IsOfSecondEdition trace
    → OnRefused (IsOpeningRefusal m) e → SaysRefusal e before now given → Hands (TraceHandsOut units m trace) given None
closed_hands units m trace NoMemory before now given second so says written ample = absurd (ample says.wanting)
closed_hands units m trace (Refused (refusal.Violates v)) before now given second so says written ample = handed.closed v second so
closed_hands units m trace (Refused (refusal.BadByte at)) before now given second so says written ample = absurd so
closed_hands units m trace (Refused (refusal.OpenComment at)) before now given second so says written ample = absurd so
closed_hands units m trace (Refused (refusal.OpenString at)) before now given second so says written ample = absurd so
closed_hands units m trace (Refused (refusal.BadNumber at)) before now given second so says written ample = absurd so
closed_hands units m trace (Refused (refusal.Syntax at)) before now given second so says written ample = absurd so
closed_hands units m trace (Refused (refusal.TooNested at)) before now given second so says written ample = absurd so

-- of a run that watches judge
pub watched_hands : (p : Play) (m : ModelTree) (file : List ℕ) (ws : List NamedFormula) (given : Status) (left : Option Simulation) → AreWatches is_identifier file ws
    → Hands (RunHandsOut p m) given left → Hands (WatchHandsOut p m file) given left
watched_hands p m file ws given left are hands written ample = handed.judges ws left are (hands written ample)

pub no_list_hands : (p : Play) (m : ModelTree) (file : List ℕ) (e : ReadWatchesError) (given : Status) → ((line : ℕ) → e ≡ no_list.Refused line → IsRefusedAt is_identifier file line)
    → (e ≡ no_list.NoMemory → given ≡ status.NoMemory) → Hands (WatchHandsOut p m file) given None
no_list_hands p m file no_list.NoMemory given so wanting written ample = absurd (ample (wanting refl))
no_list_hands p m file (no_list.Refused line) given so wanting written ample = handed.no_watches line (so line refl)

-- of a run that a script drives
pub driven_hands : (p : Play) (m : ModelTree) (file : List ℕ) (script : List Entry) (given : Status) (left : Option Simulation) → IsScriptFor m file script
    → Hands (RunHandsOut p (closed_tree m script)) given left → Hands (DriveHandsOut p m file) given left
driven_hands p m file script given left fits hands written ample = handed.drives script left fits (hands written ample)

pub no_script_hands : (p : Play) (m : ModelTree) (file : List ℕ) (line : Option ℕ) (given : Status) → ((number : ℕ) → line ≡ Some number → IsScriptRefused m file number)
    → (line ≡ None → given ≡ status.NoMemory) → Hands (DriveHandsOut p m file) given None
no_script_hands p m file None given so wanting written ample = absurd (ample (wanting refl))
no_script_hands p m file (Some number) given so wanting written ample = handed.no_script number (so number refl)

-- ---- of a text

differ : (r : Refusal) → Refused r ≡ NoMemory → ⊥
differ r same = cc

module _ (IsOf : List ℕ → ModelTree → Type 0) (Q : ModelTree → Option Simulation → Type 0) (text : List ℕ) where
  -- its model is this one
  pub model_hands : (m : ModelTree) (given : Status) (left : Option Simulation) → IsOf text m → Hands (Q m) given left → Hands (ModelHandsOut IsOf Q text) given left
  model_hands m given left is hands written ample = handed.of_model m left is (hands written ample)

  -- it is refused
  pub refusal_hands : (e : ReadModelError) (before now : SinkState) (given : Status) → ((m : ModelTree) → IsOf text m → e ≡ NoMemory) → SaysRefusal e before now given
      → Hands (ModelHandsOut IsOf Q text) given None
  refusal_hands NoMemory before now given only says written ample = absurd (ample says.wanting)
  refusal_hands (Refused r) before now given only says written ample = handed.refused (λ m is. differ r (only m is))

-- ---- of a file

module _ (file : JobFile) (Q : List ℕ → Option Simulation → Type 0) (f g : FilesState) (given : Status) where
  pub unread_hands : (e : ReadError) (before now : SinkState) → (e ≡ unread.Fault → FilesFailedLast f g ⊎ ((g.faults ≡ f.faults) × LacksName f file.name))
      → (e ≡ unread.TooLong → f.told ≡ true → Exceeds (lookup f.held file.name) file.limit) → SaysUnread e file.name before now given → FileHands file Q f g given None
  unread_hands unread.NoMemory before now cause exceeds says told came = absurd (came.ample says.wanting)
  unread_hands unread.Fault before now cause exceeds says told came = lacking (cause refl)
    where
      lacking : FilesFailedLast f g ⊎ ((g.faults ≡ f.faults) × LacksName f file.name) → FileHandsOut file Q (lookup f.held file.name) None
      lacking (inl failed) = absurd (came.read (says.is_wanted came.written came.ample, raised_rose f.faults g.faults failed.0))
      lacking (inr lacked) = subst (λ (o : Option (List ℕ)). FileHandsOut file Q o None) (sym lacked.1.1) handed.lacks
  unread_hands unread.TooLong before now cause exceeds says told came =
      let long = exceeds refl told in
      subst (λ (o : Option (List ℕ)). FileHandsOut file Q o None) (sym long.1) (handed.too_long long.0 long.2)

  pub read_hands : (text : List ℕ) (left : Option Simulation) → length text ≤ file.limit → (f.told ≡ true → lookup f.held file.name ≡ Some text)
      → Hands (Q text) given left → FileHands file Q f g given left
  read_hands text left short content hands told came =
      subst (λ (o : Option (List ℕ)). FileHandsOut file Q o left) (sym (content told)) (handed.reads text left short (hands came.written came.ample))

-- of the first of two files, behind which the others are as they were
module _ (file : JobFile) (R : Entries → List ℕ → Option Simulation → Type 0) (f mid g : FilesState) (given : Status) where
  pub first_hands : (text : List ℕ) (left : Option Simulation) → WasRead file text f mid → (mid.told ≡ true → CameThrough mid g given → R mid.held text left)
      → FileHands file (R f.held) f g given left
  first_hands text left was inner told came =
      let came_on : CameThrough mid g given = record {
        written = came.written;
        ample = came.ample;
        read = λ both. came.read (both.0, subst (λ (n : ℕ). Rose n g.faults) was.faults both.1);
      } in
      subst (λ (o : Option (List ℕ)). FileHandsOut file (R f.held) o left) (sym (was.content told))
      (handed.reads text left was.short (subst (λ (held : Entries). R held text left) was.held (inner (was.told ∙ told) came_on)))

-- ---- statuses before any run

end_begun : (e : Ending) → NeverBegun (status_of e) → ⊥
end_begun ended never = never
end_begun deadlocked never = never
end_begun (troubled trouble) never = never
end_begun halted never = never
end_begun (refused entry count) never = never

halt_begun : (h : Halt) → NeverBegun (halted_as h) → ⊥
halt_begun halt.NoMemory never = never
halt_begun halt.WriteFault never = never

pub run_begun : (r : Result Finale Halt) (given : Status) → given ≡ given_as r → NeverBegun given → ⊥
run_begun (Ok finale) given is never = end_begun (ending_of finale) (subst NeverBegun is never)
run_begun (Err h) given is never = halt_begun h (subst NeverBegun is never)

-- a broken watch is told of a run that has begun
watched_begun : (broken : Bool) (s : Status) → (NeverBegun s → ⊥) → NeverBegun (watched broken s) → ⊥
watched_begun false s begun never = begun never
watched_begun true status.Done begun never = never
watched_begun true status.Deadlock begun never = begun never
watched_begun true status.Usage begun never = begun never
watched_begun true status.ModelRefused begun never = begun never
watched_begun true status.ModelFault begun never = begun never
watched_begun true status.ChoiceRefused begun never = begun never
watched_begun true status.TraceRefused begun never = begun never
watched_begun true status.TooLong begun never = begun never
watched_begun true status.ReadFault begun never = begun never
watched_begun true status.WriteFault begun never = begun never
watched_begun true status.NoMemory begun never = begun never
watched_begun true status.WatchBroken begun never = begun never
watched_begun true status.WatchRefused begun never = begun never
watched_begun true status.ScriptRefused begun never = begun never

pub judged_begun : (r : Result Judged Halt) (given : Status) → given ≡ judged_as r → NeverBegun given → ⊥
judged_begun (Ok judged) given is never = watched_begun judged.broken (status_of (ending_of judged.finale)) (end_begun (ending_of judged.finale)) (subst NeverBegun is never)
judged_begun (Err h) given is never = halt_begun h (subst NeverBegun is never)

replay_begun : (r : Replayed) → NeverBegun (replay_status r) → ⊥
replay_begun (replayed.Ended e) never = end_begun (run_ending e) never
replay_begun (replayed.Refused line) never = never

pub replayed_begun : (r : Result Replayed Halt) (given : Status) → given ≡ replayed_as r → NeverBegun given → ⊥
replayed_begun (Ok outcome) given is never = replay_begun outcome (subst NeverBegun is never)
replayed_begun (Err h) given is never = halt_begun h (subst NeverBegun is never)
