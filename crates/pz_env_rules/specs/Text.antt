-- The text of a driven run: as that of a run, with a first line of its own, and with the path `env` for
-- the environment.
use Rattle.std.specs.Prelude.{◌≡◌, ℕ, nat_eq, List, [], ◌∷◌, ◌++◌, codes, if◌then◌else◌}
use Rattle.std.specs.List.{flat_map}
use Rattle.std.specs.Fmt.{decimal}
use Rattle.pz_trace.specs.pz_syntax.declared.tokens.Pos.{Pos}
use Rattle.pz_trace.specs.pz_classes_rules.ClassNames.{class_names}
use Rattle.pz_trace.specs.pz_copy.Parcels.{ParcelView}
use Rattle.pz_trace.specs.pz_copy.ParcelText.{parcel_text}
use Rattle.pz_trace.specs.pz_offer.declared.trouble.Trouble.{Trouble}
use Rattle.pz_trace.specs.pz_offer.declared.trouble.Trouble.TheVariants.{Fault, Spent, High}
use Rattle.pz_trace.specs.pz_rules.declared.action.Action.{Action}
use Rattle.pz_trace.specs.pz_rules.declared.action.Action.TheVariants.{Internal, Comm}
use Rattle.pz_trace.specs.pz_rules.Runs.{Event, acted, passed, Standing}
use Rattle.pz_trace.specs.declared.ending.Ending.{Ending}
use Rattle.pz_trace.specs.declared.ending.Ending.TheVariants as ending
use Rattle.pz_trace.specs.Words.{kind_word, fault_word, pos_text}
use Rattle.pz_trace.specs.Labels.{path_of, wire_of}
use Rattle.pz_trace.specs.Lines.{newline, time_line}
use Rattle.pz_trace.specs.TraceText.{run_ending}
use Rattle.pz_env_rules.specs.Joining.{Driving}
use Rattle.pz_env_rules.specs.Driven.{Driven, environment_number, IsDrivenStart}
use Rattle.pz_env_rules.specs.Runs.{DrivenReaches, DrivenEnds}

-- `poosl-drive 1 units`
abbrev pub drive_header : ℕ → List ℕ
drive_header units = codes "poosl-drive 1 " ++ (decimal units ++ newline)

module _ (g : Driving) where
  abbrev pub path_in : ℕ → List ℕ
  path_in process = if nat_eq process (environment_number g) then codes "env" else path_of g.setting.model process

  -- `path line:column`
  abbrev pub spot : ℕ → Pos → List ℕ
  spot process at = path_in process ++ (codes " " ++ pos_text at)

  -- The names of classes by their numbers. The one behind those of the model is that of the environment: no
  -- object has that number.
  abbrev pub names_in : List (List ℕ)
  names_in = class_names g.setting.model ++ codes "ScriptEnv" ∷ []

  -- `path ! message(parcel)`, where nothing stands between the message and the parcel
  abbrev pub sending : ℕ → List ℕ → ParcelView → List ℕ
  sending sender message parcel = path_in sender ++ (codes " ! " ++ (message ++ parcel_text names_in parcel))

  abbrev pub label : Action → List ℕ
  label (Internal at kind pos) = path_in at.process ++ (codes " " ++ (kind_word kind ++ (codes " " ++ pos_text pos)))
  label (Comm wire sender receiver message parcel) = wire_of g.setting.model wire ++ (codes " " ++ (sending sender.process message parcel ++ (codes " -> " ++ path_in receiver.process)))

  -- `clock n k label`, or `clock time d`
  abbrev pub event_line : Event → List ℕ
  event_line (acted clock n k a) = decimal clock ++ (codes " " ++ (decimal n ++ (codes " " ++ (decimal k ++ (codes " " ++ (label a ++ newline))))))
  event_line (passed clock time) = time_line clock time

  abbrev pub trouble_words : Trouble → List ℕ
  trouble_words (Fault kind process at) = codes "fault " ++ (fault_word kind ++ (codes " " ++ spot process at))
  trouble_words (Spent process at) = codes "spent " ++ spot process at
  trouble_words (High process at) = codes "high " ++ spot process at

  abbrev pub end_words : Ending → List ℕ
  end_words ending.End = codes "end"
  end_words ending.Deadlock = codes "deadlock"
  end_words ending.Stop = codes "stop"
  end_words (ending.Trouble trouble) = trouble_words trouble

  -- `clock words`
  abbrev pub end_line : ℕ → Ending → List ℕ
  end_line clock end = decimal clock ++ (codes " " ++ (end_words end ++ newline))

  -- the header, a line for each event, and the line of the end
  abbrev pub drive_text : List Event → ℕ → Ending → List ℕ
  drive_text events clock last = drive_header g.setting.limits.units ++ (flat_map event_line events ++ end_line clock last)

  -- this is the text of a driven run
  pub record IsDriveText (text : List ℕ) : Type 0 where
    pub start : Driven
    pub is_start : IsDrivenStart g start
    pub events : List Event
    pub last : Driven
    pub standing : Standing
    pub reaches : DrivenReaches g start events last standing
    pub ending : Ending
    pub ends : DrivenEnds g last standing (run_ending ending)
    pub is_text : text ≡ drive_text events last.system.clock ending
