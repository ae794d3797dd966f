-- What an action is, as its line tells it: `path kind line:column`, or
-- `wire path ! message(parcel) -> path`. Words are separated by one blank.
use Rattle.std.specs.Prelude.{ℕ, List, [], ◌++◌, codes, slice_get}
use Rattle.std.specs.Option.{option_map_or}
use Rattle.pz_rules.specs.pz_syntax.declared.tokens.Pos.{Pos}
use Rattle.pz_rules.specs.pz_syntax.Classes.{ModelTree}
use Rattle.pz_rules.specs.pz_classes_rules.ClassNames.{class_names}
use Rattle.pz_rules.specs.pz_bind_rules.Nest.{processes}
use Rattle.pz_rules.specs.pz_bind_rules.Names.{path, wire_name}
use Rattle.pz_rules.specs.pz_bind_rules.Wires.{wires}
use Rattle.pz_rules.specs.pz_copy.Parcels.{ParcelView}
use Rattle.pz_rules.specs.pz_copy.ParcelText.{parcel_text}
use Rattle.pz_rules.specs.declared.action.Kind.{Kind}
use Rattle.pz_rules.specs.declared.action.Action.{Action}
use Rattle.pz_rules.specs.declared.action.Action.TheVariants.{Internal, Comm}
use Rattle.pz_trace.specs.Words.{kind_word, pos_text}

module _ (m : ModelTree) where
  -- the path of the process of this number
  abbrev pub path_of : ℕ → List ℕ
  path_of process = option_map_or (path m) (slice_get (processes m) process) []

  -- the name of the wire of this number
  abbrev pub wire_of : ℕ → List ℕ
  wire_of wire = option_map_or (wire_name m) (slice_get (wires m) wire) []

  -- `path line:column`
  abbrev pub spot : ℕ → Pos → List ℕ
  spot process at = path_of process ++ (codes " " ++ pos_text at)

  -- `path kind line:column`
  abbrev pub internal_label : ℕ → Kind → Pos → List ℕ
  internal_label process kind at = path_of process ++ (codes " " ++ (kind_word kind ++ (codes " " ++ pos_text at)))

  -- `path ! message(parcel)`, where nothing stands between the message and the parcel
  abbrev pub sending : ℕ → List ℕ → ParcelView → List ℕ
  sending sender message parcel = path_of sender ++ (codes " ! " ++ (message ++ parcel_text (class_names m) parcel))

  abbrev pub label : Action → List ℕ
  label (Internal at kind pos) = internal_label at.process kind pos
  label (Comm wire sender receiver message parcel) = wire_of wire ++ (codes " " ++ (sending sender.process message parcel ++ (codes " -> " ++ path_of receiver.process)))
