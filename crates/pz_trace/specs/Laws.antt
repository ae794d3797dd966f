-- Laws of lines. They stand apart: LF stands at the end of each and nowhere else, where no name of the
-- model has one; those of one moment differ, and their headings tell actions. And what they have to name
-- in a run is there.
use Rattle.std.specs.Prelude.{◌≡◌, ◌≢◌, ◌<◌, ◌^◌, ℕ, nat_eq, false, List, ◌++◌, Err}
use Rattle.std.specs.List.{list_any}
use Rattle.pz_rules.specs.pz_syntax.Classes.{ModelTree}
use Rattle.pz_rules.specs.pz_value.declared.value.ClassId.{ClassId}
use Rattle.pz_rules.specs.pz_classes_rules.ClassNames.{class_names}
use Rattle.pz_bind_levels.specs.Places.{Address}
use Rattle.pz_bind.specs.declared.net.Net.{Net}
use Rattle.pz_rules.specs.pz_bind_rules.Names.{name_at}
use Rattle.pz_bind.specs.devices.Nets.{IsNet}
use Rattle.pz_rules.specs.pz_copy.ParcelText.{name_of}
use Rattle.pz_rules.specs.pz_offer.declared.trouble.Trouble.{Trouble}
use Rattle.pz_rules.specs.declared.action.Action.{Action}
use Rattle.pz_rules.specs.declared.action.Action.TheVariants.{Internal, Comm}
use Rattle.pz_rules.specs.declared.moment.Moment.TheVariants.{Faulty, Stopped}
use Rattle.pz_rules.specs.Settings.{Setting}
use Rattle.pz_rules.specs.Configurations.{Config}
use Rattle.pz_rules.specs.Offers.{Offers}
use Rattle.pz_rules.specs.Steps.{Next}
use Rattle.pz_rules.specs.Moments.{IsMoment}
use Rattle.pz_trace.specs.declared.forms.Form.{Form}
use Rattle.pz_trace.specs.declared.ending.Ending.{Ending}
use Rattle.pz_trace.specs.declared.ending.Ending.TheVariants.{Stop}
use Rattle.pz_trace.specs.declared.headings.Heading.{Heading}
use Rattle.pz_trace.specs.declared.headings.Heading.TheVariants.{Step}
use Rattle.pz_trace.specs.Lines.{newline, header, time_line, action_line, end_line}
use Rattle.pz_trace.specs.Forms.{form_of, limits_of, IsWritten, HasHeader}
use Rattle.pz_trace.specs.Headings.{IsHeading}
use Rattle.pz_trace.specs.Named.{IsNamed, HasTroubled}

-- no LF stands in the text
abbrev pub Unbroken : List ℕ → Type 0
Unbroken text = list_any (nat_eq 10) text ≡ false

pub record IsLine (text : List ℕ) : Type 0 where
  pub front : List ℕ
  pub unbroken : Unbroken front
  pub ends : text ≡ front ++ newline

-- the names of instances and of classes
pub record HasUnbrokenNames (m : ModelTree) : Type 0 where
  pub instances : (up : Address) (i : ℕ) → Unbroken (name_at m up i)
  pub classes : (class : ClassId) → Unbroken (name_of (class_names m) class)

-- the name of the message
abbrev pub HasUnbrokenMessage : Action → Type 0
HasUnbrokenMessage (Internal at kind pos) = Unit {0}
HasUnbrokenMessage (Comm wire sender receiver message parcel) = Unbroken message

abbrev pub HeadersAreLines : Type 0
HeadersAreLines = (form : Form) → IsLine (header form)

abbrev pub TimeLinesAreLines : Type 0
TimeLinesAreLines = (clock d : ℕ) → IsLine (time_line clock d)

abbrev pub ActionLinesAreLines : Type 0
ActionLinesAreLines = (m : ModelTree) (clock n k : ℕ) (a : Action) → HasUnbrokenNames m → HasUnbrokenMessage a → IsLine (action_line m clock n k a)

abbrev pub EndLinesAreLines : Type 0
EndLinesAreLines = (m : ModelTree) (clock : ℕ) (end : Ending) → HasUnbrokenNames m → IsLine (end_line m clock end)

-- what a text begins with, and what is left of it
pub record SameFront (line other rest left : List ℕ) : Type 0 where
  pub same_line : line ≡ other
  pub same_rest : rest ≡ left

abbrev pub OneFirstLine : Type 0
OneFirstLine = (line other rest left : List ℕ) → IsLine line → IsLine other → line ++ rest ≡ other ++ left → SameFront line other rest left

-- a header tells one form
abbrev pub HeadersDiffer : Type 0
HeadersDiffer = (f g : Form) → IsWritten f → IsWritten g → header f ≡ header g → f ≡ g

-- a text begins with the header of no more than one
abbrev pub OneFormIsTold : Type 0
OneFormIsTold = (f g : Form) (text : List ℕ) → HasHeader f text → HasHeader g text → f ≡ g

-- and the limits that a form tells have that form
abbrev pub FormsAreKept : Type 0
FormsAreKept = (form : Form) (units : ℕ) → form_of (limits_of form units) ≡ form

-- at one clock and among as many offers, two lines tell of one number
abbrev pub ActionLinesDiffer : Type 0
ActionLinesDiffer = (m : ModelTree) (clock n k l : ℕ) (a b : Action) → k < 2 ^ 64 → l < 2 ^ 64 → action_line m clock n k a ≡ action_line m clock n l b → k ≡ l

abbrev pub StopIsNoAction : Type 0
StopIsNoAction = (m : ModelTree) (clock n k : ℕ) (a : Action) → action_line m clock n k a ≢ end_line m clock Stop

abbrev pub StopIsNoPassing : Type 0
StopIsNoPassing = (m : ModelTree) (clock d : ℕ) → time_line clock d ≢ end_line m clock Stop

abbrev pub OneHeading : Type 0
OneHeading = (line : List ℕ) (x y : Heading) → IsHeading line x → IsHeading line y → x ≡ y

-- each text has a heading
abbrev pub EveryHeading : Type 0
EveryHeading = (line : List ℕ) → (x : Heading) × IsHeading line x

abbrev pub ActionsHaveHeadings : Type 0
ActionsHaveHeadings = (m : ModelTree) (clock n k : ℕ) (a : Action) → clock < 2 ^ 128 → n < 2 ^ 64 → k < 2 ^ 64 → IsHeading (action_line m clock n k a) (Step clock n k)

-- What is offered in a configuration names processes, and a wire, of the net.
abbrev pub OffersAreNamed : Type 0
OffersAreNamed = (setting : Setting) (c : Config) (net : Net) (a : Action) → ∥ IsNet setting.model net ∥₁ → Offers setting c a → IsNamed net a

-- So do the troubles that come before an action, also that of a start that is too high, and those in which
-- actions end.
abbrev pub FaultsAreNamed : Type 0
FaultsAreNamed = (setting : Setting) (c : Config) (net : Net) (trouble : Trouble) → ∥ IsNet setting.model net ∥₁ → IsMoment setting c (Faulty trouble) → HasTroubled net trouble

abbrev pub HighsAreNamed : Type 0
HighsAreNamed = (setting : Setting) (c : Config) (net : Net) (trouble : Trouble) → ∥ IsNet setting.model net ∥₁ → IsMoment setting c (Stopped trouble) → HasTroubled net trouble

abbrev pub StopsAreNamed : Type 0
StopsAreNamed = (setting : Setting) (c : Config) (net : Net) (a : Action) (trouble : Trouble) → ∥ IsNet setting.model net ∥₁ → Next setting c a (Err trouble) → HasTroubled net trouble
