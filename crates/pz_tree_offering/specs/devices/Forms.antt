-- Statements that send or receive, as the code takes them apart.
use Rattle.std.specs.Prelude.{◌≡◌, ℕ, Bool, length, Option, Some, None, is_some}
use Rattle.pz_classes_code.specs.pz_syntax.declared.tokens.Pos.{Pos}
use Rattle.pz_classes_code.specs.pz_syntax.declared.names.Id.{Id}
use Rattle.pz_classes_code.specs.pz_syntax.Expressions.{Part}
use Rattle.pz_classes_code.specs.pz_syntax.Statements.{send, receive}
use Rattle.pz_classes_code.specs.pz_value.declared.value.ClassId.{ClassId}
use Rattle.pz_classes_code.specs.declared.slot.Slot.{Slot}
use Rattle.pz_classes_code.specs.CodeView.{part_view}
use Rattle.pz_tree_nodes.specs.pz_rules.Terms.{Step}
use Rattle.pz_tree_nodes.specs.pz_rules.Messages.{variables_of}
use Rattle.pz_tree_offering.specs.declared.forms.SendForm.{SendForm}
use Rattle.pz_tree_offering.specs.declared.forms.ReceiveForm.{ReceiveForm}

pub record IsSending (x : SendForm) (at : Pos) (number : ℕ) (message : Id) (given : Part Slot ClassId) : Type 0 where
  pub pos : x.pos ≡ at
  pub port : x.port ≡ number
  pub name : x.name.now ≡ message
  pub args : part_view x.args.now ≡ given

abbrev pub Sending : Option SendForm → Pos → ℕ → Id → Part Slot ClassId → Type 0
Sending None at port name args = ⊥
Sending (Some x) at port name args = IsSending x at port name args

abbrev pub IsNone : {X : Type 0} → Option X → Type 0
IsNone None = Unit {0}
IsNone (Some x) = ⊥

abbrev pub IsSendForm : Step → Option SendForm → Type 0
IsSendForm (send at port name args after) o = Sending o at port name args
IsSendForm s o = IsNone o

pub record IsReceiving (x : ReceiveForm) (number : ℕ) (message : Id) (many : ℕ) (asked : Bool) : Type 0 where
  pub port : x.port ≡ number
  pub name : x.name.now ≡ message
  pub count : x.count ≡ many
  pub conditional : x.conditional ≡ asked

abbrev pub Receiving : Option ReceiveForm → ℕ → Id → ℕ → Bool → Type 0
Receiving None port name count conditional = ⊥
Receiving (Some x) port name count conditional = IsReceiving x port name count conditional

abbrev pub IsReceiveForm : Step → Option ReceiveForm → Type 0
IsReceiveForm (receive at port name into condition after) o = Receiving o port name (length (variables_of into)) (is_some condition)
IsReceiveForm s o = IsNone o
