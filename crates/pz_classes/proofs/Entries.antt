-- What is kept of a class is its row.
use Rattle.std.proofs.Common.{◌≡◌, ℕ, Option}
use Rattle.std.specs.Option.{option_map}
use Rattle.pz_classes_code.specs.pz_syntax.Classes.{ModelTree}
use Rattle.pz_classes_code.specs.declared.step.Step.{Step}
use Rattle.pz_classes_code.specs.StepView as step
use Rattle.pz_classes.specs.declared.members.Members.{Members}
use Rattle.pz_classes.specs.declared.method_index.Methods.{Methods}
use Rattle.pz_classes_rules.specs.Ancestors.{parent, ancestors}
use Rattle.pz_classes.specs.devices.Inherited.{HasMembers, AreFew}
use Rattle.pz_classes_rules.specs.Methods.{Signature, own_method}
use Rattle.pz_classes.specs.devices.MethodIn.{method_in, HasMethodsOf}
use Rattle.pz_classes_rules.specs.Starts.{own_call}
use Rattle.pz_classes.specs.devices.Rows.{row, row_view}
use Rattle.pz_classes_rules.proofs.Agreeing.{agreeing}

pub row_is : (m : ModelTree) (c : ℕ) (up : Option ℕ) (members : Members) (start : Option Step) (methods : Methods) → up ≡ parent m c
    → HasMembers m (ancestors m c) members → option_map step.view start ≡ own_call m c → HasMethodsOf m c methods
    → (few : AreFew members) → row_view (record { parent = up; members = members; start = start; methods = methods; few = few }) ≡ row m c
row_is m c up members start methods extends has starts declares few =
    let declared : method_in methods ≡ (λ (s : Signature). own_method m s c) = agreeing (method_in methods) (λ (s : Signature). own_method m s c) declares.each in
    rw (extends, has.fields, has.variables, has.ports, starts, declared)
