-- 32 bits number the fields, variables and ports of a class where the model's text has few marks.
use Rattle.std.proofs.Common.{◌≡◌, ap, ◌∙◌, ℕ, suc, ◌<◌, List, length, arith}
use Rattle.std.proofs.lemmas.List.{length-map}
use Rattle.pz_classes_code.specs.pz_syntax.declared.names.Id.{Id}
use Rattle.pz_classes_code.specs.pz_syntax.ModelText.{HasFewMarks}
use Rattle.pz_classes_code.specs.pz_syntax.Classes.{ModelTree}
use Rattle.pz_classes_lineage.specs.Reached.{GoesRound}
use Rattle.pz_classes.specs.declared.members.Members.{Members}
use Rattle.pz_classes.specs.devices.Inherited.{HasMembers, AreFew}
use Rattle.pz_classes_rules.specs.Ancestors.{parent, ancestors}
use Rattle.pz_classes_rules.specs.Members.{fields, variables, ports}
use Rattle.pz_classes_rules.proofs.FewMarks.{fields_few, variables_few, ports_few}

pub members_fit : (m : ModelTree) → HasFewMarks m → ((c : ℕ) → GoesRound (parent m) c → ⊥) → (c : ℕ) → c < suc (length m.decls) → (members : Members) → HasMembers m (ancestors m c) members → AreFew members
members_fit m few flat c within members has =
    let fields_count = fields_few m flat c within in
    let variables_count = variables_few m flat c within in
    let ports_count = ports_few m flat c within in
    let fields_are : length members.fields ≡ length (fields m c) = ap (λ (ns : List (List ℕ)). length ns) has.fields ∙ length-map (fields m c) (λ (x : Id). x.name) in
    let variables_are : length members.variables ≡ length (variables m c) = ap (λ (ns : List (List ℕ)). length ns) has.variables ∙ length-map (variables m c) (λ (x : Id). x.name) in
    let ports_are : length members.ports ≡ length (ports m c) = ap (λ (ns : List (List ℕ)). length ns) has.ports ∙ length-map (ports m c) (λ (x : Id). x.name) in
    record {
      fields = omega (arith, few, fields_count, fields_are);
      variables = omega (arith, few, variables_count, variables_are);
      ports = omega (arith, few, ports_count, ports_are);
    }
