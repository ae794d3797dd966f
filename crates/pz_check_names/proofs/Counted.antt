-- The inputs and outputs of each method of a process class are counted in 32 bits.
use Rattle.std.proofs.Common.{◌≡◌, refl, ◌<◌, ◌^◌, List, [], length, Option, Some, None, arith}
use Rattle.std.specs.List.{All}
use Rattle.std.specs.Option.{unwrap_or}
use Rattle.pz_classes_code.specs.pz_syntax.declared.clusters.Decl.{Decl}
use Rattle.pz_classes_code.specs.pz_syntax.declared.clusters.Decl.TheVariants as decl
use Rattle.pz_classes_code.specs.pz_syntax.declared.classes.ProcessClass.{ProcessClass}
use Rattle.pz_classes_code.specs.pz_syntax.declared.classes.ProcessMethod.{ProcessMethod}
use Rattle.pz_classes_code.specs.pz_syntax.ClassView.{decl_view}
use Rattle.pz_classes_code.specs.pz_syntax.ModelText.{decl_text}
use Rattle.pz_classes.specs.pz_classes_rules.Members.{grouped}
use Rattle.pz_classes.proofs.pz_classes_rules_proofs.FewMarks.{process_methods_fit, process_inputs_fit, process_outputs_fit}

module _ (d : Decl) (class : ProcessClass) (is : d ≡ decl.Process class) (fits : length (decl_text (decl_view d)) < 2 ^ 32) where
  pub inputs_fit : All (λ r. length (grouped r.inputs) < 2 ^ 32) (unwrap_or class.methods [])
  inputs_fit = by_section class.methods refl
    where
      by_section : (o : Option (List ProcessMethod)) → class.methods ≡ o → All (λ r. length (grouped r.inputs) < 2 ^ 32) (unwrap_or o [])
      by_section None has = λ i r within. absurd (omega (arith, within))
      by_section (Some rs) has = process_inputs_fit rs (process_methods_fit d class rs is has fits)

  pub outputs_fit : All (λ r. length (grouped r.outputs) < 2 ^ 32) (unwrap_or class.methods [])
  outputs_fit = by_section class.methods refl
    where
      by_section : (o : Option (List ProcessMethod)) → class.methods ≡ o → All (λ r. length (grouped r.outputs) < 2 ^ 32) (unwrap_or o [])
      by_section None has = λ i r within. absurd (omega (arith, within))
      by_section (Some rs) has = process_outputs_fit rs (process_methods_fit d class rs is has fits)
