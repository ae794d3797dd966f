-- The class of a process.
use Rattle.std.proofs.Common.{◌≡◌, ◌<◌, ℕ, true, false, length, Some, sym, subst, ap, ◌∙◌}
use Rattle.std.specs.Prelude.{slice_get}
use Rattle.std.specs.Option.{option_map_or}
use Rattle.std.proofs.Math.Logic.{∥∥₁_elim}
use Rattle.std.proofs.Math.Nat.{ℕ_set}
use Rattle.std.proofs.Math.Bool.{Bool-set}
use Rattle.pz_classes_code.specs.pz_syntax.Classes.{ModelTree}
use Rattle.pz_classes_code.specs.pz_value.declared.value.ClassId.{ClassId}
use Rattle.pz_rules.specs.pz_classes_rules.Kinds.{is_process}
use Rattle.pz_rules.specs.pz_classes_rules.Numbers.{declaration}
use Rattle.pz_rules.specs.pz_classes_rules.ClassNames.{class_id}
use Rattle.pz_bind_levels.specs.Places as levels
use Rattle.pz_bind.specs.declared.net.Net.{Net}
use Rattle.pz_rules.specs.pz_bind_rules.Nest.{processes, class_at}
use Rattle.pz_bind.specs.NetView.{HasProcess}
use Rattle.pz_bind.specs.devices.Nets.{IsNet}
use Rattle.pz_rules.specs.Laws.{ProcessesHaveClasses}
use Rattle.pz_rules.specs.Openable.{IsProcessClass}
use Rattle.pz_term_processes.proofs.First.{stands}

pub class_is : (m : ModelTree) (net : Net) (i : ℕ) (home : levels.Address) (class : ClassId) → ∥ IsNet m net ∥₁ → slice_get (processes m) i ≡ Some home
    → ((n : ModelTree) (place : levels.Address) → IsNet n net → slice_get (processes n) i ≡ Some place → class ≡ class_id (class_at n place))
    → class.0 ≡ class_at m home
class_is m net i home class is there told = ∥∥₁_elim is (ℕ_set class.0 (class_at m home)) (λ known. ap (λ (c : ClassId). c.0) (told m home known there))

-- a process of the net is of a process class
pub process_class : (m : ModelTree) (net : Net) (i : ℕ) (class : ClassId) → ∥ IsNet m net ∥₁ → HasProcess net i → ProcessesHaveClasses
    → ((n : ModelTree) (place : levels.Address) → IsNet n net → slice_get (processes n) i ≡ Some place → class ≡ class_id (class_at n place))
    → IsProcessClass m class.0
process_class m net i class is has law told =
    ∥∥₁_elim is (Bool-set (option_map_or is_process (declaration m class.0) false) true) (λ known.
    let place = stands m net i known has in
    subst (IsProcessClass m) (sym (class_is m net i place.0 class is place.1 told)) (law m i place.0 place.1))
