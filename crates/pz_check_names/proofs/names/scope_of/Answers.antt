use Rattle.std.proofs.Common.{subst, List, [], ◌∷◌, ◌++◌, append_assoc}
use Rattle.pz_classes_code.specs.pz_syntax.declared.names.Id.{Id}
use Rattle.pz_classes.specs.pz_classes_rules.Members.{grouped}
use Rattle.pz_check_names.specs.devices.Shown.{ShowsNames}
use Rattle.pz_check_names.proofs.Shown.{none_shown, opened_shown}
use Rattle.pz_check_names.proofs.names.scope_of.Goals as goal

pub returns : goal.returns
returns c =
    let inputs = grouped c.args.locals.inputs.now in
    let outputs = grouped c.args.locals.outputs.now in
    let none = opened_shown _ _ _ _ _ c.in_ok-open.ensures.opened (none_shown _ _ c.new-names.result c.new-names.ensures.none) in
    let both = c.in_ok-note_groups-2.ensures inputs [] (c.in_ok-note_groups.ensures [] [] none) in
    subst (λ (ids : List Id). ShowsNames (ids ∷ []) c.note_groups-3.new.names)
    (append_assoc inputs outputs (grouped c.args.locals.others.now)) (c.in_ok-note_groups-3.ensures (inputs ++ outputs) [] both)
