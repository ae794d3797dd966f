use Rattle.std.proofs.Common.{◌≡◌, sym, subst, List, ◌∷◌, ◌++◌, take, arith, rules}
use Rattle.std.proofs.lemmas.List.{append-nil, take_all}
use Rattle.pz_classes_code.specs.pz_syntax.declared.names.Id.{Id}
use Rattle.pz_classes_code.specs.pz_syntax.declared.classes.VarGroup.{VarGroup}
use Rattle.pz_classes.specs.pz_classes_rules.Members.{grouped}
use Rattle.pz_check_names.specs.devices.Shown.{ShowsNames}
use Rattle.pz_check_names.proofs.Shown.{flat_after}
use Rattle.pz_check_names.proofs.names.note_groups.Goals as goal

pub loop-group-init : goal.loop-group-init
loop-group-init c = λ own outer shown. subst (λ (ids : List Id). ShowsNames (ids ∷ outer) c.args.names.now) (sym (append-nil own)) shown

pub loop-group-preserved : goal.loop-group-preserved
loop-group-preserved c = λ own outer shown.
    let groups = c.args.groups.now in
    let x = c.group-item.result in
    let before : List Id = own ++ grouped (take c.loop-group.group-index groups) in
    let names : c.as_slice.result.now ≡ x.names = search rules in
    let so_far = subst (λ (ids : List Id). ShowsNames ((before ++ ids) ∷ outer) c.note_ids.new.names) names (c.in_ok-note_ids.ensures before outer (c.loop-group.invariant own outer shown)) in
    subst (λ (ids : List Id). ShowsNames (ids ∷ outer) c.note_ids.new.names)
    (flat_after (λ (g : VarGroup). g.names) own groups x c.loop-group.group-index _ c.loop-group-test.true c.group-item.is (omega arith)) so_far

pub returns : goal.returns
returns c = λ own outer shown.
    subst (λ (gs : List VarGroup). ShowsNames ((own ++ grouped gs) ∷ outer) c.loop-group.names) (take_all c.loop-group.group-index c.args.groups.now c.loop-group-test.false) (c.loop-group.invariant own outer shown)
