use Rattle.std.proofs.Common.{◌≡◌, refl, sym, subst, List, ◌∷◌, arith, rules}
use Rattle.std.proofs.lemmas.List.{append-nil}
use Rattle.pz_classes_code.specs.pz_syntax.declared.names.Id.{Id}
use Rattle.pz_check_names.specs.devices.Shown.{ShowsNames}
use Rattle.pz_check_names.proofs.Shown.{next_shown, all_taken}
use Rattle.pz_check_names.proofs.names.note_ids.Goals as goal

pub loop-id-init : goal.loop-id-init
loop-id-init c = λ own outer shown. subst (λ (ids : List Id). ShowsNames (ids ∷ outer) c.args.names.now) (sym (append-nil own)) shown

pub loop-id-preserved : goal.loop-id-preserved
loop-id-preserved c = λ own outer shown.
    let x = c.id-item.result in
    let named : c.as_bytes.result.now ≡ x.name = search rules in
    next_shown _ _ own c.args.ids.now outer c.as_bytes.result x _ _ _ _ _ c.loop-id-test.true c.id-item.is (omega arith) (λ k. rw named refl)
    c.in_ok-note.ensures.noted (c.loop-id.invariant own outer shown)

pub returns : goal.returns
returns c = λ own outer shown.
    subst (λ (ids : List Id). ShowsNames (ids ∷ outer) c.loop-id.names) (all_taken own c.args.ids.now c.loop-id.id-index c.loop-id-test.false) (c.loop-id.invariant own outer shown)
