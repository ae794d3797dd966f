use Rattle.std.proofs.Common.{sym, subst, List, ◌∷◌, ◌++◌, map, take, arith}
use Rattle.std.proofs.lemmas.List.{append-nil, take_all}
use Rattle.pz_classes_code.specs.pz_syntax.declared.classes.ProcessMethod.{ProcessMethod}
use Rattle.pz_classes_code.specs.pz_syntax.Classes.{ProcessMethodTree}
use Rattle.pz_classes_code.specs.pz_syntax.ClassView.{process_method_view}
use Rattle.pz_check_names.specs.devices.Shown.{ShowsMethods}
use Rattle.pz_check_names.proofs.Shown.{noted_shown, mapped_after}
use Rattle.pz_check_names.proofs.Calls.{call_alike}
use Rattle.pz_check_names.proofs.methods.note_each.Goals as goal

pub loop-method-init : goal.loop-method-init
loop-method-init c = λ own outer shown. subst (λ (rs : List ProcessMethodTree). ShowsMethods (rs ∷ outer) c.args.noted.now) (sym (append-nil own)) shown

pub loop-method-preserved : goal.loop-method-preserved
loop-method-preserved c = λ own outer shown.
    let methods = c.args.methods.now in
    let x = c.method-item.result in
    let before : List ProcessMethodTree = own ++ map process_method_view (take c.loop-method.method-index methods) in
    let so_far = noted_shown _ _ before outer c.call_of.result (process_method_view x) _ _ _ (λ k. call_alike k c.call_of.result (process_method_view x) c.call_of.ensures)
    c.in_ok-note.ensures.noted (c.loop-method.invariant own outer shown) in
    subst (λ (rs : List ProcessMethodTree). ShowsMethods (rs ∷ outer) c.note.new.self)
    (mapped_after process_method_view own methods x c.loop-method.method-index _ c.loop-method-test.true c.method-item.is (omega arith)) so_far

pub returns : goal.returns
returns c = λ own outer shown.
    subst (λ (rs : List ProcessMethod). ShowsMethods ((own ++ map process_method_view rs) ∷ outer) c.loop-method.noted) (take_all c.loop-method.method-index c.args.methods.now c.loop-method-test.false) (c.loop-method.invariant own outer shown)
