use Rattle.std.proofs.Common.{◌≡◌, subst, List, map, rules}
use Rattle.std.specs.Result.{IfOk}
use Rattle.pz_classes.specs.pz_syntax.ClassView.{decl_view}
use Rattle.pz_check_violations.specs.declared.violation.Violation.{Violation}
use Rattle.pz_check_violations.specs.Least.{least_from}
use Rattle.pz_classes.specs.pz_classes_rules.CallRules.{own_messages}
use Rattle.pz_check_duplicates.specs.devices.Signals.{signal, signal_of}
use Rattle.pz_check_duplicates.proofs.MessageKeys.{messages_repeat}
use Rattle.pz_check_duplicates.proofs.messages.least_message.Goals as goal

pub returns : goal.returns
returns c =
    let all : map signal_of c.as_slice.result.now ≡ map signal (own_messages (decl_view c.args.decl.now)) = search rules in
    subst (λ (vs : List Violation). IfOk c.least_again.result (λ least. least ≡ least_from c.args.before vs)) (messages_repeat _ (λ x y. search rules) 4 c.as_slice.result.now _ all) c.least_again.ensures
