use Rattle.std.proofs.Common.{◌≡◌, ◌∙◌, ap, subst, List, map, Option}
use Rattle.std.specs.Result.{IfOk}
use Rattle.pz_classes.specs.pz_syntax.declared.clusters.Instance.{Instance}
use Rattle.pz_classes.specs.pz_syntax.Classes.{DeclTree}
use Rattle.pz_classes.specs.pz_syntax.ClassView.{decl_view}
use Rattle.pz_classes_mentions.specs.Declarations.{parts}
use Rattle.pz_check_violations.specs.declared.violation.Violation.{Violation}
use Rattle.pz_check_violations.specs.Least.{least_from}
use Rattle.pz_classes.specs.pz_classes_rules.CallRules.{own_messages}
use Rattle.pz_classes.specs.pz_classes_rules.Instances.{instances}
use Rattle.pz_classes.specs.pz_classes_rules.RepeatRules.{headings, same_heading, same_message}
use Rattle.pz_check_duplicates.specs.devices.Again.{repeats}
use Rattle.pz_check_duplicates.specs.devices.Headings.{heading_place}
use Rattle.pz_check_duplicates.specs.devices.Signals.{message_place}
use Rattle.pz_check_duplicates.specs.devices.RepeatList.{of_names, of_parts}
use Rattle.pz_check_duplicates.proofs.Steps.{searched}
use Rattle.pz_check_duplicates.proofs.repeats.least_own.Goals as goal

pub returns : goal.returns
returns c =
    let d : DeclTree = decl_view c.args.decl.now in
    let named : c.in_ok-instance.instance ≡ least_from c.in_ok-local.local (of_names (map (λ (i : Instance). i.name) (instances d))) =
    c.in_ok-instance.ensures ∙ ap (λ (is : List Instance). least_from c.in_ok-local.local (of_names (map (λ (i : Instance). i.name) is))) c.instances_of.ensures in
    subst (λ (found : Option Violation). IfOk c.least_message.result (λ least. least ≡ found))
    (searched (of_parts (parts d)) (of_names (map (λ (i : Instance). i.name) (instances d))) (repeats same_heading heading_place 4 (headings d)) (repeats same_message message_place 4 (own_messages d))
    c.args.before c.in_ok-local.local c.in_ok-instance.instance c.in_ok-method.method c.in_ok-local.ensures named c.in_ok-method.ensures)
    c.least_message.ensures
