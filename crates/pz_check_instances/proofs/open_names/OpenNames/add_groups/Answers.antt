use Rattle.std.proofs.Common.{sym, ap, ◌∙◌, ℕ, List}
use Rattle.pz_classes.specs.pz_classes_rules.Members.{spelled, grouped}
use Rattle.pz_check_instances.specs.devices.NameSets.{with_all}
use Rattle.pz_check_instances.specs.devices.Open.{kept}
use Rattle.pz_check_instances.proofs.NameLists.{with_all_append}
use Rattle.pz_check_instances.proofs.open_names.OpenNames.add_groups.Goals as goal

pub returns : goal.returns
returns c = λ scope outer opens.
    let names = spelled (grouped c.args.groups.now) in
    record {
      names = c.in_ok-add_groups.ensures ∙ ap (λ (l : List (List ℕ)). with_all l names) opens.names ∙ sym (with_all_append (kept outer) scope names);
      starts = opens.starts;
    }
