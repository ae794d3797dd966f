use Rattle.std.proofs.Common.{ap, sym, subst, ◌∙◌, ℕ, length}
use Rattle.std.specs.Prelude.{All}
use Rattle.pz_classes_code.specs.pz_value.declared.value.Value.{Value}
use Rattle.pz_state.specs.References.{RefersWithin}
use Rattle.pz_eval_operations.specs.pz_eval_rules.Memories.{Memory, write}
use Rattle.pz_eval_operations.specs.devices.Sites.{place_of, memory_at}
use Rattle.pz_eval_machine.specs.devices.Tasks.{pending}
use Rattle.pz_eval_operations.specs.devices.Within.{TaskWithin, SiteWithin}
use Rattle.pz_eval_machine.proofs.resuming.assign.Goals as goal

pub write-requires-clause-value : goal.write-requires-clause-value
write-requires-clause-value c = subst (λ (y : Value). RefersWithin (length c.args.state.now.held.objects) y) (sym c.in_ok-copy.ensures) c.requires.value

pub returns-clause-goes : goal.returns-clause-goes
returns-clause-goes c model now r =
    ap (λ (m : Memory). pending model now (place_of c.args.activation.now.site) c.args.activation.now.tasks.items c.args.value m r)
    (c.in_ok-write.ensures.memory ∙ ap (λ (y : Value). write (place_of c.args.activation.now.site) c.args.slot y (memory_at c.args.activation.now.site c.args.state.now.held c.args.activation.now.locals.items)) c.in_ok-copy.ensures)

pub returns-clause-within : goal.returns-clause-within
returns-clause-within c = (
  record {
    site = subst (λ (n : ℕ). SiteWithin n c.args.activation.now.site) (sym c.write.ensures.count) c.requires.within.site;
    locals = c.write.ensures.within;
    tasks = subst (λ (n : ℕ). All (TaskWithin n) c.args.activation.now.tasks.items) (sym c.write.ensures.count) c.requires.within.tasks;
  },
  subst (λ (n : ℕ). RefersWithin n c.args.value) (sym c.write.ensures.count) c.requires.value,
)
