use Rattle.std.proofs.Common.{sym, subst, ℕ}
use Rattle.std.specs.Prelude.{All, slice_set}
use Rattle.pz_state.specs.References.{RefersWithin}
use Rattle.pz_state.specs.States.{set_item}
use Rattle.pz_eval_operations.proofs.Absent.{as_many, count_kept}
use Rattle.pz_eval_operations.proofs.writing.write.Goals as goal

pub returns-in-Object-Shared-clause-count : goal.returns-in-Object-Shared-clause-count
returns-in-Object-Shared-clause-count c =
    count_kept c.write_field.result c.args.state.now c.write_field.new.state (set_item c.args.state.now.held c.in-Object-Shared.r c.in-Object-Shared.i c.args.value)
    c.write_field.ensures.ok c.write_field.ensures.err (as_many c.in-Object-Shared.r (λ vs. slice_set vs c.in-Object-Shared.i c.args.value) c.args.state.now.held.objects)

pub returns-in-Object-Shared-clause-within : goal.returns-in-Object-Shared-clause-within
returns-in-Object-Shared-clause-within c =
    subst (λ (n : ℕ). All (RefersWithin n) c.args.locals.now.items) (sym (returns-in-Object-Shared-clause-count c)) c.requires.locals
