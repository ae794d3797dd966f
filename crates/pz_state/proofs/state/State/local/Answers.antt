use Rattle.std.proofs.Common.{length, ap, sym, subst, ◌∙◌}
use Rattle.pz_state.specs.States.{local}
use Rattle.pz_value.specs.declared.value.Value.{Value}
use Rattle.pz_state.specs.Marks.{Seen}
use Rattle.pz_state.specs.References.{RefersWithin}
use Rattle.pz_state.proofs.SelfContained.{local_within}
use Rattle.pz_state.proofs.Keeping.{is_contained}
use Rattle.pz_state.proofs.state.State.local.Goals as goal

pub returns-clause-within : goal.returns-clause-within
returns-clause-within c = subst (λ (x : Value). RefersWithin (length c.args.self.now.held.objects) x) (sym (c.local.ensures ∙ ap (λ (z : Seen). local z.held c.args.frame.0 c.args.slot) c.self.view_is))
    (local_within c.args.self.now.held c.args.frame.0 c.args.slot (is_contained c.self.inside c.self.view_is c.self.invariant))
