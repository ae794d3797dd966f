use Rattle.std.proofs.Common.{List, length, ap, sym, subst, ◌∙◌}
use Rattle.std.specs.Prelude.{All}
use Rattle.pz_value.specs.declared.value.Value.{Value}
use Rattle.pz_state.specs.States.{locals}
use Rattle.pz_state.specs.Marks.{Seen}
use Rattle.pz_state.specs.References.{RefersWithin}
use Rattle.pz_state.proofs.SelfContained.{frame_within}
use Rattle.pz_state.proofs.Keeping.{is_contained}
use Rattle.pz_state.proofs.state.State.locals.Goals as goal

pub returns-clause-within : goal.returns-clause-within
returns-clause-within c = subst (λ (xs : List Value). All (RefersWithin (length c.args.self.now.held.objects)) xs) (sym (c.locals.ensures ∙ ap (λ (z : Seen). locals z.held c.args.frame.0) c.self.view_is))
    (frame_within c.args.self.now.held c.args.frame.0 (is_contained c.self.inside c.self.view_is c.self.invariant))
