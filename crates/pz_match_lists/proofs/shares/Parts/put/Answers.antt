-- The part that was found is written over, or one is put at its place.
use Rattle.std.proofs.Common.{sym, subst, List}
use Rattle.pz_match_lists.specs.declared.shares.Part.{Part}
use Rattle.pz_match_lists.specs.devices.Parts.{IsPartAt, IsGapFor}
use Rattle.pz_match_lists.proofs.Parting.{gets_set, ordered_set, gets_insert, ordered_insert}
use Rattle.pz_match_lists.proofs.shares.Parts.put.Goals as goal

pub invariant_of-self : goal.invariant_of-self
invariant_of-self c =
    ordered_set c.self.inside.parts.items c.self.invariant c.args.block c.in-Ok.place (subst (λ (ps : List Part). IsPartAt ps c.args.block c.in-Ok.place) (sym c.self.view_is) c.in-Ok.ensures.found) c.args.share

pub invariant_of-self-in-Err : goal.invariant_of-self-in-Err
invariant_of-self-in-Err c =
    rw c.in_ok-insert-in-Err.ensures.items (ordered_insert c.self.inside.parts.items c.args.block c.in-Err.place (subst (λ (ps : List Part). IsGapFor ps c.args.block c.in-Err.place) (sym c.self.view_is) c.in-Err.ensures.absent) c.args.share c.self.invariant)

pub returns-in-Ok : goal.returns-in-Ok
returns-in-Ok c b =
    rw (← c.self.view_is) (gets_set c.self.inside.parts.items c.self.invariant c.args.block c.in-Ok.place (subst (λ (ps : List Part). IsPartAt ps c.args.block c.in-Ok.place) (sym c.self.view_is) c.in-Ok.ensures.found) c.args.share b)

pub returns-in_ok-insert-in-Err : goal.returns-in_ok-insert-in-Err
returns-in_ok-insert-in-Err c b =
    rw (c.in_ok-insert-in-Err.ensures.items, ← c.self.view_is) (gets_insert c.self.inside.parts.items c.args.block c.in-Err.place (subst (λ (ps : List Part). IsGapFor ps c.args.block c.in-Err.place) (sym c.self.view_is) c.in-Err.ensures.absent) c.args.share b)
