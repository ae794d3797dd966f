-- The part that was found, or none.
use Rattle.std.proofs.Common.{◌<◌, ◌∙◌, sym, ap, subst, List, length, get_or}
use Rattle.std.proofs.lemmas.List.{get_or_default}
use Rattle.pz_match_lists.specs.declared.shares.Part.{Part}
use Rattle.pz_match_lists.specs.devices.Parts.{AreOrdered}
use Rattle.pz_match_lists.proofs.Parting.{none, share_there, nothing_there}
use Rattle.pz_match_lists.proofs.shares.Parts.at.Goals as goal

pub returns-in-Ok : goal.returns-in-Ok
returns-in-Ok c =
    let value = share_there c.args.self.now (subst AreOrdered c.self.view_is c.self.invariant) c.args.block c.in-Ok.place c.in-Ok.ensures.found in
    let read = get_or_default c.self.inside.parts.items c.in-Ok.place c.index.result.now none (subst (λ (ps : List Part). c.in-Ok.place < length ps) (sym c.self.view_is) c.in-Ok.ensures.found.in_range) in
    ap (λ (x : Part). x.share) (c.index.ensures ∙ (read ∙ ap (λ (ps : List Part). get_or ps c.in-Ok.place none) c.self.view_is)) ∙ sym value

pub returns-in-Err : goal.returns-in-Err
returns-in-Err c = sym (nothing_there c.args.self.now c.args.block c.in-Err.field-0 c.in-Err.ensures.absent)
