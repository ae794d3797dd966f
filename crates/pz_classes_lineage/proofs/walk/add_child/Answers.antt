use Rattle.std.proofs.Common.{◌<◌, length, IfSome, Option, ℕ, subst}
use Rattle.pz_classes_lineage.proofs.RowCounts.{set_row}
use Rattle.pz_classes_lineage.proofs.walk.add_child.Goals as goal

pub returns-clause-added : goal.returns-clause-added
returns-clause-added c =
    let within = subst (λ (o : Option ℕ). IfSome o (λ p. p < length c.args.rows.now.items)) c.in-Some.is c.requires in
    rw c.in-Some.is (set_row c.args.rows.now.items c.in-Some.parent c.index_mut.result.now c.push.new.self c.args.class within c.index_mut.ensures.value c.in_ok-push.ensures.items)
