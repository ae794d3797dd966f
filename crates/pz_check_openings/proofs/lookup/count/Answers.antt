use Rattle.std.proofs.Common.{◌≡◌, ◌<◌, ◌+◌, ◌^◌, length, subst, arith}
use Rattle.pz_classes.specs.pz_syntax.Classes.{ModelTree}
use Rattle.pz_classes.specs.pz_syntax.ModelText.{HasFewMarks}
use Rattle.pz_classes.specs.CheckedView.{checked_model}
use Rattle.pz_classes.proofs.pz_classes_rules_proofs.FewMarks.{decls_few}
use Rattle.pz_check_openings.proofs.Merely.{count_merely}
use Rattle.pz_check_openings.proofs.lookup.count.Goals as goal

pub overflow_cast-result : goal.overflow_cast-result
overflow_cast-result c =
    let few : HasFewMarks (checked_model c.args.checked.now) = subst HasFewMarks c.model.ensures.is c.model.ensures.few in
    let less = decls_few (checked_model c.args.checked.now) in
    let count : c.count.result ≡ length (checked_model c.args.checked.now).decls + 1 = count_merely _ _ c.classes.ensures.tabled (λ are. c.count.ensures.count (checked_model c.args.checked.now) are) in
    omega (arith, few, less, count)

pub returns-clause-count : goal.returns-clause-count
returns-clause-count c = count_merely _ _ c.classes.ensures.tabled (λ are. c.count.ensures.count (checked_model c.args.checked.now) are)
