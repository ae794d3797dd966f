-- What 32 bits number in a sound model whose text has few marks.
use Rattle.std.proofs.Common.{arith}
use Rattle.pz_classes_code.specs.pz_syntax.Classes.{ModelTree}
use Rattle.pz_classes_code.specs.pz_syntax.ModelText.{HasFewMarks}
use Rattle.pz_classes_rules.specs.Soundness.{IsSound}
use Rattle.pz_classes_rules.specs.SoundNumbers.{NumbersFit}
use Rattle.pz_classes_rules.proofs.FewMarks.{decls_few, ports_few, instances_few, decl_fits}
use Rattle.pz_classes_rules.proofs.Rounds.{nobody_goes_round}

pub numbers_fit : (m : ModelTree) → HasFewMarks m → IsSound m → NumbersFit m
numbers_fit m few sound = record {
  classes = let count = decls_few m in omega (arith, few, count);
  ports = λ c within. let count = ports_few m (nobody_goes_round m sound.classes) c within in omega (arith, few, count);
  instances = λ c d here. let count = instances_few d in let marks = decl_fits m few c d here in omega (arith, count, marks);
}
