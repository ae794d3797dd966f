use Rattle.std.proofs.Common.{◌≡◌, ◌∙◌, ◌<◌, true, None, Some, length, arith}
use Rattle.std.proofs.lemmas.List.{length-set}
use Rattle.pz_classes_lineage.specs.Parents.{parent_in}
use Rattle.pz_classes_lineage.specs.devices.Walks.{IsMarked}
use Rattle.pz_classes_lineage.proofs.CycleMarks.{begins, goes_on, marked_to_root, marked_to_known}
use Rattle.pz_classes_lineage.proofs.cycles.mark_up.Goals as goal

pub loop-marks-init : goal.loop-marks-init
loop-marks-init c = record {
  within = c.requires.inside;
  sized = c.requires.sized;
  marking = begins (parent_in c.args.parents.now) c.args.marks.now c.args.start c.requires.closed;
}

pub returns-in_default : goal.returns-in_default
returns-in_default c =
    let root : parent_in c.args.parents.now c.loop-marks.at ≡ None = cc (c.in_default.is, c.parent_at.ensures) in
    let inside : c.loop-marks.at < length c.loop-marks.marks = omega arith in
    marked_to_root (parent_in c.args.parents.now) c.args.marks.now c.args.start c.loop-marks.marks c.loop-marks.at c.loop-marks.invariant.marking inside root

pub loop-marks-preserved : goal.loop-marks-preserved
loop-marks-preserved c =
    let next : parent_in c.args.parents.now c.loop-marks.at ≡ Some c.in-Some.parent = cc (c.in-Some.is, c.parent_at.ensures) in
    let inside : c.loop-marks.at < length c.loop-marks.marks = omega arith in
    record {
      within = c.requires.within c.loop-marks.at c.in-Some.parent next;
      sized = length-set c.loop-marks.marks c.loop-marks.at true ∙ c.loop-marks.invariant.sized;
      marking = goes_on (parent_in c.args.parents.now) c.args.marks.now c.args.start c.loop-marks.marks c.loop-marks.at c.loop-marks.invariant.marking inside c.in-Some.parent next;
    }

pub returns : goal.returns
returns c =
    let known : IsMarked c.loop-marks.marks c.loop-marks.at = c.loop-marks-test.false in
    marked_to_known (parent_in c.args.parents.now) c.args.marks.now c.args.start c.loop-marks.marks c.loop-marks.at c.loop-marks.invariant.marking known
