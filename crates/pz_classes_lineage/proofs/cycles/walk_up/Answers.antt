use Rattle.std.proofs.Common.{◌≡◌, ◌<◌, ◌≢◌, ◌+◌, ◌∙◌, None, Some, length, get_or, arith}
use Rattle.std.proofs.lemmas.List.{length-set}
use Rattle.pz_classes_lineage.specs.Parents.{parent_in}
use Rattle.pz_classes_lineage.specs.devices.Walks.{IsWalked}
use Rattle.pz_classes_lineage.proofs.CycleWalks.{goes_on, none_to_root, comes_back, comes_to_older}
use Rattle.pz_classes_lineage.proofs.cycles.walk_up.Goals as goal

pub returns-in_err-at-clause-found : goal.returns-in_err-at-clause-found
returns-in_err-at-clause-found c =
    let root : parent_in c.args.parents.now c.loop-walks.at ≡ None = cc (c.in_err-at.was, c.parent_at.ensures) in
    let new : get_or c.loop-walks.walks c.loop-walks.at 0 ≡ 0 = omega arith in
    let inside : c.loop-walks.at < length c.loop-walks.walks = omega arith in
    rw c.from_residual.ensures (none_to_root (parent_in c.args.parents.now) c.args.walks.now c.args.start c.requires.walked c.loop-walks.walks c.loop-walks.at c.loop-walks.invariant.walking inside new root)

pub loop-walks-preserved : goal.loop-walks-preserved
loop-walks-preserved c =
    let next : parent_in c.args.parents.now c.loop-walks.at ≡ Some c.in_ok-at.at = cc (c.in_ok-at.was, c.parent_at.ensures) in
    let new : get_or c.loop-walks.walks c.loop-walks.at 0 ≡ 0 = omega arith in
    let inside : c.loop-walks.at < length c.loop-walks.walks = omega arith in
    record {
      within = c.requires.within c.loop-walks.at c.in_ok-at.at next;
      sized = length-set c.loop-walks.walks c.loop-walks.at (c.args.start + 1) ∙ c.loop-walks.invariant.sized;
      walking = goes_on (parent_in c.args.parents.now) c.args.walks.now c.args.start c.requires.walked c.loop-walks.walks c.loop-walks.at c.loop-walks.invariant.walking inside new c.in_ok-at.at next;
    }

pub returns-then-walks-at-clause-found : goal.returns-then-walks-at-clause-found
returns-then-walks-at-clause-found c =
    let known : IsWalked c.loop-walks.walks c.loop-walks.at = omega arith in
    let own : get_or c.loop-walks.walks c.loop-walks.at 0 ≡ c.args.start + 1 = omega arith in
    comes_back (parent_in c.args.parents.now) c.args.walks.now c.args.start c.requires.walked c.loop-walks.walks c.loop-walks.at c.loop-walks.invariant.walking known own

pub returns-else-walks-at-clause-found : goal.returns-else-walks-at-clause-found
returns-else-walks-at-clause-found c =
    let known : IsWalked c.loop-walks.walks c.loop-walks.at = omega arith in
    let older : get_or c.loop-walks.walks c.loop-walks.at 0 ≢ c.args.start + 1 = λ same. absurd (omega arith) in
    comes_to_older (parent_in c.args.parents.now) c.args.walks.now c.args.start c.requires.walked c.loop-walks.walks c.loop-walks.at c.loop-walks.invariant.walking known older
