-- Block by block.
use Rattle.std.proofs.Common.{◌<◌, ◌/◌, get_or, length, arith}
use Rattle.std.specs.Prelude.{map}
use Rattle.pz_match.specs.declared.groups.Sort.TheVariants.{Taken}
use Rattle.pz_match.specs.devices.Kept.{kept}
use Rattle.pz_match.specs.devices.Seeking.{from_process}
use Rattle.pz_match.proofs.Reaching.{only_senders}
use Rattle.pz_match.proofs.Passing.{skipped, block_taken}
use Rattle.pz_match.proofs.skipping.taken_senders.Goals as goal

pub loop-at-preserved : goal.loop-at-preserved
loop-at-preserved c =
    let all = map kept c.args.all.now in
    let groups = c.args.groups.now in
    let blocks = c.args.blocks.now in
    let u = c.loop-at.at in
    let lt : u < length blocks = omega (arith, c.loop-at-test.true) in
    let pairs = block_taken groups all c.requires.holds c.args.wire c.args.shares.now c.requires.shared (get_or blocks u 0) c.in-Some.pairs c.in-Some.ensures in
    let next =
    skipped (from_process Taken groups.groups c.args.wire) blocks c.requires.increasing all
    (only_senders groups all c.requires.holds (λ k. k / 64) blocks blocks c.args.wire c.requires.blocks Taken)
    u c.in-Some.pairs c.args.number c.loop-at.seat c.in-Some-behind.next lt c.loop-at.invariant.place_is c.loop-at.invariant.adds pairs c.in-Some-behind.ensures in
    record { within = omega (arith, c.loop-at-test.true); place_is = next.0; adds = next.1 }
