-- Block by block.
use Rattle.std.proofs.Common.{◌≡◌, ◌<◌, ◌/◌, ◌∙◌, refl, ap, get_or, length, arith}
use Rattle.std.specs.Prelude.{map, sum_by}
use Rattle.pz_match.specs.declared.groups.Sort.TheVariants.{Taken}
use Rattle.pz_match.specs.devices.Kept.{kept, heard}
use Rattle.pz_match.specs.devices.Seeking.{sought}
use Rattle.pz_match.specs.devices.Sharing.{block_of, taken_by}
use Rattle.pz_match.proofs.Reaching.{only_receivers}
use Rattle.pz_match.proofs.Passing.{skipped}
use Rattle.pz_match.proofs.Freed.{block_free}
use Rattle.pz_match.proofs.skipping.free_receivers.Goals as goal

pub loop-at-preserved : goal.loop-at-preserved
loop-at-preserved c =
    let all = map kept c.args.all.now in
    let s = c.args.send.now in
    let blocks = c.args.blocks.now in
    let u = c.loop-at.at in
    let lt : u < length blocks = omega (arith, c.loop-at-test.true) in
    let own = c.free_in-own.ensures in
    let pairs : c.taken_by-pairs.result ≡ sum_by (λ e. length (sought Taken (heard s e))) (block_of (get_or blocks u 0) all)
    = c.taken_by-pairs.ensures
    ∙ (ap (λ n. taken_by c.args.shares.now s n (get_or blocks u 0)) own ∙ block_free c.args.groups.now all c.requires.holds s c.requires.answered c.args.receives.now c.requires.own c.requires.none c.args.shares.now c.requires.shared (get_or blocks u 0)) in
    let next =
    skipped (λ e. length (sought Taken (heard s e))) blocks c.requires.increasing all
    (only_receivers c.args.groups.now all c.requires.holds (λ k. k / 64) blocks blocks s.sender.wire c.requires.blocks Taken s c.requires.keyed refl)
    u c.taken_by-pairs.result c.args.number c.loop-at.seat c.in-Some.next lt c.loop-at.invariant.place_is c.loop-at.invariant.adds pairs c.in-Some.ensures in
    record { within = omega (arith, c.loop-at-test.true); place_is = next.0; adds = next.1 }
