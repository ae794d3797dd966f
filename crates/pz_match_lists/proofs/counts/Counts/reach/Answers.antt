-- Further blocks, and further numbers in them.
use Rattle.std.proofs.Common.{◌≡◌, ◌≤◌, ◌*◌, ◌-◌, ◌++◌, ap, ℕ, List, length, take, replicate, arith}
use Rattle.std.proofs.lemmas.List.{take_all, length-append, length-replicate}
use Rattle.pz_match_lists.specs.devices.Blocks.{AreSummed}
use Rattle.pz_match_lists.proofs.Summing.{reached, grown}
use Rattle.pz_match_lists.proofs.counts.Counts.reach.Goals as goal

pub invariant_of-self-in-Continue-branch-2 : goal.invariant_of-self-in-Continue-branch-2
invariant_of-self-in-Continue-branch-2 c =
    let numbers = c.self.inside.numbers.items in
    let sums : List ℕ = c.self.inside.blocks.items in
    let n = c.max-blocks.result in
    let most = c.max-blocks.ensures in
    let first = c.len.ensures in
    let le : length sums ≤ n = omega (arith, most, first) in
    let m = c.self.inside.blocks.len in
    let long : m ≡ length sums = c.self.inside.blocks.ok.0 in
    let more : AreSummed numbers (take n sums ++ replicate (n - m) 0) c.self.inside.total = reached numbers sums c.self.inside.total c.self.invariant n m long le in
    let room : c.args.len ≤ 64 * length (take n sums ++ replicate (n - m) 0)
    = omega (arith, most, first, le, long, length-append (take n sums) (replicate (n - m) 0), ap length (take_all n sums le), length-replicate {A = ℕ} (n - m) 0) in
    rw (c.in_ok-resize-2.ensures.items, c.in_ok-resize.ensures.items)
    (grown numbers (take n sums ++ replicate (n - m) 0) c.self.inside.total more c.args.len c.self.inside.numbers.len c.self.inside.numbers.ok.0 (let short = c.if-len.true in let there = c.len-2.ensures in omega (arith, short, there)) room)
