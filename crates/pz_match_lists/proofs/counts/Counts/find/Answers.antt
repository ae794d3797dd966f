-- The block first, and then the number in it.
use Rattle.std.proofs.Common.{◌≡◌, ◌≤◌, ◌<◌, ◌+◌, ◌*◌, subst, ℕ, List, length, take, drop, arith}
use Rattle.std.specs.Prelude.{sum, slice_index}
use Rattle.std.specs.Option.{MatchOption}
use Rattle.pz_match_lists.proofs.Summing.{nowhere, found}
use Rattle.pz_match_lists.proofs.counts.Counts.find.Goals as goal

pub returns-in-None : goal.returns-in-None
returns-in-None c =
    subst (λ (xs : List ℕ). sum xs ≤ c.args.rest) c.self.view_is
    (nowhere c.self.inside.numbers.items c.self.inside.blocks.items c.self.inside.total c.self.invariant c.args.rest (subst (λ (xs : List ℕ). sum (drop 0 xs) ≤ c.args.rest) c.as_slice.ensures.value c.in-None.ensures))

pub returns-in-Some : goal.returns-in-Some
returns-in-Some c =
    let numbers = c.self.inside.numbers.items in
    let b = c.in-Some.block in
    let left = c.in-Some.left in
    let seen : (b < length c.self.inside.blocks.items) × (sum (take b c.self.inside.blocks.items) + left ≡ sum (take 0 c.self.inside.blocks.items) + c.args.rest) × (left < slice_index c.self.inside.blocks.items b)
    = subst (λ (xs : List ℕ). (b < length xs) × (sum (take b xs) + left ≡ sum (take 0 xs) + c.args.rest) × (left < slice_index xs b)) c.as_slice.ensures.value c.in-Some.ensures in
    let there : MatchOption c.find_in-in-Some.result (sum (drop (b * 64) numbers) ≤ left) (λ x. (x.0 < length numbers) × (sum (take x.0 numbers) + x.1 ≡ sum (take (b * 64) numbers) + left) × (x.1 < slice_index numbers x.0))
    = subst (λ (xs : List ℕ). MatchOption c.find_in-in-Some.result (sum (drop (b * 64) xs) ≤ left) (λ x. (x.0 < length xs) × (sum (take x.0 xs) + x.1 ≡ sum (take (b * 64) xs) + left) × (x.1 < slice_index xs x.0))) c.as_slice-in-Some.ensures.value c.find_in-in-Some.ensures in
    subst (λ (xs : List ℕ). MatchOption c.find_in-in-Some.result (sum xs ≤ c.args.rest) (λ x. (x.0 < length xs) × (sum (take x.0 xs) + x.1 ≡ c.args.rest) × (x.1 < slice_index xs x.0))) c.self.view_is
    (found numbers c.self.inside.blocks.items c.self.inside.total c.self.invariant c.find_in-in-Some.result b (b * 64) left c.args.rest (omega arith) seen.0 seen.2 seen.1 there)
