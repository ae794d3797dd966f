-- The block of the place changes as the sum of all.
use Rattle.std.proofs.Common.{◌≡◌, ◌<◌, ◌/◌, ◌∙◌, sym, subst, ℕ, List, length, get_or, arith}
use Rattle.std.proofs.lemmas.List.{get_or_default}
use Rattle.pz_match_lists.proofs.Summing.{in_block, put_summed}
use Rattle.pz_match_lists.proofs.counts.Counts.put.Goals as goal

pub overflow_sub-others : goal.overflow_sub-others
overflow_sub-others c =
    let numbers = c.self.inside.numbers.items in
    let blocks = c.self.inside.blocks.items in
    let p = c.args.place in
    let lt : p < length numbers = subst (λ (xs : List ℕ). p < length xs) (sym c.self.view_is) c.requires in
    let b = in_block numbers blocks c.self.inside.total c.self.invariant p (p / 64) lt (omega arith) (omega arith) in
    let old : c.index-before.result.now ≡ get_or numbers p 0 = c.index-before.ensures ∙ get_or_default numbers p c.index-before.result.now 0 lt in
    let sums : c.index.result.now ≡ get_or blocks (p / 64) 0 = c.index.ensures ∙ get_or_default blocks (p / 64) c.index.result.now 0 b.0 in
    omega (arith, old, sums, b.1)

pub overflow_add-others : goal.overflow_add-others
overflow_add-others c =
    let numbers = c.self.inside.numbers.items in
    let blocks = c.self.inside.blocks.items in
    let p = c.args.place in
    let lt : p < length numbers = subst (λ (xs : List ℕ). p < length xs) (sym c.self.view_is) c.requires in
    let b = in_block numbers blocks c.self.inside.total c.self.invariant p (p / 64) lt (omega arith) (omega arith) in
    let old : c.index-before.result.now ≡ get_or numbers p 0 = c.index-before.ensures ∙ get_or_default numbers p c.index-before.result.now 0 lt in
    let sums : c.index.result.now ≡ get_or blocks (p / 64) 0 = c.index.ensures ∙ get_or_default blocks (p / 64) c.index.result.now 0 b.0 in
    let now = c.in-Some.ensures in
    omega (arith, old, sums, b.1, b.2, now.0, now.1)

pub invariant_of-self : goal.invariant_of-self
invariant_of-self c =
    let numbers = c.self.inside.numbers.items in
    let blocks = c.self.inside.blocks.items in
    let p = c.args.place in
    let lt : p < length numbers = subst (λ (xs : List ℕ). p < length xs) (sym c.self.view_is) c.requires in
    let b = in_block numbers blocks c.self.inside.total c.self.invariant p (p / 64) lt (omega arith) (omega arith) in
    let old : c.index-before.result.now ≡ get_or numbers p 0 = c.index-before.ensures ∙ get_or_default numbers p c.index-before.result.now 0 lt in
    let sums : c.index.result.now ≡ get_or blocks (p / 64) 0 = c.index.ensures ∙ get_or_default blocks (p / 64) c.index.result.now 0 b.0 in
    let now = c.in-Some.ensures in
    put_summed numbers blocks c.self.inside.total c.self.invariant p (p / 64) lt (omega arith) (omega arith) c.args.number _ c.in-Some.total (omega (arith, old, sums, b.1)) (omega (arith, old, b.1, b.2, now.0, now.1))
