use Rattle.std.proofs.Common.{◌≡◌, ℕ, suc, ◌+◌, take, subst, ap, sym, ◌∙◌, arith}
use Rattle.pz_trace.specs.Laws.{IsLine}
use Rattle.pz_trace.proofs.Cut.{line_there}
use Rattle.pz_trace.proofs.headings.first_line.Goals as goal

pub returns : goal.returns
returns c =
    let same : suc c.in_ok-end.end ≡ c.in_ok-end.end + 1 = omega arith in
    let is : take (suc c.in_ok-end.end) c.args.text.now ≡ c.split_at.result.0.now = ap (λ (j : ℕ). take j c.args.text.now) same ∙ sym c.split_at.ensures.front in
    (subst IsLine is (line_there c.in_ok-end.end c.args.text.now c.in_ok-end.ensures), (c.split_at.result.1.now, c.split_at.ensures.by_index.0))
