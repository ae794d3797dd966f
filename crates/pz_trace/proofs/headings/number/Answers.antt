use Rattle.std.proofs.Common.{◌≡◌, ℕ, suc, ◌+◌, drop, sym, ap, subst, ◌∙◌, arith}
use Rattle.pz_trace.specs.devices.Reading.{BeginsWithNumber}
use Rattle.pz_trace.proofs.Cut.{no_number, number_there, number_digits}
use Rattle.pz_trace.proofs.headings.number.Goals as goal

pub returns-in_err-end : goal.returns-in_err-end
returns-in_err-end c = rw c.from_residual.ensures (no_number c.args.text.now c.in_err-end.ensures)

pub returns-in_err-n : goal.returns-in_err-n
returns-in_err-n c = rw c.from_residual-in_err-n.ensures (λ n rest x.
    c.in_err-n.ensures n x.fits (c.split_at.ensures.front ∙ number_digits c.args.text.now c.in_ok-end.end n rest c.in_ok-end.ensures x))

pub returns : goal.returns
returns c =
    let same : suc c.in_ok-end.end ≡ c.in_ok-end.end + 1 = omega arith in
    let rest : drop (suc c.in_ok-end.end) c.args.text.now ≡ c.split_at-2.result.1.now = ap (λ (j : ℕ). drop j c.args.text.now) same ∙ sym c.split_at-2.ensures.back in
    subst (BeginsWithNumber c.args.text.now c.in_ok-n.n) rest
    (number_there c.args.text.now c.in_ok-end.end c.in_ok-n.n c.in_ok-end.ensures c.in_ok-n.ensures.0 (sym c.split_at.ensures.front ∙ c.in_ok-n.ensures.1))
