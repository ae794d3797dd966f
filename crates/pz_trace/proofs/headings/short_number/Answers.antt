use Rattle.std.proofs.Common.{ℕ, ◌<◌, ◌^◌, sym, subst}
use Rattle.pz_trace.specs.devices.Reading.{BeginsWithNumber}
use Rattle.pz_trace.proofs.Headed.{number_once}
use Rattle.pz_trace.proofs.headings.short_number.Goals as goal

pub returns-in-Err : goal.returns-in-Err
returns-in-Err c = λ n rest x small.
    let same = number_once c.args.text.now n c.in_ok-n.n rest c.in_ok-n.rest.now x c.in_ok-n.ensures in
    c.in-Err.ensures (subst (λ (i : ℕ). i < 2 ^ 64) same.same_number small)

pub returns-in-Ok : goal.returns-in-Ok
returns-in-Ok c =
    let is = c.in-Ok.ensures in
    (subst (λ (i : ℕ). i < 2 ^ 64) (sym is.1) is.0, subst (λ (i : ℕ). BeginsWithNumber c.args.text.now i c.in_ok-n.rest.now) (sym is.1) c.in_ok-n.ensures)
