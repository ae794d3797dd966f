use Rattle.pz_run_replaying.proofs.Begins.{none_unbroken, named, none_past, none_other}
use Rattle.pz_run_replaying.proofs.fronts.named_offer.Goals as goal

pub returns-in_err-line : goal.returns-in_err-line
returns-in_err-line c = rw c.from_residual.ensures (λ k within x. none_unbroken c.args.rest.now c.in_err-line.ensures k x)

pub returns-else-k-offers : goal.returns-else-k-offers
returns-else-k-offers c =
    let line = c.in_ok-line.ensures in
    none_past c.rules_are_known.ensures c.args.rest.now c.args.offers c.in-Step.k
    (named c.args.rest.now c.in_ok-line.line.now line.1.0 c.in-Step.clock c.in-Step.n c.in-Step.k c.in_ok-heading.heading line.0 line.1.1 c.in_ok-heading.ensures.1 c.in-Step.is) c.if-k-offers.false

pub returns-in-Other : goal.returns-in-Other
returns-in-Other c = λ k within x.
    let line = c.in_ok-line.ensures in
    none_other c.rules_are_known.ensures c.args.rest.now c.in_ok-line.line.now line.1.0 c.in_ok-heading.heading line.0 line.1.1 c.in_ok-heading.ensures.1 c.in-Other.is k x
