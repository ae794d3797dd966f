use Rattle.std.proofs.Common.{ℕ, List, subst}
use Rattle.pz_trace.specs.devices.Reading.{BeginsWithNumber}
use Rattle.pz_trace.proofs.Headed.{after_n, after_clock, number_once, first_number, second_number, third_number, three_numbers}
use Rattle.pz_trace.proofs.headings.numbers.Goals as goal

pub returns-in_err-clock : goal.returns-in_err-clock
returns-in_err-clock c = rw c.from_residual.ensures (λ clock n k x. c.in_err-clock.ensures clock (after_clock n k x.rest) (first_number c.args.line.now clock n k x))

pub returns-in_err-n : goal.returns-in_err-n
returns-in_err-n c = rw c.from_residual-in_err-n.ensures (λ clock n k x.
    let one = number_once c.args.line.now clock c.in_ok-clock.clock (after_clock n k x.rest) c.in_ok-clock.rest.now (first_number c.args.line.now clock n k x) c.in_ok-clock.ensures in
    c.in_err-n.ensures n (after_n k x.rest) (subst (λ (l : List ℕ). BeginsWithNumber l n (after_n k x.rest)) one.same_rest (second_number c.args.line.now clock n k x)) x.n_fits)

pub returns-in_err-k : goal.returns-in_err-k
returns-in_err-k c = rw c.from_residual-in_err-k.ensures (λ clock n k x.
    let one = number_once c.args.line.now clock c.in_ok-clock.clock (after_clock n k x.rest) c.in_ok-clock.rest.now (first_number c.args.line.now clock n k x) c.in_ok-clock.ensures in
    let two = number_once c.in_ok-clock.rest.now n c.in_ok-n.n (after_n k x.rest) c.in_ok-n.rest.now
    (subst (λ (l : List ℕ). BeginsWithNumber l n (after_n k x.rest)) one.same_rest (second_number c.args.line.now clock n k x)) c.in_ok-n.ensures.1 in
    c.in_err-k.ensures k x.rest (subst (λ (l : List ℕ). BeginsWithNumber l k x.rest) two.same_rest (third_number c.args.line.now clock n k x)) x.k_fits)

pub returns : goal.returns
returns c =
    three_numbers c.args.line.now c.in_ok-clock.rest.now c.in_ok-n.rest.now c.in_ok-k._rest.now c.in_ok-clock.clock c.in_ok-n.n c.in_ok-k.k
    c.in_ok-clock.ensures c.in_ok-n.ensures.1 c.in_ok-k.ensures.1 c.in_ok-n.ensures.0 c.in_ok-k.ensures.0
