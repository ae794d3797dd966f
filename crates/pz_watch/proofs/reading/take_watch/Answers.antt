-- A name, a colon, and the words of a formula.
use Rattle.std.proofs.Common.{◌≡◌, ℕ, sym, ap, ◌∙◌}
use Rattle.pz_lines.proofs.HandedOn.{error_on}
use Rattle.pz_watch.specs.declared.errors.ReadWatchError.TheVariants.{Malformed}
use Rattle.pz_watch.specs.devices.Taking.{is_front, AreOfNoWatch}
use Rattle.pz_watch.proofs.WatchLines.{made_from, no_formula}
use Rattle.pz_watch.proofs.reading.take_watch.Goals as goal

pub returns-in_err-take_formula-clause-malformed : goal.returns-in_err-take_formula-clause-malformed
returns-in_err-take_formula-clause-malformed c =
    error_on
    (λ e. e ≡ Malformed → AreOfNoWatch c.args.words.now)
    c.from_residual-in_err-take_formula.result
    c.in_err-take_formula.field-0.0
    c.from_residual-in_err-take_formula.ensures.1
    (λ is. no_formula c.args.words.now c.next.new.self c.next-2.new.self _ _ c.in-Some.ensures.some c.in-Some-next.ensures.some (c.in_err-take_formula.ensures.malformed is))

pub returns-clause-found : goal.returns-clause-found
returns-clause-found c =
    let told = c.in_ok-take_formula.ensures.found in
    made_from
    c.args.words.now
    c.next.new.self
    c.next-2.new.self
    c.in-Some.name.now
    c.in-Some-next.colon.now
    c.new.result
    c.in_ok-take_formula.field-0
    c.in-Some.ensures.some
    c.in-Some-next.ensures.some
    (ap (λ (k : ℕ). is_front c.in-Some.name.now c.in-Some-next.colon.now k) (sym c.left.ensures) ∙ sym c.is_front.ensures ∙ c.if-not-is_front.false)
    told
    (c.new.ensures.name ∙ c.in_ok-name.ensures)
    (c.new.ensures.stands told.formula told.fresh)
