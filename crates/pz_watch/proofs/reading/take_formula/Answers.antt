-- What is read is the whole, or no formula is.
use Rattle.std.proofs.Common.{◌≡◌, sym, ◌∙◌}
use Rattle.pz_lines.proofs.HandedOn.{error_on}
use Rattle.pz_watch.specs.declared.errors.ReadWatchError.TheVariants.{Malformed}
use Rattle.pz_watch.specs.devices.Taking.{AreOfNoFormula}
use Rattle.pz_watch.proofs.WatchLines.{whole_found, whole_more, whole_none}
use Rattle.pz_watch.proofs.reading.take_formula.Goals as goal

pub returns-in_err-monitor-clause-malformed : goal.returns-in_err-monitor-clause-malformed
returns-in_err-monitor-clause-malformed c =
    error_on
    (λ e. e ≡ Malformed → AreOfNoFormula c.args.words.now)
    c.from_residual.result
    c.in_err-monitor.field-0.0
    c.from_residual.ensures.1
    (λ is. whole_none c.left-most.result c.args.words.now c.left-most.ensures (c.in_err-monitor.ensures.malformed is))

pub returns-then-is_over-clause-found : goal.returns-then-is_over-clause-found
returns-then-is_over-clause-found c =
    whole_found
    c.left-most.result
    c.args.words.now
    c.formula.new.words
    c.in_ok-monitor.monitor
    c.in_ok-monitor.ensures.found
    (sym c.is_over.ensures ∙ c.if-is_over.true)

pub returns-clause-malformed : goal.returns-clause-malformed
returns-clause-malformed c = λ is.
    whole_more
    c.left-most.result
    c.args.words.now
    c.formula.new.words
    c.in_ok-monitor.monitor
    c.left-most.ensures
    c.in_ok-monitor.ensures.found
    (sym c.is_over.ensures ∙ c.if-is_over.false)
