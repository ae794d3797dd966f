-- One line after the other is taken.
use Rattle.std.proofs.Common.{◌≡◌, sym, subst, ◌∙◌, ℕ, ◌<◌, arith}
use Rattle.std.specs.List.{join_with_byte}
use Rattle.pz_lines.specs.Identifiers.{is_identifier}
use Rattle.pz_lines.proofs.HandedOn.{error_on}
use Rattle.pz_watch.specs.declared.errors.ReadWatchesError.TheVariants.{Refused}
use Rattle.pz_watch.specs.Files.{IsRefusedAt}
use Rattle.pz_watch.proofs.FileLines.{refused_same, starts, goes_on, refused_at, refused_many}
use Rattle.pz_watch.proofs.files.take_watches.Goals as goal

pub loop-before-init : goal.loop-before-init
loop-before-init c = starts c.args.lines.now c.args.watches.now c.requires.none c.requires.lines c.requires.some

pub loop-before-preserved : goal.loop-before-preserved
loop-before-preserved c =
    goes_on
    (join_with_byte 10 c.args.lines.now)
    c.loop-before.before
    c.loop-before.lines
    c.take_line.new.lines
    c.loop-before.watches
    c.take_line.new.watches
    c.loop-before.invariant
    c.in_ok-take_line.ensures.taken
    c.in_ok-take_line.ensures.lines
    c.in_ok-take_line.ensures.some

pub returns-in_err-take_line-clause-refused : goal.returns-in_err-take_line-clause-refused
returns-in_err-take_line-clause-refused c =
    let few : c.loop-before.before < 100 = omega (arith, c.loop-before-test.true) in
    error_on
    (λ e. (line : ℕ) → e ≡ Refused line → IsRefusedAt is_identifier (join_with_byte 10 c.args.lines.now) line)
    c.from_residual.result
    c.in_err-take_line.field-0.0
    c.from_residual.ensures.1
    (λ line same.
    (let told = c.in_err-take_line.ensures.refused line same in
    refused_at
    (join_with_byte 10 c.args.lines.now)
    c.loop-before.before
    line
    c.loop-before.lines
    c.loop-before.watches
    c.loop-before.invariant
    few
    (sym c.is_end.ensures ∙ c.if-is_end.false)
    told.1
    told.0))

pub returns-else-is_end-2-clause-refused : goal.returns-else-is_end-2-clause-refused
returns-else-is_end-2-clause-refused c = λ line same.
    (let full : c.loop-before.before ≡ 100 = omega (arith, c.loop-before-test.false, c.loop-before.auto.before-end) in
    subst
    (λ (n : ℕ). IsRefusedAt is_identifier (join_with_byte 10 c.args.lines.now) n)
    (sym (refused_same 101 line same))
    (refused_many
    (join_with_byte 10 c.args.lines.now)
    c.loop-before.before
    c.loop-before.lines
    c.loop-before.watches
    c.loop-before.invariant
    full
    (sym c.is_end-2.ensures ∙ c.if-is_end-2.false)))
