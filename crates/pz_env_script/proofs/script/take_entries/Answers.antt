-- One line after the other is taken.
use Rattle.std.proofs.Common.{◌≡◌, sym, subst, ◌∙◌, ℕ, ◌<◌, arith}
use Rattle.std.specs.List.{join_with_byte}
use Rattle.pz_env_script.specs.declared.errors.ReadScriptError.TheVariants.{Malformed}
use Rattle.pz_env_script.specs.Scripts.{IsMalformedAt}
use Rattle.pz_lines.proofs.HandedOn.{error_on}
use Rattle.pz_env_script.proofs.ScriptLines.{malformed_same}
use Rattle.pz_env_script.proofs.ScriptLines.{starts, goes_on, refused_at, refused_many}
use Rattle.pz_env_script.proofs.script.take_entries.Goals as goal

pub loop-before-init : goal.loop-before-init
loop-before-init c = starts c.args.lines.now c.args.entries.now c.requires.none c.requires.lines c.requires.some

pub loop-before-preserved : goal.loop-before-preserved
loop-before-preserved c =
    goes_on
    (join_with_byte 10 c.args.lines.now)
    c.loop-before.before
    c.loop-before.lines
    c.take_line.new.lines
    c.loop-before.entries
    c.take_line.new.entries
    c.loop-before.invariant
    c.in_ok-take_line.ensures.taken
    c.in_ok-take_line.ensures.lines
    c.in_ok-take_line.ensures.some

pub returns-in_err-take_line-clause-malformed : goal.returns-in_err-take_line-clause-malformed
returns-in_err-take_line-clause-malformed c =
    let few : c.loop-before.before < 100000 = omega (arith, c.loop-before-test.true) in
    error_on
    (λ e. (line : ℕ) → e ≡ Malformed line → IsMalformedAt (join_with_byte 10 c.args.lines.now) line)
    c.from_residual.result
    c.in_err-take_line.field-0.0
    c.from_residual.ensures.1
    (λ line same.
    (let told = c.in_err-take_line.ensures.malformed line same in
    refused_at
    (join_with_byte 10 c.args.lines.now)
    c.loop-before.before
    line
    c.loop-before.lines
    c.loop-before.entries
    c.loop-before.invariant
    few
    (sym c.is_end.ensures ∙ c.if-is_end.false)
    told.1
    told.0))

pub returns-else-is_end-2-clause-malformed : goal.returns-else-is_end-2-clause-malformed
returns-else-is_end-2-clause-malformed c = λ line same.
    (let full : c.loop-before.before ≡ 100000 = omega (arith, c.loop-before-test.false, c.loop-before.auto.before-end) in
    subst
    (λ (n : ℕ). IsMalformedAt (join_with_byte 10 c.args.lines.now) n)
    (sym (malformed_same 100001 line same))
    (refused_many
    (join_with_byte 10 c.args.lines.now)
    c.loop-before.before
    c.loop-before.lines
    c.loop-before.entries
    c.loop-before.invariant
    full
    (sym c.is_end-2.ensures ∙ c.if-is_end-2.false)))
