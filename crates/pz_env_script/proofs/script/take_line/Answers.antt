-- A line without an LF, and one of no entry.
use Rattle.std.proofs.Common.{sym, ◌∙◌}
use Rattle.pz_env_script.proofs.ScriptLines.{taken, last_line, bad_line, malformed_same}
use Rattle.pz_env_script.proofs.script.take_line.Goals as goal

pub returns-then-is_over-clause-malformed : goal.returns-then-is_over-clause-malformed
returns-then-is_over-clause-malformed c = λ line same. (
  malformed_same c.args.number line same,
  last_line c.args.lines.now c.next.new.self _ c.in-Some.ensures.some (sym c.is_over.ensures ∙ c.if-is_over.true) c.requires,
)

pub returns-in-Err-Malformed-clause-malformed : goal.returns-in-Err-Malformed-clause-malformed
returns-in-Err-Malformed-clause-malformed c = λ line same. (
  malformed_same c.args.number line same,
  bad_line
      c.args.lines.now
      c.next.new.self
      c.in-Some.line.now
      c.in-Some.ensures.some
      (sym c.is_over.ensures ∙ c.if-is_over.false)
      c.requires
      (c.in-Err-Malformed.ensures.malformed c.in-Err-Malformed.field-0-is),
)

pub returns-in_ok-push-in-Ok-clause-taken : goal.returns-in_ok-push-in-Ok-clause-taken
returns-in_ok-push-in-Ok-clause-taken c =
    taken
    c.args.lines.now
    c.next.new.self
    c.in-Some.line.now
    c.in-Ok.entry
    c.args.entries.now
    c.push.new.self
    c.in-Some.ensures.some
    (sym c.is_over.ensures ∙ c.if-is_over.false)
    c.in-Ok.ensures.found
    c.in_ok-push-in-Ok.ensures.ok
