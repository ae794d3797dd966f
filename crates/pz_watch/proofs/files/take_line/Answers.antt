-- A line without an LF, and one of no watch.
use Rattle.std.proofs.Common.{sym, ◌∙◌}
use Rattle.pz_watch.proofs.FileLines.{refused_same, last_line, bad_line}
use Rattle.pz_watch.proofs.files.take_line.Goals as goal

pub returns-then-is_over-clause-refused : goal.returns-then-is_over-clause-refused
returns-then-is_over-clause-refused c = λ line same. (
  refused_same c.args.number line same,
  last_line c.args.lines.now c.next.new.self _ c.in-Some.ensures.some (sym c.is_over.ensures ∙ c.if-is_over.true) c.requires,
)

pub returns-in-Err-Malformed-clause-refused : goal.returns-in-Err-Malformed-clause-refused
returns-in-Err-Malformed-clause-refused c = λ line same. (
  refused_same c.args.number line same,
  bad_line
      c.args.lines.now
      c.next.new.self
      c.in-Some.line.now
      c.in-Some.ensures.some
      (sym c.is_over.ensures ∙ c.if-is_over.false)
      c.requires
      (c.in-Err-Malformed.ensures.malformed c.in-Err-Malformed.field-0-is),
)
