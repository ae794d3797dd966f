use Rattle.std.proofs.Common.{◌≤◌, ◌-◌, length}
use Rattle.pz_lexer.proofs.QuotedReads.{ItemsTo}
use Rattle.pz_lexer.proofs.quoted.string.Given as goal

abbrev pub invariant-items : goal.invariant-items
invariant-items l = (l.at ≤ length l.text) × ItemsTo l.text l.at l.values.items

abbrev pub decreases-items : goal.decreases-items
decreases-items l = length l.text - l.at
