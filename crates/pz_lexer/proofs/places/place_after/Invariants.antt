use Rattle.std.proofs.Common.{◌≡◌, ◌+◌, ◌≤◌, drop}
use Rattle.pz_lexer.specs.Places.{place_after}
use Rattle.pz_lexer.proofs.places.place_after.Given as goal

abbrev pub invariant-loop-b : goal.invariant-loop-b
invariant-loop-b l =
    (l.line ≤ l.initial.line + l.b-index)
    × (l.column ≤ l.initial.column + l.b-index)
    × (place_after (record { line = l.line; column = l.column }) (drop l.b-index l.text) ≡ place_after (record { line = l.initial.line; column = l.initial.column }) l.text)
