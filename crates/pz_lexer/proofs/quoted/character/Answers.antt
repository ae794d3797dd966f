use Rattle.std.proofs.Common.{◌≡◌, sym, ◌∙◌, ap, drop, true, false}
use Rattle.std.specs.Prelude.{◌==◌}
use Rattle.pz_lexer.specs.Bytes.{begins}
use Rattle.pz_lexer.specs.devices.QuotedStep.{inside_at}
use Rattle.pz_lexer.proofs.QuotedSteps.{inside_is}
use Rattle.pz_lexer.proofs.QuotedReads.{seen_is, character_closed, character_not_closed, character_bad_escape, character_empty, character_reads}
use Rattle.pz_lexer.proofs.quoted.character.Goals as goal

pub split_at-requires-in-Item : goal.split_at-requires-in-Item
split_at-requires-in-Item c = (seen_is 39 c.split_at.result.1.now _ c.in-Item.ensures).1

pub returns-then-begins_byte : goal.returns-then-begins_byte
returns-then-begins_byte c =
    let bs = c.split_at.result.1.now in
    let ends : begins (λ b. b == 39) (drop c.in-Item.len bs) ≡ true = ap (begins (λ b. b == 39)) (sym c.split_at-in-Item.ensures.back) ∙ sym c.begins_byte.ensures ∙ c.if-begins_byte.true in
    character_reads c.args.text.now bs _ c.requires c.split_at.ensures.back
    (character_closed bs c.in-Item.value c.in-Item.len (inside_at 39 bs) (inside_is 39 bs) c.in-Item.ensures ends)

pub returns-else-begins_byte : goal.returns-else-begins_byte
returns-else-begins_byte c =
    let bs = c.split_at.result.1.now in
    let ends : begins (λ b. b == 39) (drop c.in-Item.len bs) ≡ false = ap (begins (λ b. b == 39)) (sym c.split_at-in-Item.ensures.back) ∙ sym c.begins_byte.ensures ∙ c.if-begins_byte.false in
    character_reads c.args.text.now bs _ c.requires c.split_at.ensures.back
    (character_not_closed bs c.in-Item.value c.in-Item.len (inside_at 39 bs) (inside_is 39 bs) c.in-Item.ensures ends)

pub returns-in-NoEscape : goal.returns-in-NoEscape
returns-in-NoEscape c =
    let bs = c.split_at.result.1.now in
    character_reads c.args.text.now bs _ c.requires c.split_at.ensures.back (character_bad_escape bs (inside_at 39 bs) c.in-NoEscape.ensures)

pub returns-in-Closing : goal.returns-in-Closing
returns-in-Closing c =
    let bs = c.split_at.result.1.now in
    character_reads c.args.text.now bs _ c.requires c.split_at.ensures.back (character_empty bs (inside_at 39 bs) c.inside_at.result c.in-Closing.is c.inside_at.ensures)
