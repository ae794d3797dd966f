use Rattle.std.proofs.Common.{◌≡◌, sym, ◌∙◌, ap, true, false}
use Rattle.pz_words.specs.devices.Reading.{is_plain}
use Rattle.pz_words.proofs.Numerals.{parsed, no_number}
use Rattle.pz_words.proofs.numbers.number.Goals as goal

pub returns-then-is_plain : goal.returns-then-is_plain
returns-then-is_plain c =
    let plain : is_plain c.args.word.now ≡ true = ap is_plain (sym c.as_bytes.ensures.value) ∙ sym c.is_plain.ensures ∙ c.if-is_plain.true in
    c.ok.ensures.value ∙ parsed c.args.word.now c.parse.result c.parse.ensures.value.0 plain

pub returns-else-is_plain : goal.returns-else-is_plain
returns-else-is_plain c =
    let plain : is_plain c.args.word.now ≡ false = ap is_plain (sym c.as_bytes.ensures.value) ∙ sym c.is_plain.ensures ∙ c.if-is_plain.false in
    sym (no_number c.args.word.now plain)
