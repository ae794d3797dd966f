use Rattle.std.proofs.Common.{◌≡◌, sym, ◌∙◌, ap}
use Rattle.pz_words.specs.devices.Reading.{number_of, is_plain}
use Rattle.pz_words.proofs.Numerals.{parsed, no_number}
use Rattle.pz_debug_commands.proofs.Numerals.{no_text}
use Rattle.pz_debug_commands.proofs.numbers.number.Goals as goal

pub returns-then-not-is_plain : goal.returns-then-not-is_plain
returns-then-not-is_plain c = sym (no_number c.args.word.now (sym c.is_plain.ensures ∙ c.if-not-is_plain.true))

pub returns-in-Ok : goal.returns-in-Ok
returns-in-Ok c =
    let same : c.in-Ok.text.now ≡ c.args.word.now = c.in-Ok.ensures.cases.0 in
    c.ok.ensures.value
    ∙ parsed c.in-Ok.text.now c.parse.result c.parse.ensures.value.0 (ap is_plain same ∙ sym c.is_plain.ensures ∙ c.if-not-is_plain.false)
    ∙ ap number_of same

pub returns-in-Err : goal.returns-in-Err
returns-in-Err c = sym (no_text c.args.word.now c.in-Err.ensures.cases.0)
