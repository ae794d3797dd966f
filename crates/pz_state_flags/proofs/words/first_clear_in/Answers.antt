use Rattle.std.proofs.Common.{◌≡◌, ap, sym, ◌∙◌, arith, rules, w64}
use Rattle.std.specs.Int.{trailing_ones}
use Rattle.pz_state_flags.specs.Flags.{word_at}
use Rattle.pz_state_flags.proofs.Levels.{clear_in_open}
use Rattle.pz_state_flags.proofs.words.first_clear_in.Goals as goal

pub returns : goal.returns
returns c = let word : c.unwrap_or-word.result ≡ word_at c.args.words.now.items c.args.place = search rules in
    let n : trailing_ones w64 (word_at c.args.words.now.items c.args.place) ≡ c.trailing_ones.result = ap (trailing_ones w64) (sym word) ∙ sym c.trailing_ones.ensures in
    rw (← n) (clear_in_open c.args.words.now.items c.args.place c.requires.first (omega (arith, word, c.unwrap_or-word.type_inv)))
