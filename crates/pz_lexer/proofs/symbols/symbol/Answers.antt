use Rattle.std.proofs.Common.{take, sym, ◌∙◌}
use Rattle.pz_lexer.specs.Spellings.{spelled}
use Rattle.pz_lexer.specs.Symbols.{symbols}
use Rattle.pz_lexer.proofs.SymbolReads.{some_gives, none_gives, last_gives}
use Rattle.pz_lexer.proofs.symbols.symbol.Goals as goal

pub returns-in-Some : goal.returns-in-Some
returns-in-Some c = some_gives (spelled symbols (take 3 c.args.text.now)) 3 c.args.text.now _ c.in-Some.found c.in-Some.ensures

pub returns-in-Some-front_symbol : goal.returns-in-Some-front_symbol
returns-in-Some-front_symbol c =
    none_gives (spelled symbols (take 3 c.args.text.now)) 3 c.args.text.now _ _ (sym c.in_default.is ∙ c.front_symbol.ensures)
    (some_gives (spelled symbols (take 2 c.args.text.now)) 2 c.args.text.now _ c.in-Some-front_symbol.found c.in-Some-front_symbol.ensures)

pub returns : goal.returns
returns c =
    none_gives (spelled symbols (take 3 c.args.text.now)) 3 c.args.text.now _ c.ok_or.result (sym c.in_default.is ∙ c.front_symbol.ensures)
    (none_gives (spelled symbols (take 2 c.args.text.now)) 2 c.args.text.now _ c.ok_or.result (sym c.in_default-front_symbol.is ∙ c.front_symbol-2.ensures)
    (last_gives (spelled symbols (take 1 c.args.text.now)) 1 c.args.text.now c.front_symbol-3.result c.ok_or.result c.front_symbol-3.ensures c.ok_or.ensures.value))
