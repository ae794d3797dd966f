use Rattle.pz_lexer.specs.Symbols.{symbols}
use Rattle.pz_lexer.proofs.SymbolReads.{front_some, front_none}
use Rattle.pz_lexer.proofs.symbols.front_symbol.Goals as goal

pub returns-in_err-symbol : goal.returns-in_err-symbol
returns-in_err-symbol c =
    rw c.from_residual.ensures (front_none symbols c.args.text.now c.args.most c.min-len.result c.split_at.result.0.now c.min-len.ensures c.split_at.ensures.front c.in_err-symbol.ensures)

pub returns : goal.returns
returns c = front_some symbols c.args.text.now c.args.most c.min-len.result c.split_at.result.0.now c.in_ok-symbol.symbol c.min-len.ensures c.split_at.ensures.front c.in_ok-symbol.ensures
