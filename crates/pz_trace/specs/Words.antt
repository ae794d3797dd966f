-- The words of lines. Numbers are decimal.
use Rattle.std.specs.Prelude.{ℕ, List, ◌++◌, codes}
use Rattle.std.specs.Fmt.{decimal}
use Rattle.pz_rules.specs.pz_syntax.declared.tokens.Pos.{Pos}
use Rattle.pz_rules.specs.pz_state.declared.fault.FaultKind.{FaultKind}
use Rattle.pz_rules.specs.pz_state.declared.fault.FaultKind.TheVariants.{Overflow, DivideByZero, NotUnderstood, Index, NegativeDelay, NotBoolean, NotInteger, StoreFull, ClockTooLarge}
use Rattle.pz_rules.specs.declared.action.Kind.{Kind}
use Rattle.pz_rules.specs.declared.action.Kind.TheVariants.{Skip, Eval, Test, Expire, Call}

abbrev pub kind_word : Kind → List ℕ
kind_word Skip = codes "skip"
kind_word Eval = codes "eval"
kind_word Test = codes "test"
kind_word Expire = codes "expire"
kind_word Call = codes "call"

abbrev pub fault_word : FaultKind → List ℕ
fault_word Overflow = codes "Overflow"
fault_word DivideByZero = codes "DivideByZero"
fault_word NotUnderstood = codes "NotUnderstood"
fault_word Index = codes "Index"
fault_word NegativeDelay = codes "NegativeDelay"
fault_word NotBoolean = codes "NotBoolean"
fault_word NotInteger = codes "NotInteger"
fault_word StoreFull = codes "StoreFull"
fault_word ClockTooLarge = codes "ClockTooLarge"

-- a place in the text of the model: `line:column`
abbrev pub pos_text : Pos → List ℕ
pos_text at = decimal at.line ++ (codes ":" ++ decimal at.column)
