-- The errors of the parts of a reading as errors of the whole.
use Rattle.pz_lexer.specs.declared.error.LexError.{LexError}
use Rattle.pz_lexer.specs.declared.error.LexError.TheVariants as lex
use Rattle.pz_parser.specs.declared.error.ParseError.{ParseError}
use Rattle.pz_parser.specs.declared.error.ParseError.TheVariants as parse
use Rattle.pz_bind.specs.pz_classes.declared.error.BuildError.{BuildError}
use Rattle.pz_bind.specs.pz_classes.declared.error.BuildError.TheVariants as classes
use Rattle.pz_check.specs.declared.error.CheckError.{CheckError}
use Rattle.pz_check.specs.declared.error.CheckError.TheVariants as check
use Rattle.pz_run_reading.specs.declared.refusal.Refusal.TheVariants as refusal
use Rattle.pz_run_reading.specs.declared.read_error.ReadModelError.{ReadModelError}
use Rattle.pz_run_reading.specs.declared.read_error.ReadModelError.TheVariants.{NoMemory, Refused}

abbrev pub of_lexer : LexError → ReadModelError
of_lexer lex.NoMemory = NoMemory
of_lexer (lex.BadByte at) = Refused (refusal.BadByte at)
of_lexer (lex.OpenComment at) = Refused (refusal.OpenComment at)
of_lexer (lex.OpenString at) = Refused (refusal.OpenString at)
of_lexer (lex.BadNumber at) = Refused (refusal.BadNumber at)

abbrev pub of_parser : ParseError → ReadModelError
of_parser parse.NoMemory = NoMemory
of_parser (parse.Syntax at) = Refused (refusal.Syntax at)
of_parser (parse.TooNested at) = Refused (refusal.TooNested at)

-- the rules C1 to C3
abbrev pub of_classes : BuildError → ReadModelError
of_classes classes.NoMemory = NoMemory
of_classes (classes.Refused v) = Refused (refusal.Violates v)

-- the rules C4 to C22
abbrev pub of_checker : CheckError → ReadModelError
of_checker check.NoMemory = NoMemory
of_checker (check.Refused v) = Refused (refusal.Violates v)
