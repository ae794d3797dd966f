-- Why a text is refused, from what the parts of the reading say.
use Rattle.std.proofs.Common.{◌≡◌, ◌⊎◌, inl, inr, ℕ, List, Result, refl}
use Rattle.std.specs.Prelude.{IfErr, MatchResult}
use Rattle.std.specs.Result.{IsErrAnd}
use Rattle.std.proofs.lemmas.Result.{err_from_is_err_and}
use Rattle.pz_bind_rules.specs.pz_syntax.declared.tokens.Token.{Token}
use Rattle.pz_bind_rules.specs.pz_syntax.Classes.{ModelTree}
use Rattle.pz_lexer.specs.declared.error.LexError.{LexError}
use Rattle.pz_lexer.specs.declared.error.LexError.TheVariants as lex
use Rattle.pz_lexer.specs.Tokens.{AreTokens}
use Rattle.pz_lexer.specs.Tokens as tokens
use Rattle.pz_parser.specs.declared.error.ParseError.{ParseError}
use Rattle.pz_parser.specs.declared.error.ParseError.TheVariants as parse
use Rattle.pz_parser.specs.Cuts.{Refuses}
use Rattle.pz_parser.specs.Parsing.{IsTextOf}
use Rattle.pz_bind_rules.specs.pz_check_violations.declared.violation.Violation.{Violation}
use Rattle.pz_bind_rules.specs.pz_check_violations.Order.{IsLeast}
use Rattle.pz_bind.specs.pz_classes.declared.error.BuildError.{BuildError}
use Rattle.pz_bind.specs.pz_classes.declared.error.BuildError.TheVariants as classes
use Rattle.pz_bind.specs.pz_classes.Refusals as classes_refusals
use Rattle.pz_bind_rules.specs.pz_classes_rules.Violations.{Violates}
use Rattle.pz_bind_rules.specs.pz_classes_rules.Soundness.{Breaks, IsSound}
use Rattle.pz_check.specs.declared.error.CheckError.{CheckError}
use Rattle.pz_check.specs.declared.error.CheckError.TheVariants as check
use Rattle.pz_check.specs.Together as together
use Rattle.pz_run_reading.specs.Models.{nesting_limit}
use Rattle.pz_run_reading.specs.Refusals.{IsRefused, no_tokens, no_tree, violates, bad_byte, open_comment, open_string, bad_number, syntax, too_nested, end_of, IsViolation, in_classes, in_rules}
use Rattle.pz_run_reading.specs.Answers.{OnRefused}
use Rattle.pz_run_reading.specs.devices.Errors.{of_lexer, of_parser, of_classes, of_checker}
use Rattle.pz_run_reading.specs.devices.Reading.{HasTree, IsViolationOf}
use Rattle.pz_run_reading.specs.declared.refusal.Refusal.TheVariants as refusal
use Rattle.pz_run_reading.specs.declared.read_error.ReadModelError.{ReadModelError}
use Rattle.pz_run_reading.specs.declared.read_error.ReadModelError.TheVariants.{NoMemory, Refused}

-- what is so of the error that a `?` hands on
pub error_on : {T : Type 0} (P : ReadModelError → Type 0) (result : Result T ReadModelError) (e : ReadModelError) → IsErrAnd result (λ d. d ≡ e) → P e → IfErr result P
error_on P result e is found = let p = err_from_is_err_and result is in rw (p.1, p.2) found

pub wanting_on : {T : Type 0} (Q : T → Type 0) (result : Result T ReadModelError) (e : ReadModelError) → IsErrAnd result (λ d. d ≡ e) → e ≡ NoMemory → MatchResult result Q (λ d. d ≡ NoMemory)
wanting_on Q result e is wanting = let p = err_from_is_err_and result is in rw (p.1, p.2) wanting

-- the text has no tokens
pub lexer_cause : (text : List ℕ) (e : LexError) → (e ≡ lex.NoMemory) ⊎ tokens.IsRefused text e → OnRefused (IsRefused text) (of_lexer e)
lexer_cause text lex.NoMemory cause = tt
lexer_cause text (lex.BadByte at) (inl is) = cc
lexer_cause text (lex.BadByte at) (inr is) = no_tokens (lex.BadByte at) (refusal.BadByte at) is (bad_byte at)
lexer_cause text (lex.OpenComment at) (inl is) = cc
lexer_cause text (lex.OpenComment at) (inr is) = no_tokens (lex.OpenComment at) (refusal.OpenComment at) is (open_comment at)
lexer_cause text (lex.OpenString at) (inl is) = cc
lexer_cause text (lex.OpenString at) (inr is) = no_tokens (lex.OpenString at) (refusal.OpenString at) is (open_string at)
lexer_cause text (lex.BadNumber at) (inl is) = cc
lexer_cause text (lex.BadNumber at) (inr is) = no_tokens (lex.BadNumber at) (refusal.BadNumber at) is (bad_number at)

module _ (text : List ℕ) (ts : List Token) (are : AreTokens text ts) where
  -- the tokens have no tree
  pub parser_cause : (e : ParseError) → ((t : ModelTree) → IsTextOf nesting_limit ts t → e ≡ parse.NoMemory) → Refuses nesting_limit ts (end_of text) e → OnRefused (IsRefused text) (of_parser e)
  parser_cause parse.NoMemory only may = tt
  parser_cause (parse.Syntax at) only may = no_tree ts (parse.Syntax at) (refusal.Syntax at) are (λ t is. let e = only t is in cc) may (syntax at)
  parser_cause (parse.TooNested at) only may = no_tree ts (parse.TooNested at) (refusal.TooNested at) are (λ t is. let e = only t is in cc) may (too_nested at)

-- the violations of the rules that are asked first, and of the others
module _ (tree : ModelTree) where
  pub classes_cause : (e : BuildError) → classes_refusals.OnRefused (IsLeast (Violates tree)) e → OnRefused (IsViolationOf tree) (of_classes e)
  classes_cause classes.NoMemory least = tt
  classes_cause (classes.Refused v) least = in_classes v least

  pub checker_cause : ((w : Violation) → Violates tree w → ⊥) → (e : CheckError) → together.OnRefused (IsLeast (Breaks tree)) e → OnRefused (IsViolationOf tree) (of_checker e)
  checker_cause built check.NoMemory least = tt
  checker_cause built (check.Refused v) least = in_rules v built least

  -- the text has this tree, which violates a rule
  pub violation_cause : (text : List ℕ) → HasTree text tree → (e : ReadModelError) → OnRefused (IsViolationOf tree) e → OnRefused (IsRefused text) e
  violation_cause text has NoMemory found = tt
  violation_cause text has (Refused (refusal.Violates v)) found = violates has.tokens tree v has.are_tokens has.is_tree found
  violation_cause text has (Refused (refusal.BadByte at)) found = absurd found
  violation_cause text has (Refused (refusal.OpenComment at)) found = absurd found
  violation_cause text has (Refused (refusal.OpenString at)) found = absurd found
  violation_cause text has (Refused (refusal.BadNumber at)) found = absurd found
  violation_cause text has (Refused (refusal.Syntax at)) found = absurd found
  violation_cause text has (Refused (refusal.TooNested at)) found = absurd found

  -- a tree that violates a rule is not sound
  pub unsound : (v : Violation) → IsViolation tree v → IsSound tree → ⊥
  unsound _ (in_classes v least) sound = sound.classes v least.violated
  unsound _ (in_rules v built least) sound = sound.rules v least.violated

  -- so a sound one is refused for want of memory alone
  pub sound_cause : IsSound tree → (e : ReadModelError) → OnRefused (IsViolationOf tree) e → e ≡ NoMemory
  sound_cause sound NoMemory found = refl
  sound_cause sound (Refused (refusal.Violates v)) found = absurd (unsound v found sound)
  sound_cause sound (Refused (refusal.BadByte at)) found = absurd found
  sound_cause sound (Refused (refusal.OpenComment at)) found = absurd found
  sound_cause sound (Refused (refusal.OpenString at)) found = absurd found
  sound_cause sound (Refused (refusal.BadNumber at)) found = absurd found
  sound_cause sound (Refused (refusal.Syntax at)) found = absurd found
  sound_cause sound (Refused (refusal.TooNested at)) found = absurd found
