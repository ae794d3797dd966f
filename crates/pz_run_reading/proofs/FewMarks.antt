-- A model that was read has at most as many marks as its text has bytes.
use Rattle.std.proofs.Common.{◌≡◌, ap, sym, subst, ◌∙◌, ◌-◌, ◌<◌, ◌≤◌, ◌^◌, ℕ, List, length, Result, Ok, Err, arith}
use Rattle.std.specs.Prelude.{IfOk}
use Rattle.std.proofs.lemmas.List.{length-map}
use Rattle.pz_bind_rules.specs.pz_syntax.declared.tokens.Mark.{Mark}
use Rattle.pz_bind_rules.specs.pz_syntax.declared.tokens.Token.{Token}
use Rattle.pz_bind_rules.specs.pz_syntax.Classes.{ModelTree}
use Rattle.pz_bind_rules.specs.pz_syntax.ModelText.{text, HasFewMarks}
use Rattle.pz_bind.specs.pz_classes.CheckedView.{checked_model}
use Rattle.pz_bind.specs.pz_classes.declared.checked.Checked.{Checked}
use Rattle.pz_run_reading.specs.declared.read_error.ReadModelError.{ReadModelError}
use Rattle.pz_parser_cursor.specs.devices.Input.{marks}

pub is_small : (bytes : List ℕ) (lexed tokens : List Token) (m : ModelTree)
    → length lexed ≤ length bytes → tokens ≡ lexed → marks tokens ≡ text m → length (text m) ≤ length bytes
is_small bytes lexed tokens m few same are =
    let each : length (marks tokens) ≡ length tokens = length-map tokens (λ t. t.mark) in
    let all : length tokens ≡ length lexed = ap (λ (ts : List Token). length ts) same in
    let whole : length (marks tokens) ≡ length (text m) = ap (λ (ms : List Mark). length ms) are in
    omega (arith, few, each, all, whole)

pub few_marks : (bytes : List ℕ) (m : ModelTree) → length bytes < 2 ^ 32 - 1 → length (text m) ≤ length bytes → HasFewMarks m
few_marks bytes m short small = omega (arith, short, small)

-- the checked model is that tree
pub small_model : (bytes : List ℕ) (tree : ModelTree) → length (text tree) ≤ length bytes → (result : Result Checked ReadModelError) → IfOk result (λ c. checked_model c ≡ tree)
    → IfOk result (λ c. length (text (checked_model c)) ≤ length bytes)
small_model bytes tree small (Ok c) same = subst (λ (m : ModelTree). length (text m) ≤ length bytes) (sym same) small
small_model bytes tree small (Err e) same = tt
