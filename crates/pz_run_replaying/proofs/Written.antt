-- What was written where something halted, and of a refusal.
use Rattle.std.proofs.Common.{◌≡◌, ℕ, List, [], ◌++◌, Option, Some, None, Result, Err, ap, ◌∙◌}
use Rattle.std.specs.Result.{IsErrAnd, result_err}
use Rattle.std.proofs.lemmas.Result.{err_from_is_err_and}
use Rattle.pz_io.specs.Outside.{SinkState}
use Rattle.pz_io.specs.declared.writing.Halt.{Halt}
use Rattle.pz_io.specs.declared.writing.Halt.TheVariants.{NoMemory}
use Rattle.pz_io.specs.Writing.{Wrote}
use Rattle.pz_run_replaying.specs.Lines.{refused_line, expected_line}
use Rattle.pz_run_replaying.specs.Replays.{refusal_text}
use Rattle.pz_run_replaying.specs.devices.Known.{Known}

-- the error that a `?` hands on
pub err_is : {T : Type 0} (r : Result T Halt) (halt : Halt) → IsErrAnd r (λ e. e ≡ halt) → r ≡ Err halt
err_is r halt is = let p = err_from_is_err_and r is in p.1 ∙ ap Err p.2

pub halted_so : {T : Type 0} (r : Result T Halt) (halt : Halt) → IsErrAnd r (λ e. e ≡ halt) → result_err r ≡ Some halt
halted_so r halt is = ap result_err (err_is r halt is)

-- what is put into an empty text is all of it
pub put_alone : (before text now : List ℕ) → before ≡ [] → now ≡ before ++ text → now ≡ text
put_alone before text now none is = is ∙ ap (λ (l : List ℕ). l ++ text) none

-- nothing of a text
pub none_written : {T : Type 0} (known : Known) (s : SinkState) (text : List ℕ) (r : Result T Halt) → IsErrAnd r (λ e. e ≡ NoMemory) → Wrote s s text (result_err r)
none_written known s text r is = rw (halted_so r NoMemory is) (known.wants s s [] text (known.nothing s))

-- its first line halts
pub refusal_cut : {T : Type 0} (known : Known) (before now : SinkState) (number : ℕ) (expected : Option (List ℕ)) (halt : Halt) (r : Result T Halt) → IsErrAnd r (λ e. e ≡ halt)
    → Wrote before now (refused_line number) (Some halt) → Wrote before now (refusal_text number expected) (result_err r)
refusal_cut known before now number None halt r is wrote = rw (halted_so r halt is) wrote
refusal_cut known before now number (Some line) halt r is wrote = rw (halted_so r halt is) (known.halts before now (refused_line number) (expected_line line) halt wrote)

-- its second line halts
pub expected_cut : {T : Type 0} (known : Known) (before mid now : SinkState) (number : ℕ) (line : List ℕ) (halt : Halt) (r : Result T Halt) → IsErrAnd r (λ e. e ≡ halt)
    → Wrote before mid (refused_line number) None → Wrote mid now (expected_line line) (Some halt) → Wrote before now (refused_line number ++ expected_line line) (result_err r)
expected_cut known before mid now number line halt r is first second = rw (halted_so r halt is) (known.joins before mid now (refused_line number) (expected_line line) (Some halt) first second)
