-- What was written where something halts.
use Rattle.std.proofs.Common.{◌≡◌, ℕ, List, [], ◌++◌, Some, None, Result, Err, subst, ap, ◌∙◌}
use Rattle.std.specs.Result.{IsErrAnd, result_err}
use Rattle.std.proofs.lemmas.List.{append-nil}
use Rattle.std.proofs.lemmas.Result.{err_from_is_err_and}
use Rattle.pz_io.specs.Outside.{SinkState}
use Rattle.pz_io.specs.declared.writing.Halt.{Halt}
use Rattle.pz_io.specs.declared.writing.Halt.TheVariants.{NoMemory}
use Rattle.pz_io.specs.Writing.{Wrote}
use Rattle.pz_debug_replies.specs.devices.Known.{Known}

-- the error that a `?` hands on
pub err_is : {T : Type 0} (r : Result T Halt) (halt : Halt) → IsErrAnd r (λ e. e ≡ halt) → r ≡ Err halt
err_is r halt is = let p = err_from_is_err_and r is in p.1 ∙ ap Err p.2

pub halted_so : {T : Type 0} (r : Result T Halt) (halt : Halt) → IsErrAnd r (λ e. e ≡ halt) → result_err r ≡ Some halt
halted_so r halt is = ap result_err (err_is r halt is)

-- nothing of a text
pub none_of : Known → (s : SinkState) (text : List ℕ) → Wrote s s text (Some NoMemory)
none_of known s text = known.wants s s [] text (known.nothing s)

pub none_written : {T : Type 0} (known : Known) (s : SinkState) (text : List ℕ) (r : Result T Halt) → IsErrAnd r (λ e. e ≡ NoMemory) → Wrote s s text (result_err r)
none_written known s text r is = rw (halted_so r NoMemory is) (none_of known s text)

-- a text, and then memory was wanting
pub whole_written : Known → (before now : SinkState) (text : List ℕ) → Wrote before now text None → Wrote before now text (Some NoMemory)
whole_written known before now text wrote = subst (λ (l : List ℕ). Wrote before now l (Some NoMemory)) (append-nil text) (known.wants before now text [] wrote)

-- a line that was made
pub put_line : (bytes : List ℕ) (before now : SinkState) {A : Type 0} (r : Result A Halt) (text : List ℕ) → Wrote before now bytes (result_err r) → bytes ≡ text → Wrote before now text (result_err r)
put_line bytes before now r text wrote same = subst (λ (l : List ℕ). Wrote before now l (result_err r)) same wrote

-- a text and what comes behind it
pub both_written : Known → {A : Type 0} (before mid now : SinkState) (first more : List ℕ) (r : Result A Halt) → Wrote before mid first None → Wrote mid now more (result_err r) → Wrote before now (first ++ more) (result_err r)
both_written known before mid now first more r wrote rest = known.joins before mid now first more (result_err r) wrote rest

-- where the first halts
pub first_halted : Known → {A : Type 0} (before now : SinkState) (first more : List ℕ) (halt : Halt) (r : Result A Halt) → Wrote before now first (Some halt) → IsErrAnd r (λ e. e ≡ halt) → Wrote before now (first ++ more) (result_err r)
first_halted known before now first more halt r wrote is = rw (halted_so r halt is) (known.halts before now first more halt wrote)
