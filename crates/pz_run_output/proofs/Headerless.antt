-- What was written where the first line of a trace is no header.
use Rattle.std.proofs.Common.{◌≡◌, ℕ, List, Option, Some, None, Result, Err, codes, refl, subst, ap, ◌∙◌}
use Rattle.std.specs.Fmt.{digits}
use Rattle.std.specs.Result.{IsErrAnd, result_err}
use Rattle.std.proofs.lemmas.Result.{err_from_is_err_and}
use Rattle.pz_io.specs.Outside.{SinkState}
use Rattle.pz_io.specs.declared.writing.Halt.{Halt}
use Rattle.pz_io.specs.Writing.{Wrote}
use Rattle.pz_io.specs.Laws.{PiecesJoin, HaltsBeforeMore}
use Rattle.pz_run_replaying.specs.Lines.{refused_line, expected_line}
use Rattle.pz_run_replaying.specs.Replays.{refusal_text}

abbrev refused_first : List ℕ
refused_first = codes "refused line 1\n"

is_first : refused_first ≡ refused_line 1
unfolding digits
is_first = refl

module _ (before now : SinkState) (expected : List ℕ) where
  -- the line of the refusal halts
  pub first_halts : {T : Type 0} → HaltsBeforeMore → (halt : Halt) (r : Result T Halt) → IsErrAnd r (λ e. e ≡ halt) → Wrote before now refused_first (Some halt)
      → Wrote before now (refusal_text 1 (Some expected)) (result_err r)
  first_halts halts halt r is wrote =
      let p = err_from_is_err_and r is in
      rw (ap result_err (p.1 ∙ ap Err p.2)) (halts before now (refused_line 1) (expected_line expected) halt (subst (λ (l : List ℕ). Wrote before now l (Some halt)) is_first wrote))

  -- it is written, and the line that is expected, unless that halts
  pub both_written : PiecesJoin → (mid : SinkState) (halt : Option Halt) → Wrote before mid refused_first None → Wrote mid now (expected_line expected) halt
      → Wrote before now (refusal_text 1 (Some expected)) halt
  both_written joins mid halt first second = joins before mid now (refused_line 1) (expected_line expected) halt (subst (λ (l : List ℕ). Wrote before mid l None) is_first first) second
