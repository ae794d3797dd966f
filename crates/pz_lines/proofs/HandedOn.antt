-- What is so of errors that are handed on.
use Rattle.std.proofs.Common.{◌≡◌, Result, Ok, Err, IfOk, IfErr}
use Rattle.std.specs.Result.{IsErrAnd}
use Rattle.std.proofs.lemmas.Result.{err_from_is_err_and}

-- the error that a `?` hands on
pub error_on : {T E : Type 0} (P : E → Type 0) (result : Result T E) (e : E) → IsErrAnd result (λ d. d ≡ e) → P e → IfErr result P
error_on P result e is found = let p = err_from_is_err_and result is in rw (p.1, p.2) found

pub ok_more : {T E : Type 0} (P Q : T → Type 0) (result : Result T E) → ((x : T) → P x → Q x) → IfOk result P → IfOk result Q
ok_more P Q (Ok x) more is = more x is
ok_more P Q (Err e) more is = is

pub err_more : {T E : Type 0} (P Q : E → Type 0) (result : Result T E) → ((e : E) → P e → Q e) → IfErr result P → IfErr result Q
err_more P Q (Ok x) more is = is
err_more P Q (Err e) more is = more e is
