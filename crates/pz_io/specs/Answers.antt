-- How the answers of the system are taken.
use Rattle.std.specs.Prelude.{◌-◌, ◌^◌, ◌==◌, if◌then◌else◌, nat_le, ℕ, Result, Ok, Err}
use Rattle.pz_io.specs.declared.outside.Got.{Got}
use Rattle.pz_io.specs.declared.outside.Got.TheVariants as got
use Rattle.pz_io.specs.declared.outside.Put.{Put}
use Rattle.pz_io.specs.declared.outside.Put.TheVariants as put

-- What it means that the system says this of a read, where so many bytes were handed out before: none are
-- the end, and so many that the count would not hold them are a failure, as each error is.
abbrev pub read_answer : {E : Type 0} → Result ℕ E → ℕ → Got
read_answer (Err error) handed = got.Failed
read_answer (Ok n) handed =
    if n == 0 then got.End else if nat_le n (2 ^ 64 - 1 - handed) then got.Bytes n else got.Failed

-- The same of a write: that none were taken is a failure.
abbrev pub write_answer : {E : Type 0} → Result ℕ E → Put
write_answer (Err error) = put.Failed
write_answer (Ok n) = if n == 0 then put.Failed else put.Took n
