-- The answers of files, of a sink, of a file that is read whole, and of a write of all bytes, by cases.
use Rattle.std.specs.Prelude.{ℕ, Bool, true, false, Result, Ok, Err}
use Rattle.pz_io.specs.declared.outside.Opened.{Opened}
use Rattle.pz_io.specs.declared.outside.Opened.TheVariants as opened
use Rattle.pz_io.specs.declared.outside.Got.{Got}
use Rattle.pz_io.specs.declared.outside.Got.TheVariants as got
use Rattle.pz_io.specs.declared.outside.Put.{Put}
use Rattle.pz_io.specs.declared.outside.Put.TheVariants as put
use Rattle.pz_io.specs.declared.whole.ReadError.{ReadError}
use Rattle.pz_io.specs.declared.whole.ReadError.TheVariants as read
use Rattle.pz_io.specs.declared.whole.WriteError.{WriteError}
use Rattle.pz_io.specs.declared.whole.WriteError.TheVariants.{Fault}

abbrev pub OnReady : Opened → Type 0 → Type 0
OnReady opened.Ready P = P
OnReady opened.Failed P = Unit {0}

abbrev pub OnOpenFailed : Opened → Type 0 → Type 0
OnOpenFailed opened.Ready P = Unit {0}
OnOpenFailed opened.Failed P = P

abbrev pub is_open_failed : Opened → Bool
is_open_failed opened.Ready = false
is_open_failed opened.Failed = true

abbrev pub IfBytes : Got → (ℕ → Type 0) → Type 0
IfBytes (got.Bytes n) P = P n
IfBytes got.End P = Unit {0}
IfBytes got.Failed P = Unit {0}

abbrev pub OnEnd : Got → Type 0 → Type 0
OnEnd (got.Bytes n) P = Unit {0}
OnEnd got.End P = P
OnEnd got.Failed P = Unit {0}

abbrev pub OnReadFailed : Got → Type 0 → Type 0
OnReadFailed (got.Bytes n) P = Unit {0}
OnReadFailed got.End P = Unit {0}
OnReadFailed got.Failed P = P

abbrev pub is_end : Got → Bool
is_end (got.Bytes n) = false
is_end got.End = true
is_end got.Failed = false

abbrev pub is_read_failed : Got → Bool
is_read_failed (got.Bytes n) = false
is_read_failed got.End = false
is_read_failed got.Failed = true

-- how many bytes a read handed out
abbrev pub bytes_got : Got → ℕ
bytes_got (got.Bytes n) = n
bytes_got got.End = 0
bytes_got got.Failed = 0

abbrev pub IfTook : Put → (ℕ → Type 0) → Type 0
IfTook (put.Took n) P = P n
IfTook put.Failed P = Unit {0}

abbrev pub OnWriteFailed : Put → Type 0 → Type 0
OnWriteFailed (put.Took n) P = Unit {0}
OnWriteFailed put.Failed P = P

abbrev pub is_write_failed : Put → Bool
is_write_failed (put.Took n) = false
is_write_failed put.Failed = true

-- whether the files failed, or lack the name
abbrev pub is_fault : {A : Type 0} → Result A ReadError → Bool
is_fault (Ok bytes) = false
is_fault (Err read.NoMemory) = false
is_fault (Err read.Fault) = true
is_fault (Err read.TooLong) = false

-- how many bytes the sink took before its fault
abbrev pub sent_of : WriteError → ℕ
sent_of (Fault sent) = sent
