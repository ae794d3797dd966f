-- What a call that writes to a sink has done, between two moments of the sink.
use Rattle.std.specs.Prelude.{◌≡◌, ℕ, List, ◌++◌, true, Option, Some, None}
use Rattle.pz_io.specs.Outside.{SinkState, SinkFailedLast}
use Rattle.pz_io.specs.declared.writing.Halt.{Halt}
use Rattle.pz_io.specs.declared.writing.Halt.TheVariants.{NoMemory, WriteFault}

-- the bytes taken since are this text
abbrev pub TookAll : SinkState → SinkState → List ℕ → Type 0
TookAll before now text = now.taken ≡ before.taken ++ text

-- the bytes taken since are a front of this text
pub record TookFront (before now : SinkState) (text : List ℕ) : Type 0 where
  pub front : List ℕ
  pub rest : List ℕ
  pub parts : text ≡ front ++ rest
  pub taken : TookAll before now front

-- all of a text was taken; a front of it where something halted
abbrev pub Took : Option Halt → SinkState → SinkState → List ℕ → Type 0
Took None before now text = TookAll before now text
Took (Some halt) before now text = TookFront before now text

-- no write failed; or one did that halted all, and nothing was written after it
abbrev pub Failed : Option Halt → SinkState → SinkState → Type 0
Failed None before now = now.faults ≡ before.faults
Failed (Some NoMemory) before now = now.faults ≡ before.faults
Failed (Some WriteFault) before now = SinkFailedLast before now

-- This text was written, unless something halted: then a front of it. What was taken is known of a sink
-- that tells.
pub record Wrote (before now : SinkState) (text : List ℕ) (halt : Option Halt) : Type 0 where
  pub tells : now.told ≡ before.told
  pub taken : before.told ≡ true → Took halt before now text
  pub failed : Failed halt before now
