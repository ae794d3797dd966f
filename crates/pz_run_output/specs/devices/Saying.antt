-- What a call has done that ends with a status.
use Rattle.std.specs.Prelude.{◌≡◌, ◌≢◌, ◌⊎◌, ℕ, List, true}
use Rattle.pz_io.specs.Outside.{SinkState}
use Rattle.pz_io.specs.Writing.{TookAll, TookFront}
use Rattle.pz_run_output.specs.declared.status.Status.{Status}
use Rattle.pz_run_output.specs.declared.status.Status.TheVariants.{WriteFault, NoMemory}
use Rattle.pz_run_output.specs.Promises.{EndsWriting}

-- the text was written, all of it unless a write failed or memory was wanting; and the status is the
-- wanted one, or says which of these it was
pub record Said (before now : SinkState) (text : List ℕ) (wanted given : Status) : Type 0 where
  pub tells : now.told ≡ before.told
  pub is_wanted : given ≢ WriteFault → given ≢ NoMemory → given ≡ wanted
  pub whole : before.told ≡ true → given ≢ WriteFault → given ≢ NoMemory → TookAll before now text
  pub front : before.told ≡ true → TookFront before now text
  pub writing : EndsWriting before now given

-- memory was wanting before anything was written
pub record NothingWritten (before now : SinkState) (given : Status) : Type 0 where
  pub unchanged : now ≡ before
  pub wanting : given ≡ NoMemory

-- what is to be printed, by this, was said
pub record Says (P : List ℕ → Status → Type 0) (before now : SinkState) (given : Status) : Type 0 where
  pub bytes : List ℕ
  pub wanted : Status
  pub prints : P bytes wanted
  pub said : Said before now bytes wanted given

-- memory was wanting at once, or it was said
abbrev pub Answers : (List ℕ → Status → Type 0) → SinkState → SinkState → Status → Type 0
Answers P before now given = NothingWritten before now given ⊎ Says P before now given
