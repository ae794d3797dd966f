-- What was said, by how its writing went.
use Rattle.std.proofs.Common.{◌≢◌, inl, inr, ℕ, List, [], Some, None, refl, sym}
use Rattle.std.proofs.lemmas.List.{append-nil}
use Rattle.pz_io.specs.Outside.{SinkState}
use Rattle.pz_io.specs.Writing.{Wrote}
use Rattle.pz_io.specs.declared.writing.Halt.{Halt}
use Rattle.pz_io.specs.declared.writing.Halt.TheVariants as halt
use Rattle.pz_run_output.specs.declared.status.Status.{Status}
use Rattle.pz_run_output.specs.declared.status.Status.TheVariants.{WriteFault, NoMemory}
use Rattle.pz_run_output.specs.devices.Halting.{halted_as}
use Rattle.pz_run_output.specs.devices.Saying.{Said, Answers}

-- all of a text
pub said_whole : (before now : SinkState) (text : List ℕ) (given : Status) → given ≢ WriteFault → Wrote before now text None → Said before now text given given
said_whole before now text given ordinary wrote = record {
  tells = wrote.tells;
  is_wanted = λ _ _. refl;
  whole = λ told _ _. wrote.taken told;
  front = λ told. record { front = text; rest = []; parts = sym (append-nil text); taken = wrote.taken told };
  writing = record { kept = λ _. wrote.failed; last = λ is. absurd (ordinary is) };
}

-- a front of it, where this halted
pub said_halted : (before now : SinkState) (text : List ℕ) (wanted : Status) (h : Halt) → Wrote before now text (Some h) → Said before now text wanted (halted_as h)
said_halted before now text wanted halt.NoMemory wrote = record {
  tells = wrote.tells;
  is_wanted = λ _ ample. absurd (ample refl);
  whole = λ _ _ ample. absurd (ample refl);
  front = wrote.taken;
  writing = record { kept = λ _. wrote.failed; last = λ is. cc };
}
said_halted before now text wanted halt.WriteFault wrote = record {
  tells = wrote.tells;
  is_wanted = λ ordinary _. absurd (ordinary refl);
  whole = λ _ ordinary _. absurd (ordinary refl);
  front = wrote.taken;
  writing = record { kept = λ ordinary. absurd (ordinary refl); last = λ _. wrote.failed };
}

-- nothing, for want of memory
pub said_nothing : (s : SinkState) (text : List ℕ) (wanted : Status) → Said s s text wanted NoMemory
said_nothing s text wanted = record {
  tells = refl;
  is_wanted = λ _ ample. absurd (ample refl);
  whole = λ _ _ ample. absurd (ample refl);
  front = λ _. record { front = []; rest = text; parts = refl; taken = sym (append-nil s.taken) };
  writing = record { kept = λ _. refl; last = λ is. cc };
}

pub nothing : (P : List ℕ → Status → Type 0) (s : SinkState) → Answers P s s NoMemory
nothing P s = inl (record { unchanged = refl; wanting = refl })

-- what is to be printed by one is to be printed by another
pub answers_by : (P Q : List ℕ → Status → Type 0) → ((bytes : List ℕ) (status : Status) → P bytes status → Q bytes status)
    → (before now : SinkState) (given : Status) → Answers P before now given → Answers Q before now given
answers_by P Q becomes before now given (inl none) = inl none
answers_by P Q becomes before now given (inr says) = inr (record { bytes = says.bytes; wanted = says.wanted; prints = becomes says.bytes says.wanted says.prints; said = says.said })
