-- Laws of texts that are written piece by piece.
use Rattle.std.specs.Prelude.{ℕ, List, [], ◌++◌, Option, Some, None}
use Rattle.pz_io.specs.Outside.{SinkState}
use Rattle.pz_io.specs.Writing.{Wrote}
use Rattle.pz_io.specs.declared.writing.Halt.{Halt}
use Rattle.pz_io.specs.declared.writing.Halt.TheVariants.{NoMemory}

-- before the first piece nothing is written
abbrev pub NothingIsWritten : Type 0
NothingIsWritten = (s : SinkState) → Wrote s s [] None

-- a piece and what follows it, also where that halts, are written as one
abbrev pub PiecesJoin : Type 0
PiecesJoin = (before mid now : SinkState) (piece more : List ℕ) (halt : Option Halt) → Wrote before mid piece None → Wrote mid now more halt → Wrote before now (piece ++ more) halt

-- where a piece halts, nothing more of the whole is written
abbrev pub HaltsBeforeMore : Type 0
HaltsBeforeMore = (before now : SinkState) (piece more : List ℕ) (halt : Halt) → Wrote before now piece (Some halt) → Wrote before now (piece ++ more) (Some halt)

-- memory may be wanting between two pieces
abbrev pub MemoryMayBeWanting : Type 0
MemoryMayBeWanting = (before now : SinkState) (piece more : List ℕ) → Wrote before now piece None → Wrote before now (piece ++ more) (Some NoMemory)
