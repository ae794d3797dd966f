-- Texts that are written piece by piece.
use Rattle.std.proofs.Common.{◌≡◌, ℕ, List, ◌++◌, take, drop, Some, None, refl, sym, ◌∙◌, ap, append_assoc, take-append-drop}
use Rattle.std.proofs.lemmas.List.{append-nil}
use Rattle.pz_io.specs.Outside.{SinkState, raised}
use Rattle.pz_io.specs.declared.writing.Halt.{Halt}
use Rattle.pz_io.specs.declared.writing.Halt.TheVariants.{NoMemory, WriteFault}
use Rattle.pz_io.specs.Writing.{TookAll, TookFront, Failed}
use Rattle.pz_io.specs.Laws.{NothingIsWritten, PiecesJoin, HaltsBeforeMore, MemoryMayBeWanting}

-- a part of a text that was sent
pub front_of_part : (before now : SinkState) (text : List ℕ) (sent : ℕ) → now.taken ≡ before.taken ++ take sent text → TookFront before now text
front_of_part before now text sent is = record {
  front = take sent text;
  rest = drop sent text;
  parts = sym (take-append-drop sent text);
  taken = is;
}

-- a front of a piece is one of what begins with it
front_within : (before now : SinkState) (piece more : List ℕ) → TookFront before now piece → TookFront before now (piece ++ more)
front_within before now piece more x = record {
  front = x.front;
  rest = x.rest ++ more;
  parts = ap (λ (l : List ℕ). l ++ more) x.parts ∙ append_assoc x.front x.rest more;
  taken = x.taken;
}

-- two texts that were taken, one after the other
took_both : (before mid now : SinkState) (piece more : List ℕ) → TookAll before mid piece → TookAll mid now more → TookAll before now (piece ++ more)
took_both before mid now piece more first then =
    then ∙ ap (λ (l : List ℕ). l ++ more) first ∙ append_assoc before.taken piece more

-- after a part in which no write failed
failed_then : (before mid now : SinkState) (halt : Halt) → mid.faults ≡ before.faults → Failed (Some halt) mid now → Failed (Some halt) before now
failed_then before mid now NoMemory same failed = failed ∙ same
failed_then before mid now WriteFault same failed = (failed.0 ∙ ap raised same, failed.1)

pub nothing : NothingIsWritten
nothing s = record { tells = refl; taken = λ _. sym (append-nil s.taken); failed = refl }

pub joins : PiecesJoin
joins before mid now piece more None first then = record {
  tells = then.tells ∙ first.tells;
  taken = λ told. took_both before mid now piece more (first.taken told) (then.taken (first.tells ∙ told));
  failed = then.failed ∙ first.failed;
}
joins before mid now piece more (Some halt) first then = record {
  tells = then.tells ∙ first.tells;
  taken = λ told. let x = then.taken (first.tells ∙ told) in record {
    front = piece ++ x.front;
    rest = x.rest;
    parts = ap (λ (l : List ℕ). piece ++ l) x.parts ∙ sym (append_assoc piece x.front x.rest);
    taken = took_both before mid now piece x.front (first.taken told) x.taken;
  };
  failed = failed_then before mid now halt first.failed then.failed;
}

pub halts : HaltsBeforeMore
halts before now piece more halt wrote = record {
  tells = wrote.tells;
  taken = λ told. front_within before now piece more (wrote.taken told);
  failed = wrote.failed;
}

pub wants : MemoryMayBeWanting
wants before now piece more wrote = record {
  tells = wrote.tells;
  taken = λ told. record { front = piece; rest = more; parts = refl; taken = wrote.taken told };
  failed = wrote.failed;
}
