-- What a function of the code reads, against the step that the text begins with.
use Rattle.std.proofs.Common.{◌≡◌, ℕ, List, length, take, drop, Result, Ok, Err, sym, ◌∙◌, ap, subst, arith, length-append}
use Rattle.std.proofs.lemmas.List.{take_at, drop_at}
use Rattle.pz_lexer.specs.declared.sorts.Sort.{Sort}
use Rattle.pz_lexer.specs.declared.sorts.Reason.{Reason}
use Rattle.pz_lexer.specs.declared.sorts.Found.{Found}
use Rattle.pz_lexer.specs.declared.sorts.Stop.{Stop}
use Rattle.pz_lexer.specs.Pieces.{IsPiece}
use Rattle.pz_lexer.specs.Refusals.{Stops}
use Rattle.pz_lexer.specs.devices.Reading.{StopsAt, IsFound, Reads}
use Rattle.pz_lexer.specs.devices.Step.{Step, piece, stop}
use Rattle.pz_lexer.specs.devices.Gives.{Gives}
use Rattle.pz_lexer.proofs.Steps.{some_length, IsRight}

pub found_from : (all text rest : List ℕ) (sort : Sort) (found : Found) → IsRight all (piece text sort rest) → found.len ≡ length text → found.sort ≡ sort → IsFound all found
found_from all text rest sort found is len same = record {
  some = omega (arith, some_length text is.1);
  within = omega (arith, ap length is.0, length-append text rest);
  piece =
      subst (λ t. IsPiece t found.sort (drop found.len all)) (sym (ap (take found.len) (sym is.0) ∙ take_at text rest found.len (sym len)))
      (subst (λ t. IsPiece text found.sort t) (sym (ap (drop found.len) (sym is.0) ∙ drop_at text rest found.len (sym len)))
      (subst (λ s. IsPiece text s rest) (sym same) is.2));
}

pub stop_from : (all before rest : List ℕ) (reason : Reason) (at : ℕ) → IsRight all (stop before rest reason) → at ≡ length before → StopsAt all (Stop.Refused reason at)
stop_from all before rest reason at is len = (
  omega (arith, ap length is.0, length-append before rest),
  subst (λ t. Stops t (drop at all) reason) (sym (ap (take at) (sym is.0) ∙ take_at before rest at (sym len)))
      (subst (λ t. Stops before t reason) (sym (ap (drop at) (sym is.0) ∙ drop_at before rest at (sym len))) is.1),
)

-- what gives a right step reads the text
pub reads_from : (all : List ℕ) (step : Step) (result : Result Found Stop) → IsRight all step → Gives step result → Reads all result
reads_from all (piece text sort rest) (Ok found) is gives = found_from all text rest sort found is gives.0 gives.1
reads_from all (piece text sort rest) (Err Stop.NoMemory) is gives = tt
reads_from all (piece text sort rest) (Err (Stop.Refused reason at)) is gives = absurd gives
reads_from all (stop before rest reason) (Ok found) is gives = absurd gives
reads_from all (stop before rest reason) (Err Stop.NoMemory) is gives = tt
reads_from all (stop before rest reason) (Err (Stop.Refused why at)) is gives =
    subst (λ r. StopsAt all (Stop.Refused r at)) (sym gives.0) (stop_from all before rest reason at is gives.1)
