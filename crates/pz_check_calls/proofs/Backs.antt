-- The calls that lead back, method by method.
use Rattle.std.proofs.Common.{◌≡◌, sym, ap, ◌∙◌, ℕ, suc, ◌<◌, List, ◌∷◌, ◌++◌, drop, length, get_or, drop-cons, Option}
use Rattle.pz_check_violations.specs.declared.violation.Violation.{Violation}
use Rattle.pz_check_violations.specs.Least.{least_from}
use Rattle.pz_check_violations.proofs.Leasts.{least_from_append}
use Rattle.pz_check_components.specs.Graph.{number_of}
use Rattle.pz_check_calls.specs.declared.graph.Call.{Call}
use Rattle.pz_check_calls.specs.declared.graph.Method.{Method}
use Rattle.pz_check_calls.specs.devices.LeadingBack.{back_in, back_among}

-- one method further
pub back_step : (numbers : List ℕ) (ms : List Method) (r : Method) (calls : List Call) (k next : ℕ) (least now whole : Option Violation) (number : ℕ) → k < length ms → r ≡ get_or ms k r → next ≡ suc k
    → number ≡ number_of numbers k → calls ≡ r.begun → now ≡ least_from least (back_in numbers number calls)
    → least_from least (back_among numbers k (drop k ms)) ≡ whole
    → least_from now (back_among numbers next (drop next ms)) ≡ whole
back_step numbers ms r calls k next least now whole number within here after numbered are found before =
    let first : drop k ms ≡ r ∷ drop (suc k) ms = drop-cons ms k r within ∙ ap (λ (x : Method). x ∷ drop (suc k) ms) (sym here) in
    let split : least_from least (back_in numbers (number_of numbers k) r.begun ++ back_among numbers (suc k) (drop (suc k) ms)) ≡ whole = rw first at before in
    rw (found, are, numbered, after) (sym (least_from_append least (back_in numbers (number_of numbers k) r.begun) (back_among numbers (suc k) (drop (suc k) ms))) ∙ split)
