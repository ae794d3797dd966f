-- The instances that lead back, class by class.
use Rattle.std.proofs.Common.{◌≡◌, sym, ap, ◌∙◌, ℕ, suc, ◌<◌, List, ◌∷◌, ◌++◌, drop, length, get_or, drop-cons, Option}
use Rattle.pz_check_violations.specs.declared.violation.Violation.{Violation}
use Rattle.pz_check_violations.specs.Least.{least_from}
use Rattle.pz_check_violations.proofs.Leasts.{least_from_append}
use Rattle.pz_check_components.specs.Graph.{number_of}
use Rattle.pz_check_size.specs.declared.nodes.Node.{Node}
use Rattle.pz_check_size.specs.devices.LeadingBack.{back_from, back_among}

-- one class further
pub back_step : (numbers : List ℕ) (nodes : List Node) (n : Node) (c next : ℕ) (least now whole : Option Violation) (number : ℕ) → c < length nodes → n ≡ get_or nodes c n → next ≡ suc c
    → number ≡ number_of numbers c → now ≡ least_from least (back_from numbers number n)
    → least_from least (back_among numbers c (drop c nodes)) ≡ whole
    → least_from now (back_among numbers next (drop next nodes)) ≡ whole
back_step numbers nodes n c next least now whole number within here after numbered found before =
    let first : drop c nodes ≡ n ∷ drop (suc c) nodes = drop-cons nodes c n within ∙ ap (λ (x : Node). x ∷ drop (suc c) nodes) (sym here) in
    let split : least_from least (back_from numbers (number_of numbers c) n ++ back_among numbers (suc c) (drop (suc c) nodes)) ≡ whole = rw first at before in
    rw (found, numbered, after) (sym (least_from_append least (back_from numbers (number_of numbers c) n) (back_among numbers (suc c) (drop (suc c) nodes))) ∙ split)
