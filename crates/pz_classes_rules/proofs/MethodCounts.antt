-- How many methods the classes before one declare.
use Rattle.std.proofs.Common.{◌≡◌, refl, sym, ap, ◌∙◌, ℕ, zero, suc, ◌+◌, ◌-◌, ◌<◌, ◌≤◌, ◌⊎◌, inl, inr, List, [], length, take, Some, None, slice_get, get_or, arith}
use Rattle.std.specs.Option.{option_map_or}
use Rattle.std.specs.List.{sum_by}
use Rattle.std.proofs.lemmas.List.{take_all}
use Rattle.std.proofs.lemmas.List.Sums.{sum_by_more}
use Rattle.std.proofs.lemmas.Option.{slice_get_cases}
use Rattle.pz_classes_code.specs.pz_syntax.Classes.{DeclTree, ModelTree}
use Rattle.pz_classes_rules.specs.Numbers.{declaration}
use Rattle.pz_classes_rules.specs.Methods.{signatures, methods_before}
use Rattle.pz_classes_rules.proofs.Within.{methods}

-- the number after those of a class
pub methods_after : (m : ModelTree) (c : ℕ) → methods_before m (c + 1) ≡ methods_before m c + length (option_map_or signatures (declaration m c) [])
methods_after m zero = refl
methods_after m (suc i) = by_place (slice_get_cases m.decls i).1
  where
    next : methods_before m (suc i + 1) ≡ sum_by methods (take (i + 1) m.decls)
    next = let same : suc i + 1 - 1 ≡ i + 1 = omega arith in ap (λ (k : ℕ). sum_by methods (take k m.decls)) same

    here : methods_before m (suc i) ≡ sum_by methods (take i m.decls)
    here = let same : suc i - 1 ≡ i = omega arith in ap (λ (k : ℕ). sum_by methods (take k m.decls)) same

    by_place : ((d : DeclTree) × (i < length m.decls) × (slice_get m.decls i ≡ Some d) × (get_or m.decls i d ≡ d)) ⊎ ((length m.decls ≤ i) × (slice_get m.decls i ≡ None))
        → methods_before m (suc i + 1) ≡ methods_before m (suc i) + length (option_map_or signatures (slice_get m.decls i) [])
    by_place (inl at) =
        let more : sum_by methods (take (i + 1) m.decls) ≡ sum_by methods (take i m.decls) + methods (get_or m.decls i at.0) = sum_by_more methods m.decls i at.0 at.1 in
        let own : methods (get_or m.decls i at.0) ≡ length (option_map_or signatures (slice_get m.decls i) []) = rw (at.3, at.2) refl in
        omega (arith, next, here)
    by_place (inr past) =
        let all : take (i + 1) m.decls ≡ take i m.decls = take_all (i + 1) m.decls (omega (arith, past.0)) ∙ sym (take_all i m.decls past.0) in
        let same : sum_by methods (take (i + 1) m.decls) ≡ sum_by methods (take i m.decls) = ap (λ (ds : List DeclTree). sum_by methods ds) all in
        let none : length (option_map_or signatures (slice_get m.decls i) []) ≡ 0 = rw past.1 refl in
        omega (arith, next, here)
