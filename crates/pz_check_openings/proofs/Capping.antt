-- Where bounds hold as far as the limit, no more opens in any class than they say.
use Rattle.std.proofs.Common.{◌≡◌, refl, sym, ap, subst, ◌∙◌, ℕ, zero, suc, ◌+◌, ◌<◌, ◌≤◌, min, Bool, true, nat_le, List, [], ◌∷◌, length, Option, Some, None, slice_get, arith}
use Rattle.std.specs.List.{sum_by}
use Rattle.std.proofs.lemmas.Bool.Decides.{nat_tests}
use Rattle.std.proofs.lemmas.List.Sums.{sum_by-cons}
use Rattle.pz_classes.specs.pz_syntax.declared.names.Id.{Id}
use Rattle.pz_classes.specs.pz_syntax.Classes.{ProcessMethodTree, ModelTree}
use Rattle.pz_classes.specs.pz_classes_rules.declared.method_id.Counts.TheVariants.{Process}
use Rattle.pz_classes.specs.pz_classes_rules.declared.method_id.MethodId.{MethodId}
use Rattle.pz_classes.specs.pz_classes_rules.Members.{grouped}
use Rattle.pz_classes.specs.pz_classes_rules.Methods.{Signature, method_id, process_signature}
use Rattle.pz_classes_beginnings.specs.Beginning.{begun_all, all_plain_calls, statements_in_all}
use Rattle.pz_classes_openings.specs.Methods.{method_at}
use Rattle.pz_classes_openings.specs.Openings.{begun_at, statements_at, called, of_called, opened_to, spread_to}
use Rattle.pz_classes_openings.proofs.Found.{found_process}
use Rattle.pz_check_openings.specs.declared.outline.Outline.{Outline}
use Rattle.pz_check_openings.specs.devices.Outlines.{outline_of, outlines}
use Rattle.pz_check_openings.specs.devices.Settling.{is_plain}
use Rattle.pz_check_openings.specs.devices.Heavy.{total, is_heavy}
use Rattle.pz_check_openings.proofs.Bounds.{plain_so}
use Rattle.pz_check_openings.proofs.Listed.{outline_is, outline_there}

is_le : (a b : ℕ) → a ≤ b → nat_le a b ≡ true
is_le a b is = grind (arith, nat_tests)

module _ (m : ModelTree) (bound : List ℕ → ℕ) (covered : (k : ℕ) (o : Outline) → slice_get (outlines m) k ≡ Some (Some o) → is_plain o ≡ true → total bound o.statements o.begun ≤ bound o.name.name) where
  sum_capped : (f : Id → ℕ) → ((x : Id) → min (f x) 1000001 ≤ bound x.name) → (xs : List Id) → min (sum_by f xs) 1000001 ≤ sum_by (λ x. bound x.name) xs
  sum_capped f each [] = omega arith
  sum_capped f each (x ∷ xs) =
      let s : sum_by f (x ∷ xs) ≡ f x + sum_by f xs = sum_by-cons f x xs in
      let b : sum_by (λ (y : Id). bound y.name) (x ∷ xs) ≡ bound x.name + sum_by (λ (y : Id). bound y.name) xs = sum_by-cons (λ (y : Id). bound y.name) x xs in
      let one : min (f x) 1000001 ≤ bound x.name = each x in
      let rest : min (sum_by f xs) 1000001 ≤ sum_by (λ (y : Id). bound y.name) xs = sum_capped f each xs in
      omega (arith, s, b, one, rest)

  -- a called method opens as no more than the bound of its name, by the bounds
  kept_to : (c n : ℕ) (x : Id) → called m c x ≡ Some (method_id n) → min (statements_at m n + sum_by (λ y. bound y.name) (begun_at m n)) 1000001 ≤ bound x.name
  kept_to c n x is = by_method (found_process m (record { name = x.name; counts = Process 0 0 }) c n 0 0 refl is)
    where
      by_method : (r : ProcessMethodTree) × (method_at m n ≡ Some r) × (record { name = x.name; counts = Process 0 0 } ≡ process_signature r) → min (statements_at m n + sum_by (λ y. bound y.name) (begun_at m n)) 1000001 ≤ bound x.name
      by_method (r, at, same) =
          let plain : is_plain (outline_of r) ≡ true = plain_so (length (grouped r.inputs)) (length (grouped r.outputs)) (ap (λ (s : Signature). s.counts) same) in
          let most : min (min (statements_in_all r.body) 1000001 + sum_by (λ (y : Id). bound y.name) (begun_all r.body)) 1000001 ≤ bound r.name.name = covered n (outline_of r) (outline_there m n r at) plain in
          let named : bound x.name ≡ bound r.name.name = ap (λ (s : Signature). bound s.name) same in
          let whole : min (statements_in_all r.body + sum_by (λ (y : Id). bound y.name) (begun_all r.body)) 1000001 ≤ bound x.name = omega (arith, most, named) in
          rw at whole

  of_capped : (c depth : ℕ) → ((n : ℕ) (x : Id) → called m c x ≡ Some (method_id n) → min (opened_to m c depth n) 1000001 ≤ bound x.name) → (x : Id) → min (of_called (opened_to m c depth) (called m c x)) 1000001 ≤ bound x.name
  of_capped c depth each x = by_method (called m c x) refl
    where
      by_method : (o : Option MethodId) → called m c x ≡ o → min (of_called (opened_to m c depth) o) 1000001 ≤ bound x.name
      by_method None is = omega arith
      by_method (Some n) is = each n.0 x is

  opened_capped : (depth c n : ℕ) (x : Id) → called m c x ≡ Some (method_id n) → min (opened_to m c depth n) 1000001 ≤ bound x.name
  opened_capped zero c n x is = omega arith
  opened_capped (suc depth) c n x is =
      let s : min (sum_by (λ (y : Id). of_called (opened_to m c depth) (called m c y)) (begun_at m n)) 1000001 ≤ sum_by (λ (y : Id). bound y.name) (begun_at m n) =
      sum_capped (λ (y : Id). of_called (opened_to m c depth) (called m c y)) (of_capped c depth (opened_capped depth c)) (begun_at m n) in
      let all : min (statements_at m n + sum_by (λ (y : Id). bound y.name) (begun_at m n)) 1000001 ≤ bound x.name = kept_to c n x is in
      omega (arith, s, all)

  pub heavy_so : (c k depth : ℕ) (o : Outline) → slice_get (outlines m) k ≡ Some (Some o) → 1000000 < spread_to m c depth k → is_heavy bound o ≡ true
  heavy_so c k depth o here much = by_method (outline_is m k o here)
    where
      by_method : (r : ProcessMethodTree) × (method_at m k ≡ Some r) × (o ≡ outline_of r) → is_heavy bound o ≡ true
      by_method (r, at, is) =
          let large : 1000000 < statements_in_all r.body + sum_by (λ (y : Id). of_called (opened_to m c depth) (called m c y)) (all_plain_calls r.body) = rw at at much in
          let s : min (sum_by (λ (y : Id). of_called (opened_to m c depth) (called m c y)) (all_plain_calls r.body)) 1000001 ≤ sum_by (λ (y : Id). bound y.name) (all_plain_calls r.body) =
          sum_capped (λ (y : Id). of_called (opened_to m c depth) (called m c y)) (of_capped c depth (opened_capped depth c)) (all_plain_calls r.body) in
          let whole : 1000001 ≤ min (min (statements_in_all r.body) 1000001 + sum_by (λ (y : Id). bound y.name) (all_plain_calls r.body)) 1000001 = omega (arith, large, s) in
          subst (λ (q : Outline). is_heavy bound q ≡ true) (sym is) (is_le 1000001 (min (min (statements_in_all r.body) 1000001 + sum_by (λ (y : Id). bound y.name) (all_plain_calls r.body)) 1000001) whole)
