-- A plain call weighs one more than the body of its method.
use Rattle.std.proofs.Common.{◌≡◌, refl, sym, ap, subst, ◌∙◌, ◌≤◌, ◌+◌, ℕ, zero, suc, List, [], ◌∷◌, Option, Some, None, arith}
use Rattle.std.specs.List.{AllByRecursion, sum_by}
use Rattle.std.proofs.lemmas.List.Sums.{sum_by-cons}
use Rattle.pz_bind_rules.specs.pz_syntax.declared.names.Id.{Id}
use Rattle.pz_bind_rules.specs.pz_classes_rules.Bodies.{BodyTree, data_body, process_body}
use Rattle.pz_bind_rules.specs.pz_classes_rules.SoundBodies.{BodiesFit, SoundBodiesFit}
use Rattle.pz_classes_beginnings.specs.Beginning.{begun_all, statements_in_all}
use Rattle.pz_rules.specs.declared.limits.Edition.{Edition}
use Rattle.pz_rules.specs.Terms.{Steps}
use Rattle.pz_rules.specs.Settings.{Home}
use Rattle.pz_rules.specs.Opening.{called_body, depth_of}
use Rattle.pz_rules.specs.devices.Weights.{body_weight, weight_to, weight_in, CallsAreHeavier}
use Rattle.pz_rules.proofs.Stable.{each_map, IsShallow, begun_shallow, not_there, is_shallow}

sum_same : (f g : Id → ℕ) (xs : List Id) → AllByRecursion (λ x. f x ≡ g x) xs → sum_by f xs ≡ sum_by g xs
sum_same f g [] h = refl
sum_same f g (x ∷ xs) h =
    let one = sum_by-cons f x xs in
    let other = sum_by-cons g x xs in
    let first = h.0 in
    let rest = sum_same f g xs h.1 in
    omega (arith, one, other, first, rest)

module _ (h : Home) (fit : BodiesFit h.model) where
  -- where calls weigh the same in two ways, so does the body of a method that is no deeper
  body_same : (n : ℕ) (f g : Id → ℕ) → ((y : Id) → IsShallow h fit n y → f y ≡ g y)
      → (x : Id) (locals : ℕ) (body : Steps) → IsShallow h fit (suc n) x → called_body h x ≡ Some (process_body locals body) → sum_by f (begun_all body) ≡ sum_by g (begun_all body)
  body_same n f g same x locals body deep is =
      sum_same f g (begun_all body) (each_map (IsShallow h fit n) (λ y. f y ≡ g y) same (begun_all body) (begun_shallow h fit n x locals body deep is))

  -- deep enough, the depth plays no part
  stable : (n k : ℕ) (x : Id) → IsShallow h fit n x → n ≤ k → weight_to h k x ≡ weight_to h n x
  stable zero zero x deep le = refl
  stable zero (suc k) x deep le = by_found (called_body h x) refl
    where
      by_found : (o : Option BodyTree) → called_body h x ≡ o → body_weight o (weight_to h k) ≡ 0
      by_found None is = refl
      by_found (Some (data_body locals e)) is = refl
      by_found (Some (process_body locals body)) is = absurd (not_there h fit x locals body deep is)
  stable (suc n) zero x deep le = absurd (omega (arith, le))
  stable (suc n) (suc k) x deep le = by_found (called_body h x) refl (λ y shallow. stable n k y shallow (omega (arith, le)))
    where
      by_found : (o : Option BodyTree) → called_body h x ≡ o → ((y : Id) → IsShallow h fit n y → weight_to h k y ≡ weight_to h n y) → body_weight o (weight_to h k) ≡ body_weight o (weight_to h n)
      by_found None is below = refl
      by_found (Some (data_body locals e)) is below = refl
      by_found (Some (process_body locals body)) is below = ap (λ (w : ℕ). statements_in_all body + w) (body_same n (weight_to h k) (weight_to h n) below x locals body deep is)

  weighs : (d : ℕ) (x : Id) (locals : ℕ) (body : Steps) → IsShallow h fit d x → called_body h x ≡ Some (process_body locals body)
      → statements_in_all body + sum_by (weight_to h d) (begun_all body) ≡ weight_to h d x
  weighs zero x locals body deep is = absurd (not_there h fit x locals body deep is)
  weighs (suc n) x locals body deep is =
      ap (λ (w : ℕ). statements_in_all body + w) (body_same n (weight_to h (suc n)) (weight_to h n) (λ y shallow. stable n (suc n) y shallow (omega arith)) x locals body deep is)
      ∙ ap (λ (o : Option BodyTree). body_weight o (weight_to h n)) (sym is)

pub calls_are_heavier : SoundBodiesFit → CallsAreHeavier
calls_are_heavier bodies_fit h pos method locals body opens is =
    let fit = bodies_fit h.model opens.sound in
    let same = subst (λ (e : Edition). statements_in_all body + sum_by (weight_in e h) (begun_all body) ≡ weight_in e h method) (sym opens.edition)
    (weighs h fit (depth_of h.model) method locals body (is_shallow h fit method opens is.has) is.is) in
    omega (arith, same)
