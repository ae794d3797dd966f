-- Where no method of a model begins with itself, a plain call becomes the same in one with the same bodies and
-- no fewer methods, however deep calls are followed.
use Rattle.std.proofs.Common.{◌≡◌, refl, sym, subst, ◌∙◌, ap, ◌≤◌, ℕ, zero, suc, List, [], ◌∷◌, Option, Some, None, arith, Contains}
use Rattle.std.specs.List.{AllByRecursion}
use Rattle.pz_rules.specs.pz_syntax.declared.tokens.Pos.{Pos}
use Rattle.pz_rules.specs.pz_syntax.declared.names.Id.{Id}
use Rattle.pz_rules.specs.pz_syntax.Classes.{ModelTree}
use Rattle.pz_rules.specs.pz_classes_rules.declared.method_id.Counts.TheVariants.{Process as process_counts}
use Rattle.pz_rules.specs.pz_classes_rules.Bodies.{BodyTree, data_body, process_body}
use Rattle.pz_rules.specs.pz_classes_rules.MethodBodies.{process_method_body}
use Rattle.pz_rules.specs.pz_classes_rules.Methods.{method_id}
use Rattle.pz_classes_beginnings.specs.Beginning.{begun_all}
use Rattle.pz_classes_openings.specs.Openings.{called}
use Rattle.pz_rules.specs.pz_state.States.{StateView, opened as with_frame}
use Rattle.pz_rules.specs.declared.limits.Edition.{Edition}
use Rattle.pz_rules.specs.declared.limits.Edition.TheVariants.{One, Two}
use Rattle.pz_rules.specs.Terms as terms
use Rattle.pz_rules.specs.Terms.{Steps}
use Rattle.pz_rules.specs.Settings.{left_by, Home}
use Rattle.pz_rules.specs.FrameNumbers.{least_free}
use Rattle.pz_rules.specs.Opening.{steps_opened, called_body, by_body, entered_to, depth_of, enter}
use Rattle.pz_rules.specs.Shallow.{Shallow}
use Rattle.pz_rules.specs.Openable.{IsProcessClass}
use Rattle.pz_rules.specs.CallLaws.{plain_call, NoRounds, MethodsAreShallow}
use Rattle.pz_env_same.specs.SameRules.{home_in, SameClass}
use Rattle.pz_env_same.proofs.Beginnings.{Same, steps_same, framed_same}
use Rattle.pz_env_same.proofs.Meant.{called_is}

module _ (P : Id → Type 0) where
  each_among : (xs : List Id) → ((x : Id) → Contains xs x → P x) → AllByRecursion P xs
  each_among [] h = tt
  each_among (x ∷ xs) h = (h x (0, omega arith, refl), each_among xs (λ y at. h y (suc at.0, (let low = at.1 in omega (arith, low)), at.2)))

  each_of : (xs : List Id) → ((x : Id) → P x) → AllByRecursion P xs
  each_of xs h = each_among xs (λ x at. h x)

-- In one model, how deep calls are followed

module _ (h : Home) where
  -- the method that a call of this name means is no deeper
  abbrev IsShallow : ℕ → Id → Type 0
  IsShallow n x = (l : ℕ) → called h.model h.class x ≡ Some (method_id l) → Shallow h.model h.class n l

  not_there : (x : Id) (locals : ℕ) (body : Steps) → IsShallow zero x → called_body h x ≡ Some (process_body locals body) → ⊥
  not_there x locals body deep is = let it = called_is h.model h.class x locals body is in deep it.number it.is

  -- so are those with which its body begins
  begun_shallow : (n : ℕ) (x : Id) (locals : ℕ) (body : Steps) → IsShallow (suc n) x → called_body h x ≡ Some (process_body locals body)
      → (y : Id) → Contains (begun_all body) y → IsShallow n y
  begun_shallow n x locals body deep is y among l named =
      let it = called_is h.model h.class x locals body is in
      deep it.number it.is y l (subst (λ (ys : List Id). Contains ys y) it.begins among) named

  stable : (n k : ℕ) (x : Id) → IsShallow n x → n ≤ k → (pos : Pos) (s : StateView) → entered_to h k (plain_call pos x) s ≡ entered_to h n (plain_call pos x) s
  stable zero zero x deep le pos s = refl
  stable zero (suc k) x deep le pos s = by_found (called_body h x) refl
    where
      by_found : (o : Option BodyTree) → called_body h x ≡ o → by_body o (steps_opened (entered_to h k)) (plain_call pos x) s ≡ left_by s (terms.leaf (plain_call pos x))
      by_found None is = refl
      by_found (Some (data_body locals e)) is = refl
      by_found (Some (process_body locals body)) is = absurd (not_there x locals body deep is)
  stable (suc n) zero x deep le pos s = absurd (omega (arith, le))
  stable (suc n) (suc k) x deep le pos s = by_found (called_body h x) refl (λ y shallow at t. stable n k y shallow (omega (arith, le)) at t)
    where
      by_found : (o : Option BodyTree) → called_body h x ≡ o → ((y : Id) → IsShallow n y → Same (entered_to h k) (entered_to h n) y)
          → by_body o (steps_opened (entered_to h k)) (plain_call pos x) s ≡ by_body o (steps_opened (entered_to h n)) (plain_call pos x) s
      by_found None is below = refl
      by_found (Some (data_body locals e)) is below = refl
      by_found (Some (process_body locals body)) is below =
          framed_same locals (steps_opened (entered_to h k) body) (steps_opened (entered_to h n) body) s
          (steps_same (entered_to h k) (entered_to h n) body
          (each_among (Same (entered_to h k) (entered_to h n)) (begun_all body) (λ y among. below y (begun_shallow n x locals body deep is y among)))
          (with_frame s (least_free s.frames) locals))

-- In two models, equally deep

module _ (m n : ModelTree) (class : ℕ) (edition : Edition)
    (same : (name : List ℕ) (inputs outputs : ℕ) → process_method_body m class name inputs outputs ≡ process_method_body n class name inputs outputs) where
  abbrev here : Home
  here = home_in m edition class

  abbrev there : Home
  there = home_in n edition class

  equally_deep : (k : ℕ) (pos : Pos) (x : Id) (s : StateView) → entered_to here k (plain_call pos x) s ≡ entered_to there k (plain_call pos x) s
  equally_deep zero pos x s = refl
  equally_deep (suc k) pos x s =
      by_found (called_body here x) (λ y at t. equally_deep k at y t)
      ∙ ap (λ (o : Option BodyTree). by_body o (steps_opened (entered_to there k)) (plain_call pos x) s) (same x.name 0 0)
    where
      by_found : (o : Option BodyTree) → ((y : Id) → Same (entered_to here k) (entered_to there k) y)
          → by_body o (steps_opened (entered_to here k)) (plain_call pos x) s ≡ by_body o (steps_opened (entered_to there k)) (plain_call pos x) s
      by_found None below = refl
      by_found (Some (data_body locals e)) below = refl
      by_found (Some (process_body locals body)) below =
          framed_same locals (steps_opened (entered_to here k) body) (steps_opened (entered_to there k) body) s
          (steps_same (entered_to here k) (entered_to there k) body (each_of (Same (entered_to here k) (entered_to there k)) (begun_all body) below)
          (with_frame s (least_free s.frames) locals))

module _ (shallow : MethodsAreShallow) (m n : ModelTree) (class : ℕ) (rounds : NoRounds m) (process : IsProcessClass m class) (more : depth_of m ≤ depth_of n)
    (same : (name : List ℕ) (inputs outputs : ℕ) → process_method_body m class name inputs outputs ≡ process_method_body n class name inputs outputs) where
  calls_same : (edition : Edition) (pos : Pos) (x : Id) (s : StateView) → enter (home_in m edition class) (plain_call pos x) s ≡ enter (home_in n edition class) (plain_call pos x) s
  calls_same One pos x s = refl
  calls_same Two pos x s =
      sym (stable (home_in m Two class) (depth_of m) (depth_of n) x (λ l named. shallow m class l process rounds (record { name = x.name; counts = process_counts 0 0 }, named)) more pos s)
      ∙ equally_deep m n class Two same (depth_of n) pos x s

  pub same_class : SameClass m n class
  same_class = record { bodies = same; calls = calls_same }
