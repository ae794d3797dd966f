-- What is found at once.
use Rattle.std.proofs.Common.{◌≡◌, ℕ, zero, suc, ◌<◌, ◌≤◌, ℤ, List, [], ◌∷◌, length, Option, Some, None, refl, arith}
use Rattle.std.specs.Prelude.{IfSome}
use Rattle.pz_classes_code.specs.pz_syntax.declared.tokens.Pos.{Pos}
use Rattle.pz_classes_code.specs.pz_syntax.declared.exprs.Literal.{Literal}
use Rattle.pz_classes_code.specs.pz_syntax.Expressions.{chain}
use Rattle.pz_classes_code.specs.pz_value.declared.value.Value.{Value}
use Rattle.pz_classes_code.specs.pz_value.declared.value.Value.TheVariants.{Int}
use Rattle.pz_classes_code.specs.declared.slot.Slot.{Slot}
use Rattle.pz_classes_code.specs.declared.code.Code.{Code}
use Rattle.pz_classes_code.specs.declared.code.CodeForm.TheVariants as form
use Rattle.pz_classes_code.specs.declared.code.CodeLink.{CodeLink}
use Rattle.pz_classes_code.specs.CodeView.{Tree, view}
use Rattle.pz_eval_rules.specs.Memories.{Memory, Location, read, self_at, write}
use Rattle.pz_classes_code.specs.Literals.{constant}
use Rattle.pz_eval_rules.specs.devices.Computed.{operators, evaluated, step}
use Rattle.pz_eval_operations.specs.devices.Views.{links_view}
use Rattle.pz_eval_operations.specs.devices.AtOnce.{IsWorth, IsWorthThree, Attempt, Assigned}
use Rattle.pz_eval_operations.proofs.Views.{code_is, literal_view, variable_view, me_view, chain_view, assign_view, link_is}
use Rattle.pz_eval_operations.proofs.Applied.{Gives}

pub some_weaker : {T : Type 0} (r : Option T) (P Q : T → Type 0) → ((x : T) → P x → Q x) → IfSome r P → IfSome r Q
some_weaker None P Q weaker h = tt
some_weaker (Some x) P Q weaker h = weaker x h

module _ (p : Location) (m : Memory) (c : Code) (y : Value) where
  pub literal_worth : (x : Literal) → c.form ≡ form.Lit x → y ≡ constant x → IsWorth p m (view c) y
  unfolding evaluated step
  literal_worth x is e model now d r = rw (code_is c, is, literal_view x c.pos, e) refl

  pub variable_worth : (x : Slot) → c.form ≡ form.Var x → y ≡ read p x m → IsWorth p m (view c) y
  unfolding evaluated step
  variable_worth x is e model now d r = rw (code_is c, is, variable_view x c.pos, e) refl

  pub me_worth : c.form ≡ form.Me → y ≡ self_at p → IsWorth p m (view c) y
  unfolding evaluated step
  me_worth is e model now d r = rw (code_is c, is, me_view c.pos, e) refl

pub chain_is : (c first first1 : Code) (links links1 : List CodeLink) → c.form ≡ form.Chain first links → first1 ≡ first → links1 ≡ links → chain c.pos (view first1) (links_view links1) ≡ view c
chain_is c first first1 links links1 is e l = rw (code_is c, is, chain_view first links c.pos, e, l) refl

-- an operator between two numbers
pub numbers_worth : (p : Location) (m : Memory) (t : Tree) (link : CodeLink) (rest links : List CodeLink) (a b : ℤ) (y : Value)
    → links ≡ link ∷ rest → rest ≡ [] → IsWorth p m t (Int a) → IsWorth p m (view link.operand) (Int b) → Gives link.op (Int a) (Int b) y
    → (at : Pos) → IsWorthThree p m (chain at t (links_view links)) y
unfolding evaluated step operators
numbers_worth p m t link rest links a b y e none left right gives_is at model now d r =
    rw (e, none, link_is link, left model now d (suc (suc r)), right model now d (suc r), gives_is link.pos m) refl

module _ (p : Location) (m : Memory) (t : Tree) (y : Value) where
  pub worth_found : (d u u1 : ℕ) → 0 < d → u ≡ suc u1 → IsWorth p m t y → Attempt d p m t u u1 (Some y)
  worth_found zero u u1 deep e worth = absurd (omega arith)
  worth_found (suc d) u u1 deep e worth = (omega (arith, e), λ model now. rw e (worth model now d u1))

  pub three_found : (d u u1 : ℕ) → 2 ≤ d → u ≡ suc (suc (suc u1)) → IsWorthThree p m t y → Attempt d p m t u u1 (Some y)
  three_found zero u u1 deep e worth = absurd (omega arith)
  three_found (suc zero) u u1 deep e worth = absurd (omega arith)
  three_found (suc (suc d)) u u1 deep e worth = (omega (arith, e), λ model now. rw e (worth model now d u1))

pub nothing_left : {A : Type 0} (xs : List A) → length xs ≡ 0 → xs ≡ []
nothing_left [] e = refl
nothing_left (x ∷ xs) e = absurd (omega arith)

-- an assignment of what is found at once
pub assigned_found : (p : Location) (m m1 : Memory) (c t t1 : Code) (x : Slot) (y z : Value) (d d1 u u1 u2 : ℕ)
    → c.form ≡ form.Assign x t → t1 ≡ t → d ≡ suc d1 → u ≡ suc u1 → z ≡ y → m1 ≡ write p x y m → Attempt d1 p m (view t1) u1 u2 (Some y)
    → Assigned d p (view c) m u m1 u2 (Some z)
unfolding evaluated step
assigned_found p m m1 c t t1 x y z d d1 u u1 u2 is e deep some same left found =
    (omega (arith, some, found.0), λ model now. rw (code_is c, is, assign_view x t c.pos, ← e, deep, some, same, left, found.1 model now) refl)
