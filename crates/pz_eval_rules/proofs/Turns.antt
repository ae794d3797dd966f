-- The units that are left bound the turns of a `while`.
use Rattle.std.proofs.Common.{◌≡◌, ℕ, zero, suc, ◌≤◌, Bool, true, false, Option, Some, None, refl, arith}
use Rattle.pz_classes_rules.specs.pz_syntax.declared.tokens.Pos.{Pos}
use Rattle.pz_classes_rules.specs.pz_syntax.Classes.{ModelTree}
use Rattle.pz_state.specs.pz_value.declared.value.Value.{Value}
use Rattle.pz_state.specs.pz_value.declared.value.Value.TheVariants.{Nil}
use Rattle.pz_classes_rules.specs.pz_classes_code.CodeView.{Tree}
use Rattle.pz_eval_rules.specs.Memories.{Memory, Location}
use Rattle.pz_eval_rules.specs.Answers.{Answer, gives, stops}
use Rattle.pz_eval_rules.specs.Steps.{Codes, truth}
use Rattle.pz_eval_rules.specs.devices.Computed.{Reached, Computation, and_then, tested, going, turns, evaluated}
use Rattle.pz_eval_rules.proofs.Sound.{Derived, Each, reached, nothing, sequence_sound, evaluated_sound}

-- units only fall
falls : {A : Type 0} {D B : ℕ} {J : Answer A → ℕ → ℕ → Type 0} {o : Reached A} → Each (λ a r. Derived D B r (J a)) o → Each (λ a r. r ≤ B) o
falls (reached h) = reached (let e = h.paid in omega arith)
falls nothing = nothing

same_then : {A B : Type 0} {o : Reached A} (n : ℕ) (f g : A → Computation B) → Each (λ a r. r ≤ n) o
    → ((y : A) (m : Memory) (r : ℕ) → r ≤ n → f y m r ≡ g y m r) → and_then o f ≡ and_then o g
same_then n f g (reached {a = gives y m} {r = r} h) same = same y m r h
same_then n f g (reached {a = stops e} h) same = refl
same_then n f g nothing same = refl

module _ (model : ModelTree) (now D : ℕ) (p : Location) (at : Pos) (t : Tree) (ts : Codes) where
  abbrev inner : Location → Tree → Computation Value
  inner = evaluated model now D

  same_going : (f g : Computation Value) (n : ℕ) → ((m : Memory) (r : ℕ) → r ≤ n → f m r ≡ g m r)
      → (x : Option Bool) (m : Memory) (r : ℕ) → r ≤ n → tested at x (going model now inner p ts f) m r ≡ tested at x (going model now inner p ts g) m r
  unfolding going
  same_going f g n same None m r l = refl
  same_going f g n same (Some true) m r l =
      same_then r (λ _. f) (λ _. g) (falls (sequence_sound model now D (evaluated_sound model now D) p Nil ts m r)) (λ y m1 r1 k. same m1 r1 (omega arith))
  same_going f g n same (Some false) m r l = refl

  enough : (a b : ℕ) (m : Memory) (r : ℕ) → r ≤ a → r ≤ b → turns model now inner a p at t ts m r ≡ turns model now inner b p at t ts m r
  unfolding turns
  enough zero zero m r k l = refl
  enough zero (suc b) m zero k l = refl
  enough zero (suc b) m (suc r) k l = absurd (omega arith)
  enough (suc a) zero m zero k l = refl
  enough (suc a) zero m (suc r) k l = absurd (omega arith)
  enough (suc a) (suc b) m zero k l = refl
  enough (suc a) (suc b) m (suc r) k l =
      same_then r (λ y. tested at (truth y) (going model now inner p ts (turns model now inner a p at t ts))) (λ y. tested at (truth y) (going model now inner p ts (turns model now inner b p at t ts)))
      (falls (evaluated_sound model now D p t m r))
      (λ y m1 r1 q. same_going (turns model now inner a p at t ts) (turns model now inner b p at t ts) r (λ m2 r2 w. enough a b m2 r2 (omega arith) (omega arith)) (truth y) m1 r1 q)

  pub on_and_on : (m : Memory) (r : ℕ) → turns model now inner (suc r) p at t ts m (suc r)
      ≡ and_then (inner p t m r) (λ y. tested at (truth y) (going model now inner p ts (λ m1 r1. turns model now inner r1 p at t ts m1 r1)))
  unfolding turns
  on_and_on m r =
      same_then r (λ y. tested at (truth y) (going model now inner p ts (turns model now inner r p at t ts))) (λ y. tested at (truth y) (going model now inner p ts (λ m1 r1. turns model now inner r1 p at t ts m1 r1)))
      (falls (evaluated_sound model now D p t m r))
      (λ y m1 r1 q. same_going (turns model now inner r p at t ts) (λ m2 r2. turns model now inner r2 p at t ts m2 r2) r (λ m2 r2 w. enough r r2 m2 r2 w (omega arith)) (truth y) m1 r1 q)
