-- Which statements of a process may be opened, and in which frame.
use Rattle.std.specs.Prelude.{◌≡◌, ℕ, false, List, [], ◌∷◌, length, Contains, Some, IsTrue}
use Rattle.std.specs.Option.{option_map_or}
use Rattle.pz_bind_rules.specs.pz_syntax.Statements.{bracketed, guarded, parallel, select, conditional, repeated, abort, interrupt, no_statements, then, StatementPart, not_written, otherwise, Branches, no_branches, branch}
use Rattle.pz_bind_rules.specs.pz_syntax.Classes.{ModelTree}
use Rattle.pz_bind_rules.specs.pz_value.declared.value.ClassId.{ClassId}
use Rattle.pz_bind_rules.specs.pz_classes_code.declared.slot.Slot.{Slot}
use Rattle.pz_bind_rules.specs.pz_classes_rules.Ancestors.{ancestors}
use Rattle.pz_bind_rules.specs.pz_classes_rules.Bodies.{process_body}
use Rattle.pz_bind_rules.specs.pz_classes_rules.Kinds.{is_process}
use Rattle.pz_bind_rules.specs.pz_classes_rules.Members.{variables}
use Rattle.pz_bind_rules.specs.pz_classes_rules.MethodBodies.{own_body}
use Rattle.pz_bind_rules.specs.pz_classes_rules.Methods.{Signature}
use Rattle.pz_bind_rules.specs.pz_classes_rules.Numbers.{declaration}
use Rattle.pz_bind_rules.specs.pz_classes_rules.Starts.{init}
use Rattle.pz_offer.specs.pz_state.States.{StateView, HasFrame, locals}
use Rattle.pz_rules.specs.Terms.{Step, Steps}

abbrev pub IsProcessClass : ModelTree → ℕ → Type 0
IsProcessClass m class = IsTrue (option_map_or is_process (declaration m class) false)

-- the state has as many variables as the class
abbrev pub HasItsVariables : ModelTree → ℕ → StateView → Type 0
HasItsVariables m class s = length s.vars ≡ length (variables m class)

-- a statement alone
abbrev pub alone : Step → Steps
alone s = (then) s no_statements

abbrev pub branches_of : Branches Slot ClassId ℕ → List Steps
branches_of no_branches = []
branches_of (branch ts bs) = ts ∷ branches_of bs

abbrev pub part_of : StatementPart Slot ClassId ℕ → List Steps
part_of not_written = []
part_of (otherwise ts) = ts ∷ []

-- the statements that a statement is made of
abbrev pub inner : Step → List Steps
inner (bracketed pos ts) = ts ∷ []
inner (guarded pos test t) = alone t ∷ []
inner (parallel pos bs) = branches_of bs
inner (select pos bs) = branches_of bs
inner (conditional pos test ts other) = ts ∷ part_of other
inner (repeated pos test ts) = ts ∷ []
inner (abort pos ts t) = ts ∷ alone t ∷ []
inner (interrupt pos ts t) = ts ∷ alone t ∷ []
inner s = []

-- statements that are part of a body: one of them, those behind it, or what it is made of
pub data IsPartOf (body : Steps) : Steps → Type 0 where
  whole : IsPartOf body body
  one : (t : Step) (ts : Steps) → IsPartOf body ((then) t ts) → IsPartOf body (alone t)
  behind : (t : Step) (ts : Steps) → IsPartOf body ((then) t ts) → IsPartOf body ts
  within : (t : Step) (ts part : Steps) → IsPartOf body ((then) t ts) → Contains (inner t) part → IsPartOf body part

-- In a process of this class: part of a body of a method that the class or an ancestor declares, in a
-- frame with the locals of that method; or the call with which the process starts, in no frame.
pub data MayOpen (m : ModelTree) (class : ℕ) (s : StateView) (frame : ℕ) (steps : Steps) : Type 0 where
  in_method : (ancestor : ℕ) (signature : Signature) (count : ℕ) (body : Steps)
      → Contains (ancestors m class) ancestor → own_body m signature ancestor ≡ Some (process_body count body) → IsPartOf body steps
      → HasFrame s frame → length (locals s frame) ≡ count → MayOpen m class s frame steps
  at_start : (call : Step) → init m class ≡ Some call → steps ≡ alone call → frame ≡ 0 → MayOpen m class s frame steps
