-- The frame of a method that is called.
use Rattle.std.proofs.Common.{◌≡◌, ◌<◌, ℕ, List, length, Result, Ok, Err, subst, ap, ◌∙◌}
use Rattle.pz_classes_code.specs.pz_syntax.declared.tokens.Pos.{Pos}
use Rattle.pz_classes_code.specs.pz_syntax.declared.names.Id.{Id}
use Rattle.pz_classes_code.specs.pz_syntax.Statements.{call}
use Rattle.pz_classes_code.specs.pz_value.declared.value.Value.{Value}
use Rattle.pz_classes_code.specs.declared.slot.Slot.{Slot}
use Rattle.pz_rules.specs.pz_classes_rules.FitBodies.{how_many}
use Rattle.pz_rules.specs.pz_state.States.{IsLeastFree, opened as with_frame}
use Rattle.pz_rules.specs.pz_state.Marks.{Seen, changed}
use Rattle.pz_rules.specs.pz_offer.declared.trouble.Trouble.{Trouble}
use Rattle.pz_rules.specs.declared.term.Term.{Term as Part}
use Rattle.pz_rules.specs.Terms.{Codes, Steps, leaf, height}
use Rattle.pz_rules.specs.Settings.{Context, Process, Home, home_of}
use Rattle.pz_rules.specs.Meanings.{and_then}
use Rattle.pz_rules.specs.Evaluations.{GivesAll}
use Rattle.pz_rules.specs.Methods.{IsMethod}
use Rattle.pz_rules.specs.InternalActions as actions
use Rattle.pz_rules.specs.InternalActions.{with_inputs, entered, Performs}
use Rattle.pz_rules.specs.Opening.{opened_all}
use Rattle.pz_rules.proofs.Numbers.{free_is_least}
use Rattle.pz_eval_binding.specs.Binding.{set_slots, first_slots}
use Rattle.pz_part_queries.specs.declared.standpoint.Standpoint.{Standpoint}
use Rattle.pz_part_actions.specs.devices.Calls.{round_body}
use Rattle.pz_part_actions.specs.devices.Openings.{OpensAs}

module _ (a : Context) (f : ℕ) (at : Pos) (method : Id) (args : Codes) (results : List Slot) (s : Seen) (r : Result (List Value) Trouble) (gives : GivesAll a f at args r s.held)
    (locals : ℕ) (body : Steps) (is_method : IsMethod a.setting.model a.class method.name (how_many args) (length results) locals body) where
  abbrev Called : Result Process Trouble → Type 0
  Called q = Performs a f (leaf (call at method args results)) at q

  pub call_entered : (h : Home) → home_of a ≡ h → (inputs : List Value) → r ≡ Ok inputs → Called (Ok (entered h s.held locals results body inputs))
  call_entered h home inputs is =
      subst (λ (q : Result Process Trouble). Called q)
      (ap (λ (x : Result (List Value) Trouble). and_then x (λ vs. Ok (entered (home_of a) s.held locals results body vs))) is
      ∙ ap (λ (k : Home). let q : Result Process Trouble = Ok (entered k s.held locals results body inputs) in q) home)
      (actions.calls at method args results r s.held locals body gives is_method)

  pub call_troubled : (u : Trouble) → r ≡ Err u → Called (Err u)
  call_troubled u is =
      subst (λ (q : Result Process Trouble). Called q) (ap (λ (x : Result (List Value) Trouble). and_then x (λ vs. Ok (entered (home_of a) s.held locals results body vs))) is)
      (actions.calls at method args results r s.held locals body gives is_method)

-- a frame under the least number that is free, whose first locals have the values of the inputs
module _ (h : Home) (old opened set : Seen) (number locals count : ℕ) (results : List Slot) (body : Steps) (inputs given : List Value) (free : IsLeastFree old.held.frames number)
    (opens : opened ≡ changed old (with_frame old.held number locals)) (same : given ≡ inputs) (counted : count ≡ length inputs) (sets : set ≡ changed opened (set_slots number (first_slots 0 given) given opened.held)) where
  abbrev Left : ℕ → ℕ → Seen → Process
  Left n k s = round_body n k results (opened_all h body s.held)

  sets_in : set ≡ changed old (with_inputs old.held number locals inputs)
  sets_in =
      sets ∙ ap (λ (vs : List Value). changed opened (set_slots number (first_slots 0 vs) vs opened.held)) same
      ∙ ap (λ (z : Seen). changed z (set_slots number (first_slots 0 inputs) inputs z.held)) opens

  pub set_marks : set.marks ≡ old.marks
  set_marks = ap (λ (z : Seen). z.marks) sets_in

  whole : Left number count set ≡ entered h old.held locals results body inputs
  whole =
      ap (λ (z : Seen). Left number count z) sets_in ∙ ap (λ (k : ℕ). Left number k (changed old (with_inputs old.held number locals inputs))) counted
      ∙ ap (λ (n : ℕ). Left n (length inputs) (changed old (with_inputs old.held n locals inputs))) (free_is_least old.held.frames number free)

  pub frame_entered : (here : Standpoint) (at : Pos) (new : Seen) (r : Result Part Trouble) → OpensAs here at (round_body number count results (opened_all h body set.held)) set new r
      → OpensAs here at (entered h old.held locals results body inputs) old new r
  frame_entered here at new (Ok t) became = record {
    term = became.term ∙ ap (λ (p : Process). p.term) whole;
    state = became.state ∙ ap (λ (z : Seen). changed z (Left number count set).state) sets_in ∙ ap (λ (p : Process). changed old p.state) whole;
  }
  frame_entered here at new (Err trouble) high = (subst (λ (p : Process). here.limits.height < height p.term) whole high.0, high.1)
