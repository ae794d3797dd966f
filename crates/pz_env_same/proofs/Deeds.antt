-- What parts leave of themselves, and what the passing of time leaves of a term, is the same where a process
-- sees the same.
use Rattle.std.proofs.Common.{◌≡◌, ℕ, Bool, true, false, List, length, Result, Ok, Err, refl, sym, subst, ap, ◌∙◌}
use Rattle.pz_rules.specs.pz_syntax.declared.tokens.Pos.{Pos}
use Rattle.pz_rules.specs.pz_syntax.Statements.{StatementPart, call, conditional, repeated}
use Rattle.pz_rules.specs.pz_syntax.Classes.{ModelTree}
use Rattle.pz_rules.specs.pz_value.declared.value.ClassId.{ClassId}
use Rattle.pz_rules.specs.pz_value.declared.value.Value.{Value}
use Rattle.pz_rules.specs.pz_classes_code.declared.slot.Slot.{Slot}
use Rattle.pz_rules.specs.pz_classes_rules.FitBodies.{how_many}
use Rattle.pz_rules.specs.pz_state.States.{StateView}
use Rattle.pz_rules.specs.pz_copy.Parcels.{ParcelView}
use Rattle.pz_rules.specs.pz_offer.declared.trouble.Trouble.{Trouble}
use Rattle.pz_rules.specs.Terms.{Step, Steps, Term, leaf, Terms}
use Rattle.pz_rules.specs.Framing.{framed}
use Rattle.pz_rules.specs.FrameNumbers.{least_free}
use Rattle.pz_rules.specs.Settings.{Process, left_by, Context, in_state, home_of}
use Rattle.pz_rules.specs.Meanings.{and_then, truth}
use Rattle.pz_rules.specs.Opening.{opened_all}
use Rattle.pz_rules.specs.InternalActions as internal
use Rattle.pz_rules.specs.InternalActions.{chosen, before_loop, turned, with_inputs, entered, Performs}
use Rattle.pz_rules.specs.Messages as messages
use Rattle.pz_rules.specs.Messages.{bound, Hands, Takes}
use Rattle.pz_rules.specs.Delays as delays
use Rattle.pz_rules.specs.Delays.{Passes, PassesAll}
use Rattle.pz_env_same.specs.SameRules.{seen_in, SeesTheSame}
use Rattle.pz_env_same.proofs.Openings.{opened_all_same, opened_part_same}
use Rattle.pz_env_same.proofs.Parts.{sees_in_state, gives, gives_all, gives_part, tests, lasts}

pub after_same : {A B : Type 0} (r : Result A Trouble) (f g : A → Result B Trouble) → ((x : A) → f x ≡ g x) → and_then r f ≡ and_then r g
after_same (Ok x) f g same = same x
after_same (Err t) f g same = refl

-- What is opened

module _ (n : ModelTree) (a : Context) (same : SeesTheSame n a) where
  all_same : (ts : Steps) (s : StateView) → opened_all (home_of a) ts s ≡ opened_all (home_of (seen_in n a)) ts s
  all_same = opened_all_same a.setting.model n a.setting.limits.edition a.class same.statements

  chosen_same : (s : StateView) (ts : Steps) (other : StatementPart Slot ClassId ℕ) (b : Bool) → chosen (home_of a) s ts other b ≡ chosen (home_of (seen_in n a)) s ts other b
  chosen_same s ts other true = all_same ts s
  chosen_same s ts other false = opened_part_same a.setting.model n a.setting.limits.edition a.class same.statements other s

  turned_same : (s : StateView) (loop : Step) (ts : Steps) (b : Bool) → turned (home_of a) s loop ts b ≡ turned (home_of (seen_in n a)) s loop ts b
  turned_same s loop ts true = ap (λ (x : Process). before_loop loop x) (all_same ts s)
  turned_same s loop ts false = refl

  entered_same : (s : StateView) (locals : ℕ) (results : List Slot) (body : Steps) (inputs : List Value)
      → entered (home_of a) s locals results body inputs ≡ entered (home_of (seen_in n a)) s locals results body inputs
  entered_same s locals results body inputs =
      ap (λ (x : Process). left_by x.state (framed (least_free s.frames) (length inputs) results x.term)) (all_same body (with_inputs s (least_free s.frames) locals inputs))

-- Deeds

pub performs : (n : ModelTree) (a : Context) → SeesTheSame n a → (f : ℕ) (t : Term) (at : Pos) (r : Result Process Trouble) → Performs a f t at r → Performs (seen_in n a) f t at r
performs n a same f _ _ _ (internal.skips at) = internal.skips at
performs n a same f _ _ _ (internal.evaluates at e r s is) = internal.evaluates at e r s (gives n a same f at e r s is)
performs n a same f _ _ _ (internal.evaluates_block at es r s is) = internal.evaluates_block at es r s (gives_all n a same f at es r s is)
performs n a same f _ _ _ (internal.tests at e ts other r s is) =
    subst (λ (x : Result Process Trouble). Performs (seen_in n a) f (leaf (conditional at e ts other)) at x)
    (sym (after_same r _ _ (λ v. after_same (truth a.process at v) _ _ (λ b. ap Ok (chosen_same n a same s ts other b)))))
    (internal.tests at e ts other r s (gives n a same f at e r s is))
performs n a same f _ _ _ (internal.repeats at e ts r s is) =
    subst (λ (x : Result Process Trouble). Performs (seen_in n a) f (leaf (repeated at e ts)) at x)
    (sym (after_same r _ _ (λ v. after_same (truth a.process at v) _ _ (λ b. ap Ok (turned_same n a same s (repeated at e ts) ts b)))))
    (internal.repeats at e ts r s (gives n a same f at e r s is))
performs n a same f _ _ _ (internal.elapses at e) = internal.elapses at e
performs n a same f _ _ _ (internal.expires left at) = internal.expires left at
performs n a same f _ _ _ (internal.calls at method args results r s locals body is has) =
    subst (λ (x : Result Process Trouble). Performs (seen_in n a) f (leaf (call at method args results)) at x)
    (sym (after_same r _ _ (λ vs. ap Ok (entered_same n a same s locals results body vs))))
    (internal.calls at method args results r s locals body (gives_all n a same f at args r s is)
    (record { is_body = sym (same.statements.bodies method.name (how_many args) (length results)) ∙ has.is_body }))

pub hands : (n : ModelTree) (a : Context) → SeesTheSame n a → (f : ℕ) (parcel : ParcelView) (t : Term) (at : Pos) (r : Result Process Trouble)
    → Hands a f parcel t at r → Hands (seen_in n a) f parcel t at r
hands n a same f parcel _ _ _ (messages.hands at port name args block values s r left is packed after) =
    messages.hands at port name args block values s r left (gives_part n a same f at args (Ok values) s is) packed
    (gives_part n (in_state a s) (sees_in_state n a same s) f at block r left after)

pub takes : (n : ModelTree) (a : Context) → SeesTheSame n a → (f : ℕ) (parcel : ParcelView) (t : Term) (at : Pos) (r : Result Process Trouble)
    → Takes a f parcel t at r → Takes (seen_in n a) f parcel t at r
takes n a same f parcel _ _ _ (messages.takes at port name into condition block r left fits after) =
    messages.takes at port name into condition block r left fits
    (gives_part n (in_state a (bound a f into parcel)) (sees_in_state n a same (bound a f into parcel)) f at block r left after)
takes n a same f parcel _ _ _ (messages.full at port name into condition block full) = messages.full at port name into condition block full

-- Time

module _ (n : ModelTree) (a : Context) (same : SeesTheSame n a) (d : ℕ) where
  mutual
    pub passes : (f : ℕ) (t x : Term) → Passes a d f t x → Passes (seen_in n a) d f t x
    passes _ _ _ (delays.is_done f) = delays.is_done f
    passes _ _ _ (delays.stays f s is) = delays.stays f s is
    passes _ _ _ (delays.begins f at e left is) = delays.begins f at e left (lasts n a same f at e (Ok left) is)
    passes _ _ _ (delays.goes_on f left at) = delays.goes_on f left at
    passes _ _ _ (delays.in_sequence f t x rest p) = delays.in_sequence f t x rest (passes f t x p)
    passes _ _ _ (delays.in_parallel f ts xs p) = delays.in_parallel f ts xs (passes_all f ts xs p)
    passes _ _ _ (delays.in_select f ts xs p) = delays.in_select f ts xs (passes_all f ts xs p)
    passes _ _ _ (delays.behind_true f test at t x is p) = delays.behind_true f test at t x (tests n a same f at test (Ok true) is) (passes f t x p)
    passes _ _ _ (delays.behind_false f test at t is) = delays.behind_false f test at t (tests n a same f at test (Ok false) is)
    passes _ _ _ (delays.in_frame f number inputs results t x p) = delays.in_frame f number inputs results t x (passes number t x p)
    passes _ _ _ (delays.in_abort f t x u y p q) = delays.in_abort f t x u y (passes f t x p) (passes f u y q)
    passes _ _ _ (delays.in_idle f t x u y again p q) = delays.in_idle f t x u y again (passes f t x p) (passes f u y q)
    passes _ _ _ (delays.in_handling f t u y again q) = delays.in_handling f t u y again (passes f u y q)

    passes_all : (f : ℕ) (ts xs : Terms) → PassesAll a d f ts xs → PassesAll (seen_in n a) d f ts xs
    passes_all _ _ _ (delays.none f) = delays.none f
    passes_all _ _ _ (delays.both f t x ts xs p q) = delays.both f t x ts xs (passes f t x p) (passes_all f ts xs q)
