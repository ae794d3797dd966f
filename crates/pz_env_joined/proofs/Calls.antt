-- A plain call becomes the same in what has grown out of a sound model without rounds: to follow calls deeper
-- than there are methods comes to nothing new.
use Rattle.std.proofs.Common.{◌≡◌, refl, sym, ap, ◌∙◌, ◌⊎◌, inl, inr, subst, ℕ, zero, suc, Option, Some, None}
use Rattle.std.proofs.Math.Path.{fun_ext}
use Rattle.pz_env_mimics.specs.pz_syntax.declared.tokens.Pos.{Pos}
use Rattle.pz_env_mimics.specs.pz_syntax.declared.names.Id.{Id}
use Rattle.pz_env_mimics.specs.pz_syntax.Statements.{skip, delay, bracketed, block, guarded, parallel, select, conditional, repeated, abort, interrupt, send, receive, call, assignment, value}
use Rattle.pz_env_mimics.specs.pz_syntax.Classes.{ModelTree}
use Rattle.pz_env_mimics.specs.pz_classes_rules.declared.method_id.Counts.TheVariants.{Process as process_counts}
use Rattle.pz_env_mimics.specs.pz_classes_rules.Bodies.{BodyTree, data_body, process_body}
use Rattle.pz_env_mimics.specs.pz_classes_rules.Soundness.{IsSound}
use Rattle.pz_classes_openings.specs.OpeningRules.{Opens}
use Rattle.pz_env_mimics.specs.pz_state.States.{StateView}
use Rattle.pz_env_mimics.specs.pz_rules.declared.limits.Edition.{Edition}
use Rattle.pz_env_mimics.specs.pz_rules.declared.limits.Edition.TheVariants.{One, Two}
use Rattle.pz_env_mimics.specs.pz_rules.Terms.{Step, Steps, leaf}
use Rattle.pz_env_mimics.specs.pz_rules.Settings.{Process, left_by, Home}
use Rattle.pz_env_mimics.specs.pz_rules.Openable.{IsProcessClass}
use Rattle.pz_env_mimics.specs.pz_rules.Opening.{steps_opened, in_frame, called_body, by_body, entered_to, depth_of, enter_in, enter}
use Rattle.pz_env_mimics.specs.pz_rules.CallLaws.{plain_call, OpensCalls, IsCalled, CallsUnfold}
use Rattle.pz_env_same.specs.SameRules.{home_in}
use Rattle.pz_env_joined.proofs.Numbered.{has_body}

abbrev Enter : Type 0
Enter = Step → StateView → Process

-- where names mean the same bodies, calls become the same as deep as they are followed
module _ (h g : Home) (same : (x : Id) → called_body h x ≡ called_body g x) where
  pub entered_same : (k : ℕ) (r : Step) (s : StateView) → entered_to h k r s ≡ entered_to g k r s
  entered_same zero r s = refl
  entered_same (suc k) (call pos x args results) s =
      ap (λ (o : Option BodyTree). by_body o (steps_opened (entered_to h k)) (call pos x args results) s) (same x)
      ∙ ap (λ (f : Enter). by_body (called_body g x) (steps_opened f) (call pos x args results) s) (fun_ext (λ q. fun_ext (λ t. entered_same k q t)))
  entered_same (suc k) (skip pos) s = refl
  entered_same (suc k) (delay pos e) s = refl
  entered_same (suc k) (bracketed pos ts) s = refl
  entered_same (suc k) (block pos es) s = refl
  entered_same (suc k) (guarded pos e t) s = refl
  entered_same (suc k) (parallel pos bs) s = refl
  entered_same (suc k) (select pos bs) s = refl
  entered_same (suc k) (conditional pos e ts other) s = refl
  entered_same (suc k) (repeated pos e ts) s = refl
  entered_same (suc k) (abort pos ts t) s = refl
  entered_same (suc k) (interrupt pos ts t) s = refl
  entered_same (suc k) (send pos port name args after) s = refl
  entered_same (suc k) (receive pos port name into condition after) s = refl
  entered_same (suc k) (assignment pos x e) s = refl
  entered_same (suc k) (value pos e) s = refl

-- One step deeper than there are methods, in a sound model without rounds

module _ (unfolds : CallsUnfold) (h : Home) (opens : OpensCalls h) where
  abbrev Found : Id → ℕ → Steps → Type 0
  Found x locals body = called_body h x ≡ Some (process_body locals body)

  found_has : (x : Id) (locals : ℕ) (body : Steps) → Found x locals body → IsCalled h x locals body
  found_has x locals body is = record { has = has_body h.model h.class (record { name = x.name; counts = process_counts 0 0 }) (process_body locals body) is; is = is }

  -- a call of a method unfolds
  unfolded : (pos : Pos) (x : Id) (locals : ℕ) (body : Steps) (s : StateView) → Found x locals body
      → entered_to h (depth_of h.model) (plain_call pos x) s ≡ in_frame locals (steps_opened (entered_to h (depth_of h.model)) body) s
  unfolded pos x locals body s is =
      subst (λ (e : Edition). enter_in e h (plain_call pos x) s ≡ in_frame locals (steps_opened (enter_in e h) body) s) opens.edition
      (unfolds h pos x locals body s opens (found_has x locals body is))

  -- and of what is no method of a process class it stands as it is
  no_method : (k : ℕ) (pos : Pos) (x : Id) (s : StateView) (o : Option BodyTree) → called_body h x ≡ o
      → ((locals : ℕ) (body : Steps) → o ≡ Some (process_body locals body) → ⊥) → entered_to h k (plain_call pos x) s ≡ left_by s (leaf (plain_call pos x))
  no_method zero pos x s o is never = refl
  no_method (suc k) pos x s None is never = ap (λ (o : Option BodyTree). by_body o (steps_opened (entered_to h k)) (plain_call pos x) s) is
  no_method (suc k) pos x s (Some (data_body locals e)) is never = ap (λ (o : Option BodyTree). by_body o (steps_opened (entered_to h k)) (plain_call pos x) s) is
  no_method (suc k) pos x s (Some (process_body locals body)) is never = absurd (never locals body refl)

  pub deeper : (pos : Pos) (x : Id) (s : StateView)
      → entered_to h (suc (depth_of h.model)) (plain_call pos x) s ≡ entered_to h (depth_of h.model) (plain_call pos x) s
  deeper pos x s = by (called_body h x) refl
    where
      by : (o : Option BodyTree) → called_body h x ≡ o
          → entered_to h (suc (depth_of h.model)) (plain_call pos x) s ≡ entered_to h (depth_of h.model) (plain_call pos x) s
      by None is = no_method (suc (depth_of h.model)) pos x s None is (λ locals body eq. cc) ∙ sym (no_method (depth_of h.model) pos x s None is (λ locals body eq. cc))
      by (Some (data_body locals e)) is =
          no_method (suc (depth_of h.model)) pos x s (Some (data_body locals e)) is (λ l body eq. cc)
          ∙ sym (no_method (depth_of h.model) pos x s (Some (data_body locals e)) is (λ l body eq. cc))
      by (Some (process_body locals body)) is =
          ap (λ (o : Option BodyTree). by_body o (steps_opened (entered_to h (depth_of h.model))) (plain_call pos x) s) is
          ∙ sym (unfolded pos x locals body s is)

-- What a plain call becomes in what has grown out of a sound model, with a method more or with none
pub calls_same : CallsUnfold → (m n : ModelTree) → IsSound m → Opens m → (class : ℕ) → IsProcessClass m class
    → ((x : Id) → called_body (home_in m Two class) x ≡ called_body (home_in n Two class) x)
    → (depth_of n ≡ depth_of m) ⊎ (depth_of n ≡ suc (depth_of m)) → (edition : Edition) (pos : Pos) (x : Id) (s : StateView)
    → enter (home_in m edition class) (plain_call pos x) s ≡ enter (home_in n edition class) (plain_call pos x) s
calls_same unfolds m n sound opens class process same depths One pos x s = refl
calls_same unfolds m n sound opens class process same (inl as_deep) Two pos x s =
    entered_same (home_in m Two class) (home_in n Two class) same (depth_of m) (plain_call pos x) s
    ∙ ap (λ (d : ℕ). entered_to (home_in n Two class) d (plain_call pos x) s) (sym as_deep)
calls_same unfolds m n sound opens class process same (inr one_more) Two pos x s =
    sym (deeper unfolds (home_in m Two class) (record { edition = refl; sound = sound; process = process; rounds = opens.rounds }) pos x s)
    ∙ entered_same (home_in m Two class) (home_in n Two class) same (suc (depth_of m)) (plain_call pos x) s
    ∙ ap (λ (d : ℕ). entered_to (home_in n Two class) d (plain_call pos x) s) (sym one_more)
