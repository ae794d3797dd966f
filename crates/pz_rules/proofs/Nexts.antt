-- An action leaves one configuration or one trouble.
use Rattle.std.proofs.Common.{◌≡◌, ℕ, Result, Ok, sym, subst, ap, ◌∙◌}
use Rattle.pz_bind_rules.specs.pz_syntax.declared.tokens.Pos.{Pos}
use Rattle.pz_bind_levels.specs.Places.{Address}
use Rattle.pz_bind_rules.specs.Nest.{class_at}
use Rattle.pz_offer.specs.declared.end.End.{End}
use Rattle.pz_offer.specs.declared.trouble.Trouble.{Trouble}
use Rattle.pz_rules.specs.declared.action.Action.{Action}
use Rattle.pz_rules.specs.Terms.{Term}
use Rattle.pz_rules.specs.Settings.{Setting, Process, Context}
use Rattle.pz_rules.specs.Meanings.{and_then}
use Rattle.pz_rules.specs.Active.{IsActive}
use Rattle.pz_rules.specs.InternalActions.{Performs}
use Rattle.pz_rules.specs.Messages.{Hands, Takes}
use Rattle.pz_rules.specs.Leaving.{settled}
use Rattle.pz_rules.specs.Configurations.{Config, Stands}
use Rattle.pz_rules.specs.Steps.{Deed, Acts, with_process, with_both, Next, internal, communication}
use Rattle.pz_rules.proofs.Locals.{some_is}
use Rattle.pz_rules.proofs.Once.{active_once, performs_once, hands_once, takes_once}

module _ (setting : Setting) (c : Config) where
  pub record SameProcess (p q : Process) (a b : Context) : Type 0 where
    pub process : p ≡ q
    pub seen : a ≡ b

  pub stands_once : (i : ℕ) (p q : Process) (a b : Context) → Stands setting c i p a → Stands setting c i q b → SameProcess p q a b
  stands_once i p q a b x y =
      let place : x.place ≡ y.place = some_is (sym x.is_process ∙ y.is_process) in
      let process : p ≡ q = some_is (sym x.is_here ∙ y.is_here) in
      record {
        process = process;
        seen = x.seen
            ∙ ap (λ (z : Address). let s : Context = record { setting = setting; process = i; class = class_at setting.model z; clock = c.clock; state = p.state } in s) place
            ∙ ap (λ (z : Process). let s : Context = record { setting = setting; process = i; class = class_at setting.model y.place; clock = c.clock; state = z.state } in s) process
            ∙ sym y.seen;
      }

  -- a deed that has one outcome
  abbrev pub IsOnce : Deed → Type 0
  IsOnce does = (a : Context) (f : ℕ) (t : Term) (pos pos' : Pos) (q p : Result Process Trouble) → does a f t pos q → does a f t pos' p → (pos ≡ pos') × (q ≡ p)

  pub acts_once : (does : Deed) → IsOnce does → (at : End) (q p : Result Process Trouble) → Acts setting c does at q → Acts setting c does at p → q ≡ p
  acts_once does once at q p x y =
      let same = stands_once at.process x.process y.process x.seen y.seen x.stands y.stands in
      let active : IsActive y.seen y.process.term at.place x.frame x.part =
      subst (λ (b : Context). IsActive b y.process.term at.place x.frame x.part) same.seen (subst (λ (z : Process). IsActive x.seen z.term at.place x.frame x.part) same.process x.active) in
      let part = active_once active y.active in
      let acts : does y.seen y.frame y.part x.pos x.left =
      subst (λ (t : Term). does y.seen y.frame t x.pos x.left) part.part
      (subst (λ (f : ℕ). does y.seen f x.part x.pos x.left) part.frame (subst (λ (b : Context). does b x.frame x.part x.pos x.left) same.seen x.acts)) in
      let outcome = once y.seen y.frame y.part x.pos y.pos x.left y.left acts y.acts in
      x.leaves
      ∙ ap (λ (l : Result Process Trouble). and_then l (settled x.seen x.pos x.process.term at.place)) outcome.1
      ∙ ap (λ (b : Context). and_then y.left (settled b x.pos x.process.term at.place)) same.seen
      ∙ ap (λ (o : Pos). and_then y.left (settled y.seen o x.process.term at.place)) outcome.0
      ∙ ap (λ (z : Process). and_then y.left (settled y.seen y.pos z.term at.place)) same.process
      ∙ sym y.leaves

  pub next_once : (action : Action) (q p : Result Config Trouble) → Next setting c action q → Next setting c action p → q ≡ p
  next_once _ _ _ (internal at kind pos result x) (internal _ _ _ result' y) =
      ap (λ (r : Result Process Trouble). and_then r (λ z. Ok (with_process c at.process z))) (acts_once Performs performs_once at result result' x y)
  next_once _ _ _ (communication number sender receiver message parcel sent taken x y) (communication _ _ _ _ _ sent' taken' x' y') =
      ap (λ (r : Result Process Trouble). and_then r (λ z. and_then taken (λ w. Ok (with_both c sender receiver z w))))
      (acts_once (λ a f. Hands a f parcel) (λ a f t pos pos' q p h k. hands_once a f parcel t pos pos' q p h k) sender sent sent' x x')
      ∙ ap (λ (r : Result Process Trouble). and_then sent' (λ z. and_then r (λ w. Ok (with_both c sender receiver z w))))
      (acts_once (λ a f. Takes a f parcel) (λ a f t pos pos' q p h k. takes_once a f parcel t pos pos' q p h k) receiver taken taken' y y')
