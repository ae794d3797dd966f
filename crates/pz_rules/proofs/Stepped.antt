-- The start has no delay that has begun, and an action leaves those that there were.
use Rattle.std.proofs.Common.{◌≡◌, ◌<◌, ◌⊎◌, inl, inr, ℕ, zero, suc, Bool, true, false, List, [], ◌∷◌, length, Some, Result, Ok, Err, refl, sym, subst, ap, arith}
use Rattle.std.proofs.lemmas.Option.{slice_get_within}
use Rattle.std.specs.Prelude.{slice_get, slice_set, if◌then◌else◌, nat_le}
use Rattle.pz_bind_rules.specs.pz_syntax.declared.tokens.Pos.{Pos}
use Rattle.pz_bind_rules.specs.Nest.{processes}
use Rattle.pz_offer.specs.declared.end.End.{End}
use Rattle.pz_offer.specs.PlaceOrder.{Place}
use Rattle.pz_offer.specs.declared.trouble.Trouble.{Trouble}
use Rattle.pz_offer.specs.declared.trouble.Trouble.TheVariants.{High}
use Rattle.pz_rules.specs.declared.action.Action.{Action}
use Rattle.pz_rules.specs.Terms.{Term, height}
use Rattle.pz_rules.specs.Settings.{Setting, Process, Context, home_of}
use Rattle.pz_rules.specs.Meanings.{and_then}
use Rattle.pz_rules.specs.InternalActions.{Performs}
use Rattle.pz_rules.specs.Messages.{Hands, Takes}
use Rattle.pz_rules.specs.Leaving.{residual, swept, not_too_high, settled}
use Rattle.pz_rules.specs.Configurations.{Config}
use Rattle.pz_rules.specs.Starting.{IsStart}
use Rattle.pz_rules.specs.Steps.{Deed, Acts, with_process, with_both, Next, internal, communication}
use Rattle.pz_rules.specs.Short.{IsShort, DelaysAreShort}
use Rattle.pz_rules.proofs.Opened.{start_short, residual_short}
use Rattle.pz_rules.proofs.Left.{OnShort, performed_short, handed_short, taken_short}

-- ---------------------------------------------------------- lists by their elements

pub there : {X : Type 0} (xs : List X) (i : ℕ) → i < length xs → (x : X) × (slice_get xs i ≡ Some x)
there [] i within = absurd (omega (arith, within))
there (x ∷ xs) zero within = (x, refl)
there (x ∷ xs) (suc i) within = there xs i (omega (arith, within))

pub some_is : {X : Type 0} {x y : X} → Some x ≡ Some y → x ≡ y
some_is e = cc

set_get : {X : Type 0} (xs : List X) (i k : ℕ) (x y : X) → slice_get (slice_set xs i x) k ≡ Some y → (y ≡ x) ⊎ (slice_get xs k ≡ Some y)
set_get [] i k x y e = inr e
set_get (z ∷ xs) zero zero x y e = inl (sym (some_is e))
set_get (z ∷ xs) zero (suc k) x y e = inr e
set_get (z ∷ xs) (suc i) zero x y e = inr e
set_get (z ∷ xs) (suc i) (suc k) x y e = set_get xs i k x y e

-- ---------------------------------------------------------- the start

pub start_is_short : (setting : Setting) (c : Config) → IsStart setting c → DelaysAreShort c
start_is_short setting c start i p is =
    let within : i < length (processes setting.model) = subst (λ (n : ℕ). i < n) start.all (slice_get_within c.processes i p is) in
    let place = there (processes setting.model) i within in
    start_short setting place.0 p (start.each i place.0 p place.1 is)

-- ---------------------------------------------------------- an action

unless_high : (a : Context) (pos : Pos) (p : Process) → IsShort p.term → OnShort (not_too_high a pos p)
unless_high a pos p h = by (nat_le (height p.term) a.setting.limits.height)
  where
    by : (b : Bool) → OnShort (if b then Ok p else Err (High a.process pos))
    by true = h
    by false = tt

settled_short : (a : Context) (pos : Pos) (t : Term) (place : Place) (left : Result Process Trouble) → IsShort t → OnShort left → OnShort (and_then left (settled a pos t place))
settled_short a pos t place (Ok x) h on = unless_high a pos (swept (residual (home_of a) 0 t place x)) (residual_short (home_of a) 0 t place x h on)
settled_short a pos t place (Err e) h on = tt

put_short : (c : Config) (i : ℕ) (p : Process) → DelaysAreShort c → IsShort p.term → DelaysAreShort (with_process c i p)
put_short c i p short new k q is = by (set_get c.processes i k p q is)
  where
    by : (q ≡ p) ⊎ (slice_get c.processes k ≡ Some q) → IsShort q.term
    by (inl same) = subst (λ (r : Process). IsShort r.term) (sym same) new
    by (inr other) = short k q other

abbrev OutcomeShort : Result Config Trouble → Type 0
OutcomeShort (Ok next) = DelaysAreShort next
OutcomeShort (Err t) = Unit {0}

abbrev LeavesShort : Deed → Type 0
LeavesShort does = (a : Context) (f : ℕ) (part : Term) (pos : Pos) (r : Result Process Trouble) → does a f part pos r → OnShort r

module _ (setting : Setting) (c : Config) (short : DelaysAreShort c) where
  acts_short : (does : Deed) → LeavesShort does → (end : End) (r : Result Process Trouble) → Acts setting c does end r → OnShort r
  acts_short does leaves end r x = subst OnShort (sym x.leaves)
      (settled_short x.seen x.pos x.process.term end.place x.left (short end.process x.process x.stands.is_here) (leaves x.seen x.frame x.part x.pos x.left x.acts))

  internal_short : (i : ℕ) (r : Result Process Trouble) → OnShort r → OutcomeShort (and_then r (λ p. Ok (with_process c i p)))
  internal_short i (Ok p) h = put_short c i p short h
  internal_short i (Err t) h = tt

  both_short : (sender receiver : End) (q r : Result Process Trouble) → OnShort q → OnShort r → OutcomeShort (and_then q (λ p. and_then r (λ u. Ok (with_both c sender receiver p u))))
  both_short sender receiver (Ok p) (Ok u) h k = put_short (with_process c sender.process p) receiver.process u (put_short c sender.process p short h) k
  both_short sender receiver (Ok p) (Err t) h k = tt
  both_short sender receiver (Err t) r h k = tt

  outcome_short : (action : Action) (r : Result Config Trouble) → Next setting c action r → OutcomeShort r
  outcome_short _ _ (internal end kind pos result x) = internal_short end.process result (acts_short Performs performed_short end result x)
  outcome_short _ _ (communication number sender receiver message parcel sent taken x y) =
      both_short sender receiver sent taken
      (acts_short (λ a f. Hands a f parcel) (λ a f part pos r h. handed_short a f parcel part pos r h) sender sent x)
      (acts_short (λ a f. Takes a f parcel) (λ a f part pos r h. taken_short a f parcel part pos r h) receiver taken y)

pub next_short : (setting : Setting) (c next : Config) (action : Action) → DelaysAreShort c → Next setting c action (Ok next) → DelaysAreShort next
next_short setting c next action short h = outcome_short setting c short action (Ok next) h
