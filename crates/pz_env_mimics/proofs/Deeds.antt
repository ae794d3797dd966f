-- What the acting part of the environment does.
use Rattle.std.proofs.Common.{◌≡◌, ◌<◌, ◌≤◌, ◌+◌, ◌⊎◌, inl, inr, ℕ, List, [], length, replicate, None, Result, Ok, All, refl, sym, ap, subst, ◌∙◌, arith}
use Rattle.std.proofs.lemmas.Bool.{cases_lt}
use Rattle.pz_env_tree.specs.pz_syntax.declared.tokens.Pos.{Pos}
use Rattle.pz_env_tree.specs.pz_syntax.declared.exprs.Literal.TheVariants as literal
use Rattle.pz_env_tree.specs.pz_syntax.Expressions as expression
use Rattle.pz_env_tree.specs.pz_value.declared.value.Value.{Value}
use Rattle.pz_env_tree.specs.pz_classes_code.declared.slot.Slot.TheVariants.{Shared}
use Rattle.pz_env_tree.specs.pz_state.States.{StateView, object_limit}
use Rattle.pz_env_tree.specs.pz_state.declared.fault.FaultKind.TheVariants.{StoreFull}
use Rattle.pz_env_tree.specs.pz_copy.Parcels.{ParcelView}
use Rattle.pz_env_tree.specs.pz_copy.Packing.{IsParcelOf}
use Rattle.pz_env_tree.specs.pz_offer.declared.trouble.Trouble.{Trouble}
use Rattle.pz_env_tree.specs.pz_offer.declared.trouble.Trouble.TheVariants.{Spent}
use Rattle.pz_env_tree.specs.pz_rules.Terms.{Term, done, leaf}
use Rattle.pz_env_tree.specs.pz_rules.Settings.{Context, Process}
use Rattle.pz_env_tree.specs.pz_rules.Meanings.{and_then, fault}
use Rattle.pz_env_tree.specs.pz_rules.InternalActions as actions
use Rattle.pz_env_tree.specs.pz_rules.InternalActions.{done_in, Performs}
use Rattle.pz_env_tree.specs.pz_rules.Messages as messages
use Rattle.pz_env_tree.specs.pz_rules.Messages.{Fits, bound, Hands, Takes}
use Rattle.pz_env_tree.specs.pz_env_script.declared.entry.Transfer.{Transfer}
use Rattle.pz_env_tree.specs.pz_env_script.declared.entry.Transfer.TheVariants.{Send, Receive}
use Rattle.pz_env_tree.specs.pz_env_script.Entries.{values_in}
use Rattle.pz_env_tree.specs.pz_env_rules.Environment.{Line, at_line}
use Rattle.pz_env_tree.specs.pz_env_rules.Ends.{named_at}
use Rattle.pz_env_tree.specs.EnvironmentClass.{unless_none}
use Rattle.pz_env_mimics.specs.Environments.{exchange, arguments}
use Rattle.pz_env_mimics.proofs.Literals.{IsConstant, arguments_given, arguments_only, arguments_only_spent}
use Rattle.pz_env_mimics.proofs.PlainValues.{plain_parcel, only_plain_parcel, bound_objects}
use Rattle.pz_env_mimics.proofs.Environment.{IsWaiting, not_begun, begun, IsAround}
use Rattle.pz_env_mimics.proofs.Speaking.{ok_same, ok_apart}

-- What is around another term does nothing

pub around_never_performs : (a : Context) (g : ℕ) (part : Term) (at : Pos) (r : Result Process Trouble) → IsAround part → Performs a g part at r → ⊥
around_never_performs a g _ _ _ is (actions.skips at) = is
around_never_performs a g _ _ _ is (actions.evaluates at e r s gives) = is
around_never_performs a g _ _ _ is (actions.evaluates_block at es r s gives) = is
around_never_performs a g _ _ _ is (actions.tests at e ts other r s gives) = is
around_never_performs a g _ _ _ is (actions.repeats at e ts r s gives) = is
around_never_performs a g _ _ _ is (actions.elapses at e) = is
around_never_performs a g _ _ _ is (actions.expires left at) = is
around_never_performs a g _ _ _ is (actions.calls at method args results r s locals body gives is_method) = is

pub around_never_hands : (a : Context) (g : ℕ) (parcel : ParcelView) (part : Term) (at : Pos) (r : Result Process Trouble) → IsAround part
    → Hands a g parcel part at r → ⊥
around_never_hands a g parcel _ _ _ is (messages.hands at port name args block values s r left gives packed does) = is

pub around_never_takes : (a : Context) (g : ℕ) (parcel : ParcelView) (part : Term) (at : Pos) (r : Result Process Trouble) → IsAround part
    → Takes a g parcel part at r → ⊥
around_never_takes a g parcel _ _ _ is (messages.takes at port name into condition block r left fits gives) = is
around_never_takes a g parcel _ _ _ is (messages.full at port name into condition block unfit) = is

pub done_never_performs : (a : Context) (g : ℕ) (at : Pos) (r : Result Process Trouble) → Performs a g done at r → ⊥
done_never_performs a g at r is = elim is [ ]

pub done_never_hands : (a : Context) (g : ℕ) (parcel : ParcelView) (at : Pos) (r : Result Process Trouble) → Hands a g parcel done at r → ⊥
done_never_hands a g parcel at r is = elim is [ ]

pub done_never_takes : (a : Context) (g : ℕ) (parcel : ParcelView) (at : Pos) (r : Result Process Trouble) → Takes a g parcel done at r → ⊥
done_never_takes a g parcel at r is = elim is [ ]

-- A wait, and an exchange

pub waiting_performs : (a : Context) (g : ℕ) (x : Line) (left : ℕ) (t : Term) (at : Pos) (r : Result Process Trouble) → IsWaiting x left t
    → Performs a g t at r → (at ≡ at_line x) × (r ≡ Ok (done_in a.state))
waiting_performs a g x _ _ _ _ not_begun (actions.elapses at e) = (refl, refl)
waiting_performs a g x _ _ _ _ (begun left) (actions.expires _ at) = (refl, refl)

pub waiting_performs_there : (a : Context) (g : ℕ) (x : Line) (left : ℕ) (t : Term) → IsWaiting x left t → Performs a g t (at_line x) (Ok (done_in a.state))
waiting_performs_there a g x _ _ not_begun =
    actions.elapses (at_line x) (expression.literal (at_line x) (literal.Int x.entry.wait))
waiting_performs_there a g x _ _ (begun left) = actions.expires left (at_line x)

pub waiting_never_hands : (a : Context) (g : ℕ) (parcel : ParcelView) (x : Line) (left : ℕ) (t : Term) (at : Pos) (r : Result Process Trouble)
    → IsWaiting x left t → Hands a g parcel t at r → ⊥
waiting_never_hands a g parcel x _ _ at r not_begun is = elim is [ ]
waiting_never_hands a g parcel x _ _ at r (begun left) is = elim is [ ]

pub waiting_never_takes : (a : Context) (g : ℕ) (parcel : ParcelView) (x : Line) (left : ℕ) (t : Term) (at : Pos) (r : Result Process Trouble)
    → IsWaiting x left t → Takes a g parcel t at r → ⊥
waiting_never_takes a g parcel x _ _ at r not_begun is = elim is [ ]
waiting_never_takes a g parcel x _ _ at r (begun left) is = elim is [ ]

pub exchange_never_performs : (a : Context) (g p : ℕ) (x : Line) (transfer : Transfer) (at : Pos) (r : Result Process Trouble)
    → Performs a g (leaf (exchange p x transfer)) at r → ⊥
exchange_never_performs a g p x (Send values) at r is = elim is [ ]
exchange_never_performs a g p x (Receive count) at r is = elim is [ ]

module _ (a : Context) (deep : 1 ≤ a.setting.limits.depth) (g p : ℕ) (x : Line) (parcel : ParcelView) where
  pub record Handed (transfer : Transfer) (at : Pos) (r : Result Process Trouble) : Type 0 where
    pub values : List Value
    pub sends : transfer ≡ Send values
    pub paid : length values ≤ a.setting.limits.units
    pub at_it : at ≡ at_line x
    pub parcel_is : parcel ≡ record { values = values; objects = [] }
    pub leaves : r ≡ Ok (done_in a.state)

  pub exchange_hands : (transfer : Transfer) (at : Pos) (r : Result Process Trouble) → All IsConstant (values_in transfer)
      → Hands a g parcel (leaf (exchange p x transfer)) at r → Handed transfer at r
  exchange_hands (Receive count) at r plain is = elim is [ ]
  exchange_hands (Send values) _ _ plain (messages.hands at port name args block found s r left gives packed does) =
      by (cases_lt a.setting.limits.units (length values))
    where
      by : (a.setting.limits.units < length values) ⊎ (length values ≤ a.setting.limits.units)
          → Handed (Send values) (at_line x) (and_then r (λ _. Ok (done_in left)))
      by (inl more) =
          absurd (ok_apart found (Spent a.process (at_line x)) (arguments_only_spent a g (at_line x) deep values plain more (Ok found) s gives))
      by (inr low) =
          let only = arguments_only a g (at_line x) deep values plain low (Ok found) s gives in
          record {
            values = values;
            sends = refl;
            paid = low;
            at_it = refl;
            parcel_is = only_plain_parcel s values plain parcel (subst (λ (vs : List Value). IsParcelOf s vs parcel) (ok_same found values only.0) packed);
            leaves =
                ap (λ (q : Result (List Value) Trouble). and_then q (λ _. Ok (done_in left))) does.0
                ∙ ap (λ (z : StateView). let q : Result Process Trouble = Ok (done_in z) in q) (does.1 ∙ only.1);
          }

  pub exchange_hands_there : (transfer : Transfer) (values : List Value) → transfer ≡ Send values → All IsConstant values
      → length values ≤ a.setting.limits.units → parcel ≡ record { values = values; objects = [] }
      → Hands a g parcel (leaf (exchange p x transfer)) (at_line x) (Ok (done_in a.state))
  exchange_hands_there transfer values is plain low parcel_is =
      subst (λ (q : Transfer). Hands a g parcel (leaf (exchange p x q)) (at_line x) (Ok (done_in a.state))) (sym is)
      (messages.hands (at_line x) p (named_at x x.entry.message) (arguments (at_line x) values) expression.left_out values a.state (Ok []) a.state
      (arguments_given a g (at_line x) deep values plain low)
      (subst (λ (q : ParcelView). IsParcelOf a.state values q) (sym parcel_is) (plain_parcel a.state values plain))
      (refl, refl))

-- what a receive leaves, where the parcel fits and where it does not
pub data TakenBy (a : Context) (x : Line) (parcel : ParcelView) : Result Process Trouble → Type 0 where
  taken : (s : StateView) → length a.state.objects + length parcel.objects ≤ object_limit
      → length s.objects ≡ length a.state.objects + length parcel.objects → TakenBy a x parcel (Ok (done_in s))
  is_full : ¬ Fits a parcel → TakenBy a x parcel (fault StoreFull a.process (at_line x))

module _ (a : Context) (g p : ℕ) (x : Line) (parcel : ParcelView) where
  pub record Received (transfer : Transfer) (at : Pos) (r : Result Process Trouble) : Type 0 where
    pub count : ℕ
    pub receives : transfer ≡ Receive count
    pub at_it : at ≡ at_line x
    pub leaves : TakenBy a x parcel r

  pub exchange_takes : (transfer : Transfer) (at : Pos) (r : Result Process Trouble) → Takes a g parcel (leaf (exchange p x transfer)) at r
      → Received transfer at r
  exchange_takes (Send values) at r is = elim is [ ]
  exchange_takes (Receive count) _ _ (messages.takes at port name into condition block r left fits does) =
      record {
        count = count;
        receives = refl;
        at_it = refl;
        leaves =
            let leaves_so : Ok (done_in (bound a g (unless_none (replicate count (Shared 0))) parcel)) ≡ and_then r (λ _. Ok (done_in left)) =
            sym
            (ap (λ (q : Result (List Value) Trouble). let z : Result Process Trouble = and_then q (λ _. Ok (done_in left)) in z) does.0
            ∙ ap (λ (z : StateView). let q : Result Process Trouble = Ok (done_in z) in q) does.1)
            in
            subst (TakenBy a x parcel) leaves_so
            (taken (bound a g (unless_none (replicate count (Shared 0))) parcel) fits (bound_objects g count parcel a.state));
      }
  exchange_takes (Receive count) _ _ (messages.full at port name into condition block unfit) =
      record { count = count; receives = refl; at_it = refl; leaves = is_full unfit }

  pub exchange_takes_there : (transfer : Transfer) (count : ℕ) → transfer ≡ Receive count
      → (r : Result Process Trouble) × Takes a g parcel (leaf (exchange p x transfer)) (at_line x) r
  exchange_takes_there transfer count is = by (cases_lt object_limit (length a.state.objects + length parcel.objects))
    where
      by : (object_limit < length a.state.objects + length parcel.objects) ⊎ (length a.state.objects + length parcel.objects ≤ object_limit)
          → (r : Result Process Trouble) × Takes a g parcel (leaf (exchange p x transfer)) (at_line x) r
      by (inl more) = (
        fault StoreFull a.process (at_line x),
        subst (λ (q : Transfer). Takes a g parcel (leaf (exchange p x q)) (at_line x) (fault StoreFull a.process (at_line x))) (sym is)
            (messages.full (at_line x) p (named_at x x.entry.message) (unless_none (replicate count (Shared 0))) None expression.left_out (λ fits. omega (arith, more, fits))),
      )
      by (inr fits) =
          let s = bound a g (unless_none (replicate count (Shared 0))) parcel in (
            Ok (done_in s),
            subst (λ (q : Transfer). Takes a g parcel (leaf (exchange p x q)) (at_line x) (Ok (done_in s))) (sym is)
                (messages.takes (at_line x) p (named_at x x.entry.message) (unless_none (replicate count (Shared 0))) None expression.left_out (Ok []) s fits (refl, refl)),
          )
