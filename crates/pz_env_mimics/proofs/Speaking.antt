-- What the environment's part that acts can do, sends, receives and is asked, and what is left of its delay.
use Rattle.std.proofs.Common.{◌≡◌, ◌<◌, ◌≤◌, ◌⊎◌, inl, inr, ℕ, Bool, true, List, [], length, replicate, None, Result, Ok, Err, ℤ, All, refl, sym, ap, subst}
use Rattle.std.proofs.lemmas.Bool.{cases_lt}
use Rattle.pz_env_tree.specs.pz_syntax.declared.tokens.Pos.{Pos}
use Rattle.pz_env_tree.specs.pz_syntax.declared.exprs.Literal.TheVariants as literal
use Rattle.pz_env_tree.specs.pz_syntax.Expressions as expression
use Rattle.pz_env_tree.specs.pz_value.declared.value.Value.{Value}
use Rattle.pz_env_tree.specs.pz_classes_code.declared.slot.Slot.TheVariants.{Shared}
use Rattle.pz_env_tree.specs.pz_copy.Parcels.{ParcelView}
use Rattle.pz_env_tree.specs.pz_copy.Packing.{IsParcelOf}
use Rattle.pz_env_tree.specs.pz_offer.declared.trouble.Trouble.{Trouble}
use Rattle.pz_env_tree.specs.pz_offer.declared.trouble.Trouble.TheVariants.{Spent}
use Rattle.pz_env_tree.specs.pz_rules.declared.action.Kind.{Kind}
use Rattle.pz_env_tree.specs.pz_rules.declared.action.Kind.TheVariants.{Expire}
use Rattle.pz_env_tree.specs.pz_rules.Terms.{Term, leaf, wait}
use Rattle.pz_env_tree.specs.pz_rules.Settings.{Context}
use Rattle.pz_env_tree.specs.pz_rules.Evaluations.{Lasts}
use Rattle.pz_env_tree.specs.pz_rules.InternalActions as actions
use Rattle.pz_env_tree.specs.pz_rules.InternalActions.{Can}
use Rattle.pz_env_tree.specs.pz_rules.Messages as messages
use Rattle.pz_env_tree.specs.pz_rules.Messages.{Sends, Receives, Judges}
use Rattle.pz_env_tree.specs.pz_rules.Asking as asking
use Rattle.pz_env_tree.specs.pz_rules.Asking.{Asks}
use Rattle.pz_env_tree.specs.pz_rules.Delays as delays
use Rattle.pz_env_tree.specs.pz_rules.Delays.{Delays}
use Rattle.pz_env_tree.specs.pz_env_script.declared.entry.Transfer.{Transfer}
use Rattle.pz_env_tree.specs.pz_env_script.declared.entry.Transfer.TheVariants.{Send, Receive}
use Rattle.pz_env_tree.specs.pz_env_script.Entries.{values_in}
use Rattle.pz_env_tree.specs.pz_env_rules.Environment.{Line, at_line, wait_of}
use Rattle.pz_env_tree.specs.pz_env_rules.Ends.{named_at}
use Rattle.pz_env_tree.specs.EnvironmentClass.{unless_none}
use Rattle.pz_env_mimics.specs.Environments.{exchange, arguments, IsPlain}
use Rattle.pz_env_mimics.specs.Closing.{MayDrive}
use Rattle.pz_env_mimics.proofs.Literals.{IsConstant, number_lasts, number_only, arguments_given, arguments_only, arguments_spent, arguments_only_spent}
use Rattle.pz_env_mimics.proofs.PlainValues.{plain_parcel, only_plain_parcel, count_of}
use Rattle.pz_env_mimics.proofs.Environment.{IsWaiting, not_begun, begun}

pub ok_same : {A : Type 0} (x y : A) → (let r : Result A Trouble = Ok x in r ≡ Ok y) → x ≡ y
ok_same x y e = cc

pub ok_apart : {A : Type 0} (x : A) (t : Trouble) → (let r : Result A Trouble = Ok x in r ≡ Err t) → ⊥
ok_apart x t e = cc

-- The environment as it is seen, with enough for a number
module _ (a : Context) (may : MayDrive a.setting.limits) where
  pub plain_number : (f : ℕ) (x : Line) → IsPlain x → Lasts a f (at_line x) (expression.literal (at_line x) (literal.Int x.entry.wait)) (Ok (wait_of x.entry))
  plain_number f x plain =
      subst (λ (n : ℤ). Lasts a f (at_line x) (expression.literal (at_line x) (literal.Int n)) (Ok (wait_of x.entry))) (sym plain.wait) (number_lasts a f (at_line x) may.depth may.units (wait_of x.entry))

  pub plain_number_only : (f : ℕ) (x : Line) → IsPlain x → (r : Result ℕ Trouble)
      → Lasts a f (at_line x) (expression.literal (at_line x) (literal.Int x.entry.wait)) r → r ≡ Ok (wait_of x.entry)
  plain_number_only f x plain r is =
      number_only a f (at_line x) may.depth may.units (wait_of x.entry) r (subst (λ (n : ℤ). Lasts a f (at_line x) (expression.literal (at_line x) (literal.Int n)) r) plain.wait is)

  -- Waiting

  pub waiting_can : (g : ℕ) (x : Line) (left : ℕ) (t : Term) (kind : Kind) (at : Pos) → IsPlain x → IsWaiting x left t → Can a g t kind at
      → (left ≡ 0) × (kind ≡ Expire) × (at ≡ at_line x)
  waiting_can g x _ _ _ _ plain not_begun (actions.elapses at e lasts) =
      (sym (ok_same 0 (wait_of x.entry) (plain_number_only g x plain (Ok 0) lasts)), refl, refl)
  waiting_can g x _ _ _ _ plain (begun left) (actions.expires at) = (refl, refl, refl)

  pub waiting_acts : (g : ℕ) (x : Line) (left : ℕ) (t : Term) → IsPlain x → IsWaiting x left t → left ≡ 0 → Can a g t Expire (at_line x)
  waiting_acts g x _ _ plain not_begun is =
      actions.elapses (at_line x) (expression.literal (at_line x) (literal.Int x.entry.wait)) (subst (λ (n : ℕ). Lasts a g (at_line x) (expression.literal (at_line x) (literal.Int x.entry.wait)) (Ok n)) is (plain_number g x plain))
  waiting_acts g x _ _ plain (begun left) is =
      subst (λ (n : ℕ). Can a g (wait n (at_line x)) Expire (at_line x)) (sym is) (actions.expires (at_line x))

  pub waiting_never_sends : (g : ℕ) (x : Line) (left : ℕ) (t : Term) (at : Pos) (port : ℕ) (message : List ℕ) (parcel : ParcelView)
      → IsWaiting x left t → Sends a g t at port message parcel → ⊥
  waiting_never_sends g x _ _ at port message parcel not_begun is = elim is [ ]
  waiting_never_sends g x _ _ at port message parcel (begun left) is = elim is [ ]

  pub waiting_never_receives : (x : Line) (left : ℕ) (t : Term) (at : Pos) (port : ℕ) (message : List ℕ) (count : ℕ) → IsWaiting x left t
      → Receives t at port message count → ⊥
  waiting_never_receives x _ _ at port message count not_begun is = elim is [ ]
  waiting_never_receives x _ _ at port message count (begun left) is = elim is [ ]

  pub waiting_never_judges : (g : ℕ) (x : Line) (left : ℕ) (parcel : ParcelView) (t : Term) (verdict : Result Bool Trouble) → IsWaiting x left t
      → Judges a g parcel t verdict → ⊥
  waiting_never_judges g x _ parcel _ verdict not_begun is = elim is [ ]
  waiting_never_judges g x _ parcel _ verdict (begun left) is = elim is [ ]

  pub waiting_never_asks : (g : ℕ) (x : Line) (left : ℕ) (t : Term) (trouble : Trouble) → IsPlain x → IsWaiting x left t → Asks a g t trouble → ⊥
  waiting_never_asks g x _ _ _ plain not_begun (asking.time at e trouble lasts) =
      ok_apart (wait_of x.entry) trouble (sym (plain_number_only g x plain (Err trouble) lasts))
  waiting_never_asks g x _ _ trouble plain (begun left) is = elim is [ ]

  pub waiting_left : (g : ℕ) (x : Line) (left : ℕ) (t : Term) (more : ℕ) → IsPlain x → IsWaiting x left t → Delays a g t more → more ≡ left
  waiting_left g x _ _ _ plain not_begun (delays.not_begun at e left lasts) =
      ok_same left (wait_of x.entry) (plain_number_only g x plain (Ok left) lasts)
  waiting_left g x _ _ _ plain (begun left) (delays.begun _ at) = refl

  pub waiting_delays : (g : ℕ) (x : Line) (left : ℕ) (t : Term) → IsPlain x → IsWaiting x left t → Delays a g t left
  waiting_delays g x _ _ plain not_begun =
      delays.not_begun (at_line x) (expression.literal (at_line x) (literal.Int x.entry.wait)) (wait_of x.entry) (plain_number g x plain)
  waiting_delays g x _ _ plain (begun left) = delays.begun left (at_line x)

  -- Exchanging

  pub exchange_cannot : (g p : ℕ) (x : Line) (transfer : Transfer) (kind : Kind) (at : Pos) → Can a g (leaf (exchange p x transfer)) kind at → ⊥
  exchange_cannot g p x (Send values) kind at is = elim is [ ]
  exchange_cannot g p x (Receive count) kind at is = elim is [ ]

  pub exchange_never_delays : (g p : ℕ) (x : Line) (transfer : Transfer) (left : ℕ) → Delays a g (leaf (exchange p x transfer)) left → ⊥
  exchange_never_delays g p x (Send values) left is = elim is [ ]
  exchange_never_delays g p x (Receive count) left is = elim is [ ]

  pub record Said (p : ℕ) (x : Line) (transfer : Transfer) (at : Pos) (port : ℕ) (message : List ℕ) (parcel : ParcelView) : Type 0 where
    pub values : List Value
    pub sends : transfer ≡ Send values
    pub paid : length values ≤ a.setting.limits.units
    pub at_it : at ≡ at_line x
    pub over_it : port ≡ p
    pub name : message ≡ x.entry.message
    pub parcel_is : parcel ≡ record { values = values; objects = [] }

  pub exchange_says : (g p : ℕ) (x : Line) (transfer : Transfer) (at : Pos) (port : ℕ) (message : List ℕ) (parcel : ParcelView)
      → All IsConstant (values_in transfer) → Sends a g (leaf (exchange p x transfer)) at port message parcel
      → Said p x transfer at port message parcel
  exchange_says g p x (Receive count) at port message parcel plain is = elim is [ ]
  exchange_says g p x (Send values) _ _ _ _ plain (messages.sends at port name args block found s parcel gives packed) =
      by (cases_lt a.setting.limits.units (length values))
    where
      by : (a.setting.limits.units < length values) ⊎ (length values ≤ a.setting.limits.units) → Said p x (Send values) (at_line x) p x.entry.message parcel
      by (inl more) =
          absurd (ok_apart found (Spent a.process (at_line x)) (arguments_only_spent a g (at_line x) may.depth values plain more (Ok found) s gives))
      by (inr low) =
          let same : found ≡ values = ok_same found values (arguments_only a g (at_line x) may.depth values plain low (Ok found) s gives).0 in
          record {
            values = values;
            sends = refl;
            paid = low;
            at_it = refl;
            over_it = refl;
            name = refl;
            parcel_is = only_plain_parcel s values plain parcel (subst (λ (vs : List Value). IsParcelOf s vs parcel) same packed);
          }

  pub exchange_sends : (g p : ℕ) (x : Line) (transfer : Transfer) (values : List Value) → transfer ≡ Send values → All IsConstant values
      → length values ≤ a.setting.limits.units
      → Sends a g (leaf (exchange p x transfer)) (at_line x) p x.entry.message (record { values = values; objects = [] })
  exchange_sends g p x transfer values is plain low =
      subst (λ (r : Transfer). Sends a g (leaf (exchange p x r)) (at_line x) p x.entry.message (record { values = values; objects = [] })) (sym is)
      (messages.sends (at_line x) p (named_at x x.entry.message) (arguments (at_line x) values) expression.left_out values a.state (record { values = values; objects = [] })
      (arguments_given a g (at_line x) may.depth values plain low) (plain_parcel a.state values plain))

  pub record Heard (p : ℕ) (x : Line) (transfer : Transfer) (at : Pos) (port : ℕ) (message : List ℕ) (count : ℕ) : Type 0 where
    pub receives : transfer ≡ Receive count
    pub at_it : at ≡ at_line x
    pub over_it : port ≡ p
    pub name : message ≡ x.entry.message

  pub exchange_hears : (p : ℕ) (x : Line) (transfer : Transfer) (at : Pos) (port : ℕ) (message : List ℕ) (count : ℕ)
      → Receives (leaf (exchange p x transfer)) at port message count → Heard p x transfer at port message count
  exchange_hears p x (Send values) at port message count is = elim is [ ]
  exchange_hears p x (Receive count) _ _ _ _ (messages.receives at port name into condition block) =
      record { receives = ap Receive (sym (count_of count (Shared 0))); at_it = refl; over_it = refl; name = refl }

  pub exchange_receives : (p : ℕ) (x : Line) (transfer : Transfer) (count : ℕ) → transfer ≡ Receive count
      → Receives (leaf (exchange p x transfer)) (at_line x) p x.entry.message count
  exchange_receives p x transfer count is =
      subst (λ (r : Transfer). Receives (leaf (exchange p x r)) (at_line x) p x.entry.message count) (sym is)
      (subst (λ (n : ℕ). Receives (leaf (exchange p x (Receive count))) (at_line x) p x.entry.message n) (count_of count (Shared 0))
      (messages.receives (at_line x) p (named_at x x.entry.message) (unless_none (replicate count (Shared 0))) None expression.left_out))

  pub exchange_judged : (g p : ℕ) (x : Line) (transfer : Transfer) (parcel : ParcelView) (verdict : Result Bool Trouble)
      → Judges a g parcel (leaf (exchange p x transfer)) verdict → verdict ≡ Ok true
  exchange_judged g p x (Send values) parcel verdict is = elim is [ ]
  exchange_judged g p x (Receive count) parcel _ (messages.free at port name into block) = refl

  pub exchange_judges : (g p : ℕ) (x : Line) (transfer : Transfer) (count : ℕ) (parcel : ParcelView) → transfer ≡ Receive count
      → Judges a g parcel (leaf (exchange p x transfer)) (Ok true)
  exchange_judges g p x transfer count parcel is =
      subst (λ (r : Transfer). Judges a g parcel (leaf (exchange p x r)) (Ok true)) (sym is)
      (messages.free (at_line x) p (named_at x x.entry.message) (unless_none (replicate count (Shared 0))) expression.left_out)

  pub record Lacks (x : Line) (transfer : Transfer) (trouble : Trouble) : Type 0 where
    pub values : List Value
    pub sends : transfer ≡ Send values
    pub more : a.setting.limits.units < length values
    pub is : trouble ≡ Spent a.process (at_line x)

  err_same : {A : Type 0} (t u : Trouble) → (let r : Result A Trouble = Err t in r ≡ Err u) → t ≡ u
  err_same t u e = cc

  pub exchange_lacks : (g p : ℕ) (x : Line) (transfer : Transfer) (trouble : Trouble) → All IsConstant (values_in transfer)
      → Asks a g (leaf (exchange p x transfer)) trouble → Lacks x transfer trouble
  exchange_lacks g p x (Receive count) trouble plain is = elim is [ ]
  exchange_lacks g p x (Send values) _ plain (asking.arguments at port name args block trouble s gives) =
      by (cases_lt a.setting.limits.units (length values))
    where
      by : (a.setting.limits.units < length values) ⊎ (length values ≤ a.setting.limits.units) → Lacks x (Send values) trouble
      by (inl more) =
          record {
            values = values;
            sends = refl;
            more = more;
            is = err_same trouble (Spent a.process (at_line x)) (arguments_only_spent a g (at_line x) may.depth values plain more (Err trouble) s gives);
          }
      by (inr low) = absurd (ok_apart values trouble (sym (arguments_only a g (at_line x) may.depth values plain low (Err trouble) s gives).0))

  pub exchange_asks : (g p : ℕ) (x : Line) (transfer : Transfer) (values : List Value) → transfer ≡ Send values → All IsConstant values
      → a.setting.limits.units < length values → Asks a g (leaf (exchange p x transfer)) (Spent a.process (at_line x))
  exchange_asks g p x transfer values is plain more =
      subst (λ (r : Transfer). Asks a g (leaf (exchange p x r)) (Spent a.process (at_line x))) (sym is)
      (asking.arguments (at_line x) p (named_at x x.entry.message) (arguments (at_line x) values) expression.left_out (Spent a.process (at_line x)) a.state
      (arguments_spent a g (at_line x) may.depth values plain more))
