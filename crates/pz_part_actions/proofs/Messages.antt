-- What a send and a receive leave of the part.
use Rattle.std.proofs.Common.{◌≡◌, ◌≤◌, ◌<◌, ◌⊎◌, inl, inr, ℕ, List, [], Option, None, Result, Ok, Err, refl, sym, subst, ap, ◌∙◌}
use Rattle.std.specs.Prelude.{IfOk}
use Rattle.std.proofs.lemmas.Bool.{cases_lt}
use Rattle.std.proofs.lemmas.Result.{IfOk-weaker}
use Rattle.pz_classes_code.specs.pz_syntax.declared.tokens.Pos.{Pos}
use Rattle.pz_classes_code.specs.pz_syntax.declared.names.Id.{Id}
use Rattle.pz_classes_code.specs.pz_syntax.Expressions.{Part}
use Rattle.pz_classes_code.specs.pz_syntax.Statements.{send, receive}
use Rattle.pz_classes_code.specs.pz_value.declared.value.ClassId.{ClassId}
use Rattle.pz_classes_code.specs.pz_value.declared.value.Value.{Value}
use Rattle.pz_classes_code.specs.declared.code.Code as code
use Rattle.pz_classes_code.specs.declared.slot.Slot.{Slot}
use Rattle.pz_classes_code.specs.CodeView.{part_view}
use Rattle.pz_rules.specs.pz_state.States.{StateView}
use Rattle.pz_rules.specs.pz_state.Marks.{Seen, changed}
use Rattle.pz_rules.specs.pz_state.declared.fault.FaultKind.TheVariants.{StoreFull}
use Rattle.pz_rules.specs.pz_state.States.{object_limit}
use Rattle.pz_rules.specs.pz_copy.Parcels.{ParcelView}
use Rattle.pz_rules.specs.pz_copy.Packing.{IsParcelOf}
use Rattle.pz_rules.specs.pz_copy.Unpacking.{unpacked, unpacked_values}
use Rattle.pz_rules.specs.pz_copy.declared.unpacking.UnpackError.{UnpackError}
use Rattle.pz_rules.specs.pz_copy.declared.unpacking.UnpackError.TheVariants as unpacking
use Rattle.pz_rules.specs.pz_offer.declared.trouble.Trouble.{Trouble}
use Rattle.pz_rules.specs.Terms.{Code, Term, leaf}
use Rattle.pz_rules.specs.Settings.{Context, Process, in_state}
use Rattle.pz_eval_binding.specs.Binding.{set_slots}
use Rattle.pz_rules.specs.Meanings.{fault}
use Rattle.pz_rules.specs.Evaluations.{GivesPart}
use Rattle.pz_rules.specs.Messages as messages
use Rattle.pz_rules.specs.Messages.{Sends, Receives, Fits, variables_of, bound, Hands, Takes}
use Rattle.pz_rules.specs.devices.Computed.{PartsAreComputed}
use Rattle.pz_part_actions.specs.Becoming.{done_left}
use Rattle.pz_part_actions.specs.devices.Effects.{ran, Ran, RunsBoth, both, fails}
use Rattle.pz_part_actions.proofs.Performed.{ran_left}

-- Values and troubles differ.

no_trouble : {A : Type 0} (x : A) (u : Trouble) → Ok x ≡ Err u → ⊥
no_trouble x u e = cc

same_values : (xs ys : List Value) → ◌≡◌ {A = Result (List Value) Trouble} (Ok xs) (Ok ys) → xs ≡ ys
same_values xs ys e = cc

same_trouble : {A : Type 0} (u v : Trouble) → ◌≡◌ {A = Result A Trouble} (Err u) (Err v) → u ≡ v
same_trouble u v e = cc

module _ (a : Context) (f : ℕ) (at : Pos) (es : Part Slot ClassId) (s : StateView) where
  abbrev SomeValues : Type 0
  SomeValues = (values : List Value) × GivesPart a f at es (Ok values) s

  pub ran_well : (r : Result (Unit {0}) Trouble) (x : Unit {0}) → Ran a f at es r s → r ≡ Ok x → SomeValues
  ran_well r x run is = by run.found run.gives (sym is ∙ run.means)
    where
      by : (found : Result (List Value) Trouble) → GivesPart a f at es found s → Ok x ≡ ran found → SomeValues
      by (Ok values) gives means = (values, gives)
      by (Err u) gives means = absurd (no_trouble x u means)

  pub ran_badly : (r : Result (Unit {0}) Trouble) (u : Trouble) → Ran a f at es r s → r ≡ Err u → GivesPart a f at es (Err u) s
  ran_badly r u run is = by run.found run.gives (sym is ∙ run.means)
    where
      by : (found : Result (List Value) Trouble) → GivesPart a f at es found s → Err u ≡ ran found → GivesPart a f at es (Err u) s
      by (Ok values) gives means = absurd (no_trouble tt u (sym means))
      by (Err v) gives means = subst (λ (w : Trouble). GivesPart a f at es (Err w) s) (sym (same_trouble u v means)) gives

-- nothing is written
pub none_ran : (a : Context) (f : ℕ) (at : Pos) (part : Option (List code.Code)) → part ≡ None → Ran a f at (part_view part) (Ok tt) a.state
none_ran a f at part none =
    subst (λ (es : Option (List code.Code)). Ran a f at (part_view es) (Ok tt) a.state) (sym none) (record { found = Ok []; gives = (refl, refl); means = refl })

pub run_both : {E : Type 0} (r : Result (Result (Unit {0}) Trouble) E) (a : Context) (f : ℕ) (at : Pos) (es fs : Part Slot ClassId) (s left : StateView) (first : Result (Unit {0}) Trouble) (x : Unit {0})
    → Ran a f at es first s → first ≡ Ok x → IfOk r (λ end. Ran (in_state a s) f at fs end left) → IfOk r (λ end. RunsBoth a f at es fs end left)
run_both r a f at es fs s left first x run is =
    let some = ran_well a f at es s first x run is in
    IfOk-weaker r (λ end. Ran (in_state a s) f at fs end left) (λ end. RunsBoth a f at es fs end left) (λ end h. both some.0 s end left some.1 h)

pub run_one : (a : Context) (f : ℕ) (at : Pos) (es fs : Part Slot ClassId) (s : StateView) (first : Result (Unit {0}) Trouble) (u : Trouble) → Ran a f at es first s → first ≡ Err u → RunsBoth a f at es fs (Err u) s
run_one a f at es fs s first u run is = fails u s (ran_badly a f at es s first u run is)

-- A send

module _ (law : PartsAreComputed) (a : Context) (f : ℕ) (parcel : ParcelView) where
  -- the values are those of the offer
  same_gives : (at : Pos) (args : Part Slot ClassId) (r q : Result (List Value) Trouble) (s t : StateView) → GivesPart a f at args r s → GivesPart a f at args q t → (r ≡ q) × (s ≡ t)
  same_gives at args r q s t x y = let one = law a f at args r s x in let two = law a f at args q t y in (one.0 ∙ sym two.0, one.1 ∙ sym two.1)

  hands_over : (at : Pos) (port : ℕ) (name : Id) (args block : Part Slot ClassId) (values : List Value) (s : StateView) → GivesPart a f at args (Ok values) s → IsParcelOf s values parcel
      → (end : Result (Unit {0}) Trouble) (left : StateView) → RunsBoth a f at args block end left → Hands a f parcel (leaf (send at port name args block)) at (done_left left end)
  hands_over at port name args block values s gives packed _ _ (both found t end left given run) =
      let same = same_gives at args (Ok values) (Ok found) s t gives given in
      subst (λ (q : Result Process Trouble). Hands a f parcel (leaf (send at port name args block)) at q) (ran_left left run.found ∙ ap (done_left left) (sym run.means))
      (messages.hands at port name args block found t run.found left given
      (subst (λ (vs : List Value). IsParcelOf t vs parcel) (same_values values found same.0) (subst (λ (z : StateView). IsParcelOf z values parcel) same.1 packed)) run.gives)
  hands_over at port name args block values s gives packed _ _ (fails u t given) = absurd (no_trouble values u (same_gives at args (Ok values) (Err u) s t gives given).0)

  handed : (at : Pos) (port : ℕ) (name : Id) (args block : Part Slot ClassId) (pos : Pos) (way : ℕ) (message : List ℕ) → Sends a f (leaf (send at port name args block)) pos way message parcel
      → (end : Result (Unit {0}) Trouble) (left : StateView) → RunsBoth a f at args block end left → Hands a f parcel (leaf (send at port name args block)) pos (done_left left end)
  handed at port name args block _ _ _ (messages.sends _ _ _ _ _ values s _ gives packed) end left runs = hands_over at port name args block values s gives packed end left runs

  pub send_handed : {E : Type 0} (r : Result (Result (Unit {0}) Trouble) E) (t : Term) (at : Pos) (port : ℕ) (name : Id) (args block : Part Slot ClassId) (pos : Pos) (way : ℕ) (message : List ℕ) (left : StateView) → t ≡ leaf (send at port name args block)
      → Sends a f t pos way message parcel → IfOk r (λ end. RunsBoth a f at args block end left) → IfOk r (λ end. Hands a f parcel t pos (done_left left end))
  send_handed r t at port name args block pos way message left is offer =
      let sent = subst (λ (x : Term). Sends a f x pos way message parcel) is offer in
      IfOk-weaker r (λ end. RunsBoth a f at args block end left) (λ end. Hands a f parcel t pos (done_left left end)) (λ end runs.
      subst (λ (x : Term). Hands a f parcel x pos (done_left left end)) (sym is) (handed at port name args block pos way message sent end left runs))

-- A receive

module _ (a : Context) (f : ℕ) (parcel : ParcelView) (at : Pos) (port : ℕ) (name : Id) (into : Option (List Slot)) (condition : Option Code) (block : Part Slot ClassId) where
  abbrev Taken : Result Process Trouble → Type 0
  Taken q = Takes a f parcel (leaf (receive at port name into condition block)) at q

  pub parcel_taken : {E : Type 0} (r : Result (Result (Unit {0}) Trouble) E) (s t : Seen) (slots : List Slot) (values : List Value) (left : StateView) → a.state ≡ s.held → Fits a parcel → t ≡ changed s (unpacked s.held parcel) → slots ≡ variables_of into → values ≡ unpacked_values s.held parcel
      → IfOk r (λ end. Ran (in_state a (set_slots f slots values t.held)) f at block end left) → IfOk r (λ end. Taken (done_left left end))
  parcel_taken r s t slots values left here fits unpacked_is slots_are values_are h =
      let state_is : set_slots f slots values t.held ≡ bound a f into parcel =
      ap (λ (xs : List Slot). set_slots f xs values t.held) slots_are ∙ ap (λ (vs : List Value). set_slots f (variables_of into) vs t.held) values_are
      ∙ ap (λ (z : Seen). set_slots f (variables_of into) (unpacked_values s.held parcel) z.held) unpacked_is
      ∙ ap (λ (z : StateView). set_slots f (variables_of into) (unpacked_values z parcel) (unpacked z parcel)) (sym here) in
      IfOk-weaker r (λ end. Ran (in_state a (bound a f into parcel)) f at block end left) (λ end. Taken (done_left left end)) (λ end run.
      subst (λ (q : Result Process Trouble). Taken q) (ran_left left run.found ∙ ap (done_left left) (sym run.means)) (messages.takes at port name into condition block run.found left fits run.gives))
      (subst (λ (z : StateView). IfOk r (λ end. Ran (in_state a z) f at block end left)) state_is h)

  pub parcel_refused : ¬ Fits a parcel → Taken (fault StoreFull a.process at)
  parcel_refused over = messages.full at port name into condition block over

no_error : {T : Type 0} (x : T) (e : UnpackError) → Ok x ≡ Err e → ⊥
no_error x e is = cc

-- whether there is room
pub has_room : {T : Type 0} (r : Result T UnpackError) (x : T) (n : ℕ) → r ≡ Ok x → (object_limit < n → r ≡ Err unpacking.StoreFull) → n ≤ object_limit
has_room r x n is full = by (cases_lt object_limit n)
  where
    by : (object_limit < n) ⊎ (n ≤ object_limit) → n ≤ object_limit
    by (inl more) = absurd (no_error x unpacking.StoreFull (sym is ∙ full more))
    by (inr less) = less

place_of : (at : Pos) (port : ℕ) (name : Id) (into : Option (List Slot)) (condition : Option Code) (block : Part Slot ClassId) (pos : Pos) (way : ℕ) (message : List ℕ) (count : ℕ)
    → Receives (leaf (receive at port name into condition block)) pos way message count → at ≡ pos
place_of at port name into condition block _ _ _ _ (messages.receives _ _ _ _ _ _) = refl

pub receive_taken : {E : Type 0} (r : Result (Result (Unit {0}) Trouble) E) (a : Context) (f : ℕ) (parcel : ParcelView) (t : Term) (at : Pos) (port : ℕ) (name : Id) (into : Option (List Slot)) (condition : Option Code) (block : Part Slot ClassId)
    (pos : Pos) (way : ℕ) (message : List ℕ) (count : ℕ) (left : StateView) → t ≡ leaf (receive at port name into condition block) → Receives t pos way message count
    → IfOk r (λ end. Takes a f parcel (leaf (receive at port name into condition block)) at (done_left left end)) → IfOk r (λ end. Takes a f parcel t pos (done_left left end))
receive_taken r a f parcel t at port name into condition block pos way message count left is awaits h =
    let its_place : at ≡ pos = place_of at port name into condition block pos way message count (subst (λ (x : Term). Receives x pos way message count) is awaits) in
    subst (λ (p : Pos). IfOk r (λ end. Takes a f parcel t p (done_left left end))) its_place (subst (λ (x : Term). IfOk r (λ end. Takes a f parcel x at (done_left left end))) (sym is) h)

pub is_full : {T : Type 0} (r : Result T UnpackError) (e : UnpackError) → r ≡ Err e → e ≡ unpacking.StoreFull → r ≡ Err unpacking.StoreFull
is_full {T} r e is full = is ∙ ap (λ (x : UnpackError). let q : Result T UnpackError = Err x in q) full
