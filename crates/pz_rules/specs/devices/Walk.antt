-- The active parts of a term, listed by place in one walk, and what each of them can do.
use Rattle.std.specs.Prelude.{ℕ, zero, suc, Bool, true, false, List, [], ◌∷◌, ◌++◌, map, Option, Some, None, length, Result, Ok, Err}
use Rattle.std.specs.List.{filter_map}
use Rattle.pz_bind_rules.specs.pz_syntax.declared.tokens.Pos.{Pos}
use Rattle.pz_bind_rules.specs.pz_syntax.Statements.{skip, delay, block, conditional, repeated, call, value, send, receive}
use Rattle.pz_bind_rules.specs.pz_value.declared.value.Value.{Value}
use Rattle.pz_offer.specs.pz_state.States.{StateView}
use Rattle.pz_offer.specs.PlaceOrder.{Place}
use Rattle.pz_offer.specs.declared.trouble.Trouble.{Trouble}
use Rattle.pz_rules.specs.declared.action.Kind.{Kind}
use Rattle.pz_rules.specs.declared.action.Kind.TheVariants.{Skip, Eval, Test, Expire, Call}
use Rattle.pz_rules.specs.Terms.{Step, Term, done, leaf, wait, sequence, parallel, select, guarded, frame, abort, idle, handling, Terms, no_terms, and}
use Rattle.pz_rules.specs.Settings.{Context}
use Rattle.pz_rules.specs.Messages.{variables_of}
use Rattle.pz_rules.specs.devices.Found.{tested, lasting, found_part, left_part}

-- a part, the place where it stands, and the frame in which it stands
pub record ActivePart : Type 0 where
  pub place : Place
  pub frame : ℕ
  pub part : Term

abbrev pub here : ℕ → Term → ActivePart
here f t = record { place = []; frame = f; part = t }

-- seen from the term of which it is in this child
abbrev pub under : ℕ → ActivePart → ActivePart
under i p = record { place = i ∷ p.place; frame = p.frame; part = p.part }

-- what stands behind a guard of which the test came to this
abbrev pub behind : Result Bool Trouble → List ActivePart → List ActivePart
behind (Ok true) ps = ps
behind (Ok false) ps = []
behind (Err t) ps = []

abbrev mutual
  pub active_parts : Context → ℕ → Term → List ActivePart
  active_parts a f done = here f done ∷ []
  active_parts a f (leaf s) = here f (leaf s) ∷ []
  active_parts a f (wait left at) = here f (wait left at) ∷ []
  active_parts a f (sequence t rest) = here f (sequence t rest) ∷ map (under 0) (active_parts a f t)
  active_parts a f (parallel ts) = here f (parallel ts) ∷ active_children a f 0 ts
  active_parts a f (select ts) = here f (select ts) ∷ active_children a f 0 ts
  active_parts a f (guarded test at t) = here f (guarded test at t) ∷ behind (tested a f at test) (map (under 0) (active_parts a f t))
  active_parts a f (frame number inputs results t) = here f (frame number inputs results t) ∷ map (under 0) (active_parts a number t)
  active_parts a f (abort t u) = here f (abort t u) ∷ (map (under 0) (active_parts a f t) ++ map (under 1) (active_parts a f u))
  active_parts a f (idle t u again) = here f (idle t u again) ∷ (map (under 0) (active_parts a f t) ++ map (under 1) (active_parts a f u))
  active_parts a f (handling t u again) = here f (handling t u again) ∷ map (under 1) (active_parts a f u)

  -- of children, of which the first has number k
  pub active_children : Context → ℕ → ℕ → Terms → List ActivePart
  active_children a f k no_terms = []
  active_children a f k (and t ts) = map (under k) (active_parts a f t) ++ active_children a f (suc k) ts

-- what a part can do by itself

pub record Doing : Type 0 where
  pub kind : Kind
  pub pos : Pos

abbrev pub doing : Kind → Pos → Option Doing
doing kind at = Some (record { kind = kind; pos = at })

abbrev pub expiry : Pos → Result ℕ Trouble → Option Doing
expiry at (Ok zero) = doing Expire at
expiry at (Ok (suc n)) = None
expiry at (Err t) = None

abbrev pub statement_does : Context → ℕ → Step → Option Doing
statement_does a f (skip at) = doing Skip at
statement_does a f (value at e) = doing Eval at
statement_does a f (block at es) = doing Eval at
statement_does a f (conditional at e ts other) = doing Test at
statement_does a f (repeated at e ts) = doing Test at
statement_does a f (delay at e) = expiry at (lasting a f at e)
statement_does a f (call at method args results) = doing Call at
statement_does a f s = None

abbrev pub does : Context → ℕ → Term → Option Doing
does a f (leaf s) = statement_does a f s
does a f (wait left at) = expiry at (Ok left)
does a f t = None

-- what a part sends: the values of its arguments, and the state in which they have them
pub record ActiveSend : Type 0 where
  pub pos : Pos
  pub port : ℕ
  pub message : List ℕ
  pub values : List Value
  pub state : StateView

abbrev pub sending : Pos → ℕ → List ℕ → StateView → Result (List Value) Trouble → Option ActiveSend
sending at port message s (Ok vs) = Some (record { pos = at; port = port; message = message; values = vs; state = s })
sending at port message s (Err t) = None

abbrev pub statement_sends : Context → ℕ → Step → Option ActiveSend
statement_sends a f (send at port name args after) = sending at port name.name (left_part a f args) (found_part a f at args)
statement_sends a f s = None

abbrev pub sent_by : Context → ℕ → Term → Option ActiveSend
sent_by a f (leaf s) = statement_sends a f s
sent_by a f t = None

-- what a part receives
pub record ActiveReceive : Type 0 where
  pub pos : Pos
  pub port : ℕ
  pub message : List ℕ
  pub count : ℕ

abbrev pub statement_receives : Step → Option ActiveReceive
statement_receives (receive at port name into condition after) = Some (record { pos = at; port = port; message = name.name; count = length (variables_of into) })
statement_receives s = None

abbrev pub received_by : Term → Option ActiveReceive
received_by (leaf s) = statement_receives s
received_by t = None

-- what is left of a delay
abbrev pub answered : {A : Type 0} → Result A Trouble → Option A
answered (Ok x) = Some x
answered (Err t) = None

abbrev pub statement_waits : Context → ℕ → Step → Option ℕ
statement_waits a f (delay at e) = answered (lasting a f at e)
statement_waits a f s = None

abbrev pub waiting : Context → ℕ → Term → Option ℕ
waiting a f (leaf s) = statement_waits a f s
waiting a f (wait left at) = Some left
waiting a f t = None

-- the trouble of what a part is asked
abbrev pub trouble_of : {A : Type 0} → Result A Trouble → Option Trouble
trouble_of (Ok x) = None
trouble_of (Err t) = Some t

abbrev pub statement_troubles : Context → ℕ → Step → Option Trouble
statement_troubles a f (delay at e) = trouble_of (lasting a f at e)
statement_troubles a f (send at port name args after) = trouble_of (found_part a f at args)
statement_troubles a f s = None

abbrev pub troubled_by : Context → ℕ → Term → Option Trouble
troubled_by a f (leaf s) = statement_troubles a f s
troubled_by a f (guarded test at t) = trouble_of (tested a f at test)
troubled_by a f t = None

-- what is found at a place
pub record Noted (X : Type 0) : Type 0 where
  pub place : Place
  pub what : X

abbrev pub noted_at : {X : Type 0} → Place → Option X → Option (Noted X)
noted_at place None = None
noted_at place (Some x) = Some (record { place = place; what = x })

abbrev pub noted : {X : Type 0} → (ℕ → Term → Option X) → List ActivePart → List (Noted X)
noted h ps = filter_map (λ p. noted_at p.place (h p.frame p.part)) ps

-- of a whole term, by place: the internal actions, the sends, the receives, what is left of the active
-- delays, and the troubles
abbrev pub internal_actions : Context → Term → List (Noted Doing)
internal_actions a t = noted (does a) (active_parts a 0 t)

abbrev pub active_sends : Context → Term → List (Noted ActiveSend)
active_sends a t = noted (sent_by a) (active_parts a 0 t)

abbrev pub active_receives : Context → Term → List (Noted ActiveReceive)
active_receives a t = noted (λ f. received_by) (active_parts a 0 t)

abbrev pub active_delays : Context → Term → List (Noted ℕ)
active_delays a t = noted (waiting a) (active_parts a 0 t)

abbrev pub active_troubles : Context → Term → List (Noted Trouble)
active_troubles a t = noted (troubled_by a) (active_parts a 0 t)
