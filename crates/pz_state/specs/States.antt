-- The state of a process as plain data, and what is read and written there. A read where nothing is
-- gives nil, and a write there changes nothing.
use Rattle.std.specs.Prelude.{◌≡◌, ◌<◌, ◌-◌, ◌++◌, ℕ, zero, suc, nat_eq, nat_lt, if◌then◌else◌, List, [], ◌∷◌, length, take, replicate, Option, Some, None, IsSome, unwrap_or, slice_get, slice_set}
use Rattle.pz_value.specs.declared.value.ClassId.{ClassId}
use Rattle.pz_value.specs.declared.value.Value.{Value}
use Rattle.pz_value.specs.declared.value.Value.TheVariants as value
use Rattle.pz_state.specs.Objects.{ObjectView}

-- the open frames, in increasing order of their numbers: each number, and the frame's locals
abbrev pub Frames : Type 0
Frames = List (ℕ × List Value)

pub record StateView : Type 0 where
  pub vars : List Value
  pub frames : Frames
  pub objects : List ObjectView

-- the most objects that a state may have
abbrev pub object_limit : ℕ
object_limit = 16777216

abbrev pub nils : ℕ → List Value
nils n = replicate n value.Nil

-- these variables, no frame and no object
abbrev pub initial : List Value → StateView
initial variables = record { vars = variables; frames = []; objects = [] }

-- Reading

abbrev pub value_at : List Value → ℕ → Value
value_at values place = unwrap_or (slice_get values place) value.Nil

abbrev pub variable : StateView → ℕ → Value
variable s slot = value_at s.vars slot

-- the locals of the frame with this number
abbrev pub locals_in : Frames → ℕ → Option (List Value)
locals_in [] number = None
locals_in (f ∷ fs) number = if nat_eq f.0 number then Some f.1 else locals_in fs number

-- no locals where there is no such frame
abbrev pub locals_of : Frames → ℕ → List Value
locals_of frames number = unwrap_or (locals_in frames number) []

abbrev pub locals : StateView → ℕ → List Value
locals s number = locals_of s.frames number

abbrev pub local : StateView → ℕ → ℕ → Value
local s number slot = value_at (locals s number) slot

-- an Array without items stands for an object that is not there
abbrev pub no_object : ObjectView
no_object = record { class = record { 0 = 0 }; items = [] }

abbrev pub object : StateView → ℕ → ObjectView
object s r = unwrap_or (slice_get s.objects r) no_object

abbrev pub item : StateView → ℕ → ℕ → Value
item s r place = value_at (object s r).items place

-- What is there

abbrev pub HasVariable : StateView → ℕ → Type 0
HasVariable s slot = slot < length s.vars

abbrev pub HasFrame : StateView → ℕ → Type 0
HasFrame s number = IsSome (locals_in s.frames number)

abbrev pub HasLocal : StateView → ℕ → ℕ → Type 0
HasLocal s number slot = slot < length (locals s number)

abbrev pub HasObject : StateView → ℕ → Type 0
HasObject s r = r < length s.objects

abbrev pub HasItem : StateView → ℕ → ℕ → Type 0
HasItem s r place = place < length (object s r).items

-- numbers of frames begin at 1: no open frame has this one, and some open frame has each before it
pub record IsLeastFree (frames : Frames) (number : ℕ) : Type 0 where
  pub positive : 0 < number
  pub free : locals_in frames number ≡ None
  pub below : (n : ℕ) → 0 < n → n < number → IsSome (locals_in frames n)

-- Writing

abbrev pub set_variable : StateView → ℕ → Value → StateView
set_variable s slot new = record s { vars = slice_set s.vars slot new }

-- the locals of one frame changed
abbrev pub at_frame : ℕ → (List Value → List Value) → Frames → Frames
at_frame number change [] = []
at_frame number change (f ∷ fs) = if nat_eq f.0 number then (f.0, change f.1) ∷ fs else f ∷ at_frame number change fs

abbrev pub set_local : StateView → ℕ → ℕ → Value → StateView
set_local s number slot new = record s { frames = at_frame number (λ values. slice_set values slot new) s.frames }

-- the items of one object changed
abbrev pub at_object : ℕ → (List Value → List Value) → List ObjectView → List ObjectView
at_object r change [] = []
at_object zero change (o ∷ os) = record { class = o.class; items = change o.items } ∷ os
at_object (suc r) change (o ∷ os) = o ∷ at_object r change os

abbrev pub set_item : StateView → ℕ → ℕ → Value → StateView
set_item s r place new = record s { objects = at_object r (λ values. slice_set values place new) s.objects }

-- this many items: the first of them, and nils where they are too few
abbrev pub fitted : ℕ → List Value → List Value
fitted count values = take count values ++ nils (count - length values)

abbrev pub resized : StateView → ℕ → ℕ → StateView
resized s r count = record s { objects = at_object r (fitted count) s.objects }

-- a frame at its place in the order
abbrev pub with_frame : ℕ → List Value → Frames → Frames
with_frame number values [] = (number, values) ∷ []
with_frame number values (f ∷ fs) = if nat_lt number f.0 then (number, values) ∷ f ∷ fs else f ∷ with_frame number values fs

-- a further frame, whose locals are nil
abbrev pub opened : StateView → ℕ → ℕ → StateView
opened s number count = record s { frames = with_frame number (nils count) s.frames }

abbrev pub without_frame : ℕ → Frames → Frames
without_frame number [] = []
without_frame number (f ∷ fs) = if nat_eq f.0 number then fs else f ∷ without_frame number fs

abbrev pub closed : StateView → ℕ → StateView
closed s number = record s { frames = without_frame number s.frames }

-- a further object, whose items are nil
abbrev pub made : StateView → ClassId → ℕ → StateView
made s class count = record s { objects = s.objects ++ record { class = class; items = nils count } ∷ [] }
