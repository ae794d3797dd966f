-- The steps of evaluation that evaluate nothing further.
use Rattle.std.specs.Prelude.{ℕ, ◌^◌, nat_lt, pos, Bool, true, false, if◌then◌else◌, List, [], ◌∷◌, length, Option, Some, None, codes}
use Rattle.std.specs.Option.{option_and_then}
use Rattle.pz_classes_rules.specs.pz_syntax.declared.tokens.Pos.{Pos}
use Rattle.pz_classes_rules.specs.pz_syntax.declared.tokens.Symbol.{Symbol}
use Rattle.pz_classes_rules.specs.pz_syntax.declared.tokens.Symbol.TheVariants.{Plus, Minus, Star, Slash, Equal, Same, Unequal, Distinct, Less, LessEqual, Greater, GreaterEqual, Ampersand, Bar, Bang}
use Rattle.pz_classes_rules.specs.pz_syntax.declared.names.Id.{Id}
use Rattle.pz_classes_rules.specs.pz_syntax.Expressions.{Expressions, none, Part, left_out, written}
use Rattle.pz_classes_rules.specs.pz_syntax.Classes.{ModelTree}
use Rattle.pz_state.specs.pz_value.declared.value.ClassId.{ClassId}
use Rattle.pz_state.specs.pz_value.declared.value.Value.{Value}
use Rattle.pz_state.specs.pz_value.declared.value.Value.TheVariants.{Nil, Bool as Boolean, Int, Char, Str, Ref}
use Rattle.pz_classes_rules.specs.pz_classes_code.declared.slot.Slot.{Slot}
use Rattle.pz_state.specs.declared.fault.FaultKind.TheVariants.{NotUnderstood, StoreFull, ClockTooLarge}
use Rattle.pz_state.specs.States.{object_limit}
use Rattle.pz_state.specs.States.{object, made}
use Rattle.pz_prims.specs.declared.answer.Prim.{Prim}
use Rattle.pz_prims.specs.Table.{Outcome, outcome}
use Rattle.pz_classes_rules.specs.Members.{fields}
use Rattle.pz_classes_rules.specs.Bodies.{BodyTree, data_body, process_body}
use Rattle.pz_classes_rules.specs.MethodBodies.{method_body}
use Rattle.pz_eval_rules.specs.Memories.{Memory, with_state}
use Rattle.pz_eval_rules.specs.Answers.{Answer, gives, stops, fault}

-- Code is expressions whose variables are slots and whose classes are numbers.
abbrev pub Codes : Type 0
Codes = Expressions Slot ClassId

-- the clock, as long as an Integer holds it
abbrev pub time : ℕ → Pos → Memory → Answer Value
time now at m = if nat_lt now (2 ^ 63) then gives (Int (pos now)) m else stops (fault ClockTooLarge at)

-- a new object of the class, whose fields are nil; an Array has no items
abbrev pub created : ModelTree → ClassId → Pos → Memory → Answer Value
created model class at m =
    if nat_lt (length m.state.objects) object_limit
    then gives (Ref (length m.state.objects)) (with_state m (made m.state class (length (fields model class.0))))
    else stops (fault StoreFull at)

-- what a test says; nothing where it is no Boolean
abbrev pub truth : Value → Option Bool
truth (Boolean b) = Some b
truth y = None

-- the part of an `if` that is evaluated
abbrev pub chosen : Bool → Codes → Part Slot ClassId → Codes
chosen true body other = body
chosen false body left_out = none
chosen false body (written other) = other

-- Operators

-- an operator as a selector
abbrev pub spelling : Symbol → List ℕ
spelling Plus = codes "+"
spelling Minus = codes "-"
spelling Star = codes "*"
spelling Slash = codes "/"
spelling Equal = codes "="
spelling Same = codes "=="
spelling Unequal = codes "!="
spelling Distinct = codes "!=="
spelling Less = codes "<"
spelling LessEqual = codes "<="
spelling Greater = codes ">"
spelling GreaterEqual = codes ">="
spelling Ampersand = codes "&"
spelling Bar = codes "|"
spelling Bang = codes "!"
spelling _ = []

-- What an answer of the table of primitive values is at this place. No class declares an operator.
abbrev pub told : Pos → Memory → Prim → Answer Value
told at m (Prim.Value y) = gives y m
told at m (Prim.Fault kind) = stops (fault kind at)
told at m Prim.Other = stops (fault NotUnderstood at)

abbrev pub told_outcome : Pos → Memory → Outcome → Answer Value
told_outcome at m o = told at (with_state m o.state) o.answer

-- an operator between two values
abbrev pub applied : Symbol → Pos → Value → Value → Memory → Answer Value
applied op at y w m = told_outcome at m (outcome m.state y (spelling op) (w ∷ []))

-- an operator before a value
abbrev pub applied_alone : Symbol → Pos → Value → Memory → Answer Value
applied_alone op at y m = told_outcome at m (outcome m.state y (spelling op) [])

-- Selectors

-- What the receiver does: it answers, or runs the body of a method of the object with this number,
-- which has so many locals.
pub data Reply : Type 0 where
  answers : Answer Value → Reply
  runs : ℕ → ℕ → Codes → Reply

-- how many locals and what code the body of a data method has
abbrev pub data_part : BodyTree → Option (ℕ × Codes)
data_part (data_body locals body) = Some (locals, body)
data_part (process_body locals body) = None

-- The same of the method of a class for a selector with so many arguments: that of the nearest of the
-- class and its ancestors which has one.
abbrev pub data_method : ModelTree → ClassId → List ℕ → ℕ → Option (ℕ × Codes)
data_method model class name count = option_and_then data_part (method_body model class.0 name count)

abbrev pub method_reply : ℕ → Pos → Option (ℕ × Codes) → Reply
method_reply r at None = answers (stops (fault NotUnderstood at))
method_reply r at (Some body) = runs r body.0 body.1

-- a method of the receiver's class, where no primitive row has the selector
abbrev pub class_reply : ModelTree → Memory → Value → Id → ℕ → Reply
class_reply model m (Ref r) selector count = method_reply r selector.pos (data_method model (object m.state r).class selector.name count)
class_reply model m y selector count = answers (stops (fault NotUnderstood selector.pos))

abbrev pub reply_by : ModelTree → Memory → Value → Id → ℕ → Memory → Prim → Reply
reply_by model m y selector count m1 Prim.Other = class_reply model m y selector count
reply_by model m y selector count m1 (Prim.Value z) = answers (told selector.pos m1 (Prim.Value z))
reply_by model m y selector count m1 (Prim.Fault kind) = answers (told selector.pos m1 (Prim.Fault kind))

abbrev pub reply_to : ModelTree → Memory → Value → Id → ℕ → Outcome → Reply
reply_to model m y selector count o = reply_by model m y selector count (with_state m o.state) o.answer

-- The rows of primitive values come first: a method that is named as a row of every value is not used
-- in its place.
abbrev pub reply : ModelTree → Value → Id → List Value → Memory → Reply
reply model y selector arguments m = reply_to model m y selector (length arguments) (outcome m.state y selector.name arguments)
