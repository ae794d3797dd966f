-- In a model whose bodies fit, no data method names the clock.
use Rattle.std.proofs.Common.{◌≡◌, ℕ, Bool, true, false, ◌||◌, List, length, Option, Some, None, refl, ap, sym, ◌∙◌}
use Rattle.std.specs.Option.{option_and_then}
use Rattle.pz_classes_rules.specs.pz_syntax.declared.names.Id.{Id}
use Rattle.pz_classes_rules.specs.pz_syntax.Expressions.{Expression, Expressions, Part, Links, Sendings, literal, variable, me, clock, creation, group, chain, sends, unary, assign, returned, choice, loop, none, more, left_out, written, no_links, link, no_sendings, sending}
use Rattle.pz_classes_rules.specs.pz_syntax.Classes.{ModelTree}
use Rattle.pz_state.specs.pz_value.declared.value.ClassId.{ClassId}
use Rattle.pz_state.specs.pz_value.declared.value.Value.{Value}
use Rattle.pz_state.specs.pz_value.declared.value.Value.TheVariants as value
use Rattle.pz_classes_rules.specs.pz_classes_code.declared.slot.Slot.{Slot}
use Rattle.pz_prims.specs.declared.answer.Prim.{Prim}
use Rattle.pz_prims.specs.declared.answer.Prim.TheVariants as prim
use Rattle.pz_state.specs.States.{object}
use Rattle.pz_classes_rules.specs.Bodies.{BodyTree, data_body, process_body}
use Rattle.pz_classes_rules.specs.declared.method_id.Counts.TheVariants.{Data}
use Rattle.pz_classes_rules.specs.MethodBodies.{method_body}
use Rattle.pz_classes_rules.specs.FitBodies.{data_code, process_code, ExpressionFits, ExpressionsFit, PartFits, LinksFit, SendingsFit, BodyFits}
use Rattle.pz_classes_rules.specs.SoundBodies.{BodiesFit}
use Rattle.pz_eval_rules.specs.Memories.{Memory}
use Rattle.pz_eval_rules.specs.Steps.{Codes, Reply, answers, runs, reply, reply_by, class_reply, method_reply, data_method, data_part}
use Rattle.pz_eval_rules.specs.Clocks.{names_clock, list_names_clock, part_names_clock, links_name_clock, sendings_name_clock, DataIsTimeless}
use Rattle.pz_eval_rules.proofs.Timeless.{RepliesAreTimeless}

none_of : (a b : Bool) → a ≡ false → b ≡ false → a || b ≡ false
none_of false b e f = f
none_of true b e f = absurd cc

not_process : data_code ≡ process_code → ⊥
not_process e = absurd cc

module _ (m : ModelTree) (c locals : ℕ) where
  mutual
    fits_timeless : (t : Expression Slot ClassId) → ExpressionFits m c data_code locals t → names_clock t ≡ false
    fits_timeless (literal at x) h = refl
    fits_timeless (variable at x) h = refl
    fits_timeless (me at) h = refl
    fits_timeless (clock at) h = absurd (not_process h)
    fits_timeless (creation at class) h = refl
    fits_timeless (group at ts) h = list_fits ts h
    fits_timeless (chain at t ls) h = none_of _ _ (fits_timeless t h.0) (links_fit ls h.1)
    fits_timeless (sends at t ss) h = none_of _ _ (fits_timeless t h.0) (sendings_fit ss h.1)
    fits_timeless (unary at op t) h = fits_timeless t h
    fits_timeless (assign at x t) h = fits_timeless t h.1
    fits_timeless (returned at t) h = fits_timeless t h.1
    fits_timeless (choice at t ts other) h = none_of _ _ (fits_timeless t h.0) (none_of _ _ (list_fits ts h.1) (part_fits other h.2))
    fits_timeless (loop at t ts) h = none_of _ _ (fits_timeless t h.0) (list_fits ts h.1)

    list_fits : (ts : Expressions Slot ClassId) → ExpressionsFit m c data_code locals ts → list_names_clock ts ≡ false
    list_fits none h = refl
    list_fits (more t ts) h = none_of _ _ (fits_timeless t h.0) (list_fits ts h.1)

    part_fits : (es : Part Slot ClassId) → PartFits m c data_code locals es → part_names_clock es ≡ false
    part_fits left_out h = refl
    part_fits (written ts) h = list_fits ts h

    links_fit : (ls : Links Slot ClassId) → LinksFit m c data_code locals ls → links_name_clock ls ≡ false
    links_fit no_links h = refl
    links_fit (link op at t ls) h = none_of _ _ (fits_timeless t h.0) (links_fit ls h.1)

    sendings_fit : (ss : Sendings Slot ClassId) → SendingsFit m c data_code locals ss → sendings_name_clock ss ≡ false
    sendings_fit no_sendings h = refl
    sendings_fit (sending selector args ss) h = none_of _ _ (part_fits args h.0) (sendings_fit ss h.1)

abbrev second : Option (ℕ × Codes) → Codes
second None = none
second (Some p) = p.1

module _ (model : ModelTree) (bodies : BodiesFit model) where
  body_timeless : (class : ClassId) (name : List ℕ) (count : ℕ) (b : Option BodyTree) → method_body model class.0 name count ≡ b
      → (locals : ℕ) (body : Codes) → option_and_then data_part b ≡ Some (locals, body) → list_names_clock body ≡ false
  body_timeless class name count None e locals body f = absurd cc
  body_timeless class name count (Some (data_body own code)) e locals body f =
      let h = bodies.methods_fit class.0 (record { name = name; counts = Data count }) (data_body own code) e in
      ap list_names_clock (sym (ap second f)) ∙ list_fits model class.0 own code h.1
  body_timeless class name count (Some (process_body own stmts)) e locals body f = absurd cc

  -- as in each sound model
  pub data_is_timeless : DataIsTimeless model
  data_is_timeless class name count locals body e = body_timeless class name count (method_body model class.0 name count) refl locals body e

-- A receiver runs no other bodies.
module _ (model : ModelTree) (methods : DataIsTimeless model) where
  abbrev body_in : Reply → Codes
  body_in (answers a) = none
  body_in (runs o count ts) = ts

  runs_timeless : (r : ℕ) (selector : Id) (found : Option (ℕ × Codes)) → ((count : ℕ) (body : Codes) → found ≡ Some (count, body) → list_names_clock body ≡ false)
      → (o count : ℕ) (body : Codes) → method_reply r selector.pos found ≡ runs o count body → list_names_clock body ≡ false
  runs_timeless r selector None h o count body e = absurd cc
  runs_timeless r selector (Some p) h o count body e = ap list_names_clock (sym (ap body_in e)) ∙ h p.0 p.1 refl

  class_timeless : (m : Memory) (y : Value) (selector : Id) (n o count : ℕ) (body : Codes) → class_reply model m y selector n ≡ runs o count body → list_names_clock body ≡ false
  class_timeless m (value.Ref r) selector n o count body e =
      runs_timeless r selector (data_method model (object m.state r).class selector.name n) (λ k ts f. methods (object m.state r).class selector.name n k ts f) o count body e
  class_timeless m value.Nil selector n o count body e = absurd cc
  class_timeless m (value.Bool b) selector n o count body e = absurd cc
  class_timeless m (value.Int i) selector n o count body e = absurd cc
  class_timeless m (value.Char x) selector n o count body e = absurd cc
  class_timeless m (value.Str x) selector n o count body e = absurd cc

  by_timeless : (m m1 : Memory) (y : Value) (selector : Id) (n : ℕ) (p : Prim) (o count : ℕ) (body : Codes) → reply_by model m y selector n m1 p ≡ runs o count body → list_names_clock body ≡ false
  by_timeless m m1 y selector n prim.Other o count body e = class_timeless m y selector n o count body e
  by_timeless m m1 y selector n (prim.Value z) o count body e = absurd cc
  by_timeless m m1 y selector n (prim.Fault kind) o count body e = absurd cc

  pub replies_are_timeless : RepliesAreTimeless model
  replies_are_timeless y selector ws m o count body e = by_timeless m _ y selector (length ws) _ o count body e
