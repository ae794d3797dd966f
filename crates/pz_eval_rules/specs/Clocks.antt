-- Which expressions name the clock.
use Rattle.std.specs.Prelude.{◌≡◌, ℕ, Bool, true, false, ◌||◌, List, Some}
use Rattle.pz_classes_rules.specs.pz_syntax.Expressions.{Expression, Expressions, Part, Links, Sendings, literal, variable, me, clock, creation, group, chain, sends, unary, assign, returned, choice, loop, none, more, left_out, written, no_links, link, no_sendings, sending}
use Rattle.pz_classes_rules.specs.pz_syntax.Classes.{ModelTree}
use Rattle.pz_state.specs.pz_value.declared.value.ClassId.{ClassId}
use Rattle.pz_classes_rules.specs.pz_classes_code.declared.slot.Slot.{Slot}
use Rattle.pz_eval_rules.specs.Steps.{Codes, data_method}

abbrev mutual
  -- `currentTime` is written somewhere in it
  pub names_clock : Expression Slot ClassId → Bool
  names_clock (literal at x) = false
  names_clock (variable at x) = false
  names_clock (me at) = false
  names_clock (clock at) = true
  names_clock (creation at class) = false
  names_clock (group at ts) = list_names_clock ts
  names_clock (chain at t ls) = names_clock t || links_name_clock ls
  names_clock (sends at t ss) = names_clock t || sendings_name_clock ss
  names_clock (unary at op t) = names_clock t
  names_clock (assign at x t) = names_clock t
  names_clock (returned at t) = names_clock t
  names_clock (choice at t ts other) = names_clock t || (list_names_clock ts || part_names_clock other)
  names_clock (loop at t ts) = names_clock t || list_names_clock ts

  pub list_names_clock : Expressions Slot ClassId → Bool
  list_names_clock none = false
  list_names_clock (more t ts) = names_clock t || list_names_clock ts

  pub part_names_clock : Part Slot ClassId → Bool
  part_names_clock left_out = false
  part_names_clock (written ts) = list_names_clock ts

  pub links_name_clock : Links Slot ClassId → Bool
  links_name_clock no_links = false
  links_name_clock (link op at t ls) = names_clock t || links_name_clock ls

  pub sendings_name_clock : Sendings Slot ClassId → Bool
  sendings_name_clock no_sendings = false
  sendings_name_clock (sending selector args ss) = part_names_clock args || sendings_name_clock ss

-- no data method of the model names the clock
abbrev pub DataIsTimeless : ModelTree → Type 0
DataIsTimeless model = (class : ClassId) (name : List ℕ) (count locals : ℕ) (body : Codes)
    → data_method model class name count ≡ Some (locals, body) → list_names_clock body ≡ false
