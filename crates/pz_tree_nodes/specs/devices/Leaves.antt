-- What is kept of a part that has no others, and of parts where the node over them keeps less.
use Rattle.std.specs.Prelude.{◌==◌, if◌then◌else◌, ℕ, max, Bool, Some}
use Rattle.pz_classes_code.specs.pz_syntax.Statements.{skip, delay, block, conditional, repeated, call, value, send, receive}
use Rattle.pz_rules.specs.pz_offer.Summaries.{nothing}
use Rattle.pz_rules.specs.Terms.{Step}
use Rattle.pz_tree_standing.specs.Woken.{condition_names_clock}
use Rattle.pz_tree_nodes.specs.declared.kept.Kept.{Kept}
use Rattle.pz_tree_nodes.specs.Keeping.{kept_done, kept_asked}

abbrev pub kept_action : Kept
kept_action = record kept_done { summary = record nothing { internal = 1 } }

-- of a receive whose condition names the clock or does not
abbrev pub kept_receive : Bool → Kept
kept_receive clocked = record kept_done { summary = record nothing { receives = 1 }; clocked = clocked }

abbrev pub statement_kept : Step → Kept
statement_kept (skip at) = kept_action
statement_kept (value at e) = kept_action
statement_kept (block at es) = kept_action
statement_kept (conditional at e ts other) = kept_action
statement_kept (repeated at e ts) = kept_action
statement_kept (call at method args results) = kept_action
statement_kept (receive at port name into condition after) = kept_receive (condition_names_clock condition)
statement_kept (delay at e) = kept_asked
statement_kept (send at port name args after) = kept_asked
statement_kept s = kept_done

-- of a delay of which so much is left, and which is over at that moment
abbrev pub delay_kept : ℕ → ℕ → Kept
delay_kept left due = record kept_done {
  summary = record nothing { internal = if left == 0 then 1 else 0; due = Some due };
}

-- of what stands behind a guard that was not asked yet
abbrev pub unasked : Kept → Kept
unasked k = record kept_asked { height = k.height }

-- of two parts, of which the first stands still
abbrev pub second_alone : Kept → Kept → Kept
second_alone k l = record l { height = max k.height l.height }
