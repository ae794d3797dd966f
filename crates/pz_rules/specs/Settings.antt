-- What a run stands on, and a process at a moment of it.
use Rattle.std.specs.Prelude.{ℕ}
use Rattle.pz_bind_rules.specs.pz_syntax.Classes.{ModelTree}
use Rattle.pz_offer.specs.pz_state.States.{StateView}
use Rattle.pz_rules.specs.declared.limits.Edition.{Edition}
use Rattle.pz_rules.specs.declared.limits.Limits.{Limits}
use Rattle.pz_rules.specs.Terms.{Term}

-- a sound model, and what an evaluation and a term may take
pub record Setting : Type 0 where
  pub model : ModelTree
  pub limits : Limits

-- what is left of a process, and its state
pub record Process : Type 0 where
  pub term : Term
  pub state : StateView

abbrev pub left_by : StateView → Term → Process
left_by s t = record { term = t; state = s }

-- where statements open: a process class of a model, and the edition of the rules
pub record Home : Type 0 where
  pub model : ModelTree
  pub edition : Edition
  pub class : ℕ

-- A process as its statements see it: its number, the number of its class, the clock and its state.
pub record Context : Type 0 where
  pub setting : Setting
  pub process : ℕ
  pub class : ℕ
  pub clock : ℕ
  pub state : StateView

-- the process in another state
abbrev pub in_state : Context → StateView → Context
in_state a s = record a { state = s }

abbrev pub home_of : Context → Home
home_of a = record { model = a.setting.model; edition = a.setting.limits.edition; class = a.class }
