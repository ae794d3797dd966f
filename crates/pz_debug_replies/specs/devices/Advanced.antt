-- One step that a session takes by itself, and how far it has come.
use Rattle.std.specs.Prelude.{◌≡◌, ◌-◌, ℕ, suc, List, ◌++◌, Option, Some, None, Result, Ok, Err, OnOk}
use Rattle.std.specs.Result.{result_err}
use Rattle.pz_io.specs.Outside.{SinkState}
use Rattle.pz_io.specs.declared.writing.Halt.{Halt}
use Rattle.pz_io.specs.Writing.{Wrote}
use Rattle.pz_term_simulator.specs.Simulations.{Simulation, setting_in}
use Rattle.pz_debug_session.specs.declared.step.Step.{Step}
use Rattle.pz_debug_replies.specs.declared.advancing.Wanted.{Wanted}
use Rattle.pz_debug_replies.specs.declared.advancing.Wanted.TheVariants as wanted
use Rattle.pz_debug_replies.specs.declared.advancing.Going.{Going}
use Rattle.pz_debug_replies.specs.declared.advancing.Going.TheVariants as going
use Rattle.pz_debug_replies.specs.Advancing.{Advances}
use Rattle.pz_debug_replies.specs.Replying.{IsAt}

abbrev pub message_of : Wanted → Option (List ℕ)
message_of wanted.Nothing = None
message_of (wanted.Message message) = Some message.now

module _ (message : Option (List ℕ)) (xs : List Step) (s : Simulation) (ys : List Step) (t : Simulation) (before now : SinkState) where
  -- a step was taken, and its line was written
  pub record GoesOn : Type 0 where
    pub piece : List ℕ
    pub wrote : Wrote before now piece None
    pub onward : (n : ℕ) (text : List ℕ) (zs : List Step) → Advances (setting_in s) message n ys text zs → Advances (setting_in s) message (suc n) xs (piece ++ text) zs
    pub is_at : IsAt ys t
    pub setting : setting_in t ≡ setting_in s

  -- no further step is to be taken
  pub record Ends : Type 0 where
    pub piece : List ℕ
    pub wrote : Wrote before now piece None
    pub ends : (n : ℕ) → Advances (setting_in s) message (suc n) xs piece ys
    pub is_at : IsAt ys t
    pub setting : setting_in t ≡ setting_in s

  -- something halted in the text, however many steps it is of
  pub record Halts (halt : Halt) : Type 0 where
    pub setting : setting_in t ≡ setting_in s
    pub halts : (n : ℕ) → (text : List ℕ) × (zs : List Step) × Advances (setting_in s) message (suc n) xs text zs × Wrote before now text (Some halt)

  abbrev pub WentOn : Result Going Halt → Type 0
  WentOn (Ok going.Further) = GoesOn
  WentOn (Ok going.Ended) = Ends
  WentOn (Err halt) = Halts halt

  -- so many steps of so many are taken
  pub record OnTheWay (most taken : ℕ) : Type 0 where
    pub written : List ℕ
    pub wrote : Wrote before now written None
    pub onward : (text : List ℕ) (zs : List Step) → Advances (setting_in s) message (most - taken) ys text zs → Advances (setting_in s) message most xs (written ++ text) zs
    pub is_at : IsAt ys t
    pub setting : setting_in t ≡ setting_in s

  -- all were taken, as far as they can be
  pub record Advanced {A : Type 0} (most : ℕ) (result : Result A Halt) : Type 0 where
    pub text : List ℕ
    pub left : List Step
    pub advances : Advances (setting_in s) message most xs text left
    pub wrote : Wrote before now text (result_err result)
    pub steps : OnOk result (ys ≡ left)
    pub is_at : OnOk result (IsAt ys t)
    pub setting : setting_in t ≡ setting_in s
