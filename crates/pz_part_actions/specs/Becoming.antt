-- What an acting part has become, in the code's words.
use Rattle.std.specs.Prelude.{◌<◌, ◌≤◌, ◌+◌, ℕ, Result, Ok, Err, IfOk}
use Rattle.pz_classes_code.specs.pz_syntax.declared.tokens.Pos.{Pos}
use Rattle.pz_rules.specs.pz_state.States.{StateView}
use Rattle.pz_rules.specs.pz_offer.declared.trouble.Trouble.{Trouble}
use Rattle.pz_rules.specs.pz_offer.declared.trouble.Trouble.TheVariants.{High}
use Rattle.pz_rules.specs.declared.term.Term.{Term}
use Rattle.pz_rules.specs.Terms as terms
use Rattle.pz_rules.specs.Terms.{height}
use Rattle.pz_rules.specs.Settings.{Context, Process}
use Rattle.pz_rules.specs.InternalActions.{done_in, Performs}
use Rattle.pz_rules.specs.View.{term_view}
use Rattle.pz_part_queries.specs.declared.standpoint.Standpoint.{Standpoint}

-- this term is left, in this state
abbrev pub process_left : StateView → Result Term Trouble → Result Process Trouble
process_left s (Ok t) = Ok (record { term = term_view t; state = s })
process_left s (Err trouble) = Err trouble

-- nothing is left, in this state
abbrev pub done_left : StateView → Result (Unit {0}) Trouble → Result Process Trouble
done_left s (Ok x) = Ok (done_in s)
done_left s (Err trouble) = Err trouble

-- What is answered where this has become of a part: that, or at once that the term is too high, where the
-- part alone is higher than the whole term may be. Such a part is never built.
pub data Becomes (a : Context) (at : Pos) : Result Process Trouble → Result Process Trouble → Type 0 where
  is : (r : Result Process Trouble) → Becomes a at r r
  high : (p : Process) → a.setting.limits.height < height p.term → Becomes a at (Ok p) (Err (High a.process at))

-- by itself, in frame f, at this place of the text, the part becomes what is answered so
pub record HasPerformed (a : Context) (f : ℕ) (part : terms.Term) (at : Pos) (answer : Result Process Trouble) : Type 0 where
  pub left : Result Process Trouble
  pub performs : Performs a f part at left
  pub becomes : Becomes a at left answer

-- what is built is higher by no more than one than the whole term may be
abbrev pub IsBuiltLow : Standpoint → Result Term Trouble → Type 0
IsBuiltLow here answer = IfOk answer (λ t. height (term_view t) ≤ here.limits.height + 1)
