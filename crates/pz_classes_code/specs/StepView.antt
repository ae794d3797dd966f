-- The plain data that the steps of a body stand for.
use Rattle.std.specs.Prelude.{ℕ, List, [], ◌∷◌, map, Option, Some, None, option_map}
use Rattle.pz_syntax.specs.declared.tokens.Pos.{Pos}
use Rattle.pz_syntax.specs.Statements.{Statement, skip, delay, bracketed, block, guarded, parallel, select, conditional, repeated, abort, interrupt, send, receive, call, value, Statements, no_statements, then, StatementPart, not_written, otherwise, Branches, no_branches, branch}
use Rattle.pz_value.specs.declared.value.ClassId.{ClassId}
use Rattle.pz_classes_code.specs.declared.slot.Slot.{Slot}
use Rattle.pz_classes_code.specs.declared.step.StepForm.{StepForm, fold-StepForm}
use Rattle.pz_classes_code.specs.declared.step.StepForm.TheOpen.{StepForm-F, Step-F}
use Rattle.pz_classes_code.specs.declared.step.Step.{Step, fold-Step}
use Rattle.pz_classes_code.specs.CodeView.{list_view, part_view}
use Rattle.pz_classes_code.specs.CodeView as code

-- a statement whose variables are slots and whose classes and ports are numbers
abbrev pub Tree : Type 0
Tree = Statement Slot ClassId ℕ

abbrev pub sequence_of : List Tree → Statements Slot ClassId ℕ
sequence_of [] = no_statements
sequence_of (t ∷ ts) = then t (sequence_of ts)

abbrev pub otherwise_of : Option (List Tree) → StatementPart Slot ClassId ℕ
otherwise_of None = not_written
otherwise_of (Some ts) = otherwise (sequence_of ts)

abbrev pub branches_of : List (List Tree) → Branches Slot ClassId ℕ
branches_of [] = no_branches
branches_of (b ∷ bs) = branch (sequence_of b) (branches_of bs)

-- a form stands for a statement once its place is known
abbrev pub form_step : StepForm-F (Pos → Tree) Tree → Pos → Tree
form_step StepForm-F.Skip pos = skip pos
form_step (StepForm-F.Delay e) pos = delay pos (code.view e)
form_step (StepForm-F.Group ts) pos = bracketed pos (sequence_of ts)
form_step (StepForm-F.Block es) pos = block pos (list_view es)
form_step (StepForm-F.Guard e t) pos = guarded pos (code.view e) t
form_step (StepForm-F.Par bs) pos = parallel pos (branches_of bs)
form_step (StepForm-F.Sel bs) pos = select pos (branches_of bs)
form_step (StepForm-F.If e body other) pos = conditional pos (code.view e) (sequence_of body) (otherwise_of other)
form_step (StepForm-F.While e body) pos = repeated pos (code.view e) (sequence_of body)
form_step (StepForm-F.Abort ts t) pos = abort pos (sequence_of ts) t
form_step (StepForm-F.Interrupt ts t) pos = interrupt pos (sequence_of ts) t
form_step (StepForm-F.Send port name args after) pos = send pos port name (part_view args) (part_view after)
form_step (StepForm-F.Receive port name into condition after) pos = receive pos port name into (option_map code.view condition) (part_view after)
form_step (StepForm-F.Call method args results) pos = call pos method (list_view args) results
form_step (StepForm-F.Eval e) pos = value pos (code.view e)

abbrev pub step_step : Step-F (Pos → Tree) Tree → Tree
step_step s = s.form s.pos

abbrev pub form_view : StepForm → Pos → Tree
form_view = fold-StepForm (Pos → Tree) Tree form_step step_step

abbrev pub view : Step → Tree
view = fold-Step (Pos → Tree) Tree form_step step_step

abbrev pub sequence_view : List Step → Statements Slot ClassId ℕ
sequence_view ss = sequence_of (map view ss)
