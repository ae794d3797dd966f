-- Configurations whose terms fit the classes of their processes: all that their statements name is
-- there. Those of a sound model are so from the start, and stay so.
use Rattle.std.specs.Prelude.{◌≡◌, ℕ, All, Some, slice_get}
use Rattle.pz_bind_rules.specs.pz_syntax.Classes.{ModelTree}
use Rattle.pz_bind_rules.specs.pz_classes_rules.FitBodies.{process_code, SlotFits, ExpressionFits, StatementFits, StatementsFit}
use Rattle.pz_bind_levels.specs.Places.{Address}
use Rattle.pz_bind_rules.specs.Nest.{processes, class_at}
use Rattle.pz_rules.specs.Terms.{Term, done, leaf, wait, sequence, parallel, select, guarded, frame, abort, idle, handling, Terms, no_terms, and}
use Rattle.pz_rules.specs.Settings.{Setting, Process}
use Rattle.pz_rules.specs.Configurations.{Config}

-- Of the process class c. A frame has so many locals, and its outputs go to variables around it.
module _ (m : ModelTree) (c : ℕ) where
  abbrev mutual
    pub TermFits : ℕ → Term → Type 0
    TermFits locals done = Unit {0}
    TermFits locals (leaf s) = StatementFits m c locals s
    TermFits locals (wait left at) = Unit {0}
    TermFits locals (sequence t rest) = TermFits locals t × StatementsFit m c locals rest
    TermFits locals (parallel ts) = TermsFit locals ts
    TermFits locals (select ts) = TermsFit locals ts
    TermFits locals (guarded test at t) = ExpressionFits m c process_code locals test × TermFits locals t
    TermFits locals (frame number inputs results t) = All (SlotFits m c process_code locals) results × ((inner : ℕ) × TermFits inner t)
    TermFits locals (abort t u) = TermFits locals t × TermFits locals u
    TermFits locals (idle t u again) = TermFits locals t × TermFits locals u × StatementFits m c locals again
    TermFits locals (handling t u again) = TermFits locals t × TermFits locals u × StatementFits m c locals again

    pub TermsFit : ℕ → Terms → Type 0
    TermsFit locals no_terms = Unit {0}
    TermsFit locals (and t ts) = TermFits locals t × TermsFit locals ts

-- the term of each process stands in no frame
abbrev pub IsFit : Setting → Config → Type 0
IsFit setting c = (i : ℕ) (place : Address) (p : Process) → slice_get (processes setting.model) i ≡ Some place → slice_get c.processes i ≡ Some p → TermFits setting.model (class_at setting.model place) 0 p.term
