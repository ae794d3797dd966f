-- What the code's terms stand for.
use Rattle.std.specs.Prelude.{ℕ, List, [], ◌∷◌, map}
use Rattle.pz_bind_rules.specs.pz_syntax.Statements.{Branches}
use Rattle.pz_bind_rules.specs.pz_value.declared.value.ClassId.{ClassId}
use Rattle.pz_bind_rules.specs.pz_classes_code.declared.slot.Slot.{Slot}
use Rattle.pz_bind_rules.specs.pz_classes_code.declared.step.Step.{Step}
use Rattle.pz_bind_rules.specs.pz_classes_code.CodeView as code
use Rattle.pz_bind_rules.specs.pz_classes_code.StepView as step
use Rattle.pz_rules.specs.declared.term.Term.{Term, fold-Term}
use Rattle.pz_rules.specs.declared.term.Term.TheOpen.{Term-F}
use Rattle.pz_rules.specs.Terms as terms

abbrev pub terms_of : List terms.Term → terms.Terms
terms_of [] = terms.no_terms
terms_of (t ∷ ts) = terms.and t (terms_of ts)

abbrev pub term_step : Term-F terms.Term → terms.Term
term_step Term-F.Done = terms.done
term_step (Term-F.Leaf s) = terms.leaf (step.view s)
term_step (Term-F.Wait left at) = terms.wait left at
term_step (Term-F.Seq t rest) = terms.sequence t (step.sequence_view rest)
term_step (Term-F.Par ts) = terms.parallel (terms_of ts)
term_step (Term-F.Sel ts) = terms.select (terms_of ts)
term_step (Term-F.Guard test at t) = terms.guarded (code.view test) at t
term_step (Term-F.Frame number inputs results t) = terms.frame number.0 inputs results t
term_step (Term-F.Abort t u) = terms.abort t u
term_step (Term-F.Idle t u again) = terms.idle t u (step.view again)
term_step (Term-F.Handling t u again) = terms.handling t u (step.view again)

abbrev pub term_view : Term → terms.Term
term_view = fold-Term terms.Term term_step

abbrev pub terms_view : List Term → terms.Terms
terms_view ts = terms_of (map term_view ts)

-- the alternatives of a `par` or a `sel`
abbrev pub branches_view : List (List Step) → Branches Slot ClassId ℕ
branches_view bs = step.branches_of (map (map step.view) bs)
