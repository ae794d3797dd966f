use Rattle.std.proofs.Common.{◌≡◌, ◌∙◌, sym, subst}
use Rattle.pz_tree_standing.specs.Summaries.{summary_of}
use Rattle.pz_preempt.specs.Forms.{interrupt}
use Rattle.pz_preempt.proofs.summaries.interrupt_summary.Goals as goal

pub returns-in-Handling-clause-term : goal.returns-in-Handling-clause-term
returns-in-Handling-clause-term c = λ a own f t u again fits first second.
    second ∙ sym (subst (λ mode. summary_of a own f (interrupt mode t u again) ≡ summary_of a own f u) (sym c.in-Handling.is) (c.summaries_by_form.ensures.handling a own f t u again))
