use Rattle.std.proofs.Common.{List, take, drop, sym, subst}
use Rattle.std.proofs.lemmas.List.{take-append-drop}
use Rattle.pz_debug_session.specs.declared.step.Step.{Step}
use Rattle.pz_debug_session.specs.Steps.{StandsAfter}
use Rattle.pz_debug_session.proofs.Placed.{front_placed}
use Rattle.pz_debug_session.proofs.laws.fronts_lead_too.Goals as goal

pub returns : goal.returns
returns c = λ setting steps n s x. front_placed setting (take n steps) (drop n steps) s (subst (λ (l : List Step). StandsAfter setting l s) (sym (take-append-drop n steps)) x)
