use Rattle.pz_classes.specs.CheckedView.{checked_model}
use Rattle.pz_bind.proofs.SiteSteps.{First}
use Rattle.pz_bind.proofs.sites.sites_of.Given as goal

abbrev pub invariant-loop-level : goal.invariant-loop-level
invariant-loop-level l = First (checked_model l.checked) l.level-index l.sites
