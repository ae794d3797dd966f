use Rattle.pz_rules.proofs.Fits.{fitted}
use Rattle.pz_rules.proofs.laws.active_parts_fit.Goals as goal

pub returns : goal.returns
returns c = record { law = λ m class locals a f t place g part active fits. let x = fitted m class a.setting.limits.edition locals active fits in (x.locals, x.fits) }
