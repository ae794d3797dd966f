use Rattle.pz_clock.proofs.Clocks.{stands_still, rises_alike, meets_its_due, fits_onward, fits_are_reached}
use Rattle.pz_clock.proofs.laws.local_clocks.Goals as goal

pub returns : goal.returns
returns c = record { stands = stands_still; rises = rises_alike; meets = meets_its_due; fits = fits_onward; reached = fits_are_reached }
