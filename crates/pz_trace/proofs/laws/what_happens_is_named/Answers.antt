use Rattle.pz_trace.proofs.Happening.{offers_named, faults_named, highs_named, stops_named}
use Rattle.pz_trace.proofs.laws.what_happens_is_named.Goals as goal

pub returns : goal.returns
returns c = record { offers = offers_named; faults = faults_named; highs = highs_named; stops = stops_named }
