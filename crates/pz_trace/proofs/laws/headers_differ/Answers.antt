use Rattle.pz_trace.proofs.Headers as headers
use Rattle.pz_trace.proofs.Told.{one_form_is_told}
use Rattle.pz_trace.proofs.laws.headers_differ.Goals as goal

pub returns : goal.returns
returns c = record { one = headers.headers_differ; told = one_form_is_told; kept = headers.forms_are_kept }
