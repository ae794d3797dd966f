use Rattle.std.proofs.Common.{subst, sym, ◌∙◌, ap}
use Rattle.std.specs.List.{flat_map}
use Rattle.std.proofs.lemmas.Result.{IfOk-weaker}
use Rattle.pz_term_matching.specs.Matches.{AreMatches}
use Rattle.pz_term_matching.specs.devices.Pairing.{pairs_of}
use Rattle.pz_term_matching.proofs.Paired.{are_matches}
use Rattle.pz_term_matching.proofs.matching.match_ends.Goals as goal

pub returns : goal.returns
returns c =
    let senders = c.args.senders.now in
    let receivers = c.args.receivers.now in
    record {
      pairs = IfOk-weaker c.match_all.result _ _
          (λ pairs listed. subst (AreMatches senders receivers) (sym (listed ∙ ap (flat_map (pairs_of senders receivers)) c.as_slice.ensures.value)) (are_matches senders receivers c.in_ok-turns.turns.items c.in_ok-turns.ensures))
          c.match_all.ensures;
    }
