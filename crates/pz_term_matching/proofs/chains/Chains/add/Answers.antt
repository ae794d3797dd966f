use Rattle.std.proofs.Common.{◌∙◌, refl, ap, Option, ℕ, length, unwrap_or}
use Rattle.pz_term_matching.proofs.Firsts.{head_read}
use Rattle.pz_term_matching.proofs.Chained.{linked}
use Rattle.pz_term_matching.proofs.chains.Chains.add.Goals as goal

pub returns : goal.returns
returns c =
    let key = c.key_of_receiver.ensures in
    linked c.args.receivers.now c.args.self.now _ c.args.place c.index-receivers-place.result c.key_of_receiver.result c.unwrap_or-next.result c.past-elsewhere.result
    c.requires.behind c.requires.within (head_read c.args.receivers.now c.args.place c.index-receivers-place.result c.requires.within c.index-receivers-place.is)
    key.wire key.message key.count
    (c.unwrap_or-next.ensures ∙ ap (λ (o : Option ℕ). unwrap_or o (length c.args.receivers.now)) c.in_ok-found.ensures.old) c.past-elsewhere.ensures
    c.in_ok-found.ensures.updates.0 refl
