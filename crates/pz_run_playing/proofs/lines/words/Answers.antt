use Rattle.std.proofs.Common.{◌≡◌, ◌∙◌, sym, ap, subst, List, ℕ}
use Rattle.std.specs.Prelude.{IfOk}
use Rattle.pz_run_playing.specs.declared.finale.Finale.{Finale}
use Rattle.pz_run_playing.specs.Endings.{ending_of, ending_words}
use Rattle.pz_run_playing.specs.devices.Rests.{HasTroubledAtEnd}
use Rattle.pz_run_playing.proofs.LastLines.{same_words, named_at_end}
use Rattle.pz_run_playing.proofs.lines.words.Goals as goal

pub end_words-requires : goal.end_words-requires
end_words-requires c =
    named_at_end c.args.net.now c.in-Ended.ending (subst (λ (f : Finale). HasTroubledAtEnd c.args.net.now (ending_of f)) c.in-Ended.is c.requires)

pub returns-in-Ended : goal.returns-in-Ended
returns-in-Ended c = λ m is.
    let same = same_words m c.in-Ended.ending ∙ ap (λ (f : Finale). ending_words m (ending_of f)) (sym c.in-Ended.is) in
    subst (λ (t : List ℕ). IfOk c.end_words.result (λ words. words.items ≡ t)) same (c.end_words.ensures m is)
