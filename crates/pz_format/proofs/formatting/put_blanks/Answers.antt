use Rattle.std.proofs.Common.{◌∙◌, sym, ap, ◌++◌, ◌∷◌, [], append_assoc}
use Rattle.pz_format.specs.Levels.{blanks}
use Rattle.pz_format.proofs.Putting.{blanks_more}
use Rattle.pz_format.proofs.formatting.put_blanks.Goals as goal

pub loop-preserved : goal.loop-preserved
loop-preserved c =
    c.in_ok-push.ensures.items ∙ ap (λ l. l ++ 32 ∷ []) c.loop.invariant ∙ append_assoc c.args.text.now.items (blanks c.loop.counter) (32 ∷ [])
    ∙ ap (λ l. c.args.text.now.items ++ l) (sym (blanks_more c.loop.counter))
