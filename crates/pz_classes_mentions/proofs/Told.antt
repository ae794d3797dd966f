-- Words that are told in two runs.
use Rattle.std.proofs.Common.{◌≡◌, refl, List, [], ◌∷◌, ◌++◌}
use Rattle.pz_classes_mentions.specs.declared.mention.Mention.{Mention}
use Rattle.pz_classes_mentions.specs.Words.{told}

pub told_append : {X : Type 0} (after : X → Mention → X) (heard : X) (xs ys : List Mention) → told after heard (xs ++ ys) ≡ told after (told after heard xs) ys
told_append after heard [] ys = refl
told_append after heard (x ∷ xs) ys = told_append after (after heard x) xs ys
