-- What a word of the code stands for, and what is drawn from words that are told one after the other.
use Rattle.std.specs.Prelude.{List, [], ◌∷◌}
use Rattle.pz_classes_mentions.specs.declared.mention.Mention.{Mention}
use Rattle.pz_classes_mentions.specs.declared.mention.Mention.TheVariants as m
use Rattle.pz_classes_mentions.specs.declared.word.Word.{Word}
use Rattle.pz_classes_mentions.specs.declared.word.Word.TheVariants as w

abbrev pub mention : Word → Mention
mention (w.Declared x) = m.Declared x.now
mention (w.Extended x) = m.Extended x.now
mention (w.Typed x) = m.Typed x.now
mention (w.Variable name pos) = m.Variable (record { name = name.now; pos = pos })
mention (w.Created x) = m.Created x.now
mention (w.Selector name count) = m.Selector name.now count
mention (w.Called name inputs outputs) = m.Called name.now inputs outputs
mention (w.Port x) = m.Port x.now
mention (w.Sent port name count) = m.Sent port.now name.now count
mention (w.Received port name count) = m.Received port.now name.now count
mention (w.Instantiated x) = m.Instantiated x.now
mention (w.Clock pos) = m.Clock pos
mention (w.Me pos) = m.Me pos
mention (w.Return pos) = m.Return pos
mention (w.Float pos) = m.Float pos

-- what is drawn, after what was drawn before, once each of these words has come in turn
abbrev pub told : {X : Type 0} → (X → Mention → X) → X → List Mention → X
told after heard [] = heard
told after heard (x ∷ xs) = told after (after heard x) xs
