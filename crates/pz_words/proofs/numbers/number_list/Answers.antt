use Rattle.std.proofs.Common.{◌≡◌, ◌∙◌, ap, subst, ℕ, List, map, IfOk, lit<}
use Rattle.std.specs.Prelude.{eqb}
use Rattle.std.specs.List.{slice_split}
use Rattle.std.proofs.lemmas.Iterator.Consumers.{map_from_collect}
use Rattle.std.proofs.lemmas.Iterator.Splits.{YieldsList-from_str_split}
use Rattle.pz_words.specs.devices.Reading.{numbers_of}
use Rattle.pz_words.proofs.Outcomes.{ok_told}
use Rattle.pz_words.proofs.numbers.number_list.Goals as goal

pub returns : goal.returns
returns c =
    let parts : map (λ p. p.now) c.in_ok-parts.parts.items ≡ slice_split (λ b. eqb b 44) c.args.word.now =
    ok_told c.collect.result c.in_ok-parts.parts _ c.in_ok-parts.was
    (map_from_collect c.collect.result c.collect.ensures.ran (YieldsList-from_str_split 44 c.args.word.now (lit< tt) c.split.ensures.text c.split.ensures.has_more c.split.ensures.pattern)) in
    subst (λ (ws : List (List ℕ)). IfOk c.numbers_in.result (λ found. found ≡ numbers_of ws)) (ap (map (λ p. p.now)) c.as_slice.ensures.value ∙ parts) c.numbers_in.ensures
