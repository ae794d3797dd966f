-- A letter begins a word.
use Rattle.std.proofs.Common.{◌≡◌, ℕ, List, [], ◌∷◌, ◌++◌, true, ◌∙◌, ap, ap₂}
use Rattle.std.proofs.lemmas.Bool.{false≢true, or_left}
use Rattle.pz_lexer.specs.Bytes.{is_letter, is_word, begins}
use Rattle.pz_lexer.specs.Words.{IsWord, word_kind}
use Rattle.pz_lexer.specs.declared.sorts.Sort.{Sort}
use Rattle.pz_lexer.specs.Pieces.{a_word}
use Rattle.pz_lexer.specs.devices.Step.{piece}
use Rattle.pz_lexer.specs.devices.Twin.{first_step, word_step, step_by}
use Rattle.pz_lexer.proofs.Runs.{front_run, back_run, front_all, back_begins, front-back, front_begins}
use Rattle.pz_lexer.proofs.Classes.{class_letter}
use Rattle.pz_lexer.proofs.Steps.{IsRight, some_begins}

pub word_found : (text rest : List ℕ) → IsWord text rest → first_step (text ++ rest) ≡ piece text (Sort.Token (word_kind text)) rest
word_found [] rest w = absurd (false≢true w.first)
word_found (b ∷ bs) rest w =
    ap (λ c. step_by c b (bs ++ rest)) (class_letter b w.first)
    ∙ ap₂ (λ x y. piece x (Sort.Token (word_kind x)) y) (front_run is_word (b ∷ bs) rest w.inside w.whole) (back_run is_word (b ∷ bs) rest w.inside w.whole)

pub word_right : (text : List ℕ) → begins is_letter text ≡ true → IsRight text (word_step text)
word_right [] first = absurd (false≢true first)
word_right (b ∷ bs) first =
    let word : begins is_word (b ∷ bs) ≡ true = or_left _ _ first in
    let begun = front_begins is_word is_letter (b ∷ bs) word first in
    (front-back is_word (b ∷ bs), some_begins is_letter _ begun, a_word (record { first = begun; inside = front_all is_word (b ∷ bs); whole = back_begins is_word (b ∷ bs) }))
